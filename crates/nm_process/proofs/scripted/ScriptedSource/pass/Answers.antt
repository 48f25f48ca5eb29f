-- The command after the next one stands at its place.
use Rattle.std.proofs.Common.{◌≡◌, ◌+◌, ◌<◌, Option, Some, None, refl, sym, subst, arith}
use Rattle.std.specs.Prelude.{IsSome, option_map, slice_get}
use Rattle.nm_types.specs.declared.limits.TheConstants.{MAX_LINES}
use Rattle.nm_types.specs.Commands.{Numbered, commands_of}
use Rattle.nm_process.specs.Places.{ScriptedView, gives_lines, place_at, shown}
use Rattle.nm_process.specs.Sources.{PassedOn}
use Rattle.nm_process.proofs.PlaceLemmas.{at_few, passed_lines, placed_on}
use Rattle.nm_process.proofs.scripted.ScriptedSource.pass.Goals as goal

is_there : (o : Option Numbered) → IsSome (option_map (λ (n : Numbered). n.command) o) → IsSome o
is_there None some = some
is_there (Some n) some = refl

some_next : (s t : ScriptedView) → s ≡ t → IsSome (shown t).next → IsSome (slice_get (commands_of s.me s.lines) s.at)
some_next s t same some = is_there (slice_get (commands_of s.me s.lines) s.at)
    (subst (λ (v : ScriptedView). IsSome (shown v).next) (sym same) some)

pub overflow_add-self : goal.overflow_add-self
overflow_add-self c =
    let s : ScriptedView = record {
      lines = c.self.inside.lines.now;
      me = c.self.inside.me;
      ranks = c.self.inside.ranks;
      own = c.self.inside.own.items;
      at = c.self.inside.at;
      next = c.self.inside.next;
    } in
    let few = at_few s c.self.invariant (some_next s c.args.self.now c.self.view_is c.requires.next) in
    let room = c.self.invariant.lines.few in
    let less : s.at + 1 < MAX_LINES + 1 = omega (arith, few, room) in
    omega (arith, less)

pub invariant_of-self : goal.invariant_of-self
invariant_of-self c =
    let s : ScriptedView = record {
      lines = c.self.inside.lines.now;
      me = c.self.inside.me;
      ranks = c.self.inside.ranks;
      own = c.self.inside.own.items;
      at = c.self.inside.at;
      next = c.self.inside.next;
    } in
    let stands : c.place_at-self-inside.result ≡ place_at s.own s.lines (s.at + 1) = cc in
    (placed_on s c.place_at-self-inside.result c.self.invariant
    (some_next s c.args.self.now c.self.view_is c.requires.next) stands).0

pub returns-clause-gives : goal.returns-clause-gives
returns-clause-gives c commands last gives =
    let s : ScriptedView = record {
      lines = c.self.inside.lines.now;
      me = c.self.inside.me;
      ranks = c.self.inside.ranks;
      own = c.self.inside.own.items;
      at = c.self.inside.at;
      next = c.self.inside.next;
    } in
    let next = c.place_at-self-inside.result in
    let stands : next ≡ place_at s.own s.lines (s.at + 1) = cc in
    let some = some_next s c.args.self.now c.self.view_is c.requires.next in
    let on = (placed_on s next c.self.invariant some stands).1 in
    subst (λ (t : ScriptedView). PassedOn (gives_lines t) commands t.at last) c.self.view_is
    (passed_lines s (record s { at = s.at + 1; next = next }) c.self.invariant some refl refl on commands last gives)

pub returns-clause-some : goal.returns-clause-some
returns-clause-some c = record { commands = _; last = _; some = (refl, refl) }
