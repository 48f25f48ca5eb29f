-- The line at the place of the next command.
use Rattle.std.proofs.Common.{◌≡◌, ◌<◌, ℕ, ◌+◌, Option, Some, List, length, refl, sym, ap, subst, arith}
use Rattle.std.specs.Prelude.{option_map}
use Rattle.std.proofs.lemmas.Bool.{ltb-true}
use Rattle.std.proofs.lemmas.Option.{slice_get_read}
use Rattle.nm_types.specs.Commands.{Numbered, commands_of}
use Rattle.nm_process.specs.Places.{ScriptedView, shown}
use Rattle.nm_process.specs.Work.{IsNext}
use Rattle.nm_process.proofs.PlaceLemmas.{gives_next}
use Rattle.nm_process.proofs.scripted.ScriptedSource.next.Goals as goal

pub returns-clause-shown : goal.returns-clause-shown
returns-clause-shown c =
    let s : ScriptedView = record {
      lines = c.self.inside.lines.now;
      me = c.self.inside.me;
      ranks = c.self.inside.ranks;
      own = c.self.inside.own.items;
      at = c.self.inside.at;
      next = c.self.inside.next;
    } in
    let l = c.in_ok-line.line.now in
    let there = slice_get_read s.lines (length s.lines) s.next l refl
    (ltb-true s.next (length s.lines) (sym c.in_ok-line.ensures.lookup.0)) c.in_ok-line.ensures.lookup.1 in
    subst (λ (s : ScriptedView). Some l.command ≡ (shown s).next) c.self.view_is
    (sym (ap (λ (o : Option Numbered). option_map (λ (n : Numbered). n.command) o)
    (gives_next s l c.self.invariant there).1.next))

pub returns-clause-counted : goal.returns-clause-counted
returns-clause-counted c =
    let s : ScriptedView = record {
      lines = c.self.inside.lines.now;
      me = c.self.inside.me;
      ranks = c.self.inside.ranks;
      own = c.self.inside.own.items;
      at = c.self.inside.at;
      next = c.self.inside.next;
    } in
    let l = c.in_ok-line.line.now in
    let there = slice_get_read s.lines (length s.lines) s.next l refl
    (ltb-true s.next (length s.lines) (sym c.in_ok-line.ensures.lookup.0)) c.in_ok-line.ensures.lookup.1 in
    subst (λ (t : ScriptedView). t.at < s.next + 2) c.self.view_is (gives_next s l c.self.invariant there).0

pub returns-clause-next : goal.returns-clause-next
returns-clause-next c commands last gives =
    let s : ScriptedView = record {
      lines = c.self.inside.lines.now;
      me = c.self.inside.me;
      ranks = c.self.inside.ranks;
      own = c.self.inside.own.items;
      at = c.self.inside.at;
      next = c.self.inside.next;
    } in
    let l = c.in_ok-line.line.now in
    let there = slice_get_read s.lines (length s.lines) s.next l refl
    (ltb-true s.next (length s.lines) (sym c.in_ok-line.ensures.lookup.0)) c.in_ok-line.ensures.lookup.1 in
    let next = ap (λ (t : ScriptedView). t.next) c.self.view_is in
    let high = gives.1 in
    let ends : s.next + 2 ≡ last + 1 = omega (arith, next, high) in
    subst (λ (cs : List Numbered). IsNext cs c.args.self.now.at (last + 1) (s.next + 2) l.command) (sym gives.0)
    (subst (λ (k : ℕ). IsNext (commands_of c.args.self.now.me c.args.self.now.lines) c.args.self.now.at k (s.next + 2) l.command) ends
    (subst (λ (t : ScriptedView). IsNext (commands_of t.me t.lines) t.at (s.next + 2) (s.next + 2) l.command)
    c.self.view_is (gives_next s l c.self.invariant there).1))
