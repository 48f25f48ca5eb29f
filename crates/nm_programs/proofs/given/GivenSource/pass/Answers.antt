-- What a program gives next stands behind what it gave.
use Rattle.std.proofs.Common.{◌≡◌, ◌+◌, ◌<◌, ◌++◌, true, arith, Option, Some, None, List, refl, sym, subst}
use Rattle.std.specs.Prelude.{IfSome, IsSome, option_to_list}
use Rattle.std.specs.Option.{option_or}
use Rattle.nm_types.specs.Limits.{is_in_range}
use Rattle.nm_types.specs.declared.scripts.Command.{Command}
use Rattle.nm_process.specs.Playing.{AllInRange, GivenView, IsCounted, gives_on}
use Rattle.nm_process.specs.Sources.{PassedOn}
use Rattle.nm_process.proofs.PlayLemmas.{counted_more, counted_some, in_range_more, passed_given, played_more, some_given}
use Rattle.nm_programs.proofs.given.GivenSource.pass.Goals as goal

is_some : (o : Option Command) → IsSome o → (x : Command) × (o ≡ Some x)
is_some None some = cc
is_some (Some x) some = (x, refl)

pub returns-clause-some : goal.returns-clause-some
returns-clause-some g c = some_given (record {
  ranks = c.self.inside.ranks;
  start = c.self.inside.start.items;
  program = c.next.new.self;
  next = c.sort.new.next;
  stray = c.sort.new.stray;
  at = c.self.inside.at + 1;
  given = c.note.new.given.items;
  told = c.then-told.result.items;
  failed = c.self.inside.failed;
})

pub returns-clause-gives : goal.returns-clause-gives
returns-clause-gives g c commands last given =
    let v : GivenView _ = record {
      ranks = c.self.inside.ranks;
      start = c.self.inside.start.items;
      program = c.self.inside.program;
      next = c.self.inside.next;
      stray = c.self.inside.stray;
      at = c.self.inside.at;
      given = c.self.inside.given.items;
      told = c.self.inside.told.items;
      failed = c.self.inside.failed;
    } in
    let w : GivenView _ = record {
      ranks = c.self.inside.ranks;
      start = c.self.inside.start.items;
      program = c.next.new.self;
      next = c.sort.new.next;
      stray = c.sort.new.stray;
      at = c.self.inside.at + 1;
      given = c.note.new.given.items;
      told = c.then-told.result.items;
      failed = c.self.inside.failed;
    } in
    let some = is_some v.next (subst (λ (u : GivenView _). IsSome u.next) (sym c.self.view_is) c.requires.next) in
    let more : w.given ≡ v.given ++ option_to_list w.next = c.note.ensures in
    subst (λ (u : GivenView _). PassedOn (gives_on u) commands u.at last) c.self.view_is
    (passed_given v w some.0 some.1 c.self.invariant.0 refl more commands last given)

pub invariant_of-self-2 : goal.invariant_of-self-2
invariant_of-self-2 g c =
    let v : GivenView _ = record {
      ranks = c.self.inside.ranks;
      start = c.self.inside.start.items;
      program = c.self.inside.program;
      next = c.self.inside.next;
      stray = c.self.inside.stray;
      at = c.self.inside.at;
      given = c.self.inside.given.items;
      told = c.self.inside.told.items;
      failed = c.self.inside.failed;
    } in
    let w : GivenView _ = record {
      ranks = c.self.inside.ranks;
      start = c.self.inside.start.items;
      program = c.next.new.self;
      next = c.sort.new.next;
      stray = c.sort.new.stray;
      at = c.self.inside.at + 1;
      given = c.note.new.given.items;
      told = c.then-told.result.items;
      failed = c.self.inside.failed;
    } in
    let some = is_some v.next (subst (λ (u : GivenView _). IsSome u.next) (sym c.self.view_is) c.requires.next) in
    let low = subst (λ (o : Option Command). IfSome o (λ x. (is_in_range v.ranks x ≡ true) × (v.at < 18446744073709551610)
    × (v.stray ≡ None))) some.1 c.self.invariant.2 in
    let more : w.given ≡ v.given ++ option_to_list w.next = c.note.ensures in
    let many = counted_some v.given v.next some.0 v.at some.1 c.self.invariant.0 in
    let room = low.1 in
    let last : option_or w.stray w.next ≡ c.in-Ok.command = c.sort.ensures.same.0 in
    let all : option_to_list w.next ++ option_to_list w.stray ≡ option_to_list c.in-Ok.command = c.sort.ensures.same.1 in (
      subst (λ (xs : List Command). IsCounted xs w.next w.at) (sym more) (counted_more v.given w.next v.at many),
      omega (arith, room),
      c.sort.ensures.runs,
      λ works. played_more g.P.Program.says v w some.0 c.args.answer.now c.in-Ok.command (c.self.invariant.3 works)
          some.1 low.2 c.in-Ok.ensures.said refl c.then-told.ensures more last all,
      c.sort.ensures.never,
      subst (λ (xs : List Command). AllInRange w.ranks xs) (sym c.note.ensures)
          (in_range_more w.ranks w.at w.stray v.given w.next c.self.invariant.5 c.sort.ensures.runs),
    )
