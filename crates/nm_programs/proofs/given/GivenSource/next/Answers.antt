-- The command that a program gave last.
use Rattle.std.proofs.Common.{◌≡◌, ◌+◌, Some, None, sym, subst}
use Rattle.std.specs.Prelude.{slice_get}
use Rattle.nm_process.specs.Playing.{GivenView, gives_on}
use Rattle.nm_process.specs.Work.{IsNext}
use Rattle.nm_process.proofs.PlayLemmas.{ended_given, next_given}
use Rattle.nm_programs.proofs.given.GivenSource.next.Goals as goal

pub returns-clause-next : goal.returns-clause-next
returns-clause-next g c commands last given =
    let v : GivenView _ = record {
      ranks = c.self.inside.ranks;
      start = c.self.inside.start.items;
      program = c.self.inside.program;
      next = c.self.inside.next;
      stray = c.self.inside.stray;
      at = c.self.inside.at;
      given = c.self.inside.given.items;
      told = c.self.inside.told.items;
      failed = c.self.inside.failed;
    } in
    let x = c.in-Some.command in
    let some : v.next ≡ Some x = cc in
    subst (λ (w : GivenView _). IsNext commands w.at (last + 1) (v.at + 2) x) c.self.view_is
    (next_given v x commands last some c.self.invariant.0
    (subst (λ (w : GivenView _). gives_on w commands last) (sym c.self.view_is) given))

pub returns-in_default-clause-next : goal.returns-in_default-clause-next
returns-in_default-clause-next g c commands last given =
    let v : GivenView _ = record {
      ranks = c.self.inside.ranks;
      start = c.self.inside.start.items;
      program = c.self.inside.program;
      next = c.self.inside.next;
      stray = c.self.inside.stray;
      at = c.self.inside.at;
      given = c.self.inside.given.items;
      told = c.self.inside.told.items;
      failed = c.self.inside.failed;
    } in
    let none : v.next ≡ None = cc in
    subst (λ (w : GivenView _). slice_get commands w.at ≡ None) c.self.view_is
    (ended_given v commands last none c.self.invariant.0
    (subst (λ (w : GivenView _). gives_on w commands last) (sym c.self.view_is) given))
