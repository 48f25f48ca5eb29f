-- All that were given ran, but for one.
use Rattle.std.proofs.Common.{◌≡◌, ◌+◌, Some, None, sym, subst}
use Rattle.std.specs.Prelude.{slice_get}
use Rattle.nm_process.specs.Work.{IsNext}
use Rattle.nm_calls.specs.Calling.{CallsView, gave}
use Rattle.nm_calls.proofs.Given.{none_next, some_next}
use Rattle.nm_calls.proofs.calls.CallsSource.next.Goals as goal

pub returns-clause-next : goal.returns-clause-next
returns-clause-next c commands last given =
    let v : CallsView = record {
      ranks = c.self.inside.ranks;
      at = c.self.inside.at;
      given = c.self.inside.given.items;
      next = c.self.inside.next;
    } in
    let x = c.in-Some.command in
    let some : v.next ≡ Some x = cc in
    subst (λ (w : CallsView). IsNext commands w.at (last + 1) (v.at + 2) x) c.self.view_is
    (some_next v x commands last some c.self.invariant.0
    (subst (λ (w : CallsView). gave w commands last) (sym c.self.view_is) given))

pub returns-in_default-clause-next : goal.returns-in_default-clause-next
returns-in_default-clause-next c commands last given =
    let v : CallsView = record {
      ranks = c.self.inside.ranks;
      at = c.self.inside.at;
      given = c.self.inside.given.items;
      next = c.self.inside.next;
    } in
    let none : v.next ≡ None = cc in
    subst (λ (w : CallsView). slice_get commands w.at ≡ None) c.self.view_is
    (none_next v commands last none c.self.invariant.0
    (subst (λ (w : CallsView). gave w commands last) (sym c.self.view_is) given))
