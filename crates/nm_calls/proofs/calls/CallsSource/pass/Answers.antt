-- The one that was ahead is the last that ran.
use Rattle.std.proofs.Common.{◌≡◌, ◌+◌, None, refl, sym, subst}
use Rattle.std.specs.Prelude.{IsSome}
use Rattle.nm_process.specs.Sources.{PassedOn}
use Rattle.nm_calls.specs.Calling.{CallsView, gave}
use Rattle.nm_calls.proofs.Given.{has_some, passed_next}
use Rattle.nm_calls.proofs.calls.CallsSource.pass.Goals as goal

pub returns-clause-gives : goal.returns-clause-gives
returns-clause-gives c commands last given =
    let v : CallsView = record {
      ranks = c.self.inside.ranks;
      at = c.self.inside.at;
      given = c.self.inside.given.items;
      next = c.self.inside.next;
    } in
    let w : CallsView = record {
      ranks = c.self.inside.ranks;
      at = c.self.inside.at + 1;
      given = c.then-self-inside.result.items;
      next = c.take.new.self;
    } in
    let none : c.take.new.self ≡ None = c.take.ensures.after in
    let x = c.in-Some.command in
    let some : v.next ≡ _ = cc in
    subst (λ (u : CallsView). PassedOn (gave u) commands u.at last) c.self.view_is
    (passed_next v w x commands last some c.self.invariant.0 c.then-self-inside.ensures none refl given)
