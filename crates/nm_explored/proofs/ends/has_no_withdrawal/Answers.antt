-- One message more may not be withdrawn, and then no message may.
use Rattle.std.proofs.Common.{◌≡◌, ℕ, Some, false, List, length, sym, ◌∙◌, ap, subst, arith}
use Rattle.std.specs.List.{slice_get}
use Rattle.std.proofs.lemmas.Option.{slice_get-get_or}
use Rattle.nm_types.specs.declared.messages.Arrival.{Arrival}
use Rattle.nm_types.proofs.ListLemmas.{place_below}
use Rattle.nm_types.proofs.OptionLemmas.{same_some}
use Rattle.nm_explored.specs.Successors.{is_withdrawn_next, spot_in}
use Rattle.nm_search.proofs.ListLemmas.{each_next}
use Rattle.nm_explored.proofs.RestedLemmas.{none_withdrawn}
use Rattle.nm_explored.proofs.ends.has_no_withdrawal.Goals as goal

pub loop-a-preserved : goal.loop-a-preserved
loop-a-preserved c =
    let v = spot_in c.args.view.table.now c.args.view.ids.now in
    let items = c.came-a-items.result.now in
    let here = ap (λ (xs : List Arrival). slice_get xs c.loop-a.a-index) (sym c.came-a-items.ensures)
    ∙ slice_get-get_or items c.loop-a.a-index _ c.loop-a-test.true in
    each_next
    (λ (k : ℕ). (a : Arrival) → slice_get c.args.rank.now.came k ≡ Some a →
    is_withdrawn_next v c.args.i a.env.from a.n ≡ false) c.loop-a.a-index c.loop-a.invariant
    (λ a at.
    subst (λ (x : Arrival). is_withdrawn_next v c.args.i x.env.from x.n ≡ false) (same_some _ a (sym here ∙ at))
    (sym c.may_withdraw.ensures ∙ c.if-may_withdraw.false))

pub returns-clause-only : goal.returns-clause-only
returns-clause-only c so here =
    none_withdrawn (spot_in c.args.view.table.now c.args.view.ids.now) c.args.i c.args.rank.now here
    (λ k a at.
    let past = c.loop-a-test.false in
    let long = ap (λ (xs : List Arrival). length xs) c.came-a-items.ensures in
    let inside = place_below c.args.rank.now.came k a at in
    c.loop-a.invariant k (omega (arith, inside, long, past)) a at)
