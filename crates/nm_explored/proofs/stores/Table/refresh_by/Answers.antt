-- One rank in another state.
use Rattle.std.proofs.Common.{◌≡◌, ℕ, List, Some, sym, ◌∙◌, subst}
use Rattle.std.specs.List.{slice_get}
use Rattle.nm_types.proofs.ListLemmas.{get_some}
use Rattle.nm_types.proofs.OptionLemmas.{no_some}
use Rattle.nm_explored.proofs.PackLemmas.{refreshed, refreshed_same}
use Rattle.nm_explored.proofs.stores.Table.refresh_by.Goals as goal

pub returns-then-is_id : goal.returns-then-is_id
returns-then-is_id c low inside are =
    refreshed_same c.args.self.now c.args.all.now c.args.place c.args.id
    (subst (λ (xs : List ℕ). slice_get xs c.args.place ≡ Some c.args.id) c.as_slice.ensures.value
    (c.is_id.ensures c.if-is_id.true)) are

pub returns-in-Some : goal.returns-in-Some
returns-in-Some c low inside are = (
  refreshed c.args.self.now c.args.all.now c.put.new.all c.args.place c.args.id c.in-Some.rank
      (sym c.in_ok-rank.ensures ∙ c.in-Some.is) c.put.ensures.ids c.put.ensures.ranks c.put.ensures.places low inside
      are,
  c.put.ensures.ids,
)

pub returns-in-None : goal.returns-in-None
returns-in-None c low inside are =
    let x = get_some c.args.self.now c.args.id low in
    absurd (no_some x.0 (sym c.in-None.is ∙ c.in_ok-rank.ensures ∙ x.1))
