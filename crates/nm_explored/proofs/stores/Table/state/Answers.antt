-- The states by their own places.
use Rattle.std.proofs.Common.{ℕ, List, length, sym, ◌∙◌, ap, subst}
use Rattle.std.specs.List.{range_with_len, slice_get}
use Rattle.nm_explored.specs.Stores.{AreLow, states_in}
use Rattle.nm_explored.proofs.PackLemmas.{all_found}
use Rattle.nm_explored.proofs.stores.Table.state.Goals as goal

pub returns : goal.returns
returns c low =
    let own = c.in_ok-own.ensures in (
      record {
        low = subst (λ (xs : List ℕ). AreLow c.args.self.now xs) (sym own) low;
        ranks = c.in_ok-ranks.ensures ∙ all_found c.args.self.now c.args.ids.now low
            ∙ ap (λ (xs : List ℕ). states_in c.args.self.now xs) (sym own);
        places = c.in_ok-places.ensures
            ∙ ap (λ (n : ℕ). range_with_len 0 n) (sym (ap (λ (xs : List ℕ). length xs) own));
      },
      λ j. ap (λ (xs : List ℕ). slice_get xs j) own,
    )
