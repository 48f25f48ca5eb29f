-- No rank.
use Rattle.std.proofs.Common.{◌≡◌, ℕ, [], List, length, map, sym, ◌∙◌, ap}
use Rattle.std.specs.List.{range_with_len, slice_get}
use Rattle.nm_types.proofs.ListLemmas.{no_item}
use Rattle.nm_explored.specs.Stores.{states_in}
use Rattle.nm_explored.proofs.stores.Unpacked.none.Goals as goal

pub returns : goal.returns
returns c table =
    record {
      low = λ j id here.
          absurd (no_item j id (ap (λ (xs : List ℕ). slice_get xs j) (sym c.new.ensures.items) ∙ here));
      ranks = c.new-2.ensures.items ∙ ap (λ (xs : List ℕ). states_in table xs) (sym c.new.ensures.items);
      places = c.new-3.ensures.items
          ∙ ap (λ (xs : List ℕ). range_with_len 0 (length xs)) (sym c.new.ensures.items);
    }
