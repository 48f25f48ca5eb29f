use Rattle.std.proofs.Common.{◌≡◌, ◌≤◌, take, count_by}
use Rattle.nm_picture.proofs.places.count_chosen.Given as goal

abbrev pub invariant-loop-chosen : goal.invariant-loop-chosen
invariant-loop-chosen l =
    record {
      counted : l.count ≡ count_by (λ chosen. chosen) (take l.chosen-index l.ranks);
      within : l.count ≤
          l.chosen-index;
    }
