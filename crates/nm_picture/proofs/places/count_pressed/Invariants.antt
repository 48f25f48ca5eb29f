use Rattle.std.proofs.Common.{◌≡◌, ◌≤◌, not, take, count_by}
use Rattle.nm_picture.proofs.places.count_pressed.Given as goal

abbrev pub invariant-loop-full : goal.invariant-loop-full
invariant-loop-full l =
    record {
      counted : l.count ≡ count_by (λ full. not full) (take l.full-index l.rows);
      within : l.count ≤ l.full-index;
    }
