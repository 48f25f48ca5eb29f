-- Refused: a rank that runs its second command before its first.
use Rattle.std.specs.Prelude.{◌≡◌, ℕ, List, slice_index_or}
use Rattle.std.proofs.Common.{arith, ap}
use Rattle.nm_history.specs.Matching.{matched_pairs, is_free_message}
use Rattle.nm_history.specs.AtEach.{AtEach, in_turn}
use Rattle.nm_channels.specs.RanOutOfOrder.{IsLawful}

pub wrong : ¬ IsLawful
unfolding matched_pairs is_free_message AtEach in_turn
wrong r =
    let h : ◌≡◌ {A = ℕ} 3 2 = ap (λ (ls : List ℕ). slice_index_or ls 0 0) r.answers.in_order in
    absurd (omega arith)
