-- Refused: a count of packets that the histories do not call for.
use Rattle.std.specs.Prelude.{◌≡◌, ℕ, List}
use Rattle.std.proofs.Common.{arith, ap}
use Rattle.std.specs.Prelude.{sum_by}
use Rattle.nm_history.specs.Matching.{matched_pairs, is_free_message}
use Rattle.nm_history.specs.AtEach.{AtEach, in_turn}
use Rattle.nm_history.specs.Quiescence.{Packets}
use Rattle.nm_channels.specs.CountWrong.{IsLawful}

pub wrong : ¬ IsLawful
unfolding matched_pairs is_free_message AtEach in_turn
wrong r =
    let h : ◌≡◌ {A = ℕ} 2 1 = ap (λ (ps : List Packets). sum_by (λ p. p.count) ps) r.counts in
    absurd (omega arith)
