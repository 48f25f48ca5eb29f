-- Refused: two messages of one sender that overtake each other.
use Rattle.std.specs.Prelude.{◌≡◌, ℕ}
use Rattle.std.proofs.Common.{arith, ap}
use Rattle.nm_types.specs.declared.messages.Envelope.{Envelope}
use Rattle.nm_history.specs.Matching.{matched_pairs, is_free_message}
use Rattle.nm_history.specs.AtEach.{AtEach, in_turn}
use Rattle.nm_channels.specs.Overtaken.{IsLawful}

pub wrong : ¬ IsLawful
unfolding matched_pairs is_free_message AtEach in_turn
wrong r =
    let h : ◌≡◌ {A = ℕ} 6 5 = ap (λ (env : Envelope). env.tag) r.messages.0 in
    absurd (omega arith)
