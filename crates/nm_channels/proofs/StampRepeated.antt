-- Refused: two events of one stamp.
use Rattle.std.proofs.Common.{arith}
use Rattle.nm_history.specs.Matching.{matched_pairs, is_free_message}
use Rattle.nm_history.specs.AtEach.{AtEach, in_turn}
use Rattle.nm_channels.specs.StampRepeated.{IsLawful}

pub wrong : ¬ IsLawful
unfolding matched_pairs is_free_message AtEach in_turn
wrong r = absurd (omega (arith, r.stamps.1.0))
