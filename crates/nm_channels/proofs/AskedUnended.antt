-- Refused: an end where a message that was sent by asking is paired and not whole.
use Rattle.nm_history.specs.Matching.{matched_pairs, is_free_message}
use Rattle.nm_history.specs.AtEach.{AtEach, in_turn}
use Rattle.nm_channels.specs.AskedUnended.{IsLawful}

pub wrong : ¬ IsLawful
unfolding matched_pairs is_free_message AtEach in_turn
wrong r = let h = r.asked 0 1 in cc
