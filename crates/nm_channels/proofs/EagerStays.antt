-- Refused: an end where an eager message came and has not left.
use Rattle.nm_history.specs.Matching.{matched_pairs, is_free_message}
use Rattle.nm_history.specs.AtEach.{AtEach, in_turn}
use Rattle.nm_channels.specs.EagerStays.{IsLawful}

pub wrong : ¬ IsLawful
unfolding matched_pairs is_free_message AtEach in_turn
wrong r = let h = r.eager 0 1 in cc
