-- Refused: an end while a message is under way.
use Rattle.nm_history.specs.Matching.{matched_pairs, is_free_message}
use Rattle.nm_history.specs.AtEach.{AtEach, in_turn}
use Rattle.nm_channels.specs.EndedUnderWay.{IsLawful}

pub wrong : ¬ IsLawful
unfolding matched_pairs is_free_message AtEach in_turn
wrong r = let h = r.arrived 0 1 in cc
