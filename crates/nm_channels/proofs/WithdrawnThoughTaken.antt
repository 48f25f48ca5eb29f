-- Refused: a send that ends as cancelled though a receive took its message.
use Rattle.nm_history.specs.Matching.{matched_pairs, is_free_message}
use Rattle.nm_history.specs.AtEach.{AtEach, in_turn}
use Rattle.nm_history.specs.RankRun.{Always, EndAt}
use Rattle.nm_channels.specs.WithdrawnThoughTaken.{IsLawful, first}

broken : ¬ (Always EndAt first)
unfolding matched_pairs is_free_message AtEach in_turn
broken h = cc

pub wrong : ¬ IsLawful
wrong r = broken r.ends
