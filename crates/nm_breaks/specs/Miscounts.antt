-- The count of packets that is called for, and the one that stands there.
use Rattle.std.specs.Prelude.{◌≡◌, List, option_map, slice_get}
use Rattle.nm_types.specs.declared.scripts.Line.{Line}
use Rattle.nm_history.specs.Quiescence.{Ended, packets_of as packets_due}
use Rattle.nm_report.specs.declared.pairs.PairCount.{PairCount}
use Rattle.nm_report.specs.Ends.{packets_of}
use Rattle.nm_check_rank.specs.Differ.{DifferFirstAt}
use Rattle.nm_check.specs.Counting.{counted_pair}
use Rattle.nm_breaks.specs.declared.counts.Miscount.{Miscount}

-- the counts are those that are called for
abbrev pub AreCounted : List Line → List Ended → List PairCount → Type 0
AreCounted lines ranks pairs = packets_of pairs ≡ packets_due lines ranks

-- the first that is not the one called for: the one that is, and the one that stands there
pub record IsFirstCounted (lines : List Line) (ranks : List Ended) (pairs : List PairCount) (m : Miscount)
    : Type 0 where
  pub differ : DifferFirstAt (packets_of pairs) (packets_due lines ranks) m.at
  pub called : option_map counted_pair m.called ≡ slice_get (packets_due lines ranks) m.at
  pub found : m.found ≡ slice_get pairs m.at
