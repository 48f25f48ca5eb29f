-- The words of counts of packets.
use Rattle.std.specs.Prelude.{ℕ, List, ◌++◌, Option, Some, None, codes, decimal}
use Rattle.nm_report.specs.declared.pairs.PairCount.{PairCount}

-- a count as a trace has it
abbrev pub pair_text : PairCount → List ℕ
pair_text pair =
    codes "`pair " ++ (decimal pair.from ++ (codes " " ++ (decimal pair.to ++ (codes " "
    ++ (decimal pair.packets ++ codes "`")))))

-- a count that stands where another one is called for, or none
abbrev pub found_words : Option PairCount → PairCount → List ℕ
found_words (Some called) found = codes "it is to be " ++ (pair_text called ++ (codes ", and is " ++ pair_text found))
found_words None found = codes "no more counts are called for, and it is " ++ pair_text found

-- a count that is called for where none stands
abbrev pub missing_words : Option PairCount → List ℕ
missing_words (Some called) = codes "" ++ (pair_text called ++ codes " is to stand before it")
missing_words None = codes ""

-- the count that is called for, and the one that stands there
abbrev pub counts_words : Option PairCount → Option PairCount → List ℕ
counts_words called (Some found) = found_words called found
counts_words called None = missing_words called
