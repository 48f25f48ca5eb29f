-- What a port counts.
use Rattle.std.specs.Prelude.{◌≡◌, ℕ, List, length, map, slice_index_or}
use Rattle.nm_chain.specs.Plays.{capped}
use Rattle.nm_copyring.specs.declared.tallies.Tally.{Tally}
use Rattle.nm_copyring.specs.declared.table.Lane.{Lane}
use Rattle.nm_copyring.specs.declared.table.Entry.{Entry}
use Rattle.nm_copyring.specs.Rule.{new_lane}

-- what is counted of what the rank has of another one
abbrev pub tally : Lane → Tally
tally l = record {
  pushed = length l.pushed;
  pulled = length l.pulled;
  full = capped l.full;
  empty = capped l.empty;
}

-- these are the counts of what a rank knows
abbrev pub Counts : Entry → List Tally → Type 0
Counts e ts = ts ≡ map tally e.lanes

-- what is counted of the rank j
abbrev pub tally_in : List Tally → ℕ → Tally
tally_in ts j = slice_index_or ts j (tally new_lane)
