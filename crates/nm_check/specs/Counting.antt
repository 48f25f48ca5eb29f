-- How many packets a history calls for, by the rank that they go to.
use Rattle.std.specs.Prelude.{◌≡◌, ℕ, ◌-◌, ◌^◌, ◌<◌, ◌==◌, if◌then◌else◌, min, nat_lt, Option, List, filter, map}
use Rattle.std.specs.Prelude.{slice_index}
use Rattle.std.specs.List.{range_with_len}
use Rattle.std.specs.Option.{option_map_or}
use Rattle.nm_history.specs.Quiescence.{Packets}
use Rattle.nm_report.specs.declared.pairs.PairCount.{PairCount}
use Rattle.nm_check.specs.declared.rest.counts.Load.{Load}

-- the packets of a load, if it goes to this rank
abbrev pub load_to : ℕ → Option Load → ℕ
load_to to load = option_map_or (λ l. if l.rank == to then l.packets else 0) load 0

-- a number, or the most that 128 bits hold where it is greater
abbrev pub at_most : ℕ → ℕ
at_most n = min n (2 ^ 128 - 1)

-- these are the numbers for the ranks that 8 bits name
abbrev pub AreDue : List ℕ → (ℕ → ℕ) → Type 0
AreDue counts due = (to : ℕ) → to < 256 → slice_index counts to ≡ at_most (due to)

-- the packets of rank `from` for this many ranks from one on, without those that are 0
abbrev pub row_from : ℕ → (ℕ → ℕ) → ℕ → ℕ → List Packets
row_from from due to many =
    filter (λ p. nat_lt 0 p.count)
    (map (λ to. record { from = from; to = to; count = due to }) (range_with_len to many))

-- a count as quiescence speaks of it
abbrev pub counted_pair : PairCount → Packets
counted_pair pair = record { from = pair.from; to = pair.to; count = pair.packets }
