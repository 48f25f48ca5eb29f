-- What a port counts of each rank, and the parcel that it holds.
use Rattle.std.specs.Prelude.{◌≡◌, ℕ, suc, ◌+◌, ◌<◌, ◌≤◌, ◌⊎◌, Option, Some, None, is_some, Bool}
use Rattle.std.specs.Prelude.{true, false}
use Rattle.std.specs.Prelude.{List, [], ◌∷◌, length, map}
use Rattle.std.specs.Prelude.{slice_index, slice_index_or, slice_set, sum_by, ◌-◌}
use native.Mathlib.Decide.{dec_le}
use Rattle.nm_types.specs.declared.limits.TheConstants.{MAX_PACKETS}
use Rattle.nm_chain.specs.declared.table.parcels.Parcel.{Parcel}
use Rattle.nm_chain.specs.Sequence.{Each, Rises, Got}
use Rattle.nm_cells.specs.declared.tallies.Tally.{Tally}
use Rattle.nm_chain.specs.declared.table.table.Entry.{Entry}
use Rattle.nm_chain.specs.Rule.{Load, put_to, from, number, sent_to, if_below}
use Rattle.nm_chain.specs.Plays.{raised}
use Rattle.nm_chain.specs.OwnQueues.{OwnQueue, receive_queue, free_queue}

-- a rank of which nothing came and to which nothing went
abbrev pub new_tally : Tally
new_tally = record {
  sent = 0;
  taken = 0;
  box_put = 0;
  box_got = 0;
  filling = false;
  emptying = false;
  unpassed = 0;
  box_full = 0;
  box_miss = 0;
}

-- what is counted of the rank j
abbrev pub peer_in : List Tally → ℕ → Tally
peer_in peers j = slice_index_or peers j new_tally

-- how many of these numbers aren't below t
abbrev pub not_below : ℕ → List ℕ → ℕ
not_below t [] = 0
not_below t (k ∷ ks) = if_below (dec_le (suc k) t) 0 1 + not_below t ks

module _ {A : Type 0} where
  -- the load is one of these
  abbrev pub IsOneOf : Load A → List (Load A) → Type 0
  IsOneOf y [] = ⊥
  IsOneOf y (x ∷ xs) = (y ≡ x) ⊎ IsOneOf y xs

  -- this came by cell from its sender, of n ranks, and wasn't passed on
  abbrev pub IsUnpassedOf : ℕ → List (Load A) → List Tally → Parcel A → Type 0
  IsUnpassedOf n got peers p = (p.from < n) × IsOneOf (Some p) (from p.from got)
      × ((peer_in peers p.from).taken ≤ p.seq)

module _ {A : Type 0} (put : List (ℕ × Load A)) (got : List (Load A)) (put_box : List (ℕ × Load A))
    (got_box : List (Load A))
    (full miss : List ℕ)
    (filling : List Bool) (emptying : List (Option (Load A))) where
  -- What is counted of the rank j is what the lists say. All its parcels with numbers below `taken` came,
  -- and those that came by box are among them
  pub record CountsOne (j : ℕ) (p : Tally) : Type 0 where
    pub sent : p.sent ≡ sent_to j put_box put
    pub box_put : p.box_put ≡ length (put_to j put_box)
    pub box_got : p.box_got ≡ length (from j got_box)
    pub box_full : p.box_full ≡ slice_index full j
    pub box_miss : p.box_miss ≡ slice_index miss j
    pub is_filling : p.filling ≡ slice_index_or filling j false
    pub is_emptying : p.emptying ≡ is_some (slice_index_or emptying j None)
    pub few : p.box_got ≤ p.taken
    pub in_range : p.taken ≤ MAX_PACKETS
    pub came : (k : ℕ) → k < p.taken → Got (map number (from j got_box)) (map number (from j got)) k
    pub passed : Each (λ k. k < p.taken) (map number (from j got_box))
    pub rises : Rises (map number (from j got))
    pub unpassed : p.unpassed ≡ not_below p.taken (map number (from j got))

  -- What is counted of all n ranks is what the lists say, and a parcel that is held came by cell and was not passed on
  pub record Counts (n : ℕ) (peers : List Tally) (held : Option (Parcel A)) : Type 0 where
    pub count : length peers ≡ n
    pub fulls : length full ≡ n
    pub misses : length miss ≡ n
    pub outs : length filling ≡ n
    pub ins : length emptying ≡ n
    pub each : (j : ℕ) → j < n → CountsOne j (peer_in peers j)
    pub holds : (p : Parcel A) → held ≡ Some p → IsUnpassedOf n got peers p

module _ {A : Type 0} where
  -- the same of a rank's entry
  abbrev pub CountsFor : Entry A → List Tally → Option (Parcel A) → Type 0
  CountsFor e peers held =
      Counts e.put e.got e.put_box e.got_box e.box_full e.box_miss e.filling e.emptying e.ranks peers
      held

-- the parcels that came by cell and weren't passed on
abbrev pub all_unpassed : List Tally → ℕ
all_unpassed peers = sum_by (λ p. p.unpassed) peers

-- the counts of the rank j change
abbrev pub with_peer : (Tally → Tally) → ℕ → List Tally → List Tally
with_peer f j peers = slice_set peers j (f (peer_in peers j))

-- one more parcel was sent to it by cell
abbrev pub one_sent : Tally → Tally
one_sent p = record p { sent = p.sent + 1 }

-- one more parcel of it came by cell
abbrev pub one_arrived : Tally → Tally
one_arrived p = record p { unpassed = p.unpassed + 1 }

-- one more parcel was sent to it by box
abbrev pub one_boxed : Tally → Tally
one_boxed p = record p { sent = p.sent + 1; box_put = p.box_put + 1; filling = false }

-- its next box is being filled
abbrev pub one_opened : Tally → Tally
one_opened p = record p { filling = true }

-- its next box is being emptied
abbrev pub one_begun : Tally → Tally
one_begun p = record p { emptying = true }

-- one more parcel of it came by box, and was passed on
abbrev pub one_unboxed : Tally → Tally
one_unboxed p = record p { taken = p.taken + 1; box_got = p.box_got + 1; emptying = false }

-- the next box for it was found full
abbrev pub one_full : Tally → Tally
one_full p = record p { box_full = raised p.box_full }

-- the next box of it didn't have the awaited number
abbrev pub one_miss : Tally → Tally
one_miss p = record p { box_miss = raised p.box_miss }

-- a parcel of it that came by cell was passed on
abbrev pub one_passed : Tally → Tally
one_passed p = record p { taken = p.taken + 1; unpassed = p.unpassed - 1 }

-- what is counted once a cell of an own queue was taken, from the receive queue with a parcel of the rank i
abbrev pub counted_after : OwnQueue → ℕ → List Tally → List Tally
counted_after receive_queue i peers = with_peer one_arrived i peers
counted_after free_queue i peers = peers
