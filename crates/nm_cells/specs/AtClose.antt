-- What is known once all ranks are spoken for by one seat.
use Rattle.std.specs.Prelude.{Bool, ◌++◌, ◌≡◌, ℕ, zero, suc, ◌+◌, ◌*◌, ◌/◌, ◌<◌, List, length, Some, None}
use mathlib.Core.Option as maybe
use native.Mathlib.Decide.{ℕ_discrete}
use lib.ListN.{get_elem?}
use Rattle.atomic_table.specs.Table.{State}
use Rattle.nm_chain.specs.declared.seats.views.View.{View}
use Rattle.nm_chain.specs.Chain.{Has, loose, held, ready, entering, queued}
use Rattle.nm_types.specs.Sizes.{Sizes}
use Rattle.nm_chain.specs.declared.table.table.Hand.TheVariants.{Away}
use Rattle.nm_chain.specs.declared.table.table.Entry.{Entry}
use Rattle.nm_chain.specs.Rule.{put_to, from, Load, Place, hand, sent_to, Rule}
use Rattle.nm_chain.specs.Plays.{AllBelow}
use Rattle.nm_chain.specs.Update.{pick}

module _ {A : Type 0} where
  -- the entry of each rank, in order, of which none has a cell in hand
  abbrev pub Gathered : ℕ → ℕ → List (Entry A) → Type 0
  Gathered n each es = (length es ≡ n) × ((k : ℕ) (e : Entry A) → get_elem? es k ≡ maybe.some e
      → (e.rank ≡ k) × ((c : ℕ) → c < n * each → hand e c ≡ Away))

  -- what a rank got of another is the first part of what that one put, by each path
  abbrev pub Prefixed : ℕ → List (Entry A) → Type 0
  Prefixed n es = (i j : ℕ) (e g : Entry A) → i < n → j < n → get_elem? es i ≡ maybe.some e
      → get_elem? es j ≡ maybe.some g
      → ((left : List (Load A)) × (put_to j e.put ≡ from i g.got ++ left))
      × ((waits : List (Load A)) × (put_to j e.put_box ≡ from i g.got_box ++ waits))

  -- each parcel that was sent came
  abbrev pub AllCame : ℕ → List (Entry A) → Type 0
  AllCame n es = (i j : ℕ) (e g : Entry A) → i < n → j < n → get_elem? es i ≡ maybe.some e
      → get_elem? es j ≡ maybe.some g → AllBelow g i (sent_to j e.put_box e.put)

  -- 1 where the cell c is in its owner's free queue, and else 0
  abbrev pub homed : ℕ → ℕ → ℕ → Place A → ℕ
  homed n each c (loose r) = 0
  homed n each c (held r) = 0
  homed n each c (ready r y) = 0
  homed n each c (entering r q t) = 0
  homed n each c (queued q) = pick (ℕ_discrete q (n + c / each)) 1 0

  -- how many of the first k cells are in their owners' free queues
  abbrev pub home_count : ℕ → ℕ → (ℕ → Place A) → ℕ → ℕ
  home_count n each place zero = 0
  home_count n each place (suc k) = home_count n each place k + homed n each k (place k)

  -- The fabric met its rule at the end, as these entries know it: every cell was in one queue, and so many were at home
  abbrev pub Settled : (A → Bool) → Sizes → List (Entry A) → ℕ → Type 0
  Settled boxable key es home = (s : State (Load A) (View (Entry A)))
      × ((R : Rule boxable key s) × ((r : ℕ) (e : Entry A) → get_elem? es r ≡ maybe.some e → R.ledger r ≡ e)
      × ((c : ℕ) → c < key.ranks * key.cells → (q : ℕ) × (R.world.place c ≡ queued q)
      × (q < 2 * key.ranks) × Has c (R.world.chain q))
      × (home ≡ home_count key.ranks key.cells R.world.place (key.ranks * key.cells)))

  -- 1 where the slot is at home and empty
  abbrev pub vacant_at : maybe.Option (Load A) → ℕ
  vacant_at maybe.none = 0
  vacant_at (maybe.some None) = 1
  vacant_at (maybe.some (Some p)) = 0

  -- how many of the first k slots are empty
  abbrev pub vacant : List (Load A) → ℕ → ℕ
  vacant xs zero = 0
  vacant xs (suc k) = vacant xs k + vacant_at (get_elem? xs k)
