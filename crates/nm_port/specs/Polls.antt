-- What a poll gives, and what it leaves behind.
use Rattle.std.specs.Prelude.{◌≡◌, ◌≢◌, ℕ, zero, suc, ◌+◌, ◌<◌, ◌≤◌, ◌⊎◌, Option, Some, None}
use Rattle.std.specs.Prelude.{List, [], ◌∷◌, ◌++◌, map, slice_index}
use Rattle.nm_chain.specs.declared.table.parcels.Parcel.{Parcel}
use Rattle.nm_chain.specs.Update.{update}
use Rattle.nm_chain.specs.declared.table.table.Entry.{Entry}
use Rattle.nm_cells.specs.declared.port.Port.{Port}
use Rattle.nm_cells.specs.declared.port.Fabric.{Fabric}
use Rattle.nm_chain.specs.Rule.{Load, from, emptying_of}
use Rattle.nm_chain.specs.Plays.{raised, heads_of, with_got, with_heads, with_look, Overtaken}
use Rattle.nm_chain.specs.declared.table.table.Look.TheVariants.{Fresh}
use Rattle.nm_chain.specs.OwnQueues.{receive_queue}
use Rattle.nm_cells.specs.Counted.{IsOneOf}
use Rattle.nm_cells.specs.Ports.{knows, holding, taken_by, unpassed_by, IsUnpassed}
use Rattle.nm_port.specs.Sends.{HadMiss}

module _ {A : Type 0} where
  -- how many parcels are held
  abbrev pub count_held : Option (Parcel A) → ℕ
  count_held None = 0
  count_held (Some p) = 1

  -- each parcel that the port took from its receive queue was passed on, but for the one that it holds
  abbrev pub HoldsTheRest : Port A → Type 0
  HoldsTheRest p = unpassed_by p ≡ count_held p.held

  -- the next box of each rank was found without the awaited number
  abbrev pub with_all_missed : Entry A → Entry A
  with_all_missed e = record e { box_miss = map raised e.box_miss }

-- the first k of the ranks' boxes were found so
abbrev pub first_raised : ℕ → List ℕ → List ℕ
first_raised zero xs = xs
first_raised (suc k) [] = []
first_raised (suc k) (x ∷ xs) = raised x ∷ first_raised k xs

module _ {A : Type 0} where
  -- the next boxes of the first k ranks were found so
  abbrev pub with_first_missed : ℕ → Entry A → Entry A
  with_first_missed k e = record e { box_miss = first_raised k e.box_miss }

  -- of this rank no parcel came before one with a smaller number
  abbrev pub NotOvertaken : Port A → ℕ → Type 0
  NotOvertaken p i = ¬ Overtaken (knows p) i (taken_by p i)

  -- The next boxes of the first k ranks were found without the awaited number
  pub record Missed (k : ℕ) (old now : Port A) : Type 0 where
    pub rank : now.rank ≡ old.rank
    pub held : now.held ≡ old.held
    pub unpassed : unpassed_by now ≡ unpassed_by old
    pub holds : holding now ≡ holding old
    pub seen : knows now ≡ with_first_missed k (knows old)
    pub taken : taken_by now ≡ taken_by old
    pub hands : now.hands ≡ old.hands
    pub loose : now.loose ≡ old.loose
    pub not : (i : ℕ) → i < k → NotOvertaken old i

  -- no box is being emptied
  abbrev pub EmptiesNone : Port A → Type 0
  EmptiesNone p = (i : ℕ) → emptying_of (knows p) i ≡ None

  -- the parcel is the next one of its sender, and is passed on
  pub record IsNext (f : Fabric A) (old new : Port A) (p : Parcel A) : Type 0 where
    pub sender : p.from < f.ranks
    pub number : p.seq ≡ taken_by old p.from
    pub taken : taken_by new ≡ update (taken_by old) p.from (taken_by old p.from + 1)

  -- these came by box and by cell
  abbrev pub Came : Port A → Port A → List (Load A) → List (Load A) → Type 0
  Came old new by_box by_cell = ((knows new).got_box ≡ (knows old).got_box ++ by_box)
      × ((knows new).got ≡ (knows old).got ++ by_cell)

  -- How the parcel that is passed on came: it was held, it came by box, it came by cell, or it came by
  -- box after one of the same sender that came by cell and is held from then on
  pub data Way (old new : Port A) (p : Parcel A) : Type 0 where
    was_held : old.held ≡ Some p → new.held ≡ None → Came old new [] [] → Way old new p
    by_box : new.held ≡ old.held → Came old new (Some p ∷ []) [] → Way old new p
    by_cell : old.held ≡ None → new.held ≡ None → Came old new [] (Some p ∷ []) → Way old new p
    before : (x : Parcel A) → x.from ≡ p.from → old.held ≡ None → new.held ≡ Some x
        → Came old new (Some p ∷ []) (Some x ∷ []) → Way old new p

  -- it is one of the parcels of its sender that the port got
  abbrev pub IsGot : Port A → Parcel A → Type 0
  IsGot new p = IsOneOf (Some p) (from p.from (knows new).got_box)
      ⊎ IsOneOf (Some p) (from p.from (knows new).got)

  -- beside what it got and counted, its shadow head, what it was told of it and the box that it emptied, a port knows
  -- the same
  abbrev pub polled : Entry A → Entry A → Entry A
  polled new old = record old {
    receive = new.receive;
    got = new.got;
    got_box = new.got_box;
    emptying = new.emptying;
    looks = new.looks;
    box_miss = new.box_miss;
  }

  -- What a poll did that gave a parcel: it is the next one of its sender, came by one of the ways and is among those
  -- that the port got. No count of misses fell
  pub record Polls (f : Fabric A) (old new : Port A) (p : Parcel A) : Type 0 where
    pub next : IsNext f old new p
    pub got : IsGot new p
    pub way : Way old new p
    pub same : knows new ≡ polled (knows new) (knows old)
    pub later : (i : ℕ) → slice_index (knows old).box_miss i ≤ slice_index (knows new).box_miss i

  -- What a poll found that gave none: nothing was held, the next box of each rank was found without the awaited number,
  -- and the receive queue had a miss
  pub record PollsNone (old new : Port A) : Type 0 where
    pub nothing : old.held ≡ None
    pub held : new.held ≡ None
    pub miss : HadMiss receive_queue (with_all_missed (knows old)) (knows new)
    pub taken : taken_by new ≡ taken_by old

  -- no parcel is held whose turn has come
  abbrev pub HoldsOutOfTurn : Port A → Type 0
  HoldsOutOfTurn port = (p : Parcel A) → port.held ≡ Some p → p.seq ≢ taken_by port p.from

  -- The next boxes of all ranks were found without the awaited number
  pub record MissesAll (f : Fabric A) (old new : Port A) : Type 0 where
    pub seen : knows new ≡ with_all_missed (knows old)
    pub taken : taken_by new ≡ taken_by old
    pub not : (i : ℕ) → i < f.ranks → NotOvertaken old i

  -- A parcel came by cell, and is still to be passed on
  pub record Receives (p : Parcel A) (old new : Port A) : Type 0 where
    pub unpassed : IsUnpassed new p
    pub one_more : unpassed_by new ≡ unpassed_by old + 1
    pub got : knows new ≡ with_got (Some p ∷ [])
        (with_look receive_queue Fresh (with_heads receive_queue (heads_of receive_queue (knows new)) (knows old)))

  -- The receive queue had a miss, and no parcel came
  pub record ReceivesNone (old new : Port A) : Type 0 where
    pub miss : HadMiss receive_queue (knows old) (knows new)
    pub unpassed : unpassed_by new ≡ unpassed_by old
