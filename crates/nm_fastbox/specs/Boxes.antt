-- What a put and a take did, and in how many word steps.
use Rattle.std.specs.Prelude.{◌≡◌, ℕ, ◌+◌, [], ◌∷◌, Some, None, false, is_some, Result, Ok, Err}
use Rattle.nm_chain.specs.declared.table.parcels.Parcel.{Parcel}
use Rattle.nm_chain.specs.Update.{update}
use Rattle.nm_chain.specs.Rule.{filling_of, emptying_of}
use Rattle.nm_chain.specs.Plays.{with_filling, with_emptying, with_box_full, with_box_miss}
use Rattle.nm_chain.specs.Plays.{with_put_box, with_got_box, Overtaken}
use Rattle.nm_cells.specs.declared.port.Port.{Port}
use Rattle.nm_cells.specs.declared.port.Fabric.{Fabric}
use Rattle.nm_cells.specs.Ports.{Owns, knows, holding, sent_by, taken_by, unpassed_by, opens}

module _ {A : Type 0} where
  -- the parcel is the port's next one for the rank `to`
  abbrev pub IsNextFor : ℕ → Parcel A → Port A → Type 0
  IsNextFor to x p = (x.from ≡ p.rank) × (x.seq ≡ sent_by p to)

  -- The parcel went to the rank `to` by the port's next box
  pub record PutsInBox (to : ℕ) (x : Parcel A) (old new : Port A) : Type 0 where
    pub put : knows new ≡ with_put_box ((to, Some x) ∷ []) (with_filling to false (knows old))
    pub sent : sent_by new ≡ update (sent_by old) to (sent_by old to + 1)
    pub hands : new.hands + 1 ≡ old.hands + opens (filling_of (knows old) to)

  -- The next box for the rank `to` was found full
  pub record FindsFull (to : ℕ) (old new : Port A) : Type 0 where
    pub counted : knows new ≡ with_box_full to (knows old)
    pub hands : new.hands ≡ old.hands

  -- The fabric's port of the same rank, with the same loose cells. The cells in hand hold the same, and of the parcels
  -- that came by cell the same one is held, and as many were not passed on
  pub record KeepsCells (f : Fabric A) (old new : Port A) : Type 0 where
    pub owns : Owns f new
    pub rank : new.rank ≡ old.rank
    pub loose : new.loose ≡ old.loose
    pub holds : holding new ≡ holding old
    pub held : new.held ≡ old.held
    pub unpassed : unpassed_by new ≡ unpassed_by old

  -- The parcel is the one that was awaited from the rank i. It came by box, and is passed on
  pub record TakesFromBox (i : ℕ) (x : Parcel A) (old new : Port A) : Type 0 where
    pub sender : x.from ≡ i
    pub number : x.seq ≡ taken_by old i
    pub got : knows new ≡ with_got_box (Some x ∷ []) (with_emptying i None (knows old))
    pub taken : taken_by new ≡ update (taken_by old) i (taken_by old i + 1)
    pub hands : new.hands + 1 ≡ old.hands + opens (is_some (emptying_of (knows old) i))

  -- The next box of the rank i was found without the awaited number. So no later parcel of it came before that one
  pub record MissesInBox (i : ℕ) (old new : Port A) : Type 0 where
    pub counted : knows new ≡ with_box_miss i (knows old)
    pub taken : taken_by new ≡ taken_by old
    pub hands : new.hands ≡ old.hands
    pub in_turn : ¬ Overtaken (knows old) i (taken_by old i)

-- one step that looks at the flag, and one more where a parcel went or came
abbrev pub Costs : {B E : Type 0} → Result B E → ℕ → ℕ → Type 0
Costs (Ok it) start end = end ≡ start + 2
Costs (Err back) start end = end ≡ start + 1
