-- What a send did: by which way the parcel went, or why it came back.
use Rattle.std.specs.Prelude.{◌≡◌, ℕ, ◌+◌, ◌<◌, ◌⊎◌, Bool, true, false, [], ◌∷◌, Some}
use Rattle.nm_types.specs.declared.packets.Path.{Path}
use Rattle.nm_types.specs.declared.packets.Path.TheVariants.{Box, Cell}
use Rattle.nm_chain.specs.Update.{update}
use Rattle.nm_chain.specs.declared.table.parcels.Parcel.{Parcel}
use Rattle.nm_chain.specs.declared.table.table.Entry.{Entry}
use Rattle.nm_cells.specs.declared.port.Port.{Port}
use Rattle.nm_chain.specs.Plays.{with_box_full, heads_of, with_heads, heads_at, with_missed}
use Rattle.nm_chain.specs.Plays.{head_miss, link_miss, with_look, with_put}
use Rattle.nm_chain.specs.declared.table.table.Look.TheVariants.{Fresh, LinkEmpty}
use Rattle.nm_chain.specs.OwnQueues.{OwnQueue, free_queue}
use Rattle.nm_cells.specs.Ports.{knows, sent_by}
use Rattle.nm_fastbox.specs.Boxes.{PutsInBox}

module _ {A : Type 0} where
  -- an item was to go to the rank j: where it fits a box, the next one was found full
  abbrev pub tried : Bool → ℕ → Entry A → Entry A
  tried true j e = with_box_full j e
  tried false j e = e

  -- An own queue had a miss: its head was loaded as 0, or the tail was not its first cell and the link of
  -- that one was loaded as 0
  abbrev pub HadMiss : OwnQueue → Entry A → Entry A → Type 0
  HadMiss b old new = (new ≡ with_missed b head_miss (with_heads b (heads_at 0 0) old))
      ⊎ ((0 < (heads_of b new).shadow)
      × (new ≡ with_look b (LinkEmpty 0) (with_missed b link_miss (with_heads b (heads_of b new) old))))

  -- The parcel went to the rank `to` by the next box, which its item fits
  pub record SendsByBox (fits : Bool) (to : ℕ) (x : Parcel A) (old new : Port A) : Type 0 where
    pub short : fits ≡ true
    pub puts : PutsInBox to x old new

  -- The parcel went to the rank `to` by a cell of the own free queue, after the next box was found full where its
  -- item fits one
  pub record SendsByCell (fits : Bool) (to : ℕ) (x : Parcel A) (old new : Port A) : Type 0 where
    pub put : knows new ≡ with_put ((to, Some x) ∷ [])
        (with_look free_queue Fresh (with_heads free_queue (heads_of free_queue (knows new)) (tried fits to (knows old))))
    pub sent : sent_by new ≡ update (sent_by old) to (sent_by old to + 1)

  -- the parcel went by this way
  abbrev pub SendsBy : Path → Bool → ℕ → Parcel A → Port A → Port A → Type 0
  SendsBy Box fits to x old new = SendsByBox fits to x old new
  SendsBy Cell fits to x old new = SendsByCell fits to x old new

  -- No parcel went to the rank `to`: the item fits no box or the next one was found full, and the own free queue had
  -- a miss
  pub record HasNoWay (fits : Bool) (to : ℕ) (old new : Port A) : Type 0 where
    pub sent : sent_by new ≡ sent_by old
    pub miss : HadMiss free_queue (tried fits to (knows old)) (knows new)
