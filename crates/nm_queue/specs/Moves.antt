-- What an enqueue and a dequeue did, and in how many word steps.
use Rattle.std.specs.Prelude.{◌≡◌, ℕ, zero, suc, ◌+◌, ◌<◌, ◌⊎◌, None, Result, Ok, Err}
use Rattle.nm_chain.specs.Update.{update}
use Rattle.nm_chain.specs.declared.table.table.Hand.TheVariants.{Away}
use Rattle.nm_chain.specs.declared.table.table.Look.TheVariants.{LinkEmpty}
use Rattle.nm_chain.specs.Plays.{with_hand, with_look, with_put, heads_of, with_heads, heads_at}
use Rattle.nm_chain.specs.Plays.{with_missed, head_miss, link_miss}
use Rattle.nm_cells.specs.declared.port.Port.{Port}
use Rattle.nm_cells.specs.declared.port.Fabric.{Fabric}
use Rattle.nm_cells.specs.declared.cell.Cell.{Cell}
use Rattle.nm_cells.specs.declared.cell.Queue.{Queue}
use Rattle.nm_cells.specs.Ports.{Stays, Leaves, Takes, knows, holding, posted_in, own_of}
use Rattle.nm_queue.specs.declared.moves.Miss.{Miss}
use Rattle.nm_queue.specs.declared.moves.Miss.TheVariants.{HeadEmpty, LinkMissing}

module _ {A : Type 0} where
  -- the shadow head of an own queue, or 0
  abbrev pub shadow_of : Queue → Port A → ℕ
  shadow_of q p = (heads_of (own_of q) (knows p)).shadow

  -- The cell c went with what it held to the end of a queue
  pub record Enqueues (q : Queue) (c : ℕ) (f : Fabric A) (old new : Port A) : Type 0 where
    pub stays : Stays f old new
    pub put : knows new ≡ with_put (posted_in q (holding old c)) (with_hand c Away (knows old))
    pub hands : new.hands + 1 ≡ old.hands
    pub given : holding new ≡ update (holding old) c None

  -- the first cell of an own queue is in hand
  abbrev pub TakesFirst : Queue → Fabric A → Port A → Port A → Cell → Type 0
  TakesFirst q f old new c = Takes (own_of q) f old new c

  -- The first cell of an own queue is the shadow head, as it was where there was one
  pub record FindsFirst (q : Queue) (old new : Port A) : Type 0 where
    pub some : 0 < shadow_of q new
    pub same : 0 < shadow_of q old
        → heads_of (own_of q) (knows new) ≡ heads_of (own_of q) (knows old)
    pub knows : knows new
        ≡ with_heads (own_of q) (heads_of (own_of q) (knows new)) (knows old)
    pub leaves : Leaves old new

  -- There was no shadow head, and the head was loaded as 0
  pub record MissesHead (q : Queue) (old new : Port A) : Type 0 where
    pub no_shadow : shadow_of q old ≡ 0
    pub knows : knows new ≡ with_missed (own_of q) head_miss
        (with_heads (own_of q) (heads_at 0 0) (knows old))
    pub leaves : Leaves old new

  -- The tail was another cell than the first one, whose link was loaded as 0. It stays first
  pub record MissesLink (q : Queue) (old new : Port A) : Type 0 where
    pub some : 0 < shadow_of q new
    pub same : 0 < shadow_of q old
        → heads_of (own_of q) (knows new) ≡ heads_of (own_of q) (knows old)
    pub knows : knows new ≡ with_look (own_of q) (LinkEmpty 0) (with_missed (own_of q) link_miss
        (with_heads (own_of q) (heads_of (own_of q) (knows new)) (knows old)))
    pub leaves : Leaves old new

  -- why there was no cell to take
  abbrev pub Misses : Queue → Miss → Port A → Port A → Type 0
  Misses q HeadEmpty old new = MissesHead q old new
  Misses q LinkMissing old new = MissesLink q old new

-- the steps until the first cell is the shadow head: where there is none, the head is loaded and cleared
abbrev pub finding : ℕ → ℕ
finding zero = 2
finding (suc cell) = 0

-- The steps of a dequeue, by the shadow heads before and after it. There is none after the last cell was taken; a
-- link that was stored late costs two steps more
abbrev pub Costs : Result Cell Miss → ℕ → ℕ → ℕ → ℕ → Type 0
Costs (Ok cell) before zero start end = end ≡ start + (finding before + 2)
Costs (Ok cell) before (suc next) start end =
    (end ≡ start + (finding before + 1)) ⊎ (end ≡ start + (finding before + 3))
Costs (Err HeadEmpty) before after start end = end ≡ start + 1
Costs (Err LinkMissing) before after start end = end ≡ start + (finding before + 3)
