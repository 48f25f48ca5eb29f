-- What the last steps on an own queue told, by queue.
use Rattle.std.specs.Prelude.{◌≡◌, ◌≢◌, ℕ, suc, ◌<◌}
use Rattle.nm_chain.specs.OwnQueues.{OwnQueue, receive_queue, free_queue}
use Rattle.nm_chain.specs.declared.table.table.Look.{Look}
use Rattle.nm_chain.specs.declared.table.table.Look.TheVariants.{Fresh, LinkEmpty, TailElsewhere}
use Rattle.nm_chain.specs.declared.table.table.Looks.{Looks}

-- of an own queue
abbrev pub look_in : OwnQueue → Looks → Look
look_in receive_queue x = x.receive
look_in free_queue x = x.free

-- no step was made
abbrev pub no_looks : Looks
no_looks = record { receive = Fresh; free = Fresh }

-- the last step on that queue told this
abbrev pub set_look : OwnQueue → Look → Looks → Looks
set_look receive_queue l x = record x { receive = l }
set_look free_queue l x = record x { free = l }

-- the link of the first cell was loaded as 0, once more where it was before
abbrev pub link_empty : Look → Look
link_empty Fresh = LinkEmpty 0
link_empty (LinkEmpty k) = LinkEmpty (suc k)
link_empty TailElsewhere = LinkEmpty 0

-- that was the last step on the queue
abbrev pub IsLinkEmpty : Look → Type 0
IsLinkEmpty Fresh = ⊥
IsLinkEmpty (LinkEmpty k) = Unit {0}
IsLinkEmpty TailElsewhere = ⊥

-- what was told of a queue with this shadow head and tail is still so: a tail found elsewhere is another cell than
-- the first
abbrev pub StillTold : Look → ℕ → ℕ → Type 0
StillTold l shadow tail = l ≡ TailElsewhere → (0 < shadow) × (tail ≢ shadow)
