-- What a rank that has only itself to send to does with its packets.
use Rattle.std.specs.Prelude.{◌≡◌, ℕ, zero, suc, ◌+◌, ◌≤◌, ◌⊎◌, Some, [], length}
use Rattle.std.specs.Prelude.{slice_get}
use Rattle.nm_sending.specs.Letters.{Letter}
use Rattle.nm_sending.specs.Outboxes.{popped_to}
use Rattle.nm_history.specs.Rules.{AreRight}
use Rattle.nm_rank.specs.Calls.{TakesPacket}
use Rattle.nm_rank.specs.Pops.{PopsPacket}
use Rattle.nm_rank.specs.Ranks.{IsFresh, RankView, count_of}

-- The rank is the only one, and while it can go on, it took each packet that left it.
pub record IsAlone (v : RankView) : Type 0 where
  pub me : v.me ≡ 0
  pub one : v.sizes.ranks ≡ 1
  pub took : length v.took ≡ 1
  pub popped : length v.sending.outbox.popped ≡ 1
  pub even : IsFresh v → count_of v.took 0 ≡ popped_to v.sending.outbox 0

-- A rank that can go on takes its own first packet, which leaves where it can go on then too. Its
-- history was right before.
pub record MovesFirst (old new : RankView) : Type 0 where
  pub fresh : IsFresh old
  pub right : AreRight old.sizes.ranks [] old.events
  pub letter : Letter
  pub first : slice_get old.sending.outbox.letters 0 ≡ Some letter
  pub own : (letter.to ≡ 0) × (letter.packet.from ≡ 0)
  pub between : RankView
  pub taken : TakesPacket letter.packet old between
  pub leaves :
      (IsFresh between × PopsPacket between new) ⊎ (¬ (IsFresh between) × (new ≡ between))

-- so many packets are moved, one after another
abbrev pub MovesMany : ℕ → RankView → RankView → Type 0
MovesMany zero old new = new ≡ old
MovesMany (suc k) old new = (last : RankView) × MovesMany k old last × MovesFirst last new

-- So many packets were moved, of which there were no fewer at first, and as many as are not moved
-- are still here while the rank can go on. The first one was moved by a rank that could go on.
pub record IsMoving (k : ℕ) (old new : RankView) : Type 0 where
  pub alone : IsAlone new
  pub moves : MovesMany k old new
  pub here :
      IsFresh new →
      length old.sending.outbox.letters ≤ k + length new.sending.outbox.letters
