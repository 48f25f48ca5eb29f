-- Two ranks in step: each took what left the other for it.
use Rattle.std.specs.Prelude.{◌≡◌, ℕ, ◌<◌, length}
use Rattle.nm_sending.specs.Outboxes.{popped_to}
use Rattle.nm_sending.specs.Departures.{pushed_to}
use Rattle.nm_rank.specs.Ranks.{RankView, count_of}

-- this is the rank with this number in a run of two, with a count for each of them
pub record IsOneOfTwo (i : ℕ) (v : RankView) : Type 0 where
  pub low : i < 2
  pub me : v.me ≡ i
  pub ranks : v.sizes.ranks ≡ 2
  pub took : length v.took ≡ 2
  pub pulled : length v.pulled ≡ 2
  pub popped : length v.sending.outbox.popped ≡ 2
  pub pushed : length v.sending.pushed ≡ 2

-- rank j took as many packets and pieces of rank i as left it
pub record TookAll (i j : ℕ) (a b : RankView) : Type 0 where
  pub packets : count_of b.took i ≡ popped_to a.sending.outbox j
  pub pieces : count_of b.pulled i ≡ pushed_to a.sending j

-- both did
pub record AreInStep (i j : ℕ) (a b : RankView) : Type 0 where
  pub first : IsOneOfTwo i a
  pub second : IsOneOfTwo j b
  pub there : TookAll i j a b
  pub back : TookAll j i b a
