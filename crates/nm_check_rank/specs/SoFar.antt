-- What there is of a rank's events so far, besides what is looked up.
use Rattle.std.specs.Prelude.{◌≡◌, ℕ, List, length, take}
use Rattle.nm_history.specs.declared.events.Event.{Event}
use Rattle.nm_history.specs.RankRun.{is_cancelling, is_start, last_stamp, ran_lines}
use Rattle.nm_lookups.specs.SinceAnswer.{IsSince}
use Rattle.nm_check_rank.specs.Kinds.{is_claiming}
use Rattle.nm_check_rank.specs.declared.paired.so_far.SoFar.{SoFar}

-- before a place: the last stamp, how many commands ran, and what happened since the last answer
pub record IsSoFar (h : List Event) (k : ℕ) (s : SoFar) : Type 0 where
  pub stamp : s.stamp ≡ last_stamp (take k h)
  pub ran : s.ran ≡ length (ran_lines (take k h))
  pub claims : IsSince is_claiming h k s.claims
  pub starts : IsSince is_start h k s.starts
  pub cancels : IsSince is_cancelling h k s.cancels
