-- The rules of a rank's run, from those of commands and those of the rank.
use Rattle.std.proofs.Common.{[]}
use Rattle.nm_history.specs.AtEach.{AtEach}
use Rattle.nm_history.specs.RankRun.{EndAt, WholeAt}
use Rattle.nm_history.specs.Rules.{IsRightAt}
use Rattle.nm_process.proofs.PacketLemmas.{after_weaker}
use Rattle.nm_process.proofs.laws.a_process_runs.Goals as goal
use Rattle.nm_history.proofs.Right.{right-numbers}

pub returns : goal.returns
unfolding AtEach
returns c shape commands bound v work right journal = record {
  answers = work.answers;
  starts = work.starts;
  numbers = right-numbers shape.ranks v.rank.events right;
  cancels = work.cancels;
  wholes = after_weaker (λ h e. IsRightAt shape.ranks h e.what) (λ h e. WholeAt h e.what) [] v.rank.events
      (λ h e is. is.wholes) right;
  ends = after_weaker (λ h e. IsRightAt shape.ranks h e.what) (λ h e. EndAt h e.what) [] v.rank.events
      (λ h e is. is.ends) right;
  stamps = journal.stamps;
  claims = work.claims;
}
