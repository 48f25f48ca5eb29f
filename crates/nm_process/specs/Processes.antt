-- A process: a rank that runs commands, and the names of its requests and messages.
use Rattle.std.specs.Prelude.{ℕ, List}
use Rattle.nm_request.specs.declared.Req.{Req}
use Rattle.nm_rank.specs.Ranks.{RankView}
use Rattle.nm_process.specs.declared.steps.Handle.{Handle}

-- What contracts see of a process: its rank, how many commands ran, its names with their requests and its
-- handles with their messages.
pub record ProcessView : Type 0 where
  pub rank : RankView
  pub at : ℕ
  pub names : List (ℕ × Req)
  pub handles : List (ℕ × Handle)
