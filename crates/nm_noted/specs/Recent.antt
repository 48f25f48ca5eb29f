-- Runs of programs of which the last calls and events are kept.
use Rattle.std.specs.Prelude.{◌≡◌, Option, List, map}
use Rattle.std.specs.List.{AllZip}
use Rattle.nm_types.specs.declared.answers.Answer.{Answer}
use Rattle.nm_types.specs.declared.packets.Packet.{Packet}
use Rattle.nm_types.specs.declared.scripts.Command.{Command}
use Rattle.nm_types.specs.Sizes.{Sizes}
use Rattle.nm_history.specs.Quiescence.{Ended}
use Rattle.nm_cells.specs.declared.closed.Closed.{Closed}
use Rattle.nm_copyring.specs.declared.close.RingAccount.{RingAccount}
use Rattle.nm_report.specs.declared.accounts.RankAccount.{RankAccount}
use Rattle.nm_report.specs.declared.records.RunRecord.{RunRecord}
use Rattle.nm_report.specs.Ends.{are_done, packets_of}
use Rattle.nm_world.specs.declared.records.RankEnd.{RankEnd}
use Rattle.nm_world.specs.Records.{end_by}
use Rattle.nm_programs.specs.declared.running.Finished.{Finished}
use Rattle.nm_programs.specs.HasRun.{HasRunTo}
use Rattle.nm_recent.specs.Recents.{AreOf, RecentView}

-- what became of a rank, with all its events
abbrev pub recent_end : RankEnd RecentView → Ended
recent_end rank = end_by (λ h. h.events) rank

-- the account is that of the rank, with some of its events
pub record IsKeptOf (rank : Ended) (account : RankAccount) : Type 0 where
  pub at : account.at ≡ rank.at
  pub waits : account.waits ≡ rank.waits
  pub events : AreOf rank.events account.history.events

-- The programs ran, with histories that no memory keeps; the calls that each made are these, and each rank's account in
-- the record has events of its history.
pub record HasRunRecent {P : Type 0} (says : P → Option Answer → Option Command → P → Type 0) (shape : Sizes)
    (programs : List P) (left : List (Finished P)) (calls : List (List Command)) (run : RunRecord)
    (cells : Closed Packet) (rings : RingAccount) : Type 0 where
  pub ends : List Ended
  pub ran : HasRunTo says shape programs left ends (packets_of run.pairs) run.cells cells rings
  pub are : ran.given ≡ calls
  pub done_is : run.done ≡ are_done ends
  pub kept : AllZip IsKeptOf ends run.ranks
