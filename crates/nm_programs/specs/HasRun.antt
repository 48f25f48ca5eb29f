-- A run of programs, one for each rank: each process executes its own code, and they communicate by calls of MPI
-- (MPI 3.1, 2.7).
use Rattle.std.specs.Prelude.{◌≡◌, ℕ, ◌+◌, Bool, Option, Some, List, [], ◌∷◌, ◌++◌, option_map, unwrap_or}
use Rattle.std.specs.List.{AllByRecursion, slice_get}
use Rattle.nm_types.specs.declared.answers.Account.{Account}
use Rattle.nm_types.specs.declared.answers.Answer.{Answer}
use Rattle.nm_types.specs.declared.packets.Packet.{Packet}
use Rattle.nm_types.specs.declared.scripts.Command.{Command}
use Rattle.nm_types.specs.Commands.{Numbered}
use Rattle.nm_types.specs.Sizes.{Sizes}
use Rattle.nm_history.specs.Quiescence.{Ended, Packets}
use Rattle.nm_history.specs.Totals.{answers_given}
use Rattle.nm_cells.specs.declared.closed.Closed.{Closed}
use Rattle.nm_copyring.specs.declared.close.RingAccount.{RingAccount}
use Rattle.nm_report.specs.declared.records.RunRecord.{RunRecord}
use Rattle.nm_report.specs.Ends.{are_done, ends_of, packets_of}
use Rattle.nm_process.specs.Playing.{AllInRange, HasPlayed, IsCounted, NeverRuns, all_numbered}
use Rattle.nm_world.specs.Runs.{IsWholeOf}
use Rattle.nm_programs.specs.declared.running.Finished.{Finished}
use Rattle.nm_programs.specs.declared.stops.Stop.{Stop}
use Rattle.nm_programs.specs.declared.stops.Stop.TheVariants.{Memory, Range}

-- The program of a rank began in this state, was told exactly the answers of the rank's history, one after
-- another, gave exactly these commands, and is left so. As many of them ran as the rank ran; one more is that in
-- which it waits (MPI 3.1, 2.4: a blocking call).
pub record IsProgramOf {P : Type 0} (says : P → Option Answer → Option Command → P → Type 0) (start : P)
    (given : List Command) (rank : Ended) (left : Finished P) : Type 0 where
  pub played : HasPlayed says start (answers_given rank.events) left.program left.waits given
  pub counted : IsCounted given left.waits rank.at
  pub waits : rank.waits ≡ option_map (λ c. rank.at + 2) left.waits

-- so it is with each rank
abbrev pub AreProgramsOf :
    {P : Type 0} → (P → Option Answer → Option Command → P → Type 0) → List P → List (List Command) → List Ended →
    List (Finished P) → Type 0
AreProgramsOf says [] [] [] [] = Unit {0}
AreProgramsOf says (p ∷ ps) (given ∷ all) (rank ∷ ranks) (left ∷ rest) =
    IsProgramOf says p given rank left × AreProgramsOf says ps all ranks rest
AreProgramsOf says _ _ _ _ = ⊥

-- the commands of each rank, the k-th one with line k + 2
abbrev pub commands_in : List (List Command) → ℕ → List Numbered
commands_in given i = all_numbered 2 (unwrap_or (slice_get given i) [])

-- The programs ran so: each was told the answers of its rank and gave the rank's commands, which are in range,
-- and these ends of the ranks are of a lawful run of these that is at rest, whose packets and pieces the closed ports
-- carried.
pub record HasRunTo {P : Type 0} (says : P → Option Answer → Option Command → P → Type 0) (shape : Sizes)
    (programs : List P) (left : List (Finished P)) (ends : List Ended) (packets : List Packets) (account : Account)
    (cells : Closed Packet) (rings : RingAccount) : Type 0 where
  pub given : List (List Command)
  pub each : AreProgramsOf says programs given ends left
  pub in_range : AllByRecursion (AllInRange shape.ranks) given
  pub whole : IsWholeOf shape (commands_in given) ends packets account cells rings

-- so they ran, and the record tells it
abbrev pub HasRun :
    {P : Type 0} → (P → Option Answer → Option Command → P → Type 0) → Sizes → List P → List (Finished P) → RunRecord →
    Closed Packet → RingAccount → Type 0
HasRun says shape programs left run cells rings =
    HasRunTo says shape programs left (ends_of run.ranks) (packets_of run.pairs) run.cells cells rings

-- So they ran, with histories that no memory keeps; and all are at their ends, or not.
pub record HasRunUnrecorded {P : Type 0} (says : P → Option Answer → Option Command → P → Type 0) (shape : Sizes)
    (programs : List P) (left : List (Finished P)) (done : Bool) (account : Account) (cells : Closed Packet)
    (rings : RingAccount) : Type 0 where
  pub ends : List Ended
  pub packets : List Packets
  pub ran : HasRunTo says shape programs left ends packets account cells rings
  pub done_is : done ≡ are_done ends

-- The program of this rank was told some answers and gave this command, which never runs.
pub record GaveStray {P : Type 0} (says : P → Option Answer → Option Command → P → Type 0) (ranks : ℕ)
    (programs : List P) (rank : ℕ) (command : Command) : Type 0 where
  pub start : P
  pub is : slice_get programs rank ≡ Some start
  pub told : List Answer
  pub given : List Command
  pub left : P
  pub played : HasPlayed says start told left (Some command) (given ++ command ∷ [])
  pub ran : ℕ
  pub never : NeverRuns ranks ran command

-- why a run stopped
abbrev pub IsStopped :
    {P : Type 0} → (P → Option Answer → Option Command → P → Type 0) → ℕ → List P → Stop → Type 0
IsStopped says ranks programs Memory = Unit {0}
IsStopped says ranks programs (Range rank command) = GaveStray says ranks programs rank command
