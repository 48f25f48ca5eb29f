-- Programs whose calls are noted.
use Rattle.std.specs.Prelude.{◌≡◌, ◌++◌, Option, List, [], ◌∷◌, map, option_to_list}
use Rattle.std.specs.List.{AllZip}
use Rattle.nm_types.specs.declared.answers.Answer.{Answer}
use Rattle.nm_types.specs.declared.packets.Packet.{Packet}
use Rattle.nm_types.specs.declared.scripts.Command.{Command}
use Rattle.nm_types.specs.Sizes.{Sizes}
use Rattle.nm_cells.specs.declared.closed.Closed.{Closed}
use Rattle.nm_copyring.specs.declared.close.RingAccount.{RingAccount}
use Rattle.nm_report.specs.declared.records.RunRecord.{RunRecord}
use Rattle.nm_programs.specs.declared.running.Finished.{Finished}
use Rattle.nm_programs.specs.HasRun.{HasRun, HasRunTo}
use Rattle.nm_noted.specs.declared.noted.Noted.{Noted}
use Rattle.nm_noted.specs.declared.runs.Parted.{Parted}

-- it goes on as its program does, and notes what that gives
abbrev pub notes :
    {P C : Type 0} → (P → Option Answer → Option Command → P → Type 0) → (C → List Command) → Noted P C →
    Option Answer → Option Command → Noted P C → Type 0
notes says calls p answer command q =
    says p.program answer command q.program × (calls q.calls ≡ calls p.calls ++ option_to_list command)

-- the program, of which no call is noted
pub record IsFresh {P C : Type 0} (calls : C → List Command) (p : P) (noted : Noted P C) : Type 0 where
  pub program : noted.program ≡ p
  pub none : calls noted.calls ≡ []

-- the program as it was left, without its calls
abbrev pub bare : {P C : Type 0} → Finished (Noted P C) → Finished P
bare left = record { program = left.program.program; waits = left.waits }

-- what is noted of the calls of each rank
abbrev pub noted_calls : {P C : Type 0} → List (Finished (Noted P C)) → List C
noted_calls ranks = map (λ left. left.program.calls) ranks

-- one rank more: its program as it was left, and its calls
pub record IsParted {P C : Type 0} (before : Parted P C) (left : Finished (Noted P C)) (after : Parted P C)
    : Type 0 where
  pub ranks : after.ranks.items ≡ before.ranks.items ++ bare left ∷ []
  pub calls : after.calls.items ≡ before.calls.items ++ left.program.calls ∷ []

-- The programs ran, and the calls that each made are these.
pub record HasRunNoted {P : Type 0} (says : P → Option Answer → Option Command → P → Type 0) (shape : Sizes)
    (programs : List P) (left : List (Finished P)) (calls : List (List Command)) (run : RunRecord)
    (cells : Closed Packet) (rings : RingAccount) : Type 0 where
  pub ran : HasRun says shape programs left run cells rings
  pub are : ran.given ≡ calls
