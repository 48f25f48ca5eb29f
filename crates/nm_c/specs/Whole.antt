-- All ranks of a world, in the hands of C, and the end of it.
use Rattle.std.specs.Prelude.{◌≡◌, ℕ, ◌*◌, Bool, true, false, Some, Result, Ok, Err, IfErr, IfOk, List}
use Rattle.std.specs.List.{All, AllZip, slice_get}
use Rattle.nm_types.specs.declared.answers.Account.{Account}
use Rattle.nm_types.specs.declared.packets.Packet.{Packet}
use Rattle.nm_types.specs.Sizes.{Sizes}
use Rattle.nm_cells.specs.declared.closed.Closed.{Closed}
use Rattle.nm_copyring.specs.declared.close.RingAccount.{RingAccount}
use Rattle.nm_handle.specs.declared.ends.Unended.{Unended}
use Rattle.nm_handle.specs.declared.ends.Unended.TheVariants as unended
use Rattle.nm_handle.specs.declared.handles.Handle.{Handle}
use Rattle.nm_handle.specs.declared.states.State.TheVariants as state
use Rattle.nm_handle.specs.Ends.{HasMoved, HaveRun, SomeFailed}
use Rattle.nm_handle.specs.Standing.{HasTurned}
use Rattle.nm_handle.specs.Worlds.{AreWorld, IsSameRank}
use Rattle.nm_c.specs.Codes.{number_of}
use Rattle.nm_c.specs.declared.codes.Code.{Code}
use Rattle.nm_c.specs.declared.codes.Code.TheVariants as code

-- each of these ranks is closed
abbrev pub AreClosed : List Handle → Type 0
AreClosed = All (λ h. h.state ≡ state.Closed)

-- The calls of these ranks and what was answered are those of a lawful run that is at rest, and all cells are home
-- (MPI 3.1, 3.5: order and progress). It is told whether no rank waits.
pub record HasRun (shape : Sizes) (handles : List Handle) (done : Bool) : Type 0 where
  pub account : Account
  pub closed : Closed Packet
  pub rings : RingAccount
  pub run : HaveRun shape handles done account closed rings
  pub total : account.total ≡ shape.ranks * shape.cells
  pub home : account.home ≡ account.total

-- The world of these ranks has ended: after a turn of each they were all of it, in order, and had such a run. Now they
-- are closed ones.
pub record HasEnded (old new : List Handle) (done : Bool) : Type 0 where
  pub last : List Handle
  pub turned : AllZip HasTurned old last
  pub shape : Sizes
  pub world : AreWorld shape last
  pub run : HasRun shape last done
  pub closed : AreClosed new

-- a turn of one of these did something
pub record SomeMoved (old new : List Handle) : Type 0 where
  pub place : ℕ
  pub before : Handle
  pub after : Handle
  pub was : slice_get old place ≡ Some before
  pub is : slice_get new place ≡ Some after
  pub moved : HasMoved before after

-- why it has not; where a rank has failed or can move, they stay what they are
abbrev pub IsUnended : List Handle → List Handle → Unended → Type 0
IsUnended old new unended.Failed = SomeFailed old × AllZip IsSameRank old new
IsUnended old new unended.Moves = SomeMoved old new × AllZip IsSameRank old new
IsUnended old new unended.Shared = Unit {0}
IsUnended old new unended.Memory = Unit {0}

-- the code of an end, or of why there is none
abbrev pub code_of_end : Result Bool Unended → Code
code_of_end (Ok true) = code.Done
code_of_end (Ok false) = code.Pending
code_of_end (Err unended.Failed) = code.Failed
code_of_end (Err unended.Moves) = code.Moved
code_of_end (Err unended.Shared) = code.BadWorld
code_of_end (Err unended.Memory) = code.Memory

-- an export answered this number, that of whether the world of these ranks has ended, or why not
pub record AnswersEnd (old new : List Handle) (n : ℕ) : Type 0 where
  pub called : Result Bool Unended
  pub number : n ≡ number_of (code_of_end called)
  pub ended : IfOk called (HasEnded old new)
  pub why : IfErr called (IsUnended old new)
