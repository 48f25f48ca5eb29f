-- Why a command is refused.
use Rattle.std.specs.Prelude.{◌≡◌, ℕ, Bool, true, false}
use Rattle.nm_types.specs.declared.scripts.Command.{Command}
use Rattle.nm_types.specs.Limits.{is_in_range}
use Rattle.nm_calls.specs.declared.faults.Fault.{Fault}
use Rattle.nm_calls.specs.declared.faults.Fault.TheVariants as fault

-- a fault of an argument
abbrev pub is_of_range : Fault → Bool
is_of_range fault.Name = true
is_of_range fault.Rank = true
is_of_range fault.Tag = true
is_of_range fault.Context = true
is_of_range fault.Length = true
is_of_range _ = false

-- a command of so many ranks is refused by this fault: an argument is out of range
pub record IsOutOfRange (ranks : ℕ) (x : Command) (e : Fault) : Type 0 where
  pub kind : is_of_range e ≡ true
  pub out : is_in_range ranks x ≡ false
