-- The words of the command line.
use Rattle.std.specs.Prelude.{◌≡◌, ℕ, ◌≤◌, List, [], ◌∷◌, codes}
use Rattle.std.specs.Prelude.{Option, Some, None, unwrap_or}
use Rattle.nm_script.specs.declared.command_line.CommandLine.{CommandLine}
use Rattle.nm_script.specs.declared.command_line.Mode.{Mode}
use Rattle.nm_script.specs.declared.command_line.Mode.TheVariants.{Run, Trace, Plain, Check, Parts, Flood}
use Rattle.nm_script.specs.declared.command_line.Mode.TheVariants.{Multi}
use Rattle.nm_script.specs.declared.command_line.arguments.Argument.{Argument}
use Rattle.nm_script.specs.declared.command_line.arguments.Argument.TheVariants.{Cells, Eager, Number}
use Rattle.nm_script.specs.declared.command_line.found.Found.{Found}
use Rattle.nm_script.specs.ArgumentWords.{IsArgument}

-- nothing was given yet
abbrev pub nothing : Found
nothing = record { first = None; second = None; third = None; cells = None; eager = None }

-- one number more, behind the second: there is no fourth
abbrev pub with_third : ℕ → Found → Option ℕ → Option Found
with_third number f None =
    Some (record f { third = Some number })
with_third number f (Some third) = None

-- one number more, behind the first
abbrev pub with_second : ℕ → Found → Option ℕ → Option Found
with_second number f None =
    Some (record f { second = Some number })
with_second number f (Some second) = with_third number f f.third

-- what was given, with one number more
abbrev pub with_first : ℕ → Found → Option ℕ → Option Found
with_first number f None =
    Some (record f { first = Some number })
with_first number f (Some first) = with_second number f f.second

-- what was given, with the number of cells
abbrev pub with_cells : ℕ → Found → Found
with_cells cells f = record f { cells = Some cells }

-- what was given, with the eager limit
abbrev pub with_eager : ℕ → Found → Found
with_eager eager f = record f { eager = Some eager }

-- an option is given once at most
abbrev pub unless : Option ℕ → Found → Option Found
unless None f = Some f
unless (Some value) f = None

-- what was given, with one argument more: an option that was not given yet, or the next number
abbrev pub with_argument : Found → Argument → Option Found
with_argument f (Cells cells) = unless f.cells (with_cells cells f)
with_argument f (Eager eager) = unless f.eager (with_eager eager f)
with_argument f (Number number) = with_first number f f.first

-- the words are arguments, one behind the other, and give this in the end
pub data ReadsArguments : Found → List (List ℕ) → Found → Type 0 where
  ends : (f : Found) → ReadsArguments f [] f
  more :
      (a : Argument) (words others : List (List ℕ)) (f g h : Found) → IsArgument a words others →
      with_argument f a ≡ Some g → ReadsArguments g others h → ReadsArguments f words h

-- the first word
abbrev pub name_of : Mode → List ℕ
name_of Run = codes "run"
name_of Trace = codes "trace"
name_of Plain = codes "plain"
name_of Check = codes "check"
name_of Parts = codes "parts"
name_of (Flood key ranks messages) = codes "flood"
name_of (Multi threads rounds) = codes "multi"

-- a mode asks for no number
abbrev pub HasNoNumber : Mode → Type 0
HasNoNumber (Flood key ranks messages) = ⊥
HasNoNumber (Multi threads rounds) = ⊥
HasNoNumber _ = Unit {0}

-- what was given is what a mode asks for: its numbers, and no others; several threads take no option
abbrev pub HasArguments : Mode → Found → Type 0
HasArguments (Flood key ranks messages) f =
    (f.first ≡ Some key) × (f.second ≡ Some ranks) × (f.third ≡ Some messages)
HasArguments (Multi threads rounds) f =
    (f.first ≡ Some threads) × (f.second ≡ Some rounds) × (f.third ≡ None) × (f.cells ≡ None)
    × (f.eager ≡ None)
HasArguments _ f = (f.first ≡ None) × (f.second ≡ None) × (f.third ≡ None)

-- the numbers of a mode are in range
abbrev pub AreNumbers : Mode → Type 0
AreNumbers (Flood key ranks messages) = (1 ≤ ranks) × (ranks ≤ 64) × (messages ≤ 16000)
AreNumbers (Multi threads rounds) = (1 ≤ threads) × (threads ≤ 16) × (rounds ≤ 1000)
AreNumbers _ = Unit {0}

-- The words ask for this: the first says what to do, arguments in any order follow, and where no
-- option says there are 8 cells a rank and an eager limit of 1,024 bytes.
pub record IsTaken (words : List (List ℕ)) (line : CommandLine) : Type 0 where
  pub others : List (List ℕ)
  pub found : Found
  pub first : words ≡ name_of line.mode ∷ others
  pub follows : ReadsArguments nothing others found
  pub arguments : HasArguments line.mode found
  pub numbers : AreNumbers line.mode
  pub cells : line.cells ≡ unwrap_or found.cells 8
  pub eager : line.eager ≡ unwrap_or found.eager 1024

-- what was taken is in range
pub record InRange (line : CommandLine) : Type 0 where
  pub numbers : AreNumbers line.mode
  pub some_cell : 1 ≤ line.cells
  pub few_cells : line.cells ≤ 64
  pub few_eager : line.eager ≤ 4096
