-- What a program gives, one command after another.
use Rattle.std.specs.Prelude.{if◌then◌else◌, Bool, true, ◌≡◌, ◌≤◌, ℕ, ◌+◌, MatchOption, Option, Some, None, option_to_list, List, [], ◌∷◌, ◌++◌, length}
use Rattle.std.specs.List.{AllByRecursion, slice_get}
use Rattle.std.specs.Option.{option_or}
use Rattle.nm_types.specs.declared.answers.Answer.{Answer}
use Rattle.nm_types.specs.declared.scripts.Command.{Command}
use Rattle.nm_types.specs.Commands.{Numbered}
use Rattle.nm_types.specs.Limits.{is_in_range}
use Rattle.nm_process.specs.Sources.{SourceView}

-- What contracts see of a source that asks a program: among how many ranks its commands are in range, the
-- program as it was at first and as it is, its next command, one that never runs, how many ran, all that it
-- gave to run, the answers that it was told, and whether it was refused memory.
pub record GivenView (P : Type 0) : Type 0 where
  pub ranks : ℕ
  pub start : List P
  pub program : P
  pub next : Option Command
  pub stray : Option Command
  pub at : ℕ
  pub given : List Command
  pub told : List Answer
  pub failed : Bool

-- a command with its line
abbrev pub numbered_at : ℕ → Command → Numbered
numbered_at line x = record { line = line; command = x }

-- the commands that a program gave, numbered by the order in which it gave them
abbrev pub all_numbered : ℕ → List Command → List Numbered
all_numbered line [] = []
all_numbered line (x ∷ xs) = record { line = line; command = x } ∷ all_numbered (line + 1) xs

-- these commands begin with those
pub record IsFront (front whole : List Numbered) : Type 0 where
  pub more : List Numbered
  pub is : whole ≡ front ++ more

-- how many commands were given: those that ran, and one that has not, if there is one
abbrev pub IsCounted : List Command → Option Command → ℕ → Type 0
IsCounted given next at =
    MatchOption next (length given ≡ at) (λ x. slice_get given at ≡ Some x × (length given ≡ at + 1))

-- each of these commands is in range among so many ranks
abbrev pub AllInRange : ℕ → List Command → Type 0
AllInRange ranks given = AllByRecursion (λ x. is_in_range ranks x ≡ true) given

-- after so many this command never runs: where it is in range, there is no line for it
abbrev pub NeverRuns : ℕ → ℕ → Command → Type 0
NeverRuns ranks at x = is_in_range ranks x ≡ true → 18446744073709551610 ≤ at

-- how many ran, and the next one
abbrev pub shown_by : {P : Type 0} → GivenView P → SourceView (List P)
shown_by g =
    record {
      at = g.at;
      ranks = g.ranks;
      next = g.next;
      told = if g.failed then None else Some g.told;
      begun = g.start;
    }

-- It goes on to give whatever commands begin with those that it gave; at its end these alone. So nothing is
-- to be shown again when it gives one more.
abbrev pub gives_on : {P : Type 0} → GivenView P → List Numbered → ℕ → Type 0
gives_on g commands last =
    MatchOption g.next (commands ≡ all_numbered 2 g.given) (λ x. IsFront (all_numbered 2 g.given) commands)
    × (last ≡ g.at + 1)

-- Of a program that is in the first state and gave this command last, or none: it was told these answers, one
-- after another, gave these commands, and is left in the second state, where it gave this command last.
abbrev pub Talked :
    {P : Type 0} → (P → Option Answer → Option Command → P → Type 0) → P → Option Command → List Answer → P →
    Option Command → List Command → Type 0
Talked says p now [] q last given = (q ≡ p) × (last ≡ now) × (given ≡ option_to_list now)
Talked says p None (a ∷ answers) q last given = ⊥
Talked {P} says p (Some c) (a ∷ answers) q last given =
    (mid : P) × (next : Option Command) × (rest : List Command) × says p (Some a) next mid × (given ≡ c ∷ rest)
    × Talked says mid next answers q last rest

-- A program began in this state, was told these answers, gave these commands, the last one of them here, if it
-- is not at its end, and is left so.
pub record HasPlayed {P : Type 0} (says : P → Option Answer → Option Command → P → Type 0) (start : P)
    (answers : List Answer) (left : P) (last : Option Command) (given : List Command) : Type 0 where
  pub begun : P
  pub first : Option Command
  pub begins : says start None first begun
  pub talked : Talked says begun first answers left last given

-- so it is with the program of a source, where a command that never runs is the last one
pub record IsPlayed {P : Type 0} (says : P → Option Answer → Option Command → P → Type 0) (g : GivenView P)
    : Type 0 where
  pub start : P
  pub begins : g.start ≡ start ∷ []
  pub played :
      HasPlayed says start g.told g.program (option_or g.stray g.next) (g.given ++ option_to_list g.stray)
