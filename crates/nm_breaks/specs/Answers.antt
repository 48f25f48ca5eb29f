-- What is answered: the status, the words that ask for a verdict, and what is found of the bytes.
use Rattle.std.specs.Prelude.{◌≡◌, ℕ, List, Some}
use Rattle.nm_script.specs.CommandWords.{IsTaken}
use Rattle.nm_script.specs.declared.command_line.CommandLine.{CommandLine}
use Rattle.nm_script.specs.declared.command_line.Mode.TheVariants.{Check}
use Rattle.nm_check.specs.Answers.{IsTraced, verdict_status}
use Rattle.nm_check.specs.declared.verdicts.Verdict.TheVariants.{Holds}
use Rattle.nm_breaks.specs.Found.{IsFound, verdict_in}
use Rattle.nm_breaks.specs.Judgements.{judged_as}
use Rattle.nm_breaks.specs.declared.finding.Found.{Found}
use Rattle.nm_breaks.specs.declared.finding.Found.TheVariants.{NoTrace, NoScript, BadTrace, Judged}

-- the status of what was found
abbrev pub found_status : Found → ℕ
found_status NoTrace = 9
found_status (NoScript line kind) = 3
found_status (BadTrace before line stop) = 9
found_status (Judged before j run) = verdict_status (judged_as j)

-- the words ask for a verdict: they are those of a check
abbrev pub IsAsked : List (List ℕ) → CommandLine → Type 0
IsAsked words line = IsTaken words line × (line.mode ≡ Check)

-- they do not
abbrev pub NotAsked : List (List ℕ) → Type 0
NotAsked words = (line : CommandLine) → ¬ (IsAsked words line)

-- It is what these bytes are, in the sizes of the words. The trace of a run of the script holds.
pub record IsFoundIn (line : CommandLine) (found : Found) (bytes : List ℕ) : Type 0 where
  pub right : IsFound line.cells line.eager bytes found
  pub holds : IsTraced line bytes → verdict_in found ≡ Some Holds
