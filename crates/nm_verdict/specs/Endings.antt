-- How the program ends: what was said, with which status.
use Rattle.std.specs.Prelude.{◌≡◌, ℕ, ◌⊎◌, List, Option}
use Rattle.nm_script.specs.declared.command_line.CommandLine.{CommandLine}
use Rattle.nm_outside.specs.Told.{Appends}
use Rattle.nm_breaks.specs.declared.finding.Found.{Found}
use Rattle.nm_breaks.specs.Answers.{IsAsked, found_status}
use Rattle.nm_verdict.specs.Answers.{IsFoundOf, AreQuotesOf}
use Rattle.nm_verdict.specs.Texts.{found_text}
use Rattle.nm_verdict.specs.declared.quotes.Quotes.{Quotes}

-- The words ask for a verdict, and it was said of the bytes what they are, with the lines that are told.
pub record IsTold (words : List (List ℕ)) (input : Option (List ℕ)) (status : ℕ)
    (old new : Option (List ℕ)) : Type 0 where
  pub line : CommandLine
  pub asked : IsAsked words line
  pub found : Found
  pub right : IsFoundOf line input found
  pub quotes : Quotes
  pub quoted : AreQuotesOf input found quotes
  pub ended : status ≡ found_status found
  pub said : Appends old new (found_text found quotes)

-- the statuses at which something was said of the bytes
abbrev pub IsSpoken : ℕ → Type 0
IsSpoken status = (status ≡ 0) ⊎ ((status ≡ 3) ⊎ ((status ≡ 8) ⊎ (status ≡ 9)))

-- the statuses that there are
abbrev pub IsStatus : ℕ → Type 0
IsStatus status = IsSpoken status ⊎ ((status ≡ 2) ⊎ ((status ≡ 4) ⊎ ((status ≡ 5) ⊎ (status ≡ 6))))
