-- What is said.
use Rattle.std.specs.Prelude.{ℕ, ◌+◌, ◌%◌, ◌^◌, ◌++◌, List, [], Option, Some, None, codes, decimal, option_and_then}
use Rattle.std.specs.List.{slice_get}
use Rattle.std.specs.Option.{option_map_or}
use Rattle.nm_script.specs.Lines.{lines_of}
use Rattle.nm_lawful.specs.declared.judging.Judged.{Judged}
use Rattle.nm_lawful.specs.declared.judging.Judged.TheVariants as judged

-- what is said of words that are not taken
abbrev pub usage : List ℕ
usage = codes "usage: lawful [--cut any] STATES <SCRIPT_AND_ANSWERS\n"

-- .. of an input that is too long, or has no line `---`
abbrev pub no_answers : List ℕ
no_answers = codes "fault answers 0\n"

-- .. of a line of the answers that tells nothing, counted from 1 behind `---`
abbrev pub bad_line_lem : ℕ → List ℕ
bad_line_lem line = codes "fault answers " ++ (decimal line ++ codes "\n")

-- .. of the answer up to which no run can have told them, counted from 1
abbrev pub unlawful_text : ℕ → List ℕ → List ℕ
unlawful_text moment line = ((codes "unlawful " ++ (decimal (moment + 1) ++ codes ": ")) ++ line) ++ codes "\n"

-- .. of a rank that can't rest as is said: it waits at a line, whose number is its place and 2, or is at its end
abbrev pub rest_text : ℕ → Option ℕ → List ℕ
rest_text rank (Some place) =
    codes "unlawful rest: " ++ (decimal rank ++ (codes " " ++ (decimal ((place + 2) % 2 ^ 64) ++ codes " waits\n")))
rest_text rank None = codes "unlawful rest: " ++ (decimal rank ++ codes " ends\n")

-- .. of a verdict, with the line and the wait that it names
abbrev pub judged_text : Judged → List ℕ → Option ℕ → List ℕ
judged_text judged.Lawful line wait = codes "lawful\n"
judged_text (judged.Unlawful moment) line wait = unlawful_text moment line
judged_text (judged.NoRest rank) line wait = rest_text rank wait
judged_text judged.TooMany line wait = codes "limit\n"

-- the status of a verdict
abbrev pub judged_status_lem : Judged → ℕ
judged_status_lem judged.Lawful = 0
judged_status_lem (judged.Unlawful moment) = 8
judged_status_lem (judged.NoRest rank) = 8
judged_status_lem judged.TooMany = 7

-- the line that a verdict names
abbrev pub named_line : Judged → List ℕ → List ℕ
named_line (judged.Unlawful moment) text = option_map_or (λ line. line) (slice_get (lines_of text) moment) []
named_line _ text = []

-- the wait that it names
abbrev pub named_wait : Judged → List (Option ℕ) → Option ℕ
named_wait (judged.NoRest rank) waits = option_and_then (λ wait. wait) (slice_get waits rank)
named_wait _ waits = None
