-- What is said of what was found: the line and its bytes, what stands against it, and the rule.
use Rattle.std.specs.Prelude.{ℕ, ◌+◌, ◌==◌, if◌then◌else◌, List, [], ◌++◌, Option, Some, None, codes, decimal}
use Rattle.nm_history.specs.Quiescence.{Ended}
use Rattle.nm_report.specs.Ends.{ends_of}
use Rattle.nm_check_rank.specs.declared.clauses.OwnClause.{OwnClause}
use Rattle.nm_check_rank.specs.declared.paired.dues.Due.{Due}
use Rattle.nm_check.specs.RestBreaks.{rest_clause}
use Rattle.nm_check.specs.declared.clauses.CarriedClause.{CarriedClause}
use Rattle.nm_check.specs.declared.rest.clauses.RestClause.{RestClause}
use Rattle.nm_check.specs.declared.rest.clauses.RestClause.TheVariants.{Waits, Counts}
use Rattle.nm_check.specs.declared.rest.waits.Next.{Next}
use Rattle.nm_check.specs.declared.rest.waits.Next.TheVariants as next
use Rattle.nm_breaks.specs.declared.finding.Found.{Found}
use Rattle.nm_breaks.specs.declared.finding.Found.TheVariants.{NoTrace, NoScript, BadTrace, Judged}
use Rattle.nm_breaks.specs.declared.cells.CellCount.{CellCount}
use Rattle.nm_breaks.specs.declared.judgements.Judgement.{Judgement}
use Rattle.nm_breaks.specs.declared.judgements.Judgement.TheVariants.{Holds, Own, Carried, Left, Standing, Counted}
use Rattle.nm_breaks.specs.declared.judgements.Judgement.TheVariants.{Home, Done}
use Rattle.nm_breaks.specs.declared.places.EventLine.{EventLine}
use Rattle.nm_breaks.specs.declared.stops.Stop.{Stop}
use Rattle.nm_verdict.specs.declared.quotes.Quotes.{Quotes}
use Rattle.nm_verdict.specs.Quotes.{event_line, place_line}
use Rattle.nm_verdict.specs.Counts.{counts_words}
use Rattle.nm_verdict.specs.Dues.{due_words, some_words}
use Rattle.nm_verdict.specs.Events.{event_words}
use Rattle.nm_verdict.specs.Sentences.{carried_words, kind_words, left_words, own_words, rest_words, stop_words}

-- the number of a line of the whole input, by how many stand before `---`, and of the line behind it
abbrev pub line_words : ℕ → ℕ → List ℕ
line_words before line =
    codes "line " ++ (decimal (before + 1 + line) ++ (codes " (line " ++ (decimal line ++ codes " behind ---)")))

-- the line that a place tells, if it tells one
abbrev pub place_words : ℕ → Option ℕ → List ℕ
place_words before (Some line) = line_words before line
place_words before None = codes ""

-- its bytes, if they are told
abbrev pub quote_words : Option (List ℕ) → List ℕ
quote_words (Some bytes) = codes ", `" ++ (bytes ++ codes "`")
quote_words None = []

-- what stands against the event at which a rank breaks a rule of its own run first, if it is one
abbrev pub own_against : List Ended → Option EventLine → Option Due → List ℕ
own_against ranks (Some event) due = event_words ranks event ++ (codes ": " ++ due_words due)
own_against ranks None due = codes ""

-- the rule
abbrev pub own_text : OwnClause → ℕ → Option EventLine → List ℕ
own_text rule rank (Some event) =
    codes "\nIt is the first event at which rank " ++ (decimal rank
    ++ (codes " breaks a rule: " ++ (own_words rule ++ codes "\n")))
own_text rule rank None =
    codes "in the end of rank " ++ (decimal rank ++ (codes " a rule breaks: " ++ (own_words rule ++ codes "\n")))

-- what stands between an event and the one that it is held against, if something does
abbrev pub between_words : Option Due → List ℕ
between_words (Some due) = some_words due ++ codes "; "
between_words None = codes ""

-- the line of the other rank that an event is held against
abbrev pub other_words : ℕ → Option ℕ → List ℕ
other_words before (Some line) = codes "it is held against " ++ line_words before line
other_words before None = codes "the other rank has no event that it is held against"

-- what stands against the event at which the messages from one rank to another break a rule first
abbrev pub carried_against : ℕ → List Ended → EventLine → Option EventLine → Option Due → List ℕ
carried_against before ranks event other against =
    event_words ranks event ++ (codes ": " ++ (between_words against ++ other_words before (event_line other)))

-- a sender and a receiver
abbrev pub pair_words : ℕ → ℕ → List ℕ
pair_words from to = codes "rank " ++ (decimal from ++ (codes " to rank " ++ decimal to))

-- the rule that their messages break, in these words
abbrev pub carried_text : List ℕ → ℕ → ℕ → List ℕ
carried_text words from to =
    codes "\nIt is the first event at which the messages from " ++ (pair_words from to
    ++ (codes " break a rule: " ++ (words ++ codes "\n")))

-- what a rank is said to do in the end
abbrev pub standing_words : Option ℕ → List ℕ
standing_words (Some line) = codes "said to wait at the command in line " ++ decimal line
standing_words None = codes "said to be at its end"

-- .. and its next command
abbrev pub next_words : Next → List ℕ
next_words next.Nothing = codes "no command of it is left"
next_words (next.Command line goes_on) =
    codes "its next command is in line " ++ (decimal line
    ++ (if goes_on then codes ", and can go on" else codes ", and can't go on"))

-- what stands against a rank that stands where it may not
abbrev pub stand_against : ℕ → Option ℕ → Next → List ℕ
stand_against rank waits next =
    codes "rank " ++ (decimal rank ++ (codes " is " ++ (standing_words waits ++ (codes ": " ++ next_words next))))

-- a rule of all ranks at rest that breaks, behind these words
abbrev pub rest_text : List ℕ → RestClause → List ℕ
rest_text start clause =
    start ++ (codes " breaks a rule of all ranks in the end: " ++ (rest_words clause ++ codes "\n"))

-- one of the last two lines breaks its rule
abbrev pub last_text : List ℕ → List ℕ
last_text rule = codes "\nIt breaks a rule: " ++ (rule ++ codes "\n")

-- the rule of the cells
abbrev pub home_rule : List ℕ
home_rule = codes "as many cells as all ranks have by --cells are there, and all of them are home"

-- .. and of the end
abbrev pub done_rule : List ℕ
done_rule = codes "it is `done` exactly where every rank is at its end, and else `stuck`"

-- how many cells there are to be, and are; or how many of them are home
abbrev pub count_words : CellCount → List ℕ
count_words cells =
    if cells.total == cells.called
    then codes ": " ++ (decimal cells.home ++ (codes " of " ++ (decimal cells.total ++ codes " are home")))
    else codes ": --cells does not fit: it calls for " ++ (decimal cells.called ++ (codes " cells, and there are "
    ++ decimal cells.total))

-- what stands against the place of a judgement
abbrev pub against_text : ℕ → List Ended → Judgement → List ℕ
against_text before ranks Holds = codes ""
against_text before ranks (Own clause rank first event) = own_against ranks event first.due
against_text before ranks (Carried clause from to event other against) =
    carried_against before ranks event other against
against_text before ranks (Left rule event) = event_words ranks event ++ (codes ": " ++ left_words rule)
against_text before ranks (Standing rank waits next) = stand_against rank waits next
against_text before ranks (Counted line miscount) = codes ": " ++ counts_words miscount.called miscount.found
against_text before ranks (Home line cells) = count_words cells
against_text before ranks (Done line) = codes ": it is to be the other word"

-- the rule of a judgement
abbrev pub rule_text : Judgement → List ℕ
rule_text Holds = codes "holds\n"
rule_text (Own clause rank first event) = own_text first.clause rank event
rule_text (Carried clause from to event other against) = carried_text (carried_words clause) from to
rule_text (Left rule event) = rest_text (codes "\nIt is the first event that") (rest_clause rule)
rule_text (Standing rank waits next) = rest_text (codes "\nIt is the first rank that") Waits
rule_text (Counted line miscount) = rest_text (codes "\nIt is the first count that") Counts
rule_text (Home line cells) = last_text home_rule
rule_text (Done line) = last_text done_rule

-- what is said of a trace that is none, behind so many lines
abbrev pub bad_text : ℕ → ℕ → Stop → List ℕ
bad_text before line stop = line_words before line ++ (codes ": " ++ (stop_words stop ++ codes "\n"))

-- the line of a trace that is told, if one is
abbrev pub head_words : Found → List ℕ
head_words (Judged before j run) = place_words before (place_line j)
head_words found = codes ""

-- .. what is said behind its bytes
abbrev pub found_against : Found → List ℕ
found_against (Judged before j run) = against_text before (ends_of run.ranks) j
found_against found = codes ""

-- .. and at the end
abbrev pub tail_text : Found → List ℕ
tail_text NoTrace =
    codes "there is no trace: the input has no line ---, or more than 67,108,864 bytes\n"
tail_text (NoScript line kind) =
    codes "line " ++ (decimal line ++ (codes " is no script: "
    ++ (kind_words kind ++ codes "\n")))
tail_text (BadTrace before line stop) = bad_text before line stop
tail_text (Judged before j run) = rule_text j

-- What is said of what was found, with the bytes of the line that is told and of the one that it is held against.
abbrev pub found_text : Found → Quotes → List ℕ
found_text found quotes =
    head_words found ++ (quote_words quotes.line
    ++ (found_against found ++ (quote_words quotes.other ++ tail_text found)))
