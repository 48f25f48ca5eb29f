-- The text of a plan's run, by the answers to the commands that its lines stand for.
use Rattle.std.specs.Prelude.{ℕ, ◌+◌, ◌==◌, Bool, true, false, ◌&&◌, Option, Some, None}
use Rattle.std.specs.Prelude.{if◌then◌else◌, nat_lt, List, [], ◌∷◌, ◌++◌, length, map}
use Rattle.std.specs.Prelude.{codes, decimal, take, drop, filter, fold, flat_map, option_map, sum_by}
use Rattle.std.specs.List.{list_any, range_with_len}
use Rattle.std.specs.Option.{option_map_or}
use Rattle.hex.specs.Hex.{encode_lower}
use Rattle.nm_types.specs.declared.answers.Answer.{Answer}
use Rattle.nm_types.specs.declared.answers.Answer.TheVariants as answer
use Rattle.nm_types.specs.Text.{text_line}
use Rattle.nm_report.specs.declared.records.RunRecord.{RunRecord}
use Rattle.nm_report.specs.Report.{cells_line, end_line, waits_line}
use Rattle.nm_report.specs.Told.{RankTold, told_of}
use Rattle.nm_persist.specs.declared.asked.Asked.{Asked}
use Rattle.nm_persist.specs.declared.asked.Show.{Show}
use Rattle.nm_persist.specs.declared.asked.Show.TheVariants as show
use Rattle.nm_plans.specs.declared.lines.PlanCommand.{PlanCommand}
use Rattle.nm_plans.specs.declared.lines.PlanCommand.TheVariants.{Ready, Arrived, Wait}
use Rattle.nm_plans.specs.declared.lines.PlanLine.{PlanLine}
use Rattle.nm_plans.specs.declared.requests.requests.Request.{Request}
use Rattle.nm_plans.specs.Expansion.{commands_of, name_of}
use Rattle.nm_plans.specs.Grammar.{request_in}
use Rattle.nm_plans.specs.PlanRequests.{is_sending, owner_of, request_at}

-- what a line shows: of a wait, whether its request sends, or from whom and with which tag it receives
abbrev pub shows : PlanCommand → Request → Show
shows (Arrived p k) r = show.Arrived
shows (Wait p) r = if is_sending r.side then show.Sent else show.Received r.peer r.tag
shows _ r = show.Nothing

-- the name that the first command of a line is about
abbrev pub first_name : PlanCommand → ℕ
first_name (Ready p k) = name_of p k
first_name (Arrived p k) = name_of p k
first_name c = name_of (request_in c) 0

-- a line with its number, how many commands it stands for, from which name on, and what it shows
abbrev pub asked_by : ℕ → PlanLine → Option Request → Asked
asked_by number line r = record {
  rank = line.rank;
  line = number;
  name = first_name line.command;
  count = length (commands_of line.command r);
  show = option_map_or (shows line.command) r show.Nothing;
}

-- the same of these lines, behind those before them
abbrev pub asked_behind : List PlanLine → List PlanLine → List Asked
asked_behind before [] = []
asked_behind before (line ∷ lines) =
    asked_by (length before + 2) line (request_at before (owner_of line))
    ∷ asked_behind (before ++ line ∷ []) lines

-- an answer to a command about a name
pub record Named : Type 0 where
  pub name : ℕ
  pub answer : Answer

-- answers to commands about names from this one on
abbrev pub named_from : ℕ → List Answer → List Named
named_from name [] = []
named_from name (a ∷ answers) = record { name = name; answer = a } ∷ named_from (name + 1) answers

-- a receive's result
abbrev pub is_result : Answer → Bool
is_result (answer.Got from tag body) = true
is_result (answer.Cut from tag len) = true
is_result _ = false

-- the last result under a name, behind an answer
abbrev pub result_behind : ℕ → Option Answer → Named → Option Answer
result_behind name found a = if a.name == name && is_result a.answer then Some a.answer else found

-- the last result under a name among these answers
abbrev pub last_result : List Named → ℕ → Option Answer
last_result answers name = fold (result_behind name) None answers

-- the bytes that a result shows
abbrev pub bytes_in : Option Answer → List ℕ
bytes_in (Some (answer.Got from tag body)) = body
bytes_in _ = []

-- how many bytes a result has, also one that is cut off
abbrev pub len_in : Option Answer → ℕ
len_in (Some (answer.Got from tag body)) = length body
len_in (Some (answer.Cut from tag len)) = len
len_in _ = 0

-- a result is cut off
abbrev pub is_cut : Option Answer → Bool
is_cut (Some (answer.Cut from tag len)) = true
is_cut _ = false

-- the results of the parts of a receive, in order
abbrev pub results_of : Asked → List Named → List (Option Answer)
results_of a answers = map (λ k. last_result answers (a.name + k)) (range_with_len 0 a.count)

-- the words of a receive that is complete: its source, its tag, and its parts joined
abbrev pub received : ℕ → ℕ → List (Option Answer) → List (List ℕ)
received from tag results =
    if list_any is_cut results
    then codes "cut" ∷ decimal from ∷ decimal tag ∷ decimal (sum_by len_in results) ∷ []
    else codes "got" ∷ decimal from ∷ decimal tag ∷ decimal (sum_by len_in results)
    ∷ (codes "x" ++ encode_lower (flat_map bytes_in results)) ∷ []

-- a part is here, or its request isn't active (MPI 4.0, 4.2.2)
abbrev pub arrived_word : Option Answer → List ℕ
arrived_word (Some answer.No) = codes "no"
arrived_word _ = codes "yes"

-- the answer to the first command of a line
abbrev pub first_answer : List Answer → Option Answer
first_answer [] = None
first_answer (a ∷ answers) = Some a

-- the words of what is shown, by the answers to a line's commands and the results of its parts
abbrev pub words_shown : Show → List Answer → List (Option Answer) → List (List ℕ)
words_shown show.Nothing own results = []
words_shown show.Arrived own results = arrived_word (first_answer own) ∷ []
words_shown show.Sent own results = codes "sent" ∷ []
words_shown (show.Received from tag) own results = received from tag results

-- the words that a line shows, by the answers to its commands and all answers up to them
abbrev pub shown_words : Asked → List Answer → List Named → List (List ℕ)
shown_words a own answers = words_shown a.show own (results_of a answers)

-- the line of what a line shows, if it shows anything
abbrev pub shown_line : Asked → List (List ℕ) → List ℕ
shown_line a [] = []
shown_line a (word ∷ words) = text_line (decimal a.rank ∷ decimal a.line ∷ word ∷ words)

-- what the lines of a rank ask
abbrev pub asked_at : ℕ → List Asked → List Asked
asked_at rank asked = filter (λ a. a.rank == rank) asked

-- the lines of a rank, by what its lines ask, the answers that lines before had and those that are
-- left. The first line without an answer to each of its commands is where the rank stands.
abbrev pub rank_lines : ℕ → List Asked → List Named → List Answer → Option ℕ → List ℕ
rank_lines rank [] before rest waits = []
rank_lines rank (a ∷ asked) before rest waits =
    if nat_lt (length rest) a.count then waits_line rank (option_map (λ _. a.line) waits)
    else shown_line a (shown_words a (take a.count rest)
    (before ++ named_from a.name (take a.count rest)))
    ++ rank_lines rank asked (before ++ named_from a.name (take a.count rest)) (drop a.count rest) waits

-- the lines of these ranks, of which the first has this number
abbrev pub ranks_lines : List Asked → ℕ → List RankTold → List ℕ
ranks_lines asked rank [] = []
ranks_lines asked rank (told ∷ others) =
    rank_lines rank (asked_at rank asked) [] (map (λ t. t.answer) told.answers) told.waits
    ++ ranks_lines asked (rank + 1) others

-- the text of a plan's run
abbrev pub run_text : List PlanLine → RunRecord → List ℕ
run_text lines run =
    ranks_lines (asked_behind [] lines) 0 (told_of run) ++ (cells_line run.cells ++ end_line run.done)
