-- The report of a script's plain run.
use Rattle.std.specs.Prelude.{ℕ, ◌*◌, Bool, is_none, if◌then◌else◌, nat_lt, Option}
use Rattle.std.specs.Prelude.{option_map, List, [], ◌∷◌, ◌++◌, length, map, flat_map}
use Rattle.std.specs.List.{list_all, range_with_len}
use Rattle.std.specs.Option.{option_map_or}
use Rattle.nm_types.specs.declared.answers.Answer.{Answer}
use Rattle.nm_types.specs.declared.answers.Answer.TheVariants as answer
use Rattle.nm_types.specs.declared.scripts.Command.{Command}
use Rattle.nm_types.specs.declared.scripts.Command.TheVariants.{Send, Recv, Wait}
use Rattle.nm_types.specs.declared.scripts.Line.{Line}
use Rattle.nm_types.specs.Commands.{Numbered, command_at, commands_of}
use Rattle.nm_types.specs.Sizes.{Sizes}
use Rattle.nm_history.specs.Sends.{sent_bytes}
use Rattle.nm_report.specs.Report.{answer_line, waits_line, cells_line, end_line}
use Rattle.nm_report.specs.Told.{RankTold, Told}
use Rattle.nm_sure.specs.Channels.{Channel, receive_channel, send_for}
use Rattle.nm_sure.specs.Names.{holder}
use Rattle.nm_sure.specs.Plain.{next_of, plain_end, ran_of}

-- what a receive of this capacity shows of a send
abbrev pub shown_of : Channel → ℕ → List ℕ → Answer
shown_of k cap body =
    if nat_lt cap (length body) then answer.Cut k.from k.tag (length body)
    else answer.Got k.from k.tag body

-- what the request of a start ends with
abbrev pub result_by : List Line → ℕ → ℕ → Command → Answer
result_by lines rank line (Send to q tag ctx sync body) = answer.Sent
result_by lines rank line (Recv q from tag ctx cap) =
    option_map_or (λ k. option_map_or (λ s. shown_of k cap (sent_bytes s.command))
    (send_for lines k line) answer.Null)
    (receive_channel rank (Recv q from tag ctx cap)) answer.Null
result_by lines rank line _ = answer.Null

-- what the request of the start at a line ends with
abbrev pub result_at : List Line → ℕ → ℕ → Answer
result_at lines rank line =
    option_map_or (result_by lines rank line) (command_at (commands_of rank lines) line) answer.Null

-- the answer of a start, by what its name stands for
abbrev pub start_answer : Option ℕ → Answer
start_answer held = if is_none held then answer.Started else answer.Busy

-- the answer of a command behind those before it
abbrev pub plain_answer : List Line → ℕ → List Numbered → Command → Answer
plain_answer lines rank before (Send to q tag ctx sync body) = start_answer (holder before q)
plain_answer lines rank before (Recv q from tag ctx cap) = start_answer (holder before q)
plain_answer lines rank before (Wait q) =
    option_map_or (result_at lines rank) (holder before q) answer.Null
plain_answer lines rank before _ = answer.Null

-- the answers of these commands, behind those before them
abbrev pub told_after : List Line → ℕ → List Numbered → List Numbered → List Told
told_after lines rank before [] = []
told_after lines rank before (c ∷ commands) =
    record { line = c.line; answer = plain_answer lines rank before c.command }
    ∷ told_after lines rank (before ++ c ∷ []) commands

-- the answers of a rank
abbrev pub told_by_rank : List Line → List ℕ → ℕ → List Told
told_by_rank lines at rank = told_after lines rank [] (ran_of lines at rank)

-- the line of the command that a rank waits at
abbrev pub waits_at : List Line → List ℕ → ℕ → Option ℕ
waits_at lines at rank = option_map (λ c. c.line) (next_of lines at rank)

-- what a rank tells in a run that goes this far
abbrev pub rank_told : List Line → List ℕ → ℕ → RankTold
rank_told lines at rank = record { answers = told_by_rank lines at rank; waits = waits_at lines at rank }

-- what all ranks tell
abbrev pub told_at : List Line → List ℕ → List RankTold
told_at lines at = map (rank_told lines at) (range_with_len 0 (length at))

-- the lines of a rank
abbrev pub rank_text : List Line → List ℕ → ℕ → List ℕ
rank_text lines at rank =
    flat_map (λ told. answer_line rank told.line told.answer) (told_by_rank lines at rank)
    ++ waits_line rank (waits_at lines at rank)

-- every rank is at its end
abbrev pub are_at_end : List Line → List ℕ → Bool
are_at_end lines at =
    list_all (λ rank. is_none (next_of lines at rank)) (range_with_len 0 (length at))

-- the report of a run that goes this far
abbrev pub text_at : Sizes → List Line → List ℕ → List ℕ
text_at shape lines at =
    flat_map (rank_text lines at) (range_with_len 0 (length at))
    ++ (cells_line (record { total = shape.ranks * shape.cells; home = shape.ranks * shape.cells })
    ++ end_line (are_at_end lines at))

-- the report of the plain run
unfoldable pub plain_text : Sizes → List Line → List ℕ
plain_text shape lines = text_at shape lines (plain_end shape.eager shape.ranks lines)

-- what the plain run tells, by rank
unfoldable pub plain_told : Sizes → List Line → List RankTold
plain_told shape lines = told_at lines (plain_end shape.eager shape.ranks lines)

-- the plain run gets every rank to its end
unfoldable pub plain_done : Sizes → List Line → Bool
plain_done shape lines = are_at_end lines (plain_end shape.eager shape.ranks lines)
