-- What the lines of the answers tell, one by one.
use Rattle.std.specs.Prelude.{ℕ, ◌+◌, ◌-◌, ◌==◌, ◌&&◌, Bool, false, is_some, not, nat_lt, if◌then◌else◌}
use Rattle.std.specs.Prelude.{Option, Some, None, List, [], ◌∷◌, Result, Ok, Err, length, option_and_then, replicate}
use Rattle.std.specs.List.{slice_get, slice_set}
use Rattle.std.specs.Option.{option_map_or}
use Rattle.nm_types.specs.declared.answers.Answer.{Answer}
use Rattle.nm_types.specs.declared.scripts.Line.{Line}
use Rattle.nm_script.specs.Lines.{lines_of}
use Rattle.nm_lawful.specs.Moves.{Report}
use Rattle.nm_lawful_top.specs.declared.items.Item.{Item}
use Rattle.nm_lawful_top.specs.declared.items.Told.{Told}
use Rattle.nm_lawful_top.specs.declared.items.Told.TheVariants.{Answers, Waits}
use Rattle.nm_lawful_top.specs.declared.readings.Added.{Added}
use Rattle.nm_lawful_top.specs.declared.readings.Added.TheVariants.{No, Yes}
use Rattle.nm_lawful_top.specs.declared.readings.Lines.{Lines}
use Rattle.nm_lawful_top.specs.declared.readings.Lines.TheVariants.{Bad, Read}
use Rattle.nm_lawful_top.specs.declared.words.Cuts.{Cuts}
use Rattle.nm_lawful_top.specs.Items.{item_of}

-- it is there, and nothing is said of it
abbrev pub is_free_lem : {X : Type 0} → List (Option X) → ℕ → Bool
is_free_lem {X} all at = option_map_or (λ (o : Option X). not (is_some o)) (slice_get all at) false

-- the place of a line, if it is one of the rank
abbrev pub line_place : List Line → ℕ → ℕ → Option ℕ
line_place lines rank line =
    if nat_lt line 2 then None
    else option_and_then (λ l. if l.rank == rank then Some (line - 2) else None) (slice_get lines (line - 2))

-- a rank waits at a place, of which that is not said before
abbrev pub waited_by : ℕ → ℕ → Report → Option Report
waited_by rank place told =
    if is_free_lem told.waits rank
    then Some (record { said = told.said; waits = slice_set told.waits rank (Some place) }) else None

-- the line at a place, of a rank that doesn't wait, answered so, and has no answer before
abbrev pub answered_by : ℕ → ℕ → ℕ → Answer → Report → Option Report
answered_by number rank place answer told =
    if is_free_lem told.waits rank && is_free_lem told.said place
    then Some (record {
      said = slice_set told.said place (Some (record { at = number; answer = answer }));
      waits = told.waits;
    })
    else None

-- .. by what a line tells
abbrev pub told_by : ℕ → ℕ → ℕ → Told → Report → Option Report
told_by number rank place Waits told = waited_by rank place told
told_by number rank place (Answers answer) told = answered_by number rank place answer told

-- .. of a line of the script
abbrev pub added_by : List Line → ℕ → Item → Report → Option Report
added_by lines number item told =
    option_and_then (λ place. told_by number item.rank place item.told told) (line_place lines item.rank item.line)

-- a line more
abbrev pub line_by : Cuts → List Line → ℕ → List ℕ → Report → Option Report
line_by cuts lines number line told =
    option_and_then (λ item. added_by lines number item told) (item_of cuts line)

-- what is told behind these lines, of which the first has this number, and how many they are; or the number, from 1, of
-- the first one that tells nothing
abbrev pub read_from : Cuts → List Line → List (List ℕ) → ℕ → Report → Result (Report × ℕ) ℕ
read_from cuts lines [] number told = Ok (told, number)
read_from cuts lines (line ∷ rest) number told =
    option_map_or (λ next. read_from cuts lines rest (number + 1) next) (line_by cuts lines number line told)
    (Err (number + 1))

-- nothing is told of so many lines and ranks
abbrev pub no_report : ℕ → ℕ → Report
no_report lines ranks = record { said = replicate lines None; waits = replicate ranks None }

-- what a text tells
abbrev pub reading_of : Cuts → ℕ → List Line → List ℕ → Result (Report × ℕ) ℕ
reading_of cuts ranks lines text = read_from cuts lines (lines_of text) 0 (no_report (length lines) ranks)

-- what is told now, if a line was added
abbrev pub added_as : Added → Report → Option Report
added_as Yes told = Some told
added_as No told = None

-- .. if all lines were
abbrev pub read_as : Lines → Report → Result (Report × ℕ) ℕ
read_as (Read count) told = Ok (told, count)
read_as (Bad line) told = Err line
