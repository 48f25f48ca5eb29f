-- How the program ends: what was said, with which status.
use Rattle.std.specs.Prelude.{◌≡◌, ℕ, ◌-◌, ◌≤◌, ◌⊎◌, true, List, Contains, Option, Some, slice_get}
use Rattle.nm_outside.specs.Told.{Appends}
use Rattle.nm_types.specs.declared.scripts.Line.{Line}
use Rattle.nm_types.specs.Sizes.{Sizes}
use Rattle.nm_report.specs.declared.records.RunRecord.{RunRecord}
use Rattle.nm_report.specs.Lawful.{IsRunIn}
use Rattle.nm_script.specs.declared.faults.Kind.{Kind}
use Rattle.nm_script.specs.Rules.{IsFirstFault}
use Rattle.nm_script.specs.Spelled.{IsTextOf}
use Rattle.nm_script.specs.FaultTexts.{fault_text}
use Rattle.nm_outcomes.specs.Outcomes.{AreOutcomes}
use Rattle.nm_hangs.specs.Found.{HasNoHang, IsHangTrace}
use Rattle.nm_listed.specs.Finding.{HasFewer, IsOutcomeTrace}
use Rattle.nm_listed.specs.Places.{IsFirstNew}
use Rattle.nm_listed.specs.declared.places.Place.TheVariants.{At, Not}
use Rattle.nm_outcomes_top.specs.declared.words.Asked.{Asked}
use Rattle.nm_outcomes_top.specs.declared.words.Question.{Question}
use Rattle.nm_outcomes_top.specs.declared.words.Question.TheVariants.{All, Trace, Among, Either, Hangs}
use Rattle.nm_outcomes_top.specs.Answers.{IsInputOf, IsOver, listed_status, read_of, traced_status}
use Rattle.nm_outcomes_top.specs.Texts.{fewer_text, joined_text, no_hang_text, outcomes_text, over_text, place_text}
use Rattle.nm_variants.specs.Reports.{AreVariantOutcomes}
use Rattle.nm_variants.specs.Variants.{IsVariant, variants}
use Rattle.nm_outcomes_top.specs.OptionWords.{sizes_for}

-- the bytes spell no script, and their first fault was said
pub record IsRefused (asked : Asked) (old new : Option (List ℕ)) (bytes : List ℕ) : Type 0 where
  pub script : List ℕ
  pub report : List ℕ
  pub input : IsInputOf asked.question (read_of asked.question bytes) script report
  pub line : ℕ
  pub kind : Kind
  pub first : IsFirstFault script line kind
  pub said : Appends old new (fault_text line kind)

-- the bytes spell this script, and give this report where one is asked of
pub record IsGiven (asked : Asked) (bytes : List ℕ) : Type 0 where
  pub script : List ℕ
  pub report : List ℕ
  pub input : IsInputOf asked.question (read_of asked.question bytes) script report
  pub ranks : ℕ
  pub lines : List Line
  pub spelled : IsTextOf script ranks lines

-- The bytes spell a script, and it was said that there are too many states or bytes. So it is: moves lead from the
-- first state to more states than the words allow, or all reports that the script can have have too many bytes; or so
-- it is with its variants, where each standard send may wait.
pub record IsOutgrown (asked : Asked) (old new : Option (List ℕ)) (bytes : List ℕ) : Type 0 where
  pub given : IsGiven asked bytes
  pub cause : IsOver asked (sizes_for asked given.ranks) given.lines
  pub said : Appends old new (over_text asked.question asked.states)

-- The bytes spell a script, and all reports that its runs in these sizes can have were written, each once. The
-- status is 1 exactly where one of them is stuck.
pub record IsListed (asked : Asked) (status : ℕ) (old new : Option (List ℕ)) (bytes : List ℕ) : Type 0 where
  pub given : IsGiven asked bytes
  pub texts : List (List ℕ)
  pub reports : AreOutcomes (sizes_for asked given.ranks) given.lines texts
  pub ended : status ≡ listed_status texts
  pub said : Appends old new (outcomes_text texts)

-- The bytes spell a script, and all reports of its runs were written where each of its standard sends, of at most as many
-- bytes as the eager limit, is buffered or waits for its receive by itself (MPI 3.1, 3.4), each report once; before them
-- how many variants that makes. The status is 1 exactly where one of them is stuck.
pub record IsEitherListed (asked : Asked) (status : ℕ) (old new : Option (List ℕ)) (bytes : List ℕ) : Type 0 where
  pub given : IsGiven asked bytes
  pub texts : List (List ℕ)
  pub reports : AreVariantOutcomes (sizes_for asked given.ranks) given.lines texts
  pub ended : status ≡ listed_status texts
  pub said : Appends old new (joined_text (variants asked.eager given.lines) texts)

-- no run hangs, whichever of the standard sends wait that have at most as many bytes as the eager limit
abbrev pub NeverHangs : Sizes → List Line → Type 0
NeverHangs shape lines =
    (variant : List Line) → IsVariant shape.eager lines variant → (run : RunRecord) → IsRunIn shape variant run →
    run.done ≡ true

-- the bytes spell a script, and so it is with it
pub record IsSafe (asked : Asked) (bytes : List ℕ) : Type 0 where
  pub given : IsGiven asked bytes
  pub never : NeverHangs (sizes_for asked given.ranks) given.lines

-- The bytes spell a script, and the trace of a lawful run was written whose report has this number among all reports
-- that it can have. The status is 1 exactly where that report is stuck.
pub record IsTraceSaid (asked : Asked) (number status : ℕ) (old new : Option (List ℕ)) (bytes : List ℕ)
    : Type 0 where
  pub given : IsGiven asked bytes
  pub trace : List ℕ
  pub one : IsOutcomeTrace (sizes_for asked given.ranks) given.lines number trace
  pub ended : status ≡ traced_status trace
  pub said : Appends old new trace

-- the bytes spell a script, and it was said that it has fewer reports than this number, and how many
pub record IsFewerSaid (asked : Asked) (number : ℕ) (old new : Option (List ℕ)) (bytes : List ℕ) : Type 0 where
  pub given : IsGiven asked bytes
  pub count : ℕ
  pub fewer : HasFewer (sizes_for asked given.ranks) given.lines number count
  pub said : Appends old new (fewer_text number count)

-- the given report is one of all that the script can have, and its number was said
pub record IsAmong (asked : Asked) (old new : Option (List ℕ)) (bytes : List ℕ) : Type 0 where
  pub given : IsGiven asked bytes
  pub texts : List (List ℕ)
  pub outcomes : AreOutcomes (sizes_for asked given.ranks) given.lines texts
  pub number : ℕ
  pub some : 1 ≤ number
  pub there : slice_get texts (number - 1) ≡ Some given.report
  pub said : Appends old new (place_text (At number))

-- The given report is none of all that the script can have, and it was said which line of it is the first that none of
-- them has behind the lines before it.
pub record IsNotAmong (asked : Asked) (old new : Option (List ℕ)) (bytes : List ℕ) : Type 0 where
  pub given : IsGiven asked bytes
  pub texts : List (List ℕ)
  pub outcomes : AreOutcomes (sizes_for asked given.ranks) given.lines texts
  pub none : ¬ (Contains texts given.report)
  pub line : ℕ
  pub first : IsFirstNew texts given.report line
  pub said : Appends old new (place_text (Not line))

-- the bytes spell a script, and the trace of a lawful run of it was written that hangs
pub record IsHangSaid (asked : Asked) (old new : Option (List ℕ)) (bytes : List ℕ) : Type 0 where
  pub given : IsGiven asked bytes
  pub trace : List ℕ
  pub hangs : IsHangTrace (sizes_for asked given.ranks) given.lines trace
  pub said : Appends old new trace

-- the bytes spell a script, no lawful run of it hangs, and that was said
pub record IsNoHangSaid (asked : Asked) (old new : Option (List ℕ)) (bytes : List ℕ) : Type 0 where
  pub given : IsGiven asked bytes
  pub none : HasNoHang (sizes_for asked given.ranks) given.lines
  pub said : Appends old new no_hang_text

-- the statuses at which it was said what was asked
abbrev pub Speaks : Question → ℕ → Type 0
Speaks All status = (status ≡ 0) ⊎ (status ≡ 1)
Speaks (Trace number) status = (status ≡ 0) ⊎ ((status ≡ 1) ⊎ (status ≡ 7))
Speaks Among status = (status ≡ 0) ⊎ (status ≡ 8)
Speaks Either status = (status ≡ 0) ⊎ (status ≡ 1)
Speaks Hangs status = (status ≡ 0) ⊎ (status ≡ 1)

-- .. of any question
abbrev pub IsSpoken : ℕ → Type 0
IsSpoken status = (status ≡ 0) ⊎ ((status ≡ 1) ⊎ ((status ≡ 7) ⊎ (status ≡ 8)))

-- the statuses that there are
abbrev pub IsStatus : ℕ → Type 0
IsStatus status =
    IsSpoken status ⊎ ((status ≡ 2) ⊎ ((status ≡ 3) ⊎ ((status ≡ 4)
    ⊎ ((status ≡ 5) ⊎ ((status ≡ 6) ⊎ ((status ≡ 9) ⊎ (status ≡ 10)))))))
