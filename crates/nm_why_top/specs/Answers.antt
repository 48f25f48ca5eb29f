-- What the program answers: a text and a status.
use Rattle.std.specs.Prelude.{◌≡◌, ◌++◌, ℕ, true, false, List, [], ◌∷◌, Contains, Option, Some, None}
use Rattle.std.specs.Prelude.{IfSome, codes, length, take}
use Rattle.std.specs.List.{slice_get}
use Rattle.nm_outside.specs.Told.{Rose}
use Rattle.nm_types.specs.declared.scripts.Line.{Line}
use Rattle.nm_types.specs.Sizes.{Sizes}
use Rattle.nm_script.specs.Rules.{IsFirstFault}
use Rattle.nm_script.specs.Spelled.{IsTextOf}
use Rattle.nm_script.specs.FaultTexts.{fault_text}
use Rattle.nm_shell.specs.Done.{Ending, IsSaid, unread}
use Rattle.nm_outcomes.specs.Outcomes.{AreOutcomes}
use Rattle.nm_outcomes.specs.RankStates.{Spot}
use Rattle.nm_explored.specs.declared.choices.moves.Turn.{Turn}
use Rattle.nm_explored.specs.declared.ends.End.{End}
use Rattle.nm_explored.specs.Ends.{all_told, told_at_end}
use Rattle.nm_explored.specs.Rests.{AreAtRest}
use Rattle.nm_search.specs.Lists.{Has}
use Rattle.nm_explored.specs.Met.{IsWay}
use Rattle.nm_outcomes_top.specs.Answers.{IsOutgrowing}
use Rattle.nm_outcomes_top.specs.OptionWords.{IsTaken, sizes_for}
use Rattle.nm_outcomes_top.specs.Texts.{numbers_line, outgrown_text, stuck_count}
use Rattle.nm_outcomes_top.specs.declared.words.Asked.{Asked}
use Rattle.nm_outcomes_top.specs.declared.words.Question.TheVariants.{All}
use Rattle.nm_waits.specs.declared.waits.Wait.{Wait}
use Rattle.nm_waits.specs.Chains.{IsChain}
use Rattle.nm_waits.specs.Waits.{waits_of}
use Rattle.nm_why.specs.declared.changes.Change.{Change}
use Rattle.nm_why.specs.Candidates.{IsSingle}
use Rattle.nm_why.specs.Cures.{AreCures}
use Rattle.nm_why.specs.Hangs.{CanHang, Does, is_hung}
use Rattle.nm_why.specs.Least.{IsLeast}
use Rattle.nm_why_top.specs.declared.answers.Count.{Count}
use Rattle.nm_why_top.specs.declared.answers.Count.TheVariants.{All as AllCounted, Many}
use Rattle.nm_why_top.specs.declared.answers.Response.{Response}
use Rattle.nm_why_top.specs.declared.answers.Response.TheVariants.{Outgrown, Refused, Told, Unread, Usage}
use Rattle.nm_why_texts.specs.declared.whys.Why.{Why}
use Rattle.nm_why_texts.specs.Texts.{why_text}

-- the words ask for no more than sizes and a number of states
abbrev pub IsAsked : List (List ℕ) → Asked → Type 0
IsAsked words asked = IsTaken words asked × (asked.question ≡ All)

-- words that are not taken
abbrev pub NotAsked : List (List ℕ) → Type 0
NotAsked words = (asked : Asked) → ¬ (IsAsked words asked)

-- Moves lead to these states, nothing can happen any more, and a rank waits. So it is at the end of a lawful run.
pub record IsStuck (shape : Sizes) (lines : List Line) (states : List Spot) : Type 0 where
  pub path : List Turn
  pub way : IsWay shape.eager shape.ranks lines path states
  pub rest : AreAtRest shape.ranks lines (λ i. slice_get states i)
  pub hung : is_hung (all_told lines (λ i. slice_get states i) shape.ranks) ≡ true

-- no rank waits at any of these ends
abbrev pub NoneHangs : List End → Type 0
NoneHangs ends = (end : End) → Has ends end → is_hung (told_at_end end) ≡ false

-- ranks of which each waits for the next one, from the first that waits
abbrev pub IsChainOf : List Wait → List ℕ → Type 0
IsChainOf [] ranks = ranks ≡ []
IsChainOf (wait ∷ waits) ranks = IsChain (wait ∷ waits) wait.rank ranks

-- The states are stuck, and the ranks wait so. The script does what its least part still does, and it is a least one.
-- Each single change of the script was tried, and those that are told to be cures are.
pub record IsWhy (shape : Sizes) (lines : List Line) (why : Why) : Type 0 where
  pub stuck : IsStuck shape lines why.states.items
  pub waits : why.waits.items ≡ waits_of lines why.states.items
  pub chain : IsChainOf why.waits.items why.chain.items
  pub does : Does why.aim shape lines
  pub least : IsLeast why.aim shape lines why.least
  pub tried : (change : Change) → IsSingle shape.ranks lines change → Contains why.tried.items change
  pub cures : AreCures shape lines why.tried.items why.cures

-- why a script can hang, or that it can't
abbrev pub IsExplained : Sizes → List Line → Option Why → Type 0
IsExplained shape lines (Some why) = IsWhy shape lines why
IsExplained shape lines None = ¬ (CanHang shape lines)

-- these are the numbers of all reports that the script can have, and of those that are stuck
abbrev pub AreCounted : Sizes → List Line → ℕ → ℕ → Type 0
AreCounted shape lines reports stuck =
    (texts : List (List ℕ)) × AreOutcomes shape lines texts × (reports ≡ length texts) × (stuck ≡ stuck_count texts)

-- .. or they outgrow the list
abbrev pub IsCounted : Asked → Sizes → List Line → Count → Type 0
IsCounted asked shape lines (AllCounted reports stuck) = AreCounted shape lines reports stuck
IsCounted asked shape lines Many = IsOutgrowing asked shape lines

-- an answer for a script is right
abbrev pub IsAnswerFor : Asked → ℕ → List Line → Response → Type 0
IsAnswerFor asked ranks lines (Told count commands why) =
    IsCounted asked (sizes_for asked ranks) lines count
    × ((commands ≡ length lines) × IsExplained (sizes_for asked ranks) lines why)
IsAnswerFor asked ranks lines (Outgrown states) =
    (states ≡ asked.states) × IsOutgrowing asked (sizes_for asked ranks) lines
IsAnswerFor asked ranks lines _ = ⊥

-- the text of a script has this answer
pub record IsSpelled (asked : Asked) (script : List ℕ) (answer : Response) : Type 0 where
  pub ranks : ℕ
  pub lines : List Line
  pub spelled : IsTextOf script ranks lines
  pub right : IsAnswerFor asked ranks lines answer

-- an answer to the bytes that were read is right
abbrev pub IsAnswerIn : Asked → List ℕ → Response → Type 0
IsAnswerIn asked script Usage = ⊥
IsAnswerIn asked script Unread = ⊥
IsAnswerIn asked script (Refused line kind) = IsFirstFault script line kind
IsAnswerIn asked script answer = IsSpelled asked script answer

-- an answer to words that are taken is right: by the bytes of the source where it tells them, and by its count of
-- faults before and after
abbrev pub IsAnswerOf : Asked → Option (List ℕ) → ℕ → ℕ → Response → Type 0
IsAnswerOf asked input old new Usage = ⊥
IsAnswerOf asked input old new Unread = Rose old new
IsAnswerOf asked input old new answer = IfSome input (λ bytes. IsAnswerIn asked (take 8388609 bytes) answer)

-- the words ask for one thing, and this is a right answer to them
pub record IsAnswerToWords (words : List (List ℕ)) (input : Option (List ℕ)) (old new : ℕ)
    (answer : Response) : Type 0 where
  pub asked : Asked
  pub taken : IsAsked words asked
  pub right : IsAnswerOf asked input old new answer

-- an answer is right
abbrev pub IsAnswer : List (List ℕ) → Option (List ℕ) → ℕ → ℕ → Response → Type 0
IsAnswer words input old new Usage = NotAsked words
IsAnswer words input old new answer = IsAnswerToWords words input old new answer

-- the status of what is told
abbrev pub why_status : Option Why → ℕ
why_status None = 0
why_status (Some why) = 1

-- what is said of reports that outgrow the list
abbrev pub many_line : Option Why → List ℕ
many_line None = codes "outcomes many stuck 0\n"
many_line (Some why) = codes "outcomes many stuck some\n"

-- the numbers of the reports
abbrev pub count_line : Count → Option Why → List ℕ
count_line (AllCounted reports stuck) why = numbers_line reports stuck
count_line Many why = many_line why

-- .. and why the script can hang, if it can
abbrev pub told_text : Count → ℕ → Option Why → List ℕ
told_text count commands None = count_line count None
told_text count commands (Some why) = count_line count (Some why) ++ why_text why commands

-- what is said of words that are not taken
abbrev pub usage : List ℕ
usage = codes "usage: why [--cells N] [--eager N] STATES <SCRIPT\n"

-- the text of an answer
abbrev pub text_of : Response → List ℕ
text_of Usage = usage
text_of Unread = unread
text_of (Refused line kind) = fault_text line kind
text_of (Outgrown states) = outgrown_text states
text_of (Told count commands why) = told_text count commands why

-- the status of an answer that was written
abbrev pub status_of : Response → ℕ
status_of Usage = 2
status_of Unread = 4
status_of (Refused line kind) = 3
status_of (Outgrown states) = 10
status_of (Told count commands why) = why_status why

-- it ends with this answer: it is right, and its text was written, whole and with its status, or the sink failed
pub record TellsWhy (e : Ending) (answer : Response) : Type 0 where
  pub right : IsAnswer e.words e.input e.read_old e.read_new answer
  pub said : IsSaid (text_of answer) (status_of answer) e.status e.before e.after (Rose e.write_old e.write_new)
