-- The two parts of what was read, and answers that are right.
use Rattle.std.proofs.Common.{◌≡◌, ◌≢◌, ℕ, inl, inr, List, Option, Some, None, refl, sym, ◌∙◌, subst}
use Rattle.std.specs.Option.{IfSome}
use Rattle.nm_types.specs.declared.scripts.Line.{Line}
use Rattle.nm_types.specs.Sizes.{Sizes}
use Rattle.nm_script.specs.Spelled.{IsTextOf}
use Rattle.nm_shell.specs.Inputs.{HasNoParts, IsInput}
use Rattle.nm_shell.proofs.PartLemmas.{no_input as no_parts}
use Rattle.nm_explored.specs.Met.{AreTooMany}
use Rattle.nm_listed.specs.Finding.{AreTooLong}
use Rattle.nm_outcomes_top.specs.declared.tellings.Telling.{Telling}
use Rattle.nm_outcomes_top.specs.OptionWords.{IsTaken, sizes_for}
use Rattle.nm_outcomes_top.specs.declared.words.Asked.{Asked}
use Rattle.nm_outcomes_top.specs.declared.words.Question.{Question}
use Rattle.nm_outcomes_top.specs.declared.words.Question.TheVariants.{All, Trace, Among, Either, Hangs}
use Rattle.nm_variants.specs.Reports.{HasTooManyStates, HaveTooManyBytes, IsUnion}
use Rattle.nm_variants.specs.declared.unions.Union.TheVariants as union
use Rattle.nm_outcomes_top.specs.declared.tellings.Telling.TheVariants.{Joined}
use Rattle.nm_outcomes_top.specs.Answers.{IsAnswer, IsAnswerFor, IsAnswerIn, IsAnswerOf, IsAnswerTo}
use Rattle.nm_outcomes_top.specs.Answers.{IsInputOf, IsOfReports, IsTelling, read_of}
use Rattle.nm_outcomes_top.specs.declared.answers.Response.{Response}
use Rattle.nm_outcomes_top.specs.declared.answers.Response.TheVariants.{NoReport, Outgrown, Refused, Told, Unread, Usage}

-- the bytes have one script and one report
pub one_input : (question : Question) (bytes script report s r : List ℕ) → IsInputOf question bytes script report →
    IsInputOf question bytes s r → (script ≡ s) × (report ≡ r)
one_input All bytes script report s r one other = (one.0 ∙ sym other.0, one.1 ∙ sym other.1)
one_input (Trace n) bytes script report s r one other = (one.0 ∙ sym other.0, one.1 ∙ sym other.1)
one_input Either bytes script report s r one other = (one.0 ∙ sym other.0, one.1 ∙ sym other.1)
one_input Hangs bytes script report s r one other = (one.0 ∙ sym other.0, one.1 ∙ sym other.1)
one_input Among bytes script report s r one other =
    let same = one.cut.only s r other.cut.cut in
    (sym same.0, sym same.1)

-- where a report is asked of and none is given, the bytes have no parts
pub no_input : (question : Question) → question ≡ Among → (bytes script report : List ℕ) → HasNoParts bytes →
    IsInputOf question bytes script report → ⊥
no_input question is bytes script report none parts =
    no_parts bytes script report none (subst (λ (q : Question). IsInputOf q bytes script report) is parts)

-- an answer to the bytes that were read is one to the source
pub answered : (asked : Asked) (input : Option (List ℕ)) (old new : ℕ) (bytes : List ℕ) →
    IfSome input (λ all. bytes ≡ read_of asked.question all) → (answer : Response) → IsAnswerTo asked bytes answer →
    IsAnswerOf asked input old new answer
answered asked input old new bytes read Usage h = absurd h
answered asked input old new bytes read Unread h = absurd h
answered asked None old new bytes read NoReport h = tt
answered asked (Some all) old new bytes read NoReport h =
    subst (λ (b : List ℕ). IsAnswerTo asked b NoReport) read h
answered asked None old new bytes read (Refused n k) h = tt
answered asked (Some all) old new bytes read (Refused n k) h =
    subst (λ (b : List ℕ). IsAnswerTo asked b (Refused n k)) read h
answered asked None old new bytes read (Outgrown q s) h = tt
answered asked (Some all) old new bytes read (Outgrown q s) h =
    subst (λ (b : List ℕ). IsAnswerTo asked b (Outgrown q s)) read h
answered asked None old new bytes read (Told t) h = tt
answered asked (Some all) old new bytes read (Told t) h =
    subst (λ (b : List ℕ). IsAnswerTo asked b (Told t)) read h

-- an answer for a script that is spelled is one to its text
pub answered_in : (asked : Asked) (script report : List ℕ) (ranks : ℕ) (lines : List Line) →
    IsTextOf script ranks lines → (answer : Response) → IsAnswerFor asked ranks lines report answer →
    IsAnswerIn asked script report answer
answered_in asked script report ranks lines spelled Usage h = absurd h
answered_in asked script report ranks lines spelled Unread h = absurd h
answered_in asked script report ranks lines spelled NoReport h = absurd h
answered_in asked script report ranks lines spelled (Refused n k) h = absurd h
answered_in asked script report ranks lines spelled (Outgrown q s) h =
    record { ranks = ranks; lines = lines; spelled = spelled; right = h }
answered_in asked script report ranks lines spelled (Told t) h =
    record { ranks = ranks; lines = lines; spelled = spelled; right = h }

-- an answer to the parts of the bytes is one to the bytes
pub answered_to : (asked : Asked) (bytes script report : List ℕ) → IsInputOf asked.question bytes script report →
    (answer : Response) → IsAnswerIn asked script report answer → IsAnswerTo asked bytes answer
answered_to asked bytes script report parts Usage h = absurd h
answered_to asked bytes script report parts Unread h = absurd h
answered_to asked bytes script report parts NoReport h = absurd h
answered_to asked bytes script report parts (Refused n k) h =
    record { script = script; report = report; input = parts; right = h }
answered_to asked bytes script report parts (Outgrown q s) h =
    record { script = script; report = report; input = parts; right = h }
answered_to asked bytes script report parts (Told t) h =
    record { script = script; report = report; input = parts; right = h }

-- the parts of bytes for each question
pub input_among : (question : Question) (bytes script report : List ℕ) → question ≡ Among →
    IsInput bytes script report → IsInputOf question bytes script report
input_among question bytes script report is parts =
    subst (λ (q : Question). IsInputOf q bytes script report) (sym is) parts

-- an answer to words that are taken is right
pub answered_words : (words : List (List ℕ)) (input : Option (List ℕ)) (old new : ℕ) (asked : Asked) →
    IsTaken words asked → ((other : Asked) → IsTaken words other → other ≡ asked) → (answer : Response) →
    IsAnswerOf asked input old new answer → IsAnswer words input old new answer
answered_words words input old new asked taken only Usage h = absurd h
answered_words words input old new asked taken only Unread h =
    record { asked = asked; taken = taken; only = only; right = h }
answered_words words input old new asked taken only NoReport h =
    record { asked = asked; taken = taken; only = only; right = h }
answered_words words input old new asked taken only (Refused n k) h =
    record { asked = asked; taken = taken; only = only; right = h }
answered_words words input old new asked taken only (Outgrown q s) h =
    record { asked = asked; taken = taken; only = only; right = h }
answered_words words input old new asked taken only (Told t) h =
    record { asked = asked; taken = taken; only = only; right = h }

-- what was found is one thing, or none
pub one_of : (found : Option Asked) (a b : Asked) → found ≡ Some a → found ≡ Some b → a ≡ b
one_of found a b p q = let both : Some a ≡ Some b = sym p ∙ q in cc

pub no_line : (found : Option Asked) (a : Asked) → found ≡ None → found ≡ Some a → ⊥
no_line found a none some = let both : None ≡ Some a = sym none ∙ some in cc

-- the search for all reports does not answer where each standard send may wait
not_either : (question : Question) → IsOfReports question → question ≢ Either
not_either question listed is = subst IsOfReports is listed

-- .. it answers all but two questions
pub of_reports : (question : Question) → question ≢ Either → question ≢ Hangs → IsOfReports question
of_reports All one other = tt
of_reports (Trace n) one other = tt
of_reports Among one other = tt
of_reports Either one other = absurd (one refl)
of_reports Hangs one other = absurd (other refl)

-- the causes of an answer that there are too many
pub outgrown_long : (asked : Asked) (ranks : ℕ) (lines : List Line) (report : List ℕ) (shape : Sizes) →
    IsOfReports asked.question → shape ≡ sizes_for asked ranks → AreTooLong shape lines →
    IsAnswerFor asked ranks lines report (Outgrown asked.question asked.states)
outgrown_long asked ranks lines report shape listed same long = (
  refl,
  refl,
  inl (not_either asked.question listed, inr (subst (λ (s : Sizes). AreTooLong s lines) same long)),
)

many : (asked : Asked) (ranks : ℕ) (lines : List Line) (report : List ℕ) (shape : Sizes) →
    asked.question ≢ Either → shape ≡ sizes_for asked ranks →
    AreTooMany shape.eager shape.ranks lines asked.states →
    IsAnswerFor asked ranks lines report (Outgrown asked.question asked.states)
many asked ranks lines report shape one same more =
    (refl, refl, inl (one, inl (subst (λ (s : Sizes). AreTooMany s.eager s.ranks lines asked.states) same more)))

pub outgrown_many : (asked : Asked) (ranks : ℕ) (lines : List Line) (report : List ℕ) (shape : Sizes) →
    IsOfReports asked.question → shape ≡ sizes_for asked ranks →
    AreTooMany shape.eager shape.ranks lines asked.states →
    IsAnswerFor asked ranks lines report (Outgrown asked.question asked.states)
outgrown_many asked ranks lines report shape listed same more =
    many asked ranks lines report shape (not_either asked.question listed) same more

-- what was found of hangs is an answer
hangs_not_either : (question : Question) → question ≡ Hangs → question ≢ Either
hangs_not_either question is either = let both : Hangs ≡ Either = sym is ∙ either in cc

pub hangs_told : (asked : Asked) (ranks : ℕ) (lines : List Line) (report : List ℕ) (shape : Sizes) (t : Telling) →
    asked.question ≡ Hangs → shape ≡ sizes_for asked ranks → IsTelling Hangs shape lines report t →
    IsTelling asked.question (sizes_for asked ranks) lines report t
hangs_told asked ranks lines report shape t is same right =
    subst (λ (q : Question). IsTelling q (sizes_for asked ranks) lines report t) (sym is)
    (subst (λ (s : Sizes). IsTelling Hangs s lines report t) same right)

pub hangs_many : (asked : Asked) (ranks : ℕ) (lines : List Line) (report : List ℕ) (shape : Sizes) →
    asked.question ≡ Hangs → shape ≡ sizes_for asked ranks → AreTooMany shape.eager shape.ranks lines asked.states →
    IsAnswerFor asked ranks lines report (Outgrown asked.question asked.states)
hangs_many asked ranks lines report shape is same more =
    many asked ranks lines report shape (hangs_not_either asked.question is) same more

-- what was found of all variants is an answer
pub joined_told : (asked : Asked) (ranks : ℕ) (lines : List Line) (report : List ℕ) (shape : Sizes)
    (texts : List (List ℕ)) (count : ℕ) → asked.question ≡ Either → shape ≡ sizes_for asked ranks →
    IsUnion shape lines asked.states (union.All texts count) →
    IsAnswerFor asked ranks lines report (Told (Joined texts count))
joined_told asked ranks lines report shape texts count is same found =
    subst (λ (q : Question). IsTelling q (sizes_for asked ranks) lines report (Joined texts count)) (sym is)
    (subst (λ (s : Sizes). IsUnion s lines asked.states (union.All texts count)) same found)

pub joined_many : (asked : Asked) (ranks : ℕ) (lines : List Line) (report : List ℕ) (shape : Sizes) →
    asked.question ≡ Either → shape ≡ sizes_for asked ranks → IsUnion shape lines asked.states union.TooMany →
    IsAnswerFor asked ranks lines report (Outgrown asked.question asked.states)
joined_many asked ranks lines report shape is same more =
    (refl, refl, inr (is, inl (subst (λ (s : Sizes). HasTooManyStates s lines asked.states) same more)))

pub joined_long : (asked : Asked) (ranks : ℕ) (lines : List Line) (report : List ℕ) (shape : Sizes) →
    asked.question ≡ Either → shape ≡ sizes_for asked ranks → IsUnion shape lines asked.states union.TooLong →
    IsAnswerFor asked ranks lines report (Outgrown asked.question asked.states)
joined_long asked ranks lines report shape is same long =
    (refl, refl, inr (is, inr (subst (λ (s : Sizes). HaveTooManyBytes s lines) same long)))
