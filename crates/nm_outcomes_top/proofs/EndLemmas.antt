-- How the program ends, answer by answer.
use Rattle.std.proofs.Common.{◌≡◌, ℕ, ◌≤◌, ◌⊎◌, inl, inr, List, Option, Some, None, sym, ◌∙◌, subst, arith}
use Rattle.std.specs.Option.{IfSome}
use Rattle.nm_outside.specs.Told.{Appends, AppendsPart, Rose}
use Rattle.nm_types.specs.declared.scripts.Line.{Line}
use Rattle.nm_script.specs.declared.faults.Kind.{Kind}
use Rattle.nm_script.specs.Rules.{IsFirstFault}
use Rattle.nm_script.specs.Spelled.{IsTextOf}
use Rattle.nm_shell.specs.Done.{Ending, OrFails, OrUnwritten, unread}
use Rattle.nm_outcomes_top.specs.OptionWords.{IsTaken, NotTaken}
use Rattle.nm_outcomes_top.specs.declared.words.Asked.{Asked}
use Rattle.nm_outcomes_top.specs.declared.words.Question.TheVariants as question
use Rattle.nm_outcomes_top.specs.Answers.{IsAnswer, IsAnswerOf, IsAnswerTo, IsInputOf}
use Rattle.nm_outcomes_top.specs.Answers.{TellsOutcomes, read_of, status_of, text_of}
use Rattle.nm_outcomes_top.specs.Endings.{IsOutgrown, IsRefused, IsSpoken, IsStatus}
use Rattle.nm_shell.specs.Inputs.{HasNoParts}
use Rattle.nm_shell.proofs.FailLemmas.{to_fails}
use Rattle.nm_outcomes_top.specs.Endings.{Speaks}
use Rattle.nm_outcomes_top.specs.declared.words.Question.{Question}
use Rattle.nm_outcomes_top.specs.Texts.{no_report, over_text, usage}
use Rattle.nm_outcomes_top.specs.declared.answers.Response.{Response}
use Rattle.nm_outcomes_top.specs.declared.answers.Response.TheVariants.{NoReport, Outgrown, Refused, Told, Unread, Usage}
use Rattle.nm_outcomes_top.specs.declared.tellings.Telling.{Telling}
use Rattle.nm_outcomes_top.proofs.InputLemmas.{no_input, one_input}
use Rattle.nm_outcomes_top.proofs.TellingLemmas.{IsTold, not_told, speaks_of, spoken, telling_spoken}
use Rattle.nm_types.proofs.OptionLemmas.{if_all as always}

-- a script has no fault, and a text with a fault is no script
abbrev pub NotBoth : Type 0
NotBoth =
    (bytes : List ℕ) (ranks line : ℕ) (lines : List Line) (kind : Kind) →
    IsTextOf bytes ranks lines → IsFirstFault bytes line kind → ⊥

pub weaker : {X : Type 0} (input : Option X) (P Q : X → Type 0) → ((x : X) → P x → Q x) → IfSome input P →
    IfSome input Q
weaker None P Q h p = tt
weaker (Some x) P Q h p = h x p

-- the status of an answer is one of the statuses
status_of_answer : (answer : Response) (status : ℕ) → status ≡ status_of answer → IsStatus status
status_of_answer Usage status h = inr (inl h)
status_of_answer Unread status h = inr (inr (inr (inl h)))
status_of_answer NoReport status h = inr (inr (inr (inr (inr (inr (inl h))))))
status_of_answer (Refused n k) status h = inr (inr (inl h))
status_of_answer (Outgrown q s) status h = inr (inr (inr (inr (inr (inr (inr h))))))
status_of_answer (Told t) status h = inl (subst IsSpoken (sym h) (telling_spoken t))

-- no answer has status 5
no_five : (answer : Response) → 5 ≡ status_of answer → ⊥
no_five Usage h = cc
no_five Unread h = cc
no_five NoReport h = cc
no_five (Refused n k) h = cc
no_five (Outgrown q s) h = cc
no_five (Told t) h = not_told t 5 (inl (omega arith, omega arith)) h

module _ {s : Ending} where
  -- a status that is none of 5 was said whole
  whole : {answer : Response} → TellsOutcomes s answer → (k : ℕ) →
      s.status ≡ k → (k ≡ 5 → ⊥) → (k ≡ status_of answer) × Appends s.before s.after (text_of answer)
  whole e k h other = elim e.said [ inl p ↦ (sym h ∙ p.0, p.1) | inr p ↦ absurd (other (sym h ∙ p.0)) ]

  -- it is so, or a write failed
  or_fails : {P : Type 0} {answer : Response} → TellsOutcomes s answer → (s.status ≡ status_of answer → P) →
      OrUnwritten P s.status
  or_fails e make = elim e.said [ inl p ↦ inl (make p.0) | inr p ↦ inr (inl p.0) ]

  pub usage_is : (answer : Response) → TellsOutcomes s answer → s.status ≡ 2 →
      NotTaken s.words × Appends s.before s.after usage
  usage_is Usage e h = (e.right, (whole e 2 h (λ f. cc)).1)
  usage_is Unread e h = absurd (omega (arith, (whole e 2 h (λ f. cc)).0))
  usage_is NoReport e h = absurd (omega (arith, (whole e 2 h (λ f. cc)).0))
  usage_is (Refused n k) e h = absurd (omega (arith, (whole e 2 h (λ f. cc)).0))
  usage_is (Outgrown q n) e h = absurd (omega (arith, (whole e 2 h (λ f. cc)).0))
  usage_is (Told t) e h = absurd (not_told t 2 (inl (omega arith, omega arith)) (whole e 2 h (λ f. cc)).0)

  pub not_taken_is : (answer : Response) → TellsOutcomes s answer → NotTaken s.words →
      OrUnwritten (s.status ≡ 2) s.status
  not_taken_is Usage e none = or_fails e (λ h. h)
  not_taken_is Unread e none = absurd (none e.right.asked e.right.taken)
  not_taken_is NoReport e none = absurd (none e.right.asked e.right.taken)
  not_taken_is (Refused n k) e none = absurd (none e.right.asked e.right.taken)
  not_taken_is (Outgrown q n) e none = absurd (none e.right.asked e.right.taken)
  not_taken_is (Told t) e none = absurd (none e.right.asked e.right.taken)

  pub refused_is : (answer : Response) → TellsOutcomes s answer → (asked : Asked) → IsTaken s.words asked →
      s.status ≡ 3 →
      IfSome s.input (IsRefused asked s.before s.after)
  refused_is Usage e asked taken h = absurd (omega (arith, (whole e 3 h (λ f. cc)).0))
  refused_is Unread e asked taken h = absurd (omega (arith, (whole e 3 h (λ f. cc)).0))
  refused_is NoReport e asked taken h = absurd (omega (arith, (whole e 3 h (λ f. cc)).0))
  refused_is (Refused n k) e asked taken h =
      let said = (whole e 3 h (λ f. cc)).1 in
      let same : e.right.asked ≡ asked = sym (e.right.only asked taken) in
      subst (λ (a : Asked). IfSome s.input (IsRefused a s.before s.after)) same
      (weaker s.input _ _ (λ bytes p. record {
        script = p.script;
        report = p.report;
        input = p.input;
        line = n;
        kind = k;
        first = p.right;
        said = said;
      }) e.right.right)
  refused_is (Outgrown q n) e asked taken h = absurd (omega (arith, (whole e 3 h (λ f. cc)).0))
  refused_is (Told t) e asked taken h =
      absurd (not_told t 3 (inl (omega arith, omega arith)) (whole e 3 h (λ f. cc)).0)

  -- the words ask for one thing
  one_asked : (answer : Response) → TellsOutcomes s answer → (asked other : Asked) → IsTaken s.words asked →
      IsTaken s.words other → asked ≡ other
  one_asked Usage e asked other taken also = absurd (e.right asked taken)
  one_asked Unread e asked other taken also = e.right.only asked taken ∙ sym (e.right.only other also)
  one_asked NoReport e asked other taken also = e.right.only asked taken ∙ sym (e.right.only other also)
  one_asked (Refused n k) e asked other taken also = e.right.only asked taken ∙ sym (e.right.only other also)
  one_asked (Outgrown q n) e asked other taken also = e.right.only asked taken ∙ sym (e.right.only other also)
  one_asked (Told t) e asked other taken also = e.right.only asked taken ∙ sym (e.right.only other also)

  -- a source that failed was answered by 4 or 5
  unread_fails : {P : Type 0} → TellsOutcomes s Unread → OrFails P s.status
  unread_fails e = elim e.said [ inl p ↦ inr (inl p.0) | inr p ↦ inr (inr (inl p.0)) ]

  -- what the bytes are, for the words that are taken
  right_of : {answer : Response} → TellsOutcomes s answer → (asked : Asked) → IsTaken s.words asked → (other : Asked) →
      IsTaken s.words other →
      IsAnswerOf other s.input s.read_old s.read_new answer → IsAnswerOf asked s.input s.read_old s.read_new answer
  right_of {answer} e asked taken other also right =
      subst (λ (a : Asked). IsAnswerOf a s.input s.read_old s.read_new answer)
      (one_asked answer e other asked also taken) right

  pub refuses_is : NotBoth → (answer : Response) → TellsOutcomes s answer → (asked : Asked) → IsTaken s.words asked →
      IfSome s.input (λ bytes. (script report : List ℕ) (line : ℕ) (kind : Kind) →
      IsInputOf asked.question (read_of asked.question bytes) script report → IsFirstFault script line kind →
      OrFails (s.status ≡ 3) s.status)
  refuses_is law Usage e asked taken = absurd (e.right asked taken)
  refuses_is law Unread e asked taken =
      always s.input _ (λ bytes script report line kind parts first. unread_fails e)
  refuses_is law NoReport e asked taken =
      weaker s.input _ _ (λ bytes none script report line kind parts first.
      absurd (no_input asked.question none.0 _ script report none.1 parts))
      (right_of {answer = NoReport} e asked taken e.right.asked e.right.taken e.right.right)
  refuses_is law (Refused n k) e asked taken =
      always s.input _ (λ bytes script report line kind parts first. to_fails s.status (or_fails e (λ h. h)))
  refuses_is law (Outgrown q n) e asked taken =
      weaker s.input _ _ (λ bytes p script report line kind parts first.
      absurd (law script p.right.ranks line p.right.lines kind
      (subst (λ (text : List ℕ). IsTextOf text p.right.ranks p.right.lines)
      (one_input asked.question _ p.script p.report script report p.input parts).0 p.right.spelled) first))
      (right_of {answer = Outgrown q n} e asked taken e.right.asked e.right.taken e.right.right)
  refuses_is law (Told t) e asked taken =
      weaker s.input _ _ (λ bytes p script report line kind parts first.
      absurd (law script p.right.ranks line p.right.lines kind
      (subst (λ (text : List ℕ). IsTextOf text p.right.ranks p.right.lines)
      (one_input asked.question _ p.script p.report script report p.input parts).0 p.right.spelled) first))
      (right_of {answer = Told t} e asked taken e.right.asked e.right.taken e.right.right)

  -- what is told has a status of the question
  told_speaks : (t : Telling) → TellsOutcomes s (Told t) → (asked : Asked) →
      IfSome s.input (λ bytes. IsAnswerTo asked (read_of asked.question bytes) (Told t)) →
      IfSome s.input (λ bytes. (script report : List ℕ) (ranks : ℕ) (lines : List Line) →
      IsInputOf asked.question (read_of asked.question bytes) script report → IsTextOf script ranks lines →
      OrFails (Speaks asked.question s.status ⊎ (s.status ≡ 10)) s.status)
  told_speaks t e asked right =
      weaker s.input _ _ (λ bytes p script report ranks lines parts spelled.
      to_fails s.status (or_fails e (λ h. inl (subst (Speaks asked.question) (sym h)
      (speaks_of asked.question _ p.right.lines p.report t p.right.right))))) right

  pub tells_is : NotBoth → (answer : Response) → TellsOutcomes s answer → (asked : Asked) → IsTaken s.words asked →
      IfSome s.input (λ bytes. (script report : List ℕ) (ranks : ℕ) (lines : List Line) →
      IsInputOf asked.question (read_of asked.question bytes) script report → IsTextOf script ranks lines →
      OrFails (Speaks asked.question s.status ⊎ (s.status ≡ 10)) s.status)
  tells_is law Usage e asked taken = absurd (e.right asked taken)
  tells_is law Unread e asked taken =
      always s.input _ (λ bytes script report ranks lines parts spelled. unread_fails e)
  tells_is law NoReport e asked taken =
      weaker s.input _ _ (λ bytes none script report ranks lines parts spelled.
      absurd (no_input asked.question none.0 _ script report none.1 parts))
      (right_of {answer = NoReport} e asked taken e.right.asked e.right.taken e.right.right)
  tells_is law (Refused n k) e asked taken =
      weaker s.input _ _ (λ bytes p script report ranks lines parts spelled.
      absurd (law script ranks n lines k spelled
      (subst (λ (text : List ℕ). IsFirstFault text n k)
      (one_input asked.question _ p.script p.report script report p.input parts).0 p.right)))
      (right_of {answer = Refused n k} e asked taken e.right.asked e.right.taken e.right.right)
  tells_is law (Outgrown q n) e asked taken =
      always s.input _ (λ bytes script report ranks lines parts spelled. to_fails s.status (or_fails e (λ h. inr h)))
  tells_is law (Told t) e asked taken =
      told_speaks t e asked
      (right_of {answer = Told t} e asked taken e.right.asked e.right.taken e.right.right)

  -- a status at which it is said what was asked was said whole
  whole_spoken : {answer : Response} → TellsOutcomes s answer → IsSpoken s.status →
      (s.status ≡ status_of answer) × Appends s.before s.after (text_of answer)
  whole_spoken {answer} e speaks =
      elim e.said [ inl p ↦ p | inr p ↦ absurd (spoken s.status speaks 5 (inl (omega arith, omega arith)) p.0) ]

  -- such a status is no other answer's
  no_other : {answer : Response} → TellsOutcomes s answer → IsSpoken s.status →
      (((2 ≤ status_of answer) × (status_of answer ≤ 6)) ⊎ (9 ≤ status_of answer)) → ⊥
  no_other {answer} e speaks apart =
      spoken s.status speaks (status_of answer) apart (whole_spoken e speaks).0

  pub told_is : (answer : Response) → TellsOutcomes s answer → (asked : Asked) → IsTaken s.words asked →
      IsSpoken s.status →
      IfSome s.input (IsTold asked s.status s.before s.after)
  told_is Usage e asked taken h = absurd (no_other e h (inl (omega arith, omega arith)))
  told_is Unread e asked taken h = absurd (no_other e h (inl (omega arith, omega arith)))
  told_is NoReport e asked taken h = absurd (no_other e h (inr (omega arith)))
  told_is (Refused n k) e asked taken h = absurd (no_other e h (inl (omega arith, omega arith)))
  told_is (Outgrown q n) e asked taken h = absurd (no_other e h (inr (omega arith)))
  told_is (Told t) e asked taken h =
      let w = whole_spoken e h in
      weaker s.input _ _ (λ bytes p. record {
        given =
            record {
              script = p.script;
              report = p.report;
              input = p.input;
              ranks = p.right.ranks;
              lines = p.right.lines;
              spelled = p.right.spelled;
            };
        telling = t;
        right = p.right.right;
        ended = w.0;
        said = w.1;
      }) (right_of {answer = Told t} e asked taken e.right.asked e.right.taken e.right.right)

  pub no_report_is : (answer : Response) → TellsOutcomes s answer → (asked : Asked) → IsTaken s.words asked →
      s.status ≡ 9 →
      IfSome s.input (λ bytes. (asked.question ≡ question.Among) × HasNoParts (read_of asked.question bytes))
      × Appends s.before s.after no_report
  no_report_is Usage e asked taken h = absurd (omega (arith, (whole e 9 h (λ f. cc)).0))
  no_report_is Unread e asked taken h = absurd (omega (arith, (whole e 9 h (λ f. cc)).0))
  no_report_is NoReport e asked taken h = (
    right_of {answer = NoReport} e asked taken e.right.asked e.right.taken e.right.right,
    (whole e 9 h (λ f. cc)).1,
  )
  no_report_is (Refused n k) e asked taken h = absurd (omega (arith, (whole e 9 h (λ f. cc)).0))
  no_report_is (Outgrown q n) e asked taken h = absurd (omega (arith, (whole e 9 h (λ f. cc)).0))
  no_report_is (Told t) e asked taken h =
      absurd (not_told t 9 (inr (omega arith)) (whole e 9 h (λ f. cc)).0)

  pub outgrown_is : (answer : Response) → TellsOutcomes s answer → (asked : Asked) → IsTaken s.words asked →
      s.status ≡ 10 →
      IfSome s.input (IsOutgrown asked s.before s.after)
  outgrown_is Usage e asked taken h = absurd (omega (arith, (whole e 10 h (λ f. cc)).0))
  outgrown_is Unread e asked taken h = absurd (omega (arith, (whole e 10 h (λ f. cc)).0))
  outgrown_is NoReport e asked taken h = absurd (omega (arith, (whole e 10 h (λ f. cc)).0))
  outgrown_is (Refused n k) e asked taken h = absurd (omega (arith, (whole e 10 h (λ f. cc)).0))
  outgrown_is (Outgrown q n) e asked taken h =
      let w = whole e 10 h (λ f. cc) in
      weaker s.input _ _ (λ bytes p. record {
        given =
            record {
              script = p.script;
              report = p.report;
              input = p.input;
              ranks = p.right.ranks;
              lines = p.right.lines;
              spelled = p.right.spelled;
            };
        cause = p.right.right.2;
        said = subst (λ (q : Question). Appends s.before s.after (over_text q asked.states)) p.right.right.0
            (subst (λ (n : ℕ). Appends s.before s.after (over_text q n)) p.right.right.1 w.1);
      }) (right_of {answer = Outgrown q n} e asked taken e.right.asked e.right.taken e.right.right)
  outgrown_is (Told t) e asked taken h =
      absurd (not_told t 10 (inr (omega arith)) (whole e 10 h (λ f. cc)).0)

  pub unread_is : (answer : Response) → TellsOutcomes s answer → s.status ≡ 4 →
      Rose s.read_old s.read_new × Appends s.before s.after unread
  unread_is Usage e h = absurd (omega (arith, (whole e 4 h (λ f. cc)).0))
  unread_is Unread e h = (e.right.right, (whole e 4 h (λ f. cc)).1)
  unread_is NoReport e h = absurd (omega (arith, (whole e 4 h (λ f. cc)).0))
  unread_is (Refused n k) e h = absurd (omega (arith, (whole e 4 h (λ f. cc)).0))
  unread_is (Outgrown q n) e h = absurd (omega (arith, (whole e 4 h (λ f. cc)).0))
  unread_is (Told t) e h =
      absurd (not_told t 4 (inl (omega arith, omega arith)) (whole e 4 h (λ f. cc)).0)

  pub unwritten_is : (answer : Response) → TellsOutcomes s answer → s.status ≡ 5 →
      Rose s.write_old s.write_new × (answer : Response)
      × IsAnswer s.words s.input s.read_old s.read_new answer
      × AppendsPart s.before s.after (text_of answer)
  unwritten_is answer e h =
      elim e.said [
        | inl p ↦ absurd (no_five answer (sym h ∙ p.0))
        | inr p ↦ (p.1, answer, e.right, p.2)
      ]

  -- a status is never 6 where something was said
  pub not_six : (answer : Response) → TellsOutcomes s answer → s.status ≡ 6 → ⊥
  not_six Usage e h = omega (arith, (whole e 6 h (λ f. cc)).0)
  not_six Unread e h = omega (arith, (whole e 6 h (λ f. cc)).0)
  not_six NoReport e h = omega (arith, (whole e 6 h (λ f. cc)).0)
  not_six (Refused n k) e h = omega (arith, (whole e 6 h (λ f. cc)).0)
  not_six (Outgrown q n) e h = omega (arith, (whole e 6 h (λ f. cc)).0)
  not_six (Told t) e h = not_told t 6 (inl (omega arith, omega arith)) (whole e 6 h (λ f. cc)).0

  -- what was said has one of the statuses
  pub status_is : (answer : Response) → TellsOutcomes s answer → IsStatus s.status
  status_is answer e =
      elim e.said [
        | inl p ↦ status_of_answer answer s.status p.0
        | inr p ↦ inr (inr (inr (inr (inl p.0))))
      ]
