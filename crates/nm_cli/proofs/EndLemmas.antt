-- What is known at the end of the program, whatever its answer is.
use Rattle.std.proofs.Common.{◌≡◌, ℕ, ◌⊎◌, inl, inr, Bool, true, false, None, refl, sym, ◌∙◌}
use Rattle.std.proofs.Common.{arith, subst}
use Rattle.nm_outside.specs.Told.{Appends, AppendsPart, Rose}
use Rattle.nm_script.specs.CommandWords.{IsTaken}
use Rattle.nm_script.specs.declared.command_line.CommandLine.{CommandLine}
use Rattle.nm_script.specs.declared.command_line.Mode.{Mode}
use Rattle.nm_cli.specs.Answers.{IsAnswer, IsAnswerTo, NotTaken, end_status, log_of, run_of, status_of, text_of}
use Rattle.nm_cli.specs.Answers.{IsReadFor, WasRead, usage, ways_of}
use Rattle.nm_shell.specs.Done.{OrFails, OrUnwritten, unread}
use Rattle.nm_check.specs.declared.verdicts.Verdict.TheVariants.{Holds}
use Rattle.nm_check.specs.declared.verdicts.Verdict.{Verdict}
use Rattle.nm_check.specs.Answers.{trial_status, verdict_status}
use Rattle.nm_check.specs.declared.trials.Trial.{Trial}
use Rattle.nm_check.specs.declared.trials.Trial.TheVariants.{NoTrace, NoScript, BadTrace, Judged}
use Rattle.nm_cli.specs.Done.{Ending, Ends}
use Rattle.nm_cli.specs.Endings.{IsStatus}
use Rattle.nm_cli.specs.declared.answers.Response.{Response}
use Rattle.nm_cli.specs.declared.answers.Response.TheVariants.{Usage, Unread, Refused, Ran, Free, Determinate}
use Rattle.nm_cli.specs.declared.answers.Response.TheVariants.{Checked, NoPlan, Planned, Logged}

-- words that ask for one thing don't ask for another
pub other : (P : Mode → Type 0) (m n : Mode) → m ≡ n → (P n → ⊥) → P m → ⊥
other P m n is isnt h = isnt (subst P is h)

-- the answer is right for what the words ask for
pub answered_for : (s : Ending) (a : Response) → Ends s a → (line : CommandLine) → IsTaken s.words line →
    IsAnswerTo line s.input s.read_old s.read_new a
answered_for s Usage e line taken = absurd (e.right line taken)
answered_for s a e line taken =
    subst (λ l. IsAnswerTo l s.input s.read_old s.read_new a) (sym (e.right.only line taken)) e.right.right

-- the words ask for one thing
pub one_line : (s : Ending) (a : Response) → Ends s a → (line other : CommandLine) → IsTaken s.words line →
    IsTaken s.words other → line ≡ other
one_line s Usage e line other taken also = absurd (e.right line taken)
one_line s a e line other taken also = e.right.only line taken ∙ sym (e.right.only other also)

-- an answer that was not cut off was said whole
pub said_whole : (s : Ending) (a : Response) → Ends s a → (s.status ≡ 5 → ⊥) →
    (s.status ≡ status_of a) × Appends s.before s.after (text_of a)
said_whole s a e other = elim e.said [ inl h ↦ h | inr h ↦ absurd (other h.0) ]

-- it has its status, or the sink failed
pub or_unwritten : {P : Type 0} (s : Ending) (a : Response) → Ends s a →
    (s.status ≡ status_of a → Appends s.before s.after (text_of a) → P) → OrUnwritten P s.status
or_unwritten s a e make = elim e.said [ inl h ↦ inl (make h.0 h.1) | inr h ↦ inr (inl h.0) ]

-- and the sink did not, where its count of faults did not rise
pub unless_failed : {P : Type 0} (s : Ending) (a : Response) → Ends s a → (Rose s.write_old s.write_new → ⊥) →
    (s.status ≡ status_of a → Appends s.before s.after (text_of a) → P) → (s.status ≡ 6) ⊎ P
unless_failed s a e write make = elim e.said [ inl h ↦ inr (make h.0 h.1) | inr h ↦ absurd (write h.1) ]

-- the source failed
pub or_unread : {P : Type 0} (s : Ending) → Ends s Unread → OrFails P s.status
or_unread s e = elim e.said [ inl h ↦ inr (inl h.0) | inr h ↦ inr (inr (inl h.0)) ]

-- what holds where no read failed
pub unless_unread : {P : Type 0} (s : Ending) (a : Response) → Ends s a → (WasRead a → P) → OrFails P s.status
unless_unread s Unread e make = or_unread s e
unless_unread s a e make = inl (make tt)

-- a run ends with 0 or 1
pub run_status : (done : Bool) (status : ℕ) → status ≡ end_status done → (status ≡ 0) ⊎ (status ≡ 1)
run_status true status h = inl h
run_status false status h = inr h

-- and with no other
pub no_run_status : (done : Bool) (status k : ℕ) → status ≡ end_status done → status ≡ k → (k ≡ 0 → ⊥) →
    (k ≡ 1 → ⊥) → ⊥
no_run_status true status k h e zero one = zero (sym e ∙ h)
no_run_status false status k h e zero one = one (sym e ∙ h)

-- and what check says ends with one of four
verdict_ends : (v : Verdict) (k : ℕ) → k ≡ verdict_status v → (k ≡ 0 → ⊥) → (k ≡ 8 → ⊥) → ⊥
verdict_ends Holds k h zero eight = zero h
verdict_ends v k h zero eight = eight h

pub checked_ends : (trial : Trial) (k : ℕ) → k ≡ trial_status trial → (k ≡ 0 → ⊥) → (k ≡ 3 → ⊥) → (k ≡ 8 → ⊥) →
    (k ≡ 9 → ⊥) → ⊥
checked_ends NoTrace k h zero three eight nine = nine h
checked_ends (NoScript line kind) k h zero three eight nine = three h
checked_ends (BadTrace line) k h zero three eight nine = nine h
checked_ends (Judged verdict) k h zero three eight nine = verdict_ends verdict k h zero eight

-- a status that is not 5
pub not_five : (s : Ending) (k : ℕ) → s.status ≡ k → (k ≡ 5 → ⊥) → s.status ≡ 5 → ⊥
not_five s k h other five = other (sym h ∙ five)

-- words that are not taken are all that ends with 2
two_is_usage : (a : Response) → 2 ≡ status_of a → a ≡ Usage
two_is_usage Usage h = refl
two_is_usage (Checked c) h = absurd (checked_ends c 2 h (λ z. cc) (λ z. cc) (λ z. cc) (λ z. cc))
two_is_usage (Ran m r w) h = absurd (no_run_status r.done 2 2 h refl (λ z. cc) (λ z. cc))
two_is_usage (Determinate r) h = absurd (no_run_status r.done 2 2 h refl (λ z. cc) (λ z. cc))
two_is_usage (Planned q r w) h = absurd (no_run_status r.done 2 2 h refl (λ z. cc) (λ z. cc))
two_is_usage a h = absurd (omega (arith, h))

pub usage_is : (s : Ending) (a : Response) → Ends s a → s.status ≡ 2 → NotTaken s.words × Appends s.before s.after usage
usage_is s a e h =
    let told = said_whole s a e (not_five s 2 h (λ f. cc)) in
    let is = two_is_usage a (sym h ∙ told.0) in (
      (subst (λ b. Ends s b) is e).right,
      subst (λ b. Appends s.before s.after (text_of b)) is told.1,
    )

pub not_taken_is : (s : Ending) (a : Response) → Ends s a → NotTaken s.words → OrUnwritten (s.status ≡ 2) s.status
not_taken_is s Usage e none = or_unwritten s Usage e (λ h said. h)
not_taken_is s a e none = absurd (none e.right.line e.right.taken)

-- a source that failed is all that ends with 4
four_is_unread : (a : Response) → 4 ≡ status_of a → a ≡ Unread
four_is_unread Unread h = refl
four_is_unread (Checked c) h = absurd (checked_ends c 4 h (λ z. cc) (λ z. cc) (λ z. cc) (λ z. cc))
four_is_unread (Ran m r w) h = absurd (no_run_status r.done 4 4 h refl (λ z. cc) (λ z. cc))
four_is_unread (Determinate r) h = absurd (no_run_status r.done 4 4 h refl (λ z. cc) (λ z. cc))
four_is_unread (Planned q r w) h = absurd (no_run_status r.done 4 4 h refl (λ z. cc) (λ z. cc))
four_is_unread a h = absurd (omega (arith, h))

pub unread_is : (s : Ending) (a : Response) → Ends s a → s.status ≡ 4 →
    Rose s.read_old s.read_new × Appends s.before s.after unread
unread_is s a e h =
    let told = said_whole s a e (not_five s 4 h (λ f. cc)) in
    let is = four_is_unread a (sym h ∙ told.0) in (
      (subst (λ b. Ends s b) is e).right.right.1,
      subst (λ b. Appends s.before s.after (text_of b)) is told.1,
    )

-- a sink that failed
no_five : (a : Response) → 5 ≡ status_of a → ⊥
no_five (Checked c) h = checked_ends c 5 h (λ z. cc) (λ z. cc) (λ z. cc) (λ z. cc)
no_five (Ran m r w) h = no_run_status r.done 5 5 h refl (λ z. cc) (λ z. cc)
no_five (Determinate r) h = no_run_status r.done 5 5 h refl (λ z. cc) (λ z. cc)
no_five (Planned q r w) h = no_run_status r.done 5 5 h refl (λ z. cc) (λ z. cc)
no_five a h = omega (arith, h)

pub unwritten_is : (s : Ending) (a : Response) → Ends s a → s.status ≡ 5 →
    Rose s.write_old s.write_new × (answer : Response) × IsAnswer s.words s.input s.read_old s.read_new answer
    × IsReadFor s.words s.input s.left s.read_old s.read_new answer
    × AppendsPart s.before s.after (text_of answer) × (s.run ≡ run_of answer) × (s.closed ≡ ways_of answer)
    × (s.log ≡ log_of answer)
unwritten_is s a e h =
    elim e.said [
      | inl p ↦ absurd (no_five a (sym h ∙ p.0))
      | inr p ↦ (p.1, a, e.right, e.read, p.2, e.run_given, e.ways_given, e.log_given)
    ]

-- an ending that was written is not for want of memory
no_six : (a : Response) → 6 ≡ status_of a → ⊥
no_six (Checked c) h = checked_ends c 6 h (λ z. cc) (λ z. cc) (λ z. cc) (λ z. cc)
no_six (Ran m r w) h = no_run_status r.done 6 6 h refl (λ z. cc) (λ z. cc)
no_six (Determinate r) h = no_run_status r.done 6 6 h refl (λ z. cc) (λ z. cc)
no_six (Planned q r w) h = no_run_status r.done 6 6 h refl (λ z. cc) (λ z. cc)
no_six a h = omega (arith, h)

pub not_memory : (s : Ending) (a : Response) → Ends s a → s.status ≡ 6 → ⊥
not_memory s a e h =
    elim e.said [
      | inl p ↦ no_six a (sym h ∙ p.0)
      | inr p ↦ omega (arith, h, p.0)
    ]

-- an answer has nothing to hand out, or its status is another one
no_record_of : (s : Ending) (a : Response) → Ends s a → (k : ℕ) → s.status ≡ k → (k ≡ 0 → ⊥) → (k ≡ 1 → ⊥) →
    (k ≡ 5 → ⊥) → (s.run ≡ None) × (s.closed ≡ None) × (s.log ≡ None)
no_record_of s (Ran m r w) e k h zero one five =
    let p = said_whole s (Ran m r w) e (not_five s k h five) in
    absurd (no_run_status r.done s.status k p.0 h zero one)
no_record_of s (Planned q r w) e k h zero one five =
    let p = said_whole s (Planned q r w) e (not_five s k h five) in
    absurd (no_run_status r.done s.status k p.0 h zero one)
no_record_of s (Logged t r l) e k h zero one five =
    let p = said_whole s (Logged t r l) e (not_five s k h five) in
    absurd (zero (sym h ∙ p.0))
no_record_of s a e k h zero one five = (e.run_given, e.ways_given, e.log_given)

pub no_record_is : (s : Ending) (a : Response) → Ends s a → (s.status ≡ 2) ⊎ ((s.status ≡ 3) ⊎ (s.status ≡ 4)) →
    (s.run ≡ None) × (s.closed ≡ None) × (s.log ≡ None)
no_record_is s a e (inl h) = no_record_of s a e 2 h (λ z. cc) (λ z. cc) (λ z. cc)
no_record_is s a e (inr (inl h)) = no_record_of s a e 3 h (λ z. cc) (λ z. cc) (λ z. cc)
no_record_is s a e (inr (inr h)) = no_record_of s a e 4 h (λ z. cc) (λ z. cc) (λ z. cc)

-- an answer has one of the statuses
run_is_status : (done : Bool) → IsStatus (end_status done)
run_is_status true = inl refl
run_is_status false = inr (inl refl)

verdict_is_status : (v : Verdict) → IsStatus (verdict_status v)
verdict_is_status Holds = inl refl
verdict_is_status v = inr (inr (inr (inr (inr (inr (inr (inr (inl refl))))))))

checked_is_status : (trial : Trial) → IsStatus (trial_status trial)
checked_is_status NoTrace = inr (inr (inr (inr (inr (inr (inr (inr (inr refl))))))))
checked_is_status (NoScript line kind) = inr (inr (inr (inl refl)))
checked_is_status (BadTrace line) = inr (inr (inr (inr (inr (inr (inr (inr (inr refl))))))))
checked_is_status (Judged verdict) = verdict_is_status verdict

is_status : (a : Response) → IsStatus (status_of a)
is_status Usage = inr (inr (inl refl))
is_status Unread = inr (inr (inr (inr (inl refl))))
is_status (Refused n k) = inr (inr (inr (inl refl)))
is_status (Ran m r w) = run_is_status r.done
is_status (Free n) = inr (inr (inr (inr (inr (inr (inr (inl refl)))))))
is_status (Determinate r) = run_is_status r.done
is_status (Checked c) = checked_is_status c
is_status (NoPlan n k) = inr (inr (inr (inl refl)))
is_status (Planned q r w) = run_is_status r.done
is_status (Logged t r log) = inl refl

pub status_is : (s : Ending) (a : Response) → Ends s a → IsStatus s.status
status_is s a e =
    elim e.said [
      | inl h ↦ subst IsStatus (sym h.0) (is_status a)
      | inr h ↦ inr (inr (inr (inr (inr (inl h.0)))))
    ]
