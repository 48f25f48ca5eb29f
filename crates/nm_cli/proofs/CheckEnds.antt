-- How check ends.
use Rattle.std.proofs.Common.{◌≡◌, ◌∙◌, ℕ, inl, inr, ap, subst, List, Option, None, Some}
use Rattle.std.specs.Option.{IfSome, IsSomeAnd}
use Rattle.std.specs.Prelude.{codes}
use Rattle.nm_outside.specs.Told.{Appends}
use Rattle.nm_script.specs.CommandWords.{IsTaken}
use Rattle.nm_script.specs.declared.command_line.CommandLine.{CommandLine}
use Rattle.nm_script.specs.declared.command_line.Mode.TheVariants.{Check, Parts, Plain, Multi}
use Rattle.nm_check.specs.Answers.{trial_status, verdict_status}
use Rattle.nm_check.specs.Trials.{verdict_in}
use Rattle.nm_check.specs.Texts.{verdict_text}
use Rattle.nm_cli.specs.Checks.{IsCheckedAs, IsCheckedEnd, IsWritten, checked_text}
use Rattle.nm_cli.specs.Done.{Ending, Ends}
use Rattle.nm_shell.specs.Done.{OrFails}
use Rattle.nm_cli.specs.Scripts.{Reads, Runs}
use Rattle.nm_check.specs.declared.verdicts.Verdict.TheVariants.{Holds}
use Rattle.nm_check.specs.declared.trials.Trial.{Trial}
use Rattle.nm_check.specs.declared.trials.Trial.TheVariants.{NoTrace, NoScript, BadTrace, Judged}
use Rattle.nm_cli.specs.declared.answers.Response.{Response}
use Rattle.nm_cli.specs.declared.answers.Response.TheVariants.{Usage, Unread, Refused, Ran}
use Rattle.nm_cli.specs.declared.answers.Response.TheVariants.{Free, Determinate, Checked, NoPlan, Planned, Logged}
use Rattle.nm_cli.proofs.EndLemmas.{answered_for, or_unread, or_unwritten, other}
use Rattle.nm_shell.proofs.FailLemmas.{to_fails}

pub check_is : (s : Ending) (a : Response) → Ends s a → (line : CommandLine) → IsTaken s.words line →
    line.mode ≡ Check → OrFails (IsCheckedEnd line s.input s.status s.before s.after) s.status
check_is s Usage e line taken is = absurd (e.right line taken)
check_is s Unread e line taken is = or_unread s e
check_is s (Refused n k) e line taken is =
    absurd (other Reads line.mode Check is (λ h. h) (answered_for s (Refused n k) e line taken).0)
check_is s (Ran m r w) e line taken is =
    absurd (other Runs line.mode Check is (λ h. h) (answered_for s (Ran m r w) e line taken).0)
check_is s (Free n) e line taken is =
    absurd (other (λ m. m ≡ Plain) line.mode Check is (λ h. cc) (answered_for s (Free n) e line taken).0)
check_is s (Determinate r) e line taken is =
    absurd (other (λ m. m ≡ Plain) line.mode Check is (λ h. cc) (answered_for s (Determinate r) e line taken).0)
check_is s (Checked c) e line taken is =
    to_fails s.status (or_unwritten s (Checked c) e (λ h said.
    record { trial = c; right = (answered_for s (Checked c) e line taken).1; ended = h; said = said }))
check_is s (NoPlan n k) e line taken is =
    absurd (other (λ m. m ≡ Parts) line.mode Check is (λ h. cc) (answered_for s (NoPlan n k) e line taken).0)
check_is s (Planned q r w) e line taken is =
    absurd (other (λ m. m ≡ Parts) line.mode Check is (λ h. cc) (answered_for s (Planned q r w) e line taken).0)
check_is s (Logged t r log) e line taken is =
    absurd (other (λ m. m ≡ Multi t r) line.mode Check is (λ h. cc) (answered_for s (Logged t r log) e line taken).0)

-- what is said where the trace holds
held : (trial : Trial) → verdict_in trial ≡ Some Holds →
    (trial_status trial ≡ 0) × (checked_text trial ≡ codes "holds\n")
held NoTrace h = absurd cc
held (NoScript line kind) h = absurd cc
held (BadTrace line) h = absurd cc
held (Judged verdict) h =
    let same : verdict ≡ Holds = cc in (ap verdict_status same, ap verdict_text same)

-- the trace of a run of the script holds
judged_holds : (line : CommandLine) (input : Option (List ℕ)) (trial : Trial) →
    IfSome input (IsCheckedAs line trial) → IsSomeAnd input (IsWritten line) → verdict_in trial ≡ Some Holds
judged_holds line None trial right written = absurd written
judged_holds line (Some bytes) trial right written = right.holds written

said_so : (line : CommandLine) (input before after : Option (List ℕ)) (status : ℕ) →
    IsCheckedEnd line input status before after → IsSomeAnd input (IsWritten line) →
    (status ≡ 0) × Appends before after (codes "holds\n")
said_so line input before after status e written =
    let both = held e.trial (judged_holds line input e.trial e.right written) in
    (e.ended ∙ both.0, subst (λ (text : List ℕ). Appends before after text) both.1 e.said)

pub holds_is : (s : Ending) (a : Response) → Ends s a → (line : CommandLine) → IsTaken s.words line →
    line.mode ≡ Check → IsSomeAnd s.input (IsWritten line) →
    OrFails ((s.status ≡ 0) × Appends s.before s.after (codes "holds\n")) s.status
holds_is s a e line taken is written =
    elim (check_is s a e line taken is) [
      | inl h ↦ inl (said_so line s.input s.before s.after s.status h written)
      | inr h ↦ inr h
    ]
