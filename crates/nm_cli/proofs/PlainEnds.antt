-- How plain ends.
use Rattle.std.proofs.Common.{◌≡◌, ℕ, inl, inr, Bool, List, Option, Some, None}
use Rattle.std.specs.Option.{IfSome}
use Rattle.nm_outside.specs.Told.{Appends}
use Rattle.nm_script.specs.CommandWords.{IsTaken}
use Rattle.nm_script.specs.declared.command_line.CommandLine.{CommandLine}
use Rattle.nm_script.specs.declared.command_line.Mode.TheVariants.{Plain, Check, Parts, Multi}
use Rattle.nm_cli.specs.Answers.{end_status}
use Rattle.nm_cli.specs.Done.{Ending, Ends}
use Rattle.nm_cli.specs.Endings.{IsFree, IsSure, IsWorkedOut}
use Rattle.nm_shell.specs.Done.{OrFails}
use Rattle.nm_cli.specs.Plains.{IsNotPlain, IsPlain, free_text}
use Rattle.nm_cli.specs.Scripts.{Runs}
use Rattle.nm_cli.specs.declared.answers.Response.{Response}
use Rattle.nm_cli.specs.declared.answers.Response.TheVariants.{Usage, Unread, Refused, Ran}
use Rattle.nm_cli.specs.declared.answers.Response.TheVariants.{Free, Determinate, Checked, NoPlan, Planned}
use Rattle.nm_cli.specs.declared.answers.Response.TheVariants.{Logged}
use Rattle.nm_cli.proofs.EndLemmas.{answered_for, or_unread, or_unwritten, other}
use Rattle.nm_cli.proofs.EndLemmas.{run_status}
use Rattle.nm_shell.proofs.FailLemmas.{to_fails}
use Rattle.nm_cli.proofs.RunEnds.{was_refused}

free_said : (input before after : Option (List ℕ)) (n : ℕ) → IfSome input (IsNotPlain n) →
    Appends before after (free_text n) → IfSome input (IsFree before after)
free_said None before after n is said = tt
free_said (Some bytes) before after n is said = record { number = n; not_plain = is; said = said }

sure_said : (line : CommandLine) (input before after : Option (List ℕ)) (text : List ℕ) (done : Bool) (status : ℕ) →
    IfSome input (IsPlain line text done) → status ≡ end_status done → Appends before after text →
    IfSome input (IsSure line status before after)
sure_said line None before after text done status is ended said = tt
sure_said line (Some bytes) before after text done status is ended said =
    record { text = text; done = done; plain = is; ended = ended; said = said }

pub plain_is : (s : Ending) (a : Response) → Ends s a → (line : CommandLine) → IsTaken s.words line →
    line.mode ≡ Plain → OrFails (IsWorkedOut line s.input s.status s.before s.after) s.status
plain_is s Usage e line taken is = absurd (e.right line taken)
plain_is s Unread e line taken is = or_unread s e
plain_is s (Refused n k) e line taken is =
    to_fails s.status (or_unwritten s (Refused n k) e (λ h said.
    inl (h, was_refused s.input s.before s.after n k (answered_for s (Refused n k) e line taken).1 said)))
plain_is s (Ran m r w) e line taken is =
    absurd (other Runs line.mode Plain is (λ h. h) (answered_for s (Ran m r w) e line taken).0)
plain_is s (Free n) e line taken is =
    to_fails s.status (or_unwritten s (Free n) e (λ h said.
    inr (inl (h, free_said s.input s.before s.after n (answered_for s (Free n) e line taken).1 said))))
plain_is s (Determinate r) e line taken is =
    to_fails s.status (or_unwritten s (Determinate r) e (λ h said.
    inr (inr (
      run_status r.done s.status h,
      sure_said line s.input s.before s.after r.text.items r.done s.status
          (answered_for s (Determinate r) e line taken).1 h said,
    ))))
plain_is s (Checked c) e line taken is =
    absurd (other (λ m. m ≡ Check) line.mode Plain is (λ h. cc) (answered_for s (Checked c) e line taken).0)
plain_is s (NoPlan n k) e line taken is =
    absurd (other (λ m. m ≡ Parts) line.mode Plain is (λ h. cc) (answered_for s (NoPlan n k) e line taken).0)
plain_is s (Planned q r w) e line taken is =
    absurd (other (λ m. m ≡ Parts) line.mode Plain is (λ h. cc) (answered_for s (Planned q r w) e line taken).0)
plain_is s (Logged t r log) e line taken is =
    absurd (other (λ m. m ≡ Multi t r) line.mode Plain is (λ h. cc) (answered_for s (Logged t r log) e line taken).0)
