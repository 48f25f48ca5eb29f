-- How a run of a script ends: with run, with trace and with flood.
use Rattle.std.proofs.Common.{◌≡◌, ℕ, ◌<◌, ◌⊎◌, inl, inr, Bool, List, Option, Some, None, sym, arith, subst}
use Rattle.std.specs.Option.{IfSome, IsSomeAnd}
use Rattle.nm_types.specs.declared.scripts.Line.{Line}
use Rattle.nm_outside.specs.Told.{Appends, Rose}
use Rattle.nm_script.specs.CommandWords.{IsTaken}
use Rattle.nm_script.specs.declared.command_line.CommandLine.{CommandLine}
use Rattle.nm_script.specs.declared.command_line.Mode.{Mode}
use Rattle.nm_script.specs.declared.command_line.Mode.TheVariants as mode
use Rattle.nm_script.specs.Spelled.{IsTextOf, SpellsNone}
use Rattle.nm_script.specs.declared.faults.Kind.{Kind}
use Rattle.nm_script.specs.declared.faults.TextFault.TheVariants as fault
use Rattle.nm_script.specs.FaultTexts.{fault_text}
use Rattle.nm_report.specs.declared.records.RunRecord.{RunRecord}
use Rattle.nm_world.specs.declared.whole.Ways.{Ways}
use Rattle.nm_cli.specs.Answers.{Refuses, end_status, run_text}
use Rattle.nm_cli.specs.Done.{Ending, Ends}
use Rattle.nm_cli.specs.Endings.{IsRefused, IsReported}
use Rattle.nm_shell.specs.Done.{OrFails, OrUnwritten}
use Rattle.nm_cli.specs.Plains.{IsNotPlain, IsPlain}
use Rattle.nm_cli.specs.Scripts.{HandsOut, IsAsked, IsKnown, IsRunOfWords, Makes, Reads}
use Rattle.nm_cli.specs.Scripts.{ReadsSource, Runs, read_of}
use Rattle.nm_cli.specs.declared.answers.Response.{Response}
use Rattle.nm_cli.specs.declared.answers.Response.TheVariants.{Usage, Unread, Refused, Ran}
use Rattle.nm_cli.specs.declared.answers.Response.TheVariants.{Free, Determinate, Checked, NoPlan, Planned}
use Rattle.nm_cli.specs.declared.answers.Response.TheVariants.{Logged}
use Rattle.nm_cli.proofs.EndLemmas.{answered_for, no_run_status, not_five, or_unread, or_unwritten}
use Rattle.nm_cli.proofs.EndLemmas.{other, run_status, said_whole, unless_failed}
use Rattle.nm_shell.proofs.FailLemmas.{to_fails}
use Rattle.nm_types.proofs.OptionLemmas.{if_all as always}

-- nothing is read for a flood
made_unread : (m : Mode) → Makes m → ReadsSource m → ⊥
made_unread (mode.Flood key ranks messages) makes reads = reads
made_unread m makes reads = makes

made_unread_script : (m : Mode) → Makes m → Reads m → ⊥
made_unread_script (mode.Flood key ranks messages) makes reads = reads
made_unread_script m makes reads = makes

-- who runs a script hands out its record
hands_out : (m : Mode) → Runs m → HandsOut m
hands_out mode.Run runs = tt
hands_out mode.Trace runs = tt
hands_out (mode.Flood key ranks messages) runs = tt
hands_out m runs = absurd runs

-- a script that is known was read, where it is read
known_text : (m : Mode) (input : Option (List ℕ)) (ranks : ℕ) (lines : List Line) → Reads m →
    IsKnown m input ranks lines → IsSomeAnd input (λ bytes. IsTextOf (read_of bytes) ranks lines)
known_text mode.Run input ranks lines reads is = is
known_text mode.Trace input ranks lines reads is = is
known_text mode.Plain input ranks lines reads is = is
known_text m input ranks lines reads is = absurd reads

asked_text : (m : Mode) (input : Option (List ℕ)) (ranks : ℕ) (lines : List Line) → Reads m →
    IsAsked m input ranks lines → IfSome input (λ bytes. IsTextOf (read_of bytes) ranks lines)
asked_text mode.Run input ranks lines reads is = is
asked_text mode.Trace input ranks lines reads is = is
asked_text mode.Plain input ranks lines reads is = is
asked_text m input ranks lines reads is = absurd reads

-- bytes that were refused spell no script
refused_none : (input : Option (List ℕ)) (n ranks : ℕ) (k : Kind) (lines : List Line) →
    IfSome input (λ bytes. Refuses (read_of bytes) (fault.Bad n k)) →
    IsSomeAnd input (λ bytes. IsTextOf (read_of bytes) ranks lines) → ⊥
refused_none None n ranks k lines refuses is = is
refused_none (Some bytes) n ranks k lines refuses is = refuses.1 ranks lines is

pub was_refused : (input before after : Option (List ℕ)) (n : ℕ) (k : Kind) →
    IfSome input (λ bytes. Refuses (read_of bytes) (fault.Bad n k)) → Appends before after (fault_text n k) →
    IfSome input (IsRefused before after)
was_refused None before after n k refuses said = tt
was_refused (Some bytes) before after n k refuses said =
    record { line = n; kind = k; told = refuses; said = said }

-- a script that ran was none that is refused
ran_some : (input : Option (List ℕ)) (ranks : ℕ) (lines : List Line) (P : List ℕ → Type 0) →
    IfSome input (λ bytes. IsTextOf (read_of bytes) ranks lines) →
    IfSome input (λ bytes. SpellsNone (read_of bytes) → P bytes)
ran_some None ranks lines P is = tt
ran_some (Some bytes) ranks lines P is = λ none. absurd (none ranks lines is)

free_some : (input : Option (List ℕ)) (number : ℕ) (P : List ℕ → Type 0) → IfSome input (IsNotPlain number) →
    IfSome input (λ bytes. SpellsNone (read_of bytes) → P bytes)
free_some None number P is = tt
free_some (Some bytes) number P is = λ none. absurd (none is.ranks is.lines is.spelled)

plain_some : (line : CommandLine) (input : Option (List ℕ)) (text : List ℕ) (done : Bool) (P : List ℕ → Type 0) →
    IfSome input (IsPlain line text done) → IfSome input (λ bytes. SpellsNone (read_of bytes) → P bytes)
plain_some line None text done P is = tt
plain_some line (Some bytes) text done P is = λ none. absurd (none is.ranks is.lines is.spelled)

-- a run was reported
reported_of : (s : Ending) (line : CommandLine) (m : Mode) (r : RunRecord) (w : Ways) → Ends s (Ran m r w) →
    m ≡ line.mode → IsRunOfWords line s.input r w → s.status ≡ end_status r.done →
    Appends s.before s.after (run_text m r) → IsReported line s.input s.status s.run s.closed s.before s.after
reported_of s line m r w e same of_words end said =
    record {
      record_of = r;
      ways = w;
      record_given = e.run_given;
      ways_given = e.ways_given;
      of_words = of_words;
      ended = end;
      said = subst (λ m. Appends s.before s.after (run_text m r)) same said;
    }

pub refused_is : (s : Ending) (a : Response) → Ends s a → s.status ≡ 3 → (line : CommandLine) × IsTaken s.words line
    × (Reads line.mode → IfSome s.input (IsRefused s.before s.after))
refused_is s (Refused n k) e h =
    let said = (said_whole s (Refused n k) e (not_five s 3 h (λ f. cc))).1 in
    let told = was_refused s.input s.before s.after n k e.right.right.1 said in
    (e.right.line, e.right.taken, λ reads. told)
refused_is s (NoPlan n k) e h =
    let right = e.right.right in
    (e.right.line, e.right.taken, λ reads. absurd (other Reads e.right.line.mode mode.Parts right.0 (λ r. r) reads))
refused_is s (Checked c) e h =
    let right = e.right.right in
    (e.right.line, e.right.taken, λ reads. absurd (other Reads e.right.line.mode mode.Check right.0 (λ r. r) reads))
refused_is s (Ran m r w) e h =
    let p = said_whole s (Ran m r w) e (not_five s 3 h (λ f. cc)) in
    absurd (no_run_status r.done s.status 3 p.0 h (λ z. cc) (λ z. cc))
refused_is s (Determinate r) e h =
    let p = said_whole s (Determinate r) e (not_five s 3 h (λ f. cc)) in
    absurd (no_run_status r.done s.status 3 p.0 h (λ z. cc) (λ z. cc))
refused_is s (Planned q r w) e h =
    let p = said_whole s (Planned q r w) e (not_five s 3 h (λ f. cc)) in
    absurd (no_run_status r.done s.status 3 p.0 h (λ z. cc) (λ z. cc))
refused_is s a e h = absurd (omega (arith, h, (said_whole s a e (not_five s 3 h (λ f. cc))).0))

pub refuses_is : (s : Ending) (a : Response) → Ends s a → (line : CommandLine) → IsTaken s.words line →
    Reads line.mode → IfSome s.input (λ bytes. SpellsNone (read_of bytes) → OrFails (s.status ≡ 3) s.status)
refuses_is s Usage e line taken reads = absurd (e.right line taken)
refuses_is s Unread e line taken reads = always s.input _ (λ bytes none. or_unread s e)
refuses_is s (Refused n k) e line taken reads =
    always s.input _ (λ bytes none. to_fails s.status (or_unwritten s (Refused n k) e (λ h said. h)))
refuses_is s (Ran m r w) e line taken reads =
    let run = (answered_for s (Ran m r w) e line taken).2 in
    ran_some s.input run.ranks run.lines _ (asked_text line.mode s.input run.ranks run.lines reads run.asked)
refuses_is s (Free n) e line taken reads =
    free_some s.input n _ (answered_for s (Free n) e line taken).1
refuses_is s (Determinate r) e line taken reads =
    plain_some line s.input r.text.items r.done _ (answered_for s (Determinate r) e line taken).1
refuses_is s (Checked c) e line taken reads =
    absurd (other Reads line.mode mode.Check (answered_for s (Checked c) e line taken).0 (λ r. r) reads)
refuses_is s (NoPlan n k) e line taken reads =
    absurd (other Reads line.mode mode.Parts (answered_for s (NoPlan n k) e line taken).0 (λ r. r) reads)
refuses_is s (Planned q r w) e line taken reads =
    absurd (other Reads line.mode mode.Parts (answered_for s (Planned q r w) e line taken).0 (λ r. r) reads)
refuses_is s (Logged t r log) e line taken reads =
    absurd (other Reads line.mode (mode.Multi t r) (answered_for s (Logged t r log) e line taken).0 (λ r. r) reads)

-- 0 and 1 are no other statuses
no_run : (status k : ℕ) → status ≡ k → 1 < k → (status ≡ 0) ⊎ (status ≡ 1) → ⊥
no_run status k is more (inl h) = omega (arith, is, h)
no_run status k is more (inr h) = omega (arith, is, h)

run_not_five : (status : ℕ) → (status ≡ 0) ⊎ (status ≡ 1) → status ≡ 5 → ⊥
run_not_five status (inl h) five = omega (arith, h, five)
run_not_five status (inr h) five = omega (arith, h, five)

pub reported_is : (s : Ending) (a : Response) → Ends s a → (s.status ≡ 0) ⊎ (s.status ≡ 1) →
    (line : CommandLine) × IsTaken s.words line
    × (Runs line.mode → IsReported line s.input s.status s.run s.closed s.before s.after)
reported_is s (Ran m r w) e h =
    let line = e.right.line in
    let p = said_whole s (Ran m r w) e (run_not_five s.status h) in
    (line, e.right.taken, λ runs. reported_of s line m r w e e.right.right.1 e.right.right.2 p.0 p.1)
reported_is s (Determinate r) e h =
    let line = e.right.line in
    (line, e.right.taken, λ runs. absurd (other Runs line.mode mode.Plain e.right.right.0 (λ r. r) runs))
reported_is s (Checked c) e h =
    let line = e.right.line in
    (line, e.right.taken, λ runs. absurd (other Runs line.mode mode.Check e.right.right.0 (λ r. r) runs))
reported_is s (Planned q r w) e h =
    let line = e.right.line in
    (line, e.right.taken, λ runs. absurd (other Runs line.mode mode.Parts e.right.right.0 (λ r. r) runs))
reported_is s (Logged t r log) e h =
    let line = e.right.line in
    (line, e.right.taken, λ runs. absurd (other Runs line.mode (mode.Multi t r) e.right.right.0 (λ r. r) runs))
reported_is s a e h =
    absurd (no_run s.status _ (said_whole s a e (run_not_five s.status h)).0 (omega arith) h)

pub reports_is : (s : Ending) (a : Response) → Ends s a → (line : CommandLine) → IsTaken s.words line →
    Runs line.mode → (ranks : ℕ) (lines : List Line) → IsKnown line.mode s.input ranks lines →
    OrFails ((s.status ≡ 0) ⊎ (s.status ≡ 1)) s.status
reports_is s Usage e line taken runs ranks lines known = absurd (e.right line taken)
reports_is s Unread e line taken runs ranks lines known = or_unread s e
reports_is s (Refused n k) e line taken runs ranks lines known =
    let right = answered_for s (Refused n k) e line taken in
    absurd (refused_none s.input n ranks k lines right.1 (known_text line.mode s.input ranks lines right.0 known))
reports_is s (Ran m r w) e line taken runs ranks lines known =
    to_fails s.status (or_unwritten s (Ran m r w) e (λ h said. run_status r.done s.status h))
reports_is s (Free n) e line taken runs ranks lines known =
    absurd (other Runs line.mode mode.Plain (answered_for s (Free n) e line taken).0 (λ r. r) runs)
reports_is s (Determinate r) e line taken runs ranks lines known =
    absurd (other Runs line.mode mode.Plain (answered_for s (Determinate r) e line taken).0 (λ r. r) runs)
reports_is s (Checked c) e line taken runs ranks lines known =
    absurd (other Runs line.mode mode.Check (answered_for s (Checked c) e line taken).0 (λ r. r) runs)
reports_is s (NoPlan n k) e line taken runs ranks lines known =
    absurd (other Runs line.mode mode.Parts (answered_for s (NoPlan n k) e line taken).0 (λ r. r) runs)
reports_is s (Planned q r w) e line taken runs ranks lines known =
    absurd (other Runs line.mode mode.Parts (answered_for s (Planned q r w) e line taken).0 (λ r. r) runs)
reports_is s (Logged t r log) e line taken runs ranks lines known =
    absurd (other Runs line.mode (mode.Multi t r) (answered_for s (Logged t r log) e line taken).0 (λ r. r) runs)

-- a run, or no script
run_or_none : (status : ℕ) → (status ≡ 0) ⊎ (status ≡ 1) → (status ≡ 0) ⊎ ((status ≡ 1) ⊎ (status ≡ 3))
run_or_none status (inl h) = inl h
run_or_none status (inr h) = inr (inl h)

pub ended_is : (s : Ending) (a : Response) → Ends s a → (line : CommandLine) → IsTaken s.words line →
    Runs line.mode → OrFails ((s.status ≡ 0) ⊎ ((s.status ≡ 1) ⊎ (s.status ≡ 3))) s.status
ended_is s Usage e line taken runs = absurd (e.right line taken)
ended_is s Unread e line taken runs = or_unread s e
ended_is s (Refused n k) e line taken runs =
    to_fails s.status (or_unwritten s (Refused n k) e (λ h said. inr (inr h)))
ended_is s (Ran m r w) e line taken runs =
    to_fails s.status
    (or_unwritten s (Ran m r w) e (λ h said. run_or_none s.status (run_status r.done s.status h)))
ended_is s (Free n) e line taken runs =
    absurd (other Runs line.mode mode.Plain (answered_for s (Free n) e line taken).0 (λ r. r) runs)
ended_is s (Determinate r) e line taken runs =
    absurd (other Runs line.mode mode.Plain (answered_for s (Determinate r) e line taken).0 (λ r. r) runs)
ended_is s (Checked c) e line taken runs =
    absurd (other Runs line.mode mode.Check (answered_for s (Checked c) e line taken).0 (λ r. r) runs)
ended_is s (NoPlan n k) e line taken runs =
    absurd (other Runs line.mode mode.Parts (answered_for s (NoPlan n k) e line taken).0 (λ r. r) runs)
ended_is s (Planned q r w) e line taken runs =
    absurd (other Runs line.mode mode.Parts (answered_for s (Planned q r w) e line taken).0 (λ r. r) runs)
ended_is s (Logged t r log) e line taken runs =
    absurd (other Runs line.mode (mode.Multi t r) (answered_for s (Logged t r log) e line taken).0 (λ r. r) runs)

pub completes_is : (s : Ending) (a : Response) → Ends s a → (line : CommandLine) → IsTaken s.words line →
    Runs line.mode → (ranks : ℕ) (lines : List Line) → IsKnown line.mode s.input ranks lines →
    (Rose s.read_old s.read_new → ⊥) → (Rose s.write_old s.write_new → ⊥) →
    (s.status ≡ 6) ⊎ IsReported line s.input s.status s.run s.closed s.before s.after
completes_is s Usage e line taken runs ranks lines known read write = absurd (e.right line taken)
completes_is s Unread e line taken runs ranks lines known read write = absurd (read e.right.right.1)
completes_is s (Refused n k) e line taken runs ranks lines known read write =
    let right = answered_for s (Refused n k) e line taken in
    absurd (refused_none s.input n ranks k lines right.1 (known_text line.mode s.input ranks lines right.0 known))
completes_is s (Ran m r w) e line taken runs ranks lines known read write =
    let right = answered_for s (Ran m r w) e line taken in
    unless_failed s (Ran m r w) e write (λ h said. reported_of s line m r w e right.1 right.2 h said)
completes_is s (Free n) e line taken runs ranks lines known read write =
    absurd (other Runs line.mode mode.Plain (answered_for s (Free n) e line taken).0 (λ r. r) runs)
completes_is s (Determinate r) e line taken runs ranks lines known read write =
    absurd (other Runs line.mode mode.Plain (answered_for s (Determinate r) e line taken).0 (λ r. r) runs)
completes_is s (Checked c) e line taken runs ranks lines known read write =
    absurd (other Runs line.mode mode.Check (answered_for s (Checked c) e line taken).0 (λ r. r) runs)
completes_is s (NoPlan n k) e line taken runs ranks lines known read write =
    absurd (other Runs line.mode mode.Parts (answered_for s (NoPlan n k) e line taken).0 (λ r. r) runs)
completes_is s (Planned q r w) e line taken runs ranks lines known read write =
    absurd (other Runs line.mode mode.Parts (answered_for s (Planned q r w) e line taken).0 (λ r. r) runs)
completes_is s (Logged t r log) e line taken runs ranks lines known read write =
    absurd (other Runs line.mode (mode.Multi t r) (answered_for s (Logged t r log) e line taken).0 (λ r. r) runs)

pub made_is : (s : Ending) (a : Response) → Ends s a → (line : CommandLine) → IsTaken s.words line →
    Makes line.mode → OrUnwritten ((s.status ≡ 0) ⊎ (s.status ≡ 1)) s.status
made_is s Usage e line taken makes = absurd (e.right line taken)
made_is s Unread e line taken makes =
    absurd (made_unread line.mode makes (answered_for s Unread e line taken).0)
made_is s (Refused n k) e line taken makes =
    absurd (made_unread_script line.mode makes (answered_for s (Refused n k) e line taken).0)
made_is s (Ran m r w) e line taken makes = or_unwritten s (Ran m r w) e (λ h said. run_status r.done s.status h)
made_is s (Free n) e line taken makes =
    absurd (other Makes line.mode mode.Plain (answered_for s (Free n) e line taken).0 (λ r. r) makes)
made_is s (Determinate r) e line taken makes =
    absurd (other Makes line.mode mode.Plain (answered_for s (Determinate r) e line taken).0 (λ r. r) makes)
made_is s (Checked c) e line taken makes =
    absurd (other Makes line.mode mode.Check (answered_for s (Checked c) e line taken).0 (λ r. r) makes)
made_is s (NoPlan n k) e line taken makes =
    absurd (other Makes line.mode mode.Parts (answered_for s (NoPlan n k) e line taken).0 (λ r. r) makes)
made_is s (Planned q r w) e line taken makes =
    absurd (other Makes line.mode mode.Parts (answered_for s (Planned q r w) e line taken).0 (λ r. r) makes)
made_is s (Logged t r log) e line taken makes =
    absurd (other Makes line.mode (mode.Multi t r) (answered_for s (Logged t r log) e line taken).0 (λ r. r) makes)

-- words that run no script hand out no record
pub no_run_is : (s : Ending) (a : Response) → Ends s a → (line : CommandLine) → IsTaken s.words line →
    (HandsOut line.mode → ⊥) → (s.run ≡ None) × (s.closed ≡ None)
no_run_is s (Ran m r w) e line taken none =
    absurd (none (hands_out line.mode (answered_for s (Ran m r w) e line taken).0))
no_run_is s (Planned q r w) e line taken none =
    absurd (none (subst HandsOut (sym (answered_for s (Planned q r w) e line taken).0) tt))
no_run_is s a e line taken none = (e.run_given, e.ways_given)
