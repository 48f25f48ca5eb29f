-- How several threads that shared one rank end.
use Rattle.std.proofs.Common.{◌≡◌, ◌≢◌, ℕ, None, sym, ◌∙◌, subst}
use Rattle.nm_outside.specs.Told.{Appends}
use Rattle.nm_script.specs.CommandWords.{IsTaken}
use Rattle.nm_script.specs.declared.command_line.CommandLine.{CommandLine}
use Rattle.nm_script.specs.declared.command_line.Mode.{Mode}
use Rattle.nm_script.specs.declared.command_line.Mode.TheVariants.{Plain, Check, Parts, Multi}
use Rattle.nm_multi.specs.Calls.{Logged as Log}
use Rattle.nm_multi.specs.Programs.{IsWhole}
use Rattle.nm_multi.specs.Text.{log_text}
use Rattle.nm_cli.specs.Done.{Ending, Ends}
use Rattle.nm_cli.specs.Endings.{IsLogged}
use Rattle.nm_shell.specs.Done.{OrUnwritten}
use Rattle.nm_cli.specs.Scripts.{Reads, ReadsSource, Runs}
use Rattle.nm_cli.specs.declared.answers.Response.{Response}
use Rattle.nm_cli.specs.declared.answers.Response.TheVariants.{Usage, Unread, Refused, Ran}
use Rattle.nm_cli.specs.declared.answers.Response.TheVariants.{Free, Determinate, Checked, NoPlan, Planned}
use Rattle.nm_cli.specs.declared.answers.Response.TheVariants.{Logged}
use Rattle.nm_cli.proofs.EndLemmas.{answered_for, or_unwritten, other}

same_numbers : (m : Mode) (t r threads rounds : ℕ) → m ≡ Multi t r → m ≡ Multi threads rounds →
    (t ≡ threads) × (r ≡ rounds)
same_numbers m t r threads rounds is other =
    let both : Multi t r ≡ Multi threads rounds = sym is ∙ other in
    (cc, cc)

logged_of : (s : Ending) (t r threads rounds : ℕ) (log : Log) → Ends s (Logged t r log) → t ≡ threads → r ≡ rounds →
    IsWhole t r log.entries → Appends s.before s.after (log_text t r log.entries) →
    IsLogged threads rounds s.log s.before s.after
logged_of s t r threads rounds log e same_threads same_rounds whole said =
    subst (λ t. IsLogged t rounds s.log s.before s.after) same_threads
    (subst (λ r. IsLogged t r s.log s.before s.after) same_rounds
    (record { log_of = log; given = e.log_given; whole = whole; said = said }))

pub logged_is : (s : Ending) (a : Response) → Ends s a → (line : CommandLine) → IsTaken s.words line →
    (threads rounds : ℕ) → line.mode ≡ Multi threads rounds →
    OrUnwritten ((s.status ≡ 0) × IsLogged threads rounds s.log s.before s.after) s.status
logged_is s Usage e line taken t r is = absurd (e.right line taken)
logged_is s Unread e line taken t r is =
    absurd (other ReadsSource line.mode (Multi t r) is (λ h. h) (answered_for s Unread e line taken).0)
logged_is s (Refused n k) e line taken t r is =
    absurd (other Reads line.mode (Multi t r) is (λ h. h) (answered_for s (Refused n k) e line taken).0)
logged_is s (Ran m run w) e line taken t r is =
    absurd (other Runs line.mode (Multi t r) is (λ h. h) (answered_for s (Ran m run w) e line taken).0)
logged_is s (Free n) e line taken t r is =
    absurd (other (λ m. m ≡ Plain) line.mode (Multi t r) is (λ h. cc) (answered_for s (Free n) e line taken).0)
logged_is s (Determinate run) e line taken t r is =
    absurd (other (λ m. m ≡ Plain) line.mode (Multi t r) is (λ h. cc)
    (answered_for s (Determinate run) e line taken).0)
logged_is s (Checked c) e line taken t r is =
    absurd (other (λ m. m ≡ Check) line.mode (Multi t r) is (λ h. cc) (answered_for s (Checked c) e line taken).0)
logged_is s (NoPlan n k) e line taken t r is =
    absurd (other (λ m. m ≡ Parts) line.mode (Multi t r) is (λ h. cc) (answered_for s (NoPlan n k) e line taken).0)
logged_is s (Planned q run w) e line taken t r is =
    absurd (other (λ m. m ≡ Parts) line.mode (Multi t r) is (λ h. cc)
    (answered_for s (Planned q run w) e line taken).0)
logged_is s (Logged its_t its_r log) e line taken t r is =
    let right = answered_for s (Logged its_t its_r log) e line taken in
    let same = same_numbers line.mode its_t its_r t r right.0 is in
    or_unwritten s (Logged its_t its_r log) e (λ h said.
    (h, logged_of s its_t its_r t r log e same.0 same.1 right.1 said))

-- other words hand out no log
pub no_log_is : (s : Ending) (a : Response) → Ends s a → (line : CommandLine) → IsTaken s.words line →
    ((threads rounds : ℕ) → line.mode ≢ Multi threads rounds) → s.log ≡ None
no_log_is s (Logged t r log) e line taken none =
    absurd (none t r (answered_for s (Logged t r log) e line taken).0)
no_log_is s a e line taken none = e.log_given
