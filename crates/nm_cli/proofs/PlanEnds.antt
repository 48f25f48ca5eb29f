-- How parts ends.
use Rattle.std.proofs.Common.{◌≡◌, ℕ, inl, inr, List, Option, Some, None}
use Rattle.std.specs.Option.{IfSome}
use Rattle.nm_outside.specs.Told.{Appends}
use Rattle.nm_script.specs.CommandWords.{IsTaken}
use Rattle.nm_script.specs.declared.command_line.CommandLine.{CommandLine}
use Rattle.nm_script.specs.declared.command_line.Mode.TheVariants.{Plain, Check, Parts, Multi}
use Rattle.nm_persist.specs.Promises.{ReceivesShowTheirSends}
use Rattle.nm_script.specs.declared.faults.TextFault.TheVariants as plan_fault
use Rattle.nm_plans.specs.declared.faults.PlanKind.{PlanKind}
use Rattle.nm_cli.specs.Done.{Ending, Ends}
use Rattle.nm_cli.specs.Endings.{IsPlanEnded, IsPlanRefused}
use Rattle.nm_shell.specs.Done.{OrFails}
use Rattle.nm_cli.specs.Plans.{PlanRefuses, plan_fault_text}
use Rattle.nm_cli.specs.Scripts.{Reads, Runs, read_of, sizes_for}
use Rattle.nm_cli.specs.declared.answers.Response.{Response}
use Rattle.nm_cli.specs.declared.answers.Response.TheVariants.{Usage, Unread, Refused, Ran}
use Rattle.nm_cli.specs.declared.answers.Response.TheVariants.{Free, Determinate, Checked, NoPlan, Planned}
use Rattle.nm_cli.specs.declared.answers.Response.TheVariants.{Logged}
use Rattle.nm_cli.proofs.EndLemmas.{answered_for, or_unread, or_unwritten, other}
use Rattle.nm_shell.proofs.FailLemmas.{to_fails}

refused_said : (input before after : Option (List ℕ)) (n : ℕ) (k : PlanKind) →
    IfSome input (λ bytes. PlanRefuses (read_of bytes) (plan_fault.Bad n k)) →
    Appends before after (plan_fault_text n k) → IfSome input (IsPlanRefused before after)
refused_said None before after n k is said = tt
refused_said (Some bytes) before after n k is said = record { line = n; kind = k; told = is; said = said }

pub parts_is : ReceivesShowTheirSends → (s : Ending) (a : Response) → Ends s a →
    (line : CommandLine) → IsTaken s.words line →
    line.mode ≡ Parts → OrFails (IsPlanEnded line s.input s.status s.run s.closed s.before s.after) s.status
parts_is law s Usage e line taken is = absurd (e.right line taken)
parts_is law s Unread e line taken is = or_unread s e
parts_is law s (Refused n k) e line taken is =
    absurd (other Reads line.mode Parts is (λ h. h) (answered_for s (Refused n k) e line taken).0)
parts_is law s (Ran m r w) e line taken is =
    absurd (other Runs line.mode Parts is (λ h. h) (answered_for s (Ran m r w) e line taken).0)
parts_is law s (Free n) e line taken is =
    absurd (other (λ m. m ≡ Plain) line.mode Parts is (λ h. cc) (answered_for s (Free n) e line taken).0)
parts_is law s (Determinate r) e line taken is =
    absurd (other (λ m. m ≡ Plain) line.mode Parts is (λ h. cc) (answered_for s (Determinate r) e line taken).0)
parts_is law s (Checked c) e line taken is =
    absurd (other (λ m. m ≡ Check) line.mode Parts is (λ h. cc) (answered_for s (Checked c) e line taken).0)
parts_is law s (NoPlan n k) e line taken is =
    to_fails s.status (or_unwritten s (NoPlan n k) e (λ h said.
    inl (h, refused_said s.input s.before s.after n k (answered_for s (NoPlan n k) e line taken).1 said)))
parts_is law s (Planned q r w) e line taken is =
    to_fails s.status (or_unwritten s (Planned q r w) e (λ h said.
    let of_plan = (answered_for s (Planned q r w) e line taken).1 in
    inr (record {
      lines = q.lines;
      record_of = r;
      ways = w;
      record_given = e.run_given;
      ways_given = e.ways_given;
      of_plan = of_plan;
      promised = law (sizes_for line of_plan.ranks) q.lines r of_plan.plan of_plan.of_script.lawful;
      ended = h;
      said = said;
    })))
parts_is law s (Logged t r log) e line taken is =
    absurd (other (λ m. m ≡ Multi t r) line.mode Parts is (λ h. cc) (answered_for s (Logged t r log) e line taken).0)
