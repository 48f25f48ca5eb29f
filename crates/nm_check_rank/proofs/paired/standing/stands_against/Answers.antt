use Rattle.std.proofs.Common.{Option, ◌∙◌, ap, take}
use Rattle.std.specs.Prelude.{option_map}
use Rattle.nm_history.specs.RankRun.{CancelAt, ClaimAt, EndAt, NumberAt, StartAt, WholeAt}
use Rattle.nm_check_rank.specs.Cancellings.{cancel_due}
use Rattle.nm_check_rank.specs.Claimings.{claim_due}
use Rattle.nm_check_rank.specs.Objections.{end_objection, whole_objection}
use Rattle.nm_check_rank.specs.Runs.{commands_in}
use Rattle.nm_check_rank.specs.Startings.{IsStartDue}
use Rattle.nm_check_rank.specs.declared.paired.dues.Due.{Due}
use Rattle.nm_check_rank.specs.declared.paired.dues.Due.TheVariants.{Against}
use Rattle.nm_check_rank.specs.declared.paired.objections.Objection.{Objection}
use Rattle.nm_check_rank.proofs.AgainstLemmas.{cancel_tells, claim_tells, end_tells, exact, exactly, holds_at, start_tells}
use Rattle.nm_check_rank.proofs.AgainstLemmas.{exactly_against, whole_tells}
use Rattle.nm_check_rank.proofs.paired.standing.stands_against.Goals as goal

pub returns-in-Stamps : goal.returns-in-Stamps
returns-in-Stamps c = rw c.in-Stamps.is (rw c.requires.so_far.stamp at c.stamp_due.ensures)

pub returns-in-Numbers : goal.returns-in-Numbers
returns-in-Numbers c =
    let run = c.args.run.now in
    rw c.in-Numbers.is
    (holds_at (λ before e. NumberAt run.shape.ranks before e.what) run.events.now c.args.k c.args.e.now
    c.requires.here c.requires.run.numbers)

pub returns-in-Claims : goal.returns-in-Claims
returns-in-Claims c =
    let before = take c.args.k c.args.run.now.events.now in
    let commands = commands_in c.args.run.now in
    let w = c.args.e.now.what in
    rw c.in-Claims.is
    (exactly (ClaimAt commands before w) c.claim_due.result (claim_due commands before w) c.claim_due.ensures
    (claim_tells commands before w))

pub returns-in-Starts : goal.returns-in-Starts
returns-in-Starts c =
    let before = take c.args.k c.args.run.now.events.now in
    let commands = commands_in c.args.run.now in
    let limit = c.args.run.now.shape.eager in
    let w = c.args.e.now.what in
    rw c.in-Starts.is
    (exact (StartAt limit commands before w) (λ (o : Option Due). IsStartDue limit commands before w o)
    c.start_due.result c.start_due.ensures (start_tells limit commands before w c.start_due.result c.start_due.ensures))

pub returns-in-Cancels : goal.returns-in-Cancels
returns-in-Cancels c =
    let before = take c.args.k c.args.run.now.events.now in
    let commands = commands_in c.args.run.now in
    let w = c.args.e.now.what in
    let kept = rw c.in-Cancels.is at c.requires.kept in
    rw c.in-Cancels.is
    (exactly (CancelAt commands before w) c.cancel_due.result (cancel_due commands before w) c.cancel_due.ensures
    (cancel_tells commands before kept w))

pub returns-in-Wholes : goal.returns-in-Wholes
returns-in-Wholes c =
    let run = c.args.run.now in
    let h = run.events.now in
    let before = take c.args.k h in
    let w = c.args.e.now.what in
    rw c.in-Wholes.is
    (exactly_against (WholeAt before w) c.against.result (whole_objection before w)
    (c.against.ensures ∙ ap (λ (o : Option Objection). option_map Against o)
    (c.whole_objection.ensures run.rank run.lines.now h c.requires.run.tables))
    (whole_tells before w))

pub returns-in-Ends : goal.returns-in-Ends
returns-in-Ends c =
    let run = c.args.run.now in
    let h = run.events.now in
    let before = take c.args.k h in
    let w = c.args.e.now.what in
    rw c.in-Ends.is
    (exactly_against (EndAt before w) c.against-in-Ends.result (end_objection before w)
    (c.against-in-Ends.ensures ∙ ap (λ (o : Option Objection). option_map Against o)
    (c.end_objection.ensures run.rank run.lines.now h c.requires.run.tables))
    (end_tells before w))

pub returns-in-Answers : goal.returns-in-Answers
returns-in-Answers c = rw c.in-Answers.is c.answer_due.ensures
