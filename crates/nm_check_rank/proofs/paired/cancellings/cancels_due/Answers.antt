use Rattle.std.proofs.Common.{Bool, take, ◌∙◌, ap}
use Rattle.nm_history.specs.RankRun.{cancels_since, is_cancelling}
use Rattle.nm_check_rank.specs.Cancellings.{receive_cancels, send_cancels}
use Rattle.nm_check_rank.specs.Manies.{many_due}
use Rattle.nm_check_rank.specs.declared.paired.manies.Many.{Many}
use Rattle.nm_check_rank.specs.declared.paired.manies.Many.TheVariants.{Nothing}
use Rattle.nm_check_rank.proofs.paired.cancellings.cancels_due.Goals as goal

pub returns-in-Some-Receiving : goal.returns-in-Some-Receiving
returns-in-Some-Receiving c =
    let run = c.args.run.now in
    let h = run.events.now in
    let is = rw c.in-Some-Receiving.is at c.in-Some-Receiving.field-0-is in
    rw (c.in-Some-Receiving.is, is)
    (c.receive_cancels.ensures
    ∙ ap (λ (b : Bool). receive_cancels c.in-Some-Receiving.number b (cancels_since (take c.args.k h)))
    (c.is_paired-paired.ensures run.rank run.lines.now h c.requires.run.tables.tells))

pub returns-in-Some-Sending : goal.returns-in-Some-Sending
returns-in-Some-Sending c =
    let h = c.args.run.now.events.now in
    let is = rw c.in-Some-Sending.is at c.in-Some-Sending.field-0-is in
    rw (c.in-Some-Sending.is, is)
    (c.send_cancels.ensures
    ∙ ap (λ (b : Bool). send_cancels c.in-Some-Sending.to c.in-Some-Sending.n b (cancels_since (take c.args.k h)))
    (c.is_before-recalled.ensures h c.requires.run.tables.places.outgoing.recalled.recalls))

pub returns-in-None : goal.returns-in-None
returns-in-None c =
    rw c.in-None.is
    (c.many_due.ensures ∙ ap (λ (m : Many). many_due Nothing m)
    (c.many_of.ensures is_cancelling c.args.run.now.events.now c.args.k c.requires.left))
