use Rattle.std.proofs.Common.{List, take, sym, ◌∙◌, ap}
use Rattle.nm_history.specs.declared.events.Happened.{Happened}
use Rattle.nm_history.specs.RankRun.{cancels_since, is_cancelling}
use Rattle.nm_check_rank.specs.Cancellings.{send_cancels}
use Rattle.nm_check_rank.proofs.CancellingLemmas.{more_sent}
use Rattle.nm_check_rank.proofs.ManyLemmas.{more_left, none_left, one_inside, one_left}
use Rattle.nm_check_rank.proofs.paired.cancellings.send_cancels.Goals as goal

pub returns-in-Nothing : goal.returns-in-Nothing
returns-in-Nothing c =
    c.unrecalled.ensures
    ∙ sym (ap (λ (ws : List Happened). send_cancels c.args.to c.args.n c.args.recalled ws)
    (none_left is_cancelling c.args.events.now c.args.k c.args.since c.requires c.in-Nothing.is))

pub bounds-events-place : goal.bounds-events-place
bounds-events-place c =
    one_inside is_cancelling c.args.events.now c.args.k c.args.since c.requires c.in-One.place c.in-One.is

pub returns-in-One : goal.returns-in-One
returns-in-One c =
    c.send_due.ensures
    ∙ sym (ap (λ (ws : List Happened). send_cancels c.args.to c.args.n c.args.recalled ws)
    (one_left is_cancelling c.args.events.now c.args.k c.args.since c.requires c.in-One.place
    c.index-events-place.result c.in-One.is))

pub returns-in-More : goal.returns-in-More
returns-in-More c =
    let h = c.args.events.now in
    c.many_due.ensures
    ∙ more_sent c.args.to c.args.n c.args.recalled (cancels_since (take c.args.k h))
    (more_left is_cancelling h c.args.k c.args.since c.requires c.in-More.is)
