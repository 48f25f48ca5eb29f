use Rattle.std.proofs.Common.{List, sym, take, ◌∙◌, ap}
use Rattle.nm_history.specs.declared.events.Happened.{Happened}
use Rattle.nm_history.specs.RankRun.{cancels_since, is_cancelling}
use Rattle.nm_check_rank.specs.Cancellings.{receive_cancels}
use Rattle.nm_check_rank.specs.Manies.{many_due}
use Rattle.nm_check_rank.specs.declared.paired.manies.Many.{Many}
use Rattle.nm_check_rank.specs.declared.paired.manies.Many.TheVariants.{One}
use Rattle.nm_check_rank.proofs.CancellingLemmas.{not_one_received}
use Rattle.nm_check_rank.proofs.ManyLemmas.{not_one_left, one_inside, one_left}
use Rattle.nm_check_rank.proofs.paired.cancellings.receive_cancels.Goals as goal

pub bounds-events-place : goal.bounds-events-place
bounds-events-place c =
    one_inside is_cancelling c.args.events.now c.args.k c.args.since c.requires c.in-One.place c.in-One.is

pub returns-in-One : goal.returns-in-One
returns-in-One c =
    c.receive_due.ensures
    ∙ sym (ap (λ (ws : List Happened). receive_cancels c.args.number c.args.paired ws)
    (one_left is_cancelling c.args.events.now c.args.k c.args.since c.requires c.in-One.place
    c.index-events-place.result c.in-One.is))

pub returns-in_default : goal.returns-in_default
returns-in_default c =
    let h = c.args.events.now in
    c.many_due.ensures
    ∙ ap (λ (m : Many). many_due One m) (c.many_of.ensures is_cancelling h c.args.k c.requires)
    ∙ not_one_received c.args.number c.args.paired (cancels_since (take c.args.k h))
    (not_one_left is_cancelling h c.args.k c.args.since c.in_default.not-One c.requires)
