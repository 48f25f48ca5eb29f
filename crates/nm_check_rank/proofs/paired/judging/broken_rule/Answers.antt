use Rattle.std.proofs.Common.{List, length, ◌∙◌, subst}
use Rattle.std.specs.Prelude.{All}
use Rattle.std.proofs.lemmas.List.{take_all}
use Rattle.nm_history.specs.declared.events.Event.{Event}
use Rattle.nm_history.specs.RankRun.{NumberAt}
use Rattle.nm_check_rank.specs.FirstBroken.{IsFirstBroken}
use Rattle.nm_check_rank.specs.OwnClauses.{KeepsOwn, own_order}
use Rattle.nm_check_rank.specs.Runs.{commands_in}
use Rattle.nm_check_rank.proofs.BreakLemmas.{not_kept}
use Rattle.nm_check_rank.proofs.OwnLemmas.{breach_breaks, each_rule}
use Rattle.nm_check_rank.proofs.paired.judging.broken_rule.Goals as goal

pub returns-then-right-count : goal.returns-then-right-count
returns-then-right-count c =
    let run = c.args.run.now in
    c.stamps_or_numbers.ensures run.shape (commands_in run) c.args.at
    (not_kept (λ before e. NumberAt run.shape.ranks before e.what) run.all.now (length run.events.now)
    (c.requires.run.wrong c.if-right-count.true))

pub returns-in-Some : goal.returns-in-Some
returns-in-Some c =
    let run = c.args.run.now in
    subst (λ (g : List Event). IsFirstBroken (KeepsOwn run.shape (commands_in run) c.args.at g) own_order
    c.in-Some.clause)
    (c.requires.run.front ∙ take_all (length run.events.now) run.all.now c.if-right-count.false) c.in-Some.ensures

pub returns-in-None : goal.returns-in-None
returns-in-None c =
    let run = c.args.run.now in
    let commands = commands_in run in
    let first = c.args.first in
    absurd (breach_breaks run.shape commands c.args.at run.all.now first.clause first.due first.place
    c.requires.broken
    (each_rule (KeepsOwn run.shape commands c.args.at run.all.now)
    (subst (λ (g : List Event). All (KeepsOwn run.shape commands c.args.at g) own_order)
    (c.requires.run.front ∙ take_all (length run.events.now) run.all.now c.if-right-count.false) c.in-None.ensures)))
