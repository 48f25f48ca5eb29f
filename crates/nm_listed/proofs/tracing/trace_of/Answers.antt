-- The run whose report has the number among all reports.
use Rattle.std.proofs.Common.{subst}
use Rattle.nm_explored.proofs.TellLemmas.{ok_weaker}
use Rattle.nm_outcomes.specs.Outcomes.{AreOutcomes}
use Rattle.nm_listed.specs.Texts.{SameTexts}
use Rattle.nm_listed.proofs.ToldLemmas.{are_outcomes, not_within, texts_lawful}
use Rattle.nm_listed.proofs.TraceLemmas.{traced, way_only}
use Rattle.nm_listed.proofs.tracing.trace_of.Goals as goal
use Rattle.nm_listed.proofs.tracing.trace_of.Goals.{After-is_within}

pub chosen-requires-clause-same : goal.chosen-requires-clause-same
chosen-requires-clause-same c =
    subst (λ old. SameTexts old c.put_in_order.new.self) c.in_ok-list.ensures c.in_ok-put_in_order.ensures.same

pub chosen-requires-clause-reported : goal.chosen-requires-clause-reported
chosen-requires-clause-reported c = record {
  ends = c.args.ends.items;
  by_way = c.requires.ways;
  texts_are = c.in_ok-found.ensures.told;
  ways_are = c.in_ok-found.ensures.ways;
}

-- what was put in order
found : (c : After-is_within) → AreOutcomes c.args.shape c.args.script.now.lines c.put_in_order.new.self
found c =
    let shape = c.args.shape in
    let lines = c.args.script.now.lines in
    are_outcomes c.reports_say_what_was_told.ensures shape lines c.args.ends.items c.in_ok-found.found.texts
    c.put_in_order.new.self c.in_ok-found.ensures.told
    (texts_lawful c.ends_are_runs.ensures c.reports_say_what_was_told.ensures shape c.args.script.now.ranks lines
    c.args.ends.items c.in_ok-found.found.texts c.requires.equal c.args.script.now.limits
    (way_only shape lines c.args.ends.items c.requires.ways) c.in_ok-found.ensures.told)
    c.in_ok-put_in_order.ensures.rising
    (subst (λ old. SameTexts old c.put_in_order.new.self) c.in_ok-list.ensures c.in_ok-put_in_order.ensures.same)
    c.requires.tells

pub returns-then-is_within : goal.returns-then-is_within
returns-then-is_within c =
    let at = (goal.at.returns-then-is_within c).After-is_within in
    ok_weaker _ _
    (λ t chosen. traced c.args.shape c.args.script.now.lines c.put_in_order.new.self c.args.number t (found at) chosen)
    c.chosen.result c.chosen.ensures

pub returns : goal.returns
returns c = (
  c.put_in_order.new.self,
  found (goal.at.returns c).After-is_within,
  not_within c.is_within.result _ _ c.is_within.ensures c.if-is_within.false,
)
