-- The texts of ends that tell all, in order and each once, are all reports.
use Rattle.nm_outcomes.specs.Outcomes.{AreOutcomes}
use Rattle.nm_listed.proofs.ToldLemmas.{are_outcomes, not_within, texts_lawful}
use Rattle.nm_listed.proofs.finding.reports.Goals as goal
use Rattle.nm_listed.proofs.finding.reports.Goals.{After-is_within}

-- what was put in order
found : (c : After-is_within) →
    AreOutcomes c.args.shape c.args.script.now.lines c.put_in_order.new.self
found c =
    are_outcomes c.reports_say_what_was_told.ensures c.args.shape c.args.script.now.lines c.args.ends.items
    c.in_ok-texts.texts c.put_in_order.new.self c.in_ok-texts.ensures
    (texts_lawful c.ends_are_runs.ensures c.reports_say_what_was_told.ensures c.args.shape
    c.args.script.now.ranks c.args.script.now.lines c.args.ends.items c.in_ok-texts.texts c.requires.equal
    c.args.script.now.limits c.requires.only c.in_ok-texts.ensures)
    c.in_ok-put_in_order.ensures.rising c.in_ok-put_in_order.ensures.same c.requires.tells

pub returns-then-is_within : goal.returns-then-is_within
returns-then-is_within c =
    record {
      found = (
        found (goal.at.returns-then-is_within c).After-is_within,
        c.is_within.ensures.0 c.if-is_within.true,
      );
    }

pub returns-else-is_within : goal.returns-else-is_within
returns-else-is_within c =
    record {
      found = (
        c.put_in_order.new.self,
        found (goal.at.returns-else-is_within c).After-is_within,
        not_within c.is_within.result _ _ c.is_within.ensures c.if-is_within.false,
      );
    }
