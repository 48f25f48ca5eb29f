-- The run that was found is explained.
use Rattle.std.proofs.Common.{List, subst, sym}
use Rattle.nm_explored.specs.declared.choices.moves.Turn.{Turn}
use Rattle.nm_why_top.specs.declared.seeking.Seen.{Seen}
use Rattle.nm_why_top.specs.declared.seeking.Sought.TheVariants as sought
use Rattle.nm_why_top.specs.Seeking.{IsSeen, IsWayTo}
use Rattle.nm_why_top.proofs.AskedLemmas.{told_right}
use Rattle.nm_why_top.proofs.asking.answer_hanging.Goals as goal

pub explain_way-requires-clause-way : goal.explain_way-requires-clause-way
explain_way-requires-clause-way c =
    subst (λ (turns : List Turn). IsWayTo sought.Hang c.args.shape c.args.script.now.lines turns)
    (sym c.as_slice.ensures.value)
    (subst (λ (s : Seen). IsSeen sought.Hang c.args.shape c.args.script.now.lines s) c.in-By.is
    c.in_ok-path.ensures)

pub returns-in_ok-why-in-By : goal.returns-in_ok-why-in-By
returns-in_ok-why-in-By c =
    told_right c.args.asked c.args.script.now.ranks c.args.script.now.lines c.args.shape c.requires.sizes _ _
    c.requires.outgrowing c.in_ok-why-in-By.ensures c.told_of.result c.told_of.ensures

pub returns-in-Never : goal.returns-in-Never
returns-in-Never c =
    told_right c.args.asked c.args.script.now.ranks c.args.script.now.lines c.args.shape c.requires.sizes _ _
    c.requires.outgrowing
    (subst (λ (s : Seen). IsSeen sought.Hang c.args.shape c.args.script.now.lines s) c.in-Never.is
    c.in_ok-path.ensures)
    c.told_of-in-Never.result c.told_of-in-Never.ensures
