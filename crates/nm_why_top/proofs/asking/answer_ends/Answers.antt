-- What is told is counted, or too long, and explained.
use Rattle.std.proofs.Common.{inr, refl, subst, sym}
use Rattle.nm_listed.specs.declared.finding.Found.{Found}
use Rattle.nm_listed.specs.Finding.{IsFound}
use Rattle.nm_why_top.specs.declared.answers.Count.{Count}
use Rattle.nm_why_top.specs.Answers.{IsCounted}
use Rattle.nm_why_top.proofs.AskedLemmas.{told_right}
use Rattle.nm_why_top.proofs.asking.answer_ends.Goals as goal

pub returns-in-All : goal.returns-in-All
returns-in-All c =
    let lines = c.args.script.now.lines in
    let found = subst (λ (f : Found). IsFound c.args.shape lines f) c.in-All.is c.in_ok-texts.ensures.found in
    told_right c.args.asked c.args.script.now.ranks lines c.args.shape c.requires.sizes
    c.count_of.result c.in_ok-why.why
    (subst (λ (n : Count). IsCounted c.args.asked c.args.shape lines n) (sym c.count_of.ensures)
    (c.in-All.texts, found.0, refl, refl))
    c.in_ok-why.ensures c.told_of.result c.told_of.ensures

pub returns-in-TooLong : goal.returns-in-TooLong
returns-in-TooLong c =
    let lines = c.args.script.now.lines in
    told_right c.args.asked c.args.script.now.ranks lines c.args.shape c.requires.sizes _ c.in_ok-why.why
    (inr (subst (λ (f : Found). IsFound c.args.shape lines f) c.in-TooLong.is c.in_ok-texts.ensures.found))
    c.in_ok-why.ensures c.told_of-in-TooLong.result c.told_of-in-TooLong.ensures
