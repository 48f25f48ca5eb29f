-- The reports of one variant more, or why they are not there.
use Rattle.std.proofs.Common.{◌+◌, subst}
use Rattle.nm_variants.specs.declared.searching.Searched.{Searched}
use Rattle.nm_variants.specs.Reports.{AreReportsBelow, IsSearched}
use Rattle.nm_variants.specs.Variants.{variant_of}
use Rattle.nm_variants.proofs.ReportLemmas.{more, too_large, too_long, too_long_below}
use Rattle.nm_variants.proofs.unions.add_variant.Goals as goal
use Rattle.nm_variants.proofs.unions.add_variant.Goals.{After-is_within}

pub returns-in-TooMany : goal.returns-in-TooMany
returns-in-TooMany c =
    too_large c.args.shape c.args.script.now.lines c.args.number c.args.bound
    (subst
    (λ (s : Searched). IsSearched c.args.shape
    (variant_of c.args.shape.eager c.args.number c.args.script.now.lines) c.args.bound s) c.in-TooMany.is
    c.in_ok-more.ensures)

pub returns-in-TooLong : goal.returns-in-TooLong
returns-in-TooLong c =
    too_long c.args.shape c.args.script.now.lines c.args.number
    (subst
    (λ (s : Searched). IsSearched c.args.shape
    (variant_of c.args.shape.eager c.args.number c.args.script.now.lines) c.args.bound s) c.in-TooLong.is
    c.in_ok-more.ensures)

-- with the reports of the variant
joined : (c : After-is_within) →
    AreReportsBelow c.args.shape c.args.script.now.lines (c.args.number + 1) c.join.new.texts
joined c =
    more c.args.shape c.args.script.now.lines c.args.number c.args.texts.now c.in-All.more c.join.new.texts
    c.requires
    (subst
    (λ (s : Searched). IsSearched c.args.shape
    (variant_of c.args.shape.eager c.args.number c.args.script.now.lines) c.args.bound s) c.in-All.is
    c.in_ok-more.ensures)
    c.in_ok-join.ensures.rising c.in_ok-join.ensures.joined

pub returns-then-is_within : goal.returns-then-is_within
returns-then-is_within c = joined (goal.at.returns-then-is_within c).After-is_within

pub returns : goal.returns
returns c =
    too_long_below c.args.shape c.args.script.now.lines (c.args.number + 1) c.join.new.texts c.is_within.result
    (joined (goal.at.returns c).After-is_within) c.is_within.ensures c.if-is_within.false
