-- All options ask for one part.
use Rattle.std.proofs.Common.{◌∙◌, map, string_bytes, sym}
use Rattle.nm_chart.proofs.WordLemmas.{asked}
use Rattle.nm_chart.proofs.words.read.Goals as goal

pub returns-in-Some-clause-asked : goal.returns-in-Some-clause-asked
returns-in-Some-clause-asked c =
    c.part.ensures.part
    ∙ asked (map string_bytes c.args.words.now) c.nothing.result _ c.nothing.ensures
    (sym c.in-Some.is ∙ c.in_ok-found.ensures)

pub returns-in-None-clause-asked : goal.returns-in-None-clause-asked
returns-in-None-clause-asked c =
    asked (map string_bytes c.args.words.now) c.nothing.result _ c.nothing.ensures
    (sym c.in-None.is ∙ c.in_ok-found.ensures)
