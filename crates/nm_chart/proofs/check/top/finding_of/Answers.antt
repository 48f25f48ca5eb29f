-- What was judged is drawn with the flag at its place.
use Rattle.std.proofs.Common.{◌∙◌, Option, ap}
use Rattle.nm_picture.specs.declared.flags.Flag.{Flag}
use Rattle.nm_breaks.specs.Judgements.{judged_as}
use Rattle.nm_check.specs.declared.verdicts.Verdict.{Verdict}
use Rattle.nm_chart.specs.Findings.{flag_of}
use Rattle.nm_chart.specs.declared.check.findings.Finding.TheVariants.{Drawn}
use Rattle.nm_chart.proofs.check.top.finding_of.Goals as goal

pub returns-in-Judged-clause-finding : goal.returns-in-Judged-clause-finding
returns-in-Judged-clause-finding c =
    let placed = c.flag_of-flag.ensures ∙ ap (λ ranks. flag_of ranks c.in-Judged.judgement) c.as_slice.ensures in
    rw c.in-Judged.is
    (ap (λ (verdict : Verdict). Drawn c.in-Judged.run' verdict c.flag_of-flag.result) c.verdict-verdict.ensures
    ∙ ap (λ (flag : Option Flag). Drawn c.in-Judged.run' (judged_as c.in-Judged.judgement) flag) placed)
