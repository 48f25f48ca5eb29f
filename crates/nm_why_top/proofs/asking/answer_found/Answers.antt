-- No run hangs.
use Rattle.std.proofs.Common.{subst}
use Rattle.nm_hangs.specs.declared.hangs.Hang.{Hang}
use Rattle.nm_hangs.specs.Found.{IsHang}
use Rattle.nm_why_top.proofs.AskedLemmas.{told_right}
use Rattle.nm_why_top.proofs.FateLemmas.{never_hung}
use Rattle.nm_why_top.proofs.asking.answer_found.Goals as goal

pub returns-in-Never : goal.returns-in-Never
returns-in-Never c =
    told_right c.args.asked c.args.script.now.ranks c.args.script.now.lines c.args.shape c.requires.sizes _ _
    c.requires.outgrowing
    (never_hung c.args.shape c.args.script.now.lines
    (subst (λ (h : Hang). IsHang c.args.shape c.args.script.now.lines c.args.asked.states h) c.in-Never.is
    c.requires.found))
    c.told_of.result c.told_of.ensures
