-- By what was found.
use Rattle.std.proofs.Common.{subst}
use Rattle.nm_hangs.specs.declared.hangs.Hang.{Hang}
use Rattle.nm_hangs.specs.Found.{IsHang}
use Rattle.nm_why_top.proofs.FateLemmas.{never_hung, trace_hangs}
use Rattle.nm_why_top.proofs.searching.fate_by.Goals as goal

pub returns-in-Found : goal.returns-in-Found
returns-in-Found c = λ shape lines states found.
    trace_hangs shape lines _ (subst (λ (h : Hang). IsHang shape lines states h) c.in-Found.is found)

pub returns-in-Never : goal.returns-in-Never
returns-in-Never c = λ shape lines states found.
    never_hung shape lines (subst (λ (h : Hang). IsHang shape lines states h) c.in-Never.is found)
