-- A run that hangs was found, or none does.
use Rattle.std.proofs.Common.{subst}
use Rattle.nm_hangs.specs.declared.hangs.Hang.{Hang}
use Rattle.nm_hangs.specs.Found.{IsHang}
use Rattle.nm_why_top.proofs.FateLemmas.{never_hung, trace_hangs}
use Rattle.nm_why_top.proofs.searching.fate_after.Goals as goal

pub fate_of_hanging-requires-clause-hangs : goal.fate_of_hanging-requires-clause-hangs
fate_of_hanging-requires-clause-hangs c =
    trace_hangs c.args.shape c.args.script.now.lines _
    (subst (λ (h : Hang). IsHang c.args.shape c.args.script.now.lines c.args.states h) c.in-Found.is c.requires.found)

pub returns-in-Never : goal.returns-in-Never
returns-in-Never c =
    never_hung c.args.shape c.args.script.now.lines
    (subst (λ (h : Hang). IsHang c.args.shape c.args.script.now.lines c.args.states h) c.in-Never.is c.requires.found)
