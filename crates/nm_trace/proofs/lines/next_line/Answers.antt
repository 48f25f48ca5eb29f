use Rattle.std.proofs.Common.{arith, sym}
use Rattle.nm_script.proofs.LineLemmas.{rest_is}
use Rattle.nm_trace.proofs.LineLemmas.{first_cut, first_none}
use Rattle.nm_trace.proofs.lines.next_line.Goals as goal

pub returns-then-byte-eq10-clause-first : goal.returns-then-byte-eq10-clause-first
returns-then-byte-eq10-clause-first c = rw rest_is
    (sym (first_cut c.args.bytes.now c.loop-at.at (omega arith) c.loop-at.invariant
    c.if-byte-eq10.true))

pub returns-clause-first : goal.returns-clause-first
returns-clause-first c = sym (first_none c.args.bytes.now (λ k h. c.loop-at.invariant k (omega arith)))
