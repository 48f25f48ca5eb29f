use Rattle.std.proofs.Common.{sym, ◌∙◌}
use Rattle.nm_trace.proofs.StageLemmas.{pairs_end, pairs_more}
use Rattle.nm_trace.proofs.reading.read_pairs.Goals as goal

pub loop-pairs-preserved : goal.loop-pairs-preserved
loop-pairs-preserved c = λ ranks notes.
    let read = rw c.in-Some.is at c.in_ok-pair.ensures.read in
    let number = rw c.in-Some.is at c.in_ok-pair.ensures.number in
    let text = c.loop-pairs.text in
    rw (c.in_ok-push.ensures.ok, number) (c.loop-pairs.invariant ranks notes
    ∙ pairs_more ranks text.rest.now text.number notes c.loop-pairs.pairs c.in-Some.pair
    c.in-Some.after.rest.now (sym read))

pub returns-clause-told : goal.returns-clause-told
returns-clause-told c = λ ranks notes.
    let read = rw c.in_default.is at c.in_ok-pair.ensures.read in
    let text = c.loop-pairs.text in
    c.loop-pairs.invariant ranks notes
    ∙ pairs_end ranks text.rest.now text.number notes c.loop-pairs.pairs (sym read)
