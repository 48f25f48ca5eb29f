-- Each line up to the next one is of another rank.
use Rattle.std.proofs.Common.{◌∙◌, ap, arith, refl, sym}
use Rattle.std.proofs.lemmas.Option.{slice_get_read}
use Rattle.nm_types.specs.declared.scripts.Line.{Line}
use Rattle.nm_why.proofs.CandidateLemmas.{next_here, next_none, none_more}
use Rattle.nm_why.proofs.candidates.next_of.Goals as goal

pub loop-k-init : goal.loop-k-init
loop-k-init c = λ k line later low there same. omega (arith, later, low)

pub returns-then-own-rank : goal.returns-then-own-rank
returns-then-own-rank c =
    next_here c.args.lines.now c.args.rank c.args.place c.loop-k.k c.index-lines-k.result (omega arith)
    (slice_get_read c.args.lines.now _ c.loop-k.k c.index-lines-k.result refl c.loop-k-test.true c.index-lines-k.is)
    (ap (λ (l : Line). l.rank) c.index-lines-k.is ∙ c.if-own-rank.true) c.loop-k.invariant

pub loop-k-preserved : goal.loop-k-preserved
loop-k-preserved c =
    none_more c.args.lines.now c.args.rank c.args.place c.loop-k.k c.index-lines-k.result
    (slice_get_read c.args.lines.now _ c.loop-k.k c.index-lines-k.result refl c.loop-k-test.true c.index-lines-k.is)
    (λ same. c.if-own-rank.false (sym (ap (λ (l : Line). l.rank) c.index-lines-k.is) ∙ same)) c.loop-k.invariant

pub returns : goal.returns
returns c =
    next_none c.args.lines.now c.args.rank c.args.place c.loop-k.k c.loop-k-test.false c.loop-k.invariant
