use Rattle.std.proofs.Common.{◌∙◌, sym, arith}
use Rattle.nm_eager.proofs.PlaceLemmas.{gone-all, gone-more}
use Rattle.nm_eager.proofs.senders.let_go.Goals as goal

pub loop-gone-preserved : goal.loop-gone-preserved
loop-gone-preserved c =
    let l = c.loop-gone in (
      rw c.pop_front-empty.ensures.rest (gone-more c.args.whole.now.items l.whole.items l.gone l.invariant.0
          (sym c.is_first_empty.ensures ∙ c.if-not-is_first_empty.false)),
      c.pop_front-empty.ensures.capacity ∙ l.invariant.1,
    )

pub returns-clause-begins : goal.returns-clause-begins
returns-clause-begins c =
    let l = c.loop-gone in
    gone-all c.args.whole.now.items l.whole.items l.gone l.invariant.0
    (omega (arith, c.len-all.ensures, c.args.whole.now.ok.0))
