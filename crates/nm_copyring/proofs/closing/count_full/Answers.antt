use Rattle.std.proofs.Common.{◌≡◌, ◌+◌, ◌≤◌, sym, ap, ◌∙◌, arith, rules}
use Rattle.std.specs.Slots.{slots_items}
use Rattle.nm_chain.specs.Total.{sign}
use Rattle.nm_chain.proofs.TotalLemmas.{positive}
use Rattle.nm_copyring.proofs.ClosingLemmas.{one_more}
use Rattle.nm_copyring.proofs.closing.count_full.Goals as goal
use Rattle.nm_copyring.proofs.closing.count_full.Goals.{then-word-ne0, else-word-ne0}

pub loop-i-preserved : goal.loop-i-preserved
loop-i-preserved c = let inv = c.loop-i.invariant in
    let counted : c.if-word-ne0.left ≡ c.loop-i.left + sign c.word.result =
    elim c.if-word-ne0.branch [
      | then-word-ne0 w ↦ let ne = w.if-word-ne0.true in
          w.left-is ∙ ap (λ u. c.loop-i.left + u) (sym (positive c.word.result (omega arith)))
      | else-word-ne0 w ↦ let none : sign c.word.result ≡ 0 = ap sign w.if-word-ne0.false in
          let same = w.left-is in omega (arith, none, same)
    ] in
    let few : c.if-word-ne0.left ≤ c.loop-i.i + 1 = search rules in (
      one_more (slots_items c.args.closed.now.words) c.loop-i.i c.word.result c.loop-i.left
          c.if-word-ne0.left c.word.ensures inv.0 counted,
      few,
    )
