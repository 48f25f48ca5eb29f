-- One word more.
use Rattle.std.proofs.Common.{◌∙◌, length-set, sym, true}
use Rattle.nm_chart.proofs.WordLemmas.{choose_next, choose_none}
use Rattle.nm_chart.proofs.words.ranks.choose.Goals as goal

pub loop-word-preserved : goal.loop-word-preserved
loop-word-preserved c =
    let step = choose_next (λ word. word.now) c.args.words.now c.loop-word.word-index _ c.in_ok-rank.rank
    c.loop-word.chosen c.loop-word-test.true c.in_ok-rank.ensures.exact in
    record {
      many = length-set c.loop-word.chosen c.in_ok-rank.rank true ∙ c.loop-word.invariant.many;
      so_far = sym step ∙ c.loop-word.invariant.so_far;
    }

pub returns-in_err-rank : goal.returns-in_err-rank
returns-in_err-rank c =
    c.from_residual.ensures
    ∙ sym (choose_none (λ word. word.now) c.args.words.now c.loop-word.word-index _ c.loop-word.chosen
    c.loop-word-test.true c.in_err-rank.ensures.exact)
    ∙ c.loop-word.invariant.so_far
