use Rattle.std.proofs.Common.{List, ◌+◌, ◌∙◌, ap, take, add_assoc, sym, add-zero}
use Rattle.std.specs.Prelude.{count_by}
use Rattle.std.proofs.lemmas.List.{take_all}
use Rattle.nm_history.specs.declared.plain.Pair.{Pair}
use Rattle.nm_history.specs.Outgoing.{is_clear}
use Rattle.nm_check.specs.Counting.{load_to}
use Rattle.nm_check.proofs.CountingLemmas.{due_same, one_pair}
use Rattle.nm_check.proofs.rest.counts.with_pairs.Goals as goal

pub loop-pair-init : goal.loop-pair-init
loop-pair-init c = λ due before. due_same c.args.counts due (λ to. due to + 0) (λ to. sym (add-zero (due to))) before

pub loop-pair-preserved : goal.loop-pair-preserved
loop-pair-preserved c = λ due before.
    due_same c.add.new.counts (λ to. due to + count_by (is_clear to) (take c.loop-pair.pair-index c.args.pairs.now) +
    load_to to c.load_of_pair.result)
    (λ to. due to + count_by (is_clear to) (take (c.loop-pair.pair-index + 1) c.args.pairs.now))
    (λ to. add_assoc (due to) (count_by (is_clear to) (take c.loop-pair.pair-index c.args.pairs.now))
    (load_to to c.load_of_pair.result)
    ∙ ap (λ n. due to + n) (ap (λ n. count_by (is_clear to) (take c.loop-pair.pair-index c.args.pairs.now) + n)
    (c.load_of_pair.ensures to)
    ∙ one_pair (is_clear to) c.args.pairs.now c.loop-pair.pair-index _ c.loop-pair-test.true))
    (c.add.ensures (λ to. due to + count_by (is_clear to) (take c.loop-pair.pair-index c.args.pairs.now))
    (c.loop-pair.invariant due before))

pub returns : goal.returns
returns c = λ due before.
    due_same c.loop-pair.counts (λ to. due to + count_by (is_clear to) (take c.loop-pair.pair-index c.args.pairs.now))
    (λ to. due to + count_by (is_clear to) c.args.pairs.now)
    (λ to. ap (λ (ps : List Pair). due to + count_by (is_clear to) ps)
    (take_all c.loop-pair.pair-index c.args.pairs.now c.loop-pair-test.false))
    (c.loop-pair.invariant due before)
