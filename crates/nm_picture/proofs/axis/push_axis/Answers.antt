-- The text of the next number is written.
use Rattle.std.proofs.Common.{◌+◌, ◌++◌, ap, string_bytes, ◌∙◌}
use Rattle.nm_picture.specs.Pictures.{next_tick, tick_text}
use Rattle.nm_picture.proofs.CountLemmas.{next_counted}
use Rattle.nm_picture.proofs.axis.push_axis.Goals as goal

pub loop-k-preserved : goal.loop-k-preserved
loop-k-preserved c =
    let frame = c.args.frame.now in
    let k = c.loop-k.k in
    next_counted (next_tick frame) k _ _ _ _ c.loop-k-test.true
    (c.in_ok-push_tick.ensures.ok
    ∙ ap (λ n. string_bytes c.loop-k.out ++ tick_text frame (n + (k + 1))) c.count_passed-passed.ensures.value)
    c.loop-k.invariant
