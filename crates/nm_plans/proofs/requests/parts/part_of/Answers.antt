use Rattle.std.proofs.Common.{◌≡◌, ◌+◌, arith, length, ap, ◌∙◌, take, drop, ◌-◌, sym}
use Rattle.nm_types.specs.Bodies.{body_len, bytes_of}
use Rattle.nm_plans.specs.Expansion.{part_start}
use Rattle.nm_plans.proofs.PartLemmas.{part_more, starts_rise}
use Rattle.nm_plans.proofs.requests.parts.part_of.Goals as goal

pub loop-place-preserved : goal.loop-place-preserved
loop-place-preserved c =
    let len : length (bytes_of c.args.body.now) ≡ body_len c.args.body.now =
    c.bodies_have_their_length.ensures c.args.body.now in
    part_more (bytes_of c.args.body.now) c.loop-place.bytes _ c.part_start-start.result c.loop-place.place
    c.byte.result c.loop-place.auto.place
    (omega (arith, len, c.loop-place-test.true, c.part_start-end.ensures.inside, c.len-2.ensures))
    c.byte.ensures c.loop-place.invariant c.in_ok-push.ensures.ok

pub returns : goal.returns
returns c =
    let bytes = bytes_of c.args.body.now in
    let parts = c.args.parts in
    let k = c.args.k in
    let len : length bytes ≡ body_len c.args.body.now = c.bodies_have_their_length.ensures c.args.body.now in
    let start : c.part_start-start.result ≡ part_start parts k (length bytes) =
    c.part_start-start.ensures.exact ∙ ap (part_start parts k) (c.len.ensures ∙ sym len) in
    let end : c.part_start-end.result ≡ part_start parts (k + 1) (length bytes) =
    c.part_start-end.ensures.exact ∙ ap (part_start parts (k + 1)) (c.len-2.ensures ∙ sym len) in
    let rise = starts_rise parts k (length bytes) (omega arith) in
    let place : c.loop-place.place ≡ c.part_start-end.result =
    omega (arith, start, end, rise, c.loop-place.auto.place-end, c.loop-place-test.false) in
    c.loop-place.invariant
    ∙ ap (λ n. take (n - c.part_start-start.result) (drop c.part_start-start.result bytes)) (place ∙ end)
    ∙ ap (λ n. take (part_start parts (k + 1) (length bytes) - n) (drop n bytes)) start
