use Rattle.std.proofs.Common.{◌≡◌, ◌+◌, ◌-◌, ◌*◌, ◌/◌, ◌%◌, ◌≤◌, take, drop, map, sym, ap, subst, ◌∙◌, arith}
use Rattle.std.specs.List.{range_with_len}
use Rattle.nm_types.specs.Bodies.{body_len, bytes_of, generated_byte}
use Rattle.nm_types.proofs.RangeLemmas.{generated-again, generated-range}
use Rattle.nm_types.proofs.ranges.part.Goals as goal

pub returns-in-Gen : goal.returns-in-Gen
returns-in-Gen c =
    let start = c.args.start in let size = c.args.size in
    let place = start % 251 in
    let within : start + size ≤ c.in-Gen.field-0 =
    subst (λ body. start + size ≤ body_len body) c.in-Gen.is c.requires.there in
    let many : place + size - place ≡ size = omega arith in
    let lies : place + size ≤ 1274 = omega arith in
    let turns : start ≡ place + 251 * (start / 251) = omega arith in
    ap (λ n. take n (drop place (map generated_byte (range_with_len 0 1274)))) many
    ∙ sym (generated-range place size 1274 lies) ∙ sym (generated-again size start place (start / 251) turns)
    ∙ generated-range start size c.in-Gen.field-0 within
    ∙ ap (λ body. take size (drop start (bytes_of body))) (sym c.in-Gen.is)
