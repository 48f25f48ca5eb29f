use Rattle.std.proofs.Common.{◌≡◌, ◌-◌, ◌*◌, length, take, drop, min, ap, ◌∙◌, arith}
use Rattle.nm_types.specs.Bodies.{bytes_of}
use Rattle.nm_types.proofs.RangeLemmas.{up_to_the_end}
use Rattle.nm_eager.specs.Cutting.{Cutting}
use Rattle.nm_eager.proofs.cutting.Cutter.fill_payload.Goals as goal

pub returns : goal.returns
returns c =
    let bytes = bytes_of c.self.inside.body in
    let place : c.self.inside.given ≡ c.args.self.now.given = ap (λ (v : Cutting). v.given) c.self.view_is in
    let start : c.start-start.result ≡ 256 * c.self.inside.given = rw place c.start-start.ensures in
    let size : c.min-size.result ≡ min (length bytes - c.start-start.result) 256 = omega
    (arith, c.min-size.ensures, c.len.ensures, c.self.invariant.1) in
    rw (← c.self.view_is) (c.set.ensures ∙ c.part.ensures
    ∙ up_to_the_end bytes c.start-start.result 256 c.min-size.result size
    ∙ ap (λ n. take 256 (drop n bytes)) start)
