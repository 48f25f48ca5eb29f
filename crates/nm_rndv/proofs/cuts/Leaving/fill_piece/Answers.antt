use Rattle.std.proofs.Common.{◌≡◌, ◌-◌, ◌*◌, length, take, drop, min, sym, ap, ◌∙◌, arith}
use Rattle.nm_types.specs.Bodies.{bytes_of}
use Rattle.nm_types.proofs.RangeLemmas.{up_to_the_end}
use Rattle.nm_rndv.specs.Cuts.{Cut, offset_of}
use Rattle.nm_rndv.proofs.cuts.Leaving.fill_piece.Goals as goal

pub returns-clause-bytes : goal.returns-clause-bytes
returns-clause-bytes c =
    let xs = bytes_of c.self.inside.body in
    let start = c.offset-at.result in
    let from : start ≡ 1024 * c.self.inside.popped = c.offset-at.ensures
    ∙ ap (λ (cut : Cut). offset_of cut) (sym c.self.view_is) in
    let size : c.min-size.result ≡ min (length xs - start) 1024 = omega (
      arith,
      c.min-size.ensures,
      c.len.ensures,
      c.bodies_have_their_length.ensures c.self.inside.body,
    ) in
    rw (← c.self.view_is) (c.set.ensures ∙ c.part.ensures ∙ up_to_the_end xs start 1024 c.min-size.result size
    ∙ ap (λ n. take 1024 (drop n xs)) from)
