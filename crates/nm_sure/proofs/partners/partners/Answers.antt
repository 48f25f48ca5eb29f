-- One partner more.
use Rattle.std.proofs.Common.{◌≡◌, length, arith, ap, refl, Some}
use Rattle.std.specs.List.{slice_get}
use Rattle.std.proofs.lemmas.List.FromFn.{length-map-range_with_len}
use Rattle.std.proofs.lemmas.Option.{slice_get_read}
use Rattle.nm_sure.specs.Ways.{place_at}
use Rattle.nm_sure.proofs.Partnered.{given_read, partner_more}
use Rattle.nm_sure.proofs.partners.partners.Goals as goal

pub index-requires : goal.index-requires
index-requires c =
    let count = length-map-range_with_len (place_at c.args.lines.now) 0 (length c.args.lines.now) in
    let same = ap (λ xs. length xs) c.in_ok-placed.ensures.places in
    omega (arith, count, same)

pub loop-k-preserved : goal.loop-k-preserved
loop-k-preserved c =
    let here : slice_get c.args.lines.now c.loop-k.k ≡ Some c.index-lines-k.result =
    slice_get_read c.args.lines.now (length c.args.lines.now) c.loop-k.k c.index-lines-k.result refl
    (omega arith) c.index-lines-k.is in
    partner_more c.in_ok-placed.placed.sends c.in_ok-placed.placed.receives c.args.lines.now c.loop-k.k
    c.index-lines-k.result
    c.index.result.now c.partner.result _ _ here
    (given_read (place_at c.args.lines.now) (length c.args.lines.now) c.loop-k.k c.in_ok-placed.placed.places.items
    c.index.result.now
    c.in_ok-placed.ensures.places (omega arith) c.index.ensures)
    c.in_ok-placed.ensures.all c.loop-k.invariant c.partner.ensures c.in_ok-push.ensures.items
