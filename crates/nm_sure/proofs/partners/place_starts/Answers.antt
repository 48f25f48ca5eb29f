-- One line more.
use Rattle.std.proofs.Common.{◌≡◌, length, arith, ap, get_or, refl, None, Some}
use Rattle.std.specs.List.{slice_get}
use Rattle.std.proofs.lemmas.List.FromFn.{length-map-range_with_len}
use Rattle.std.proofs.lemmas.Option.{get_or_from_slice_get, slice_get_read}
use Rattle.nm_sure.specs.Held.{held_at}
use Rattle.nm_sure.proofs.Partnered.{all_more, given_at, place_more}
use Rattle.nm_sure.proofs.partners.place_starts.Goals as goal

pub loop-k-preserved : goal.loop-k-preserved
loop-k-preserved c =
    let here : slice_get c.args.lines.now c.loop-k.k ≡ Some c.index-lines-k.result =
    slice_get_read c.args.lines.now (length c.args.lines.now) c.loop-k.k c.index-lines-k.result refl
    (omega arith) c.index-lines-k.is in
    let held : get_or c.args.held.now c.loop-k.k None ≡ held_at c.args.lines.now c.loop-k.k =
    get_or_from_slice_get c.args.held.now c.loop-k.k (held_at c.args.lines.now c.loop-k.k) None
    (given_at (held_at c.args.lines.now) (length c.args.lines.now) c.loop-k.k c.args.held.now c.requires.held
    (omega arith)) in (
      all_more c.loop-k.placed.sends c.put_line.new.self.sends c.loop-k.placed.receives c.put_line.new.self.receives
          c.args.lines.now
          c.loop-k.k c.index-lines-k.result (get_or c.args.held.now c.loop-k.k None) here held c.loop-k.invariant.0
          c.in_ok-put_line.ensures.sends c.in_ok-put_line.ensures.receives,
      place_more c.loop-k.placed.sends c.loop-k.placed.receives c.args.lines.now c.loop-k.k c.index-lines-k.result
          (get_or c.args.held.now c.loop-k.k None) c.loop-k.placed.places.items c.put_line.new.self.places.items here
          held
          c.loop-k.invariant.0 c.loop-k.invariant.1 c.in_ok-put_line.ensures.places,
    )

pub bounds-held-k : goal.bounds-held-k
bounds-held-k c =
    let count = length-map-range_with_len (held_at c.args.lines.now) 0 (length c.args.lines.now) in
    let same = ap (λ xs. length xs) c.requires.held in
    omega (arith, count, same)

pub loop-k-init : goal.loop-k-init
loop-k-init c = (
  record { sent = λ w. rw c.new.ensures.empty refl; taken = λ w. rw c.new-2.ensures.empty refl },
  c.new-3.ensures.items,
)
