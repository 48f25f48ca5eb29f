use Rattle.std.proofs.Common.{◌≡◌, ◌+◌, ◌≤◌, ◌∙◌, ap, arith, length, refl}
use Rattle.std.specs.VecDeque.{deque_capacity}
use Rattle.nm_eager.specs.Senders.{first_place, next_put, placed, standing}
use Rattle.nm_eager.proofs.SenderLemmas.{moved-above, moved-places, moved-received, moved-standing}
use Rattle.nm_eager.proofs.SenderLemmas.{next_put-behind, next_put-counted, next_put-unfinished}
use Rattle.nm_eager.proofs.senders.Sender.settle.Goals as goal

pub invariant_of-self : goal.invariant_of-self
invariant_of-self c =
    let s = c.self.inside in
    let items = s.whole.items in
    let kept = c.self.invariant.1 in
    let at = c.self.invariant.2 in
    let next = next_put s.count s.unfinished in
    let now = c.first_of-self-inside.result in
    let is : now ≡ first_place s.first items next =
    c.first_of-self-inside.ensures ∙ ap (first_place s.first items) c.next_number-next.ensures in
    let le = next_put-behind s.first s.count items s.unfinished at in
    let above = moved-above s.first s.count _ items s.unfinished kept at next now le is in
    let more : s.first + deque_capacity s.whole ≤ now + deque_capacity s.whole = omega (arith, above) in (
      c.self.invariant.0,
      moved-received s.first s.count _ items s.unfinished kept at next now le is (now + deque_capacity s.whole) more,
      moved-places s.first s.count _ items s.unfinished kept at next now le is
          (next_put-counted s.count (standing (placed s.first items)) s.unfinished _ kept)
          (next_put-unfinished s.count s.unfinished),
      c.self.invariant.3,
    )

pub returns : goal.returns
returns c =
    let s = c.self.inside in
    let items = s.whole.items in
    let kept = c.self.invariant.1 in
    let at = c.self.invariant.2 in
    let next = next_put s.count s.unfinished in
    let now = c.first_of-self-inside.result in
    let is : now ≡ first_place s.first items next =
    c.first_of-self-inside.ensures ∙ ap (first_place s.first items) c.next_number-next.ensures in
    let le = next_put-behind s.first s.count items s.unfinished at in
    let above = moved-above s.first s.count _ items s.unfinished kept at next now le is in
    let same = moved-standing s.first s.count _ items s.unfinished kept at next now le is in
    rw (← c.self.view_is, same) (record { same = refl; kept = omega (arith, above); buffered = omega arith })
