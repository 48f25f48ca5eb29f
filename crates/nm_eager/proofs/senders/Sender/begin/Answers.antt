use Rattle.std.proofs.Common.{◌≡◌, ◌+◌, ◌<◌, ◌≤◌, ◌++◌, ◌∙◌, List, ap, arith, length}
use Rattle.std.specs.VecDeque.{deque_capacity}
use Rattle.std.proofs.lemmas.List.{append-nil}
use Rattle.nm_eager.specs.Streams.{Incoming, Stream}
use Rattle.nm_eager.specs.Senders.{placed, standing}
use Rattle.nm_eager.proofs.PlaceLemmas.{first_place-again, numbers-placed, placed-length}
use Rattle.nm_eager.proofs.SenderLemmas.{begun-places, begun-received, begun-stream, none-closed}
use Rattle.nm_eager.proofs.SenderLemmas.{moved-above, moved-behind, moved-below, moved-standing}
use Rattle.nm_eager.proofs.senders.Sender.begin.Goals as goal

pub put-requires-clause-behind : goal.put-requires-clause-behind
put-requires-clause-behind c =
    let s = c.self.inside in
    let at = c.self.invariant.2 in
    let is = c.extend.ensures
    ∙ ap (λ (x : Incoming). record x { bytes = x.bytes ++ c.args.bytes.now }) c.new-message.ensures in
    let number = ap (λ (x : Incoming). x.n) is in
    let le : s.first + length s.whole.items ≤ s.count = omega (arith, at.counted, placed-length s.first s.whole.items) in
    rw number (moved-below s.first s.count _ s.whole.items s.unfinished c.self.invariant.1 at s.count
    c.first_of-self-inside.result le c.first_of-self-inside.ensures)

pub put-requires-clause-room : goal.put-requires-clause-room
put-requires-clause-room c =
    let s = c.self.inside in
    let at = c.self.invariant.2 in
    let is = c.extend.ensures
    ∙ ap (λ (x : Incoming). record x { bytes = x.bytes ++ c.args.bytes.now }) c.new-message.ensures in
    let number = ap (λ (x : Incoming). x.n) is in
    let le : s.first + length s.whole.items ≤ s.count = omega (arith, at.counted, placed-length s.first s.whole.items) in
    let above = moved-above s.first s.count _ s.whole.items s.unfinished c.self.invariant.1 at s.count
    c.first_of-self-inside.result le c.first_of-self-inside.ensures in
    rw number (omega (arith, above, rw (← c.self.view_is) at c.requires.room.kept))

pub put-requires-clause-next : goal.put-requires-clause-next
put-requires-clause-next c =
    let s = c.self.inside in
    let is = c.extend.ensures
    ∙ ap (λ (x : Incoming). record x { bytes = x.bytes ++ c.args.bytes.now }) c.new-message.ensures in
    let number = ap (λ (x : Incoming). x.n) is in
    rw (number, c.first_of-self-inside.ensures) (first_place-again s.first s.count s.whole.items)

pub invariant_of-self : goal.invariant_of-self
invariant_of-self c =
    let s = c.self.inside in
    let items = s.whole.items in
    let now = c.first_of-self-inside.result in
    let kept = c.self.invariant.1 in
    let at = c.self.invariant.2 in
    let is = c.extend.ensures
    ∙ ap (λ (x : Incoming). record x { bytes = x.bytes ++ c.args.bytes.now }) c.new-message.ensures in
    let le : s.first + length items ≤ s.count = omega (arith, at.counted, placed-length s.first items) in
    let above = moved-above s.first s.count _ items s.unfinished kept at s.count now le c.first_of-self-inside.ensures in
    let behind = moved-behind s.first s.count _ items s.unfinished kept at s.count now le c.first_of-self-inside.ensures in
    let same = moved-standing s.first s.count _ items s.unfinished kept at s.count now le c.first_of-self-inside.ensures in
    let room : s.count < now + deque_capacity s.whole =
    omega (arith, above, rw (← c.self.view_is) at c.requires.room.kept) in (
      rw c.replace-buffer.ensures.after c.new.ensures.items,
      rw c.put.ensures.room (begun-received now s.count (placed now items) (placed now c.put.new.whole.items)
          c.extend.new.self c.put.result c.args.len c.args.bytes.now (numbers-placed now items) behind is
          c.requires.within c.put.ensures.put _ (rw same kept.are_whole) room),
      begun-places now s.count (placed now items) (placed now c.put.new.whole.items)
          c.extend.new.self c.put.result c.args.len c.args.bytes.now (numbers-placed now items) behind is
          c.requires.within c.put.ensures.put (rw (← c.self.view_is) at c.requires.limit),
      c.put.ensures.begins,
    )

pub returns : goal.returns
returns c =
    let s = c.self.inside in
    let items = s.whole.items in
    let now = c.first_of-self-inside.result in
    let kept = c.self.invariant.1 in
    let at = c.self.invariant.2 in
    let is = c.extend.ensures
    ∙ ap (λ (x : Incoming). record x { bytes = x.bytes ++ c.args.bytes.now }) c.new-message.ensures in
    let le : s.first + length items ≤ s.count = omega (arith, at.counted, placed-length s.first items) in
    let behind = moved-behind s.first s.count _ items s.unfinished kept at s.count now le c.first_of-self-inside.ensures in
    let same = moved-standing s.first s.count _ items s.unfinished kept at s.count now le c.first_of-self-inside.ensures in
    let closed = none-closed s.count (standing (placed s.first items)) _ s.unfinished kept
    (rw (← c.self.view_is) at c.requires.closed) in
    let stream = begun-stream now s.count (placed now items) (placed now c.put.new.whole.items)
    c.extend.new.self c.put.result c.args.len c.args.bytes.now (numbers-placed now items) behind is
    c.requires.within c.put.ensures.put in
    rw (← c.self.view_is, closed, append-nil (standing (placed s.first items)), ← same)
    (ap (λ (ms : List Incoming). let of : Stream = record { count = s.count + 1; messages = ms } in of) stream)
