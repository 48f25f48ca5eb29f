use Rattle.nm_eager.specs.Senders.{placed, standing}
use Rattle.std.proofs.Common.{◌≡◌, ◌+◌, ◌≤◌, List, ap, length, arith, sym, ◌∙◌}
use Rattle.std.specs.VecDeque.{deque_capacity}
use Rattle.nm_eager.specs.Streams.{Incoming, Stream, lacking}
use Rattle.nm_eager.proofs.PlaceLemmas.{first_place-again, placed-length}
use Rattle.nm_eager.proofs.SenderLemmas.{moved-above, moved-below, moved-places, moved-received, moved-standing}
use Rattle.nm_eager.proofs.SenderLemmas.{some-open, lacking-open, carried-places, carried-received, carried-stream}
use Rattle.nm_eager.proofs.senders.Sender.carry_on.Goals as goal

pub unreachable-requires : goal.unreachable-requires
unreachable-requires c =
    let s = c.self.inside in
    some-open s.count (standing (placed s.first s.whole.items)) _ s.unfinished c.self.invariant.1
    (rw (← c.self.view_is) at c.requires.open) (λ x is. c.in_default.not-Some x (c.take.ensures.value ∙ is))

pub extend-requires : goal.extend-requires
extend-requires c =
    let s = c.self.inside in
    let within = rw (← c.self.view_is) at c.requires.within in
    omega (
      arith,
      within,
      lacking-open s.count (standing (placed s.first s.whole.items)) _ s.unfinished c.in-Some.message
          c.self.invariant.1 (sym c.take.ensures.value ∙ c.in-Some.is),
    )

pub put-requires-clause-behind : goal.put-requires-clause-behind
put-requires-clause-behind c =
    let s = c.self.inside in
    let open' = sym c.take.ensures.value ∙ c.in-Some.is in
    let received = rw open' at c.self.invariant.1 in
    let at = rw open' at c.self.invariant.2 in
    let number : c.n.result ≡ c.in-Some.message.n = c.n.ensures ∙ ap (λ (x : Incoming). x.n) c.extend.ensures in
    let le : s.first + length s.whole.items ≤ c.n.result =
    omega (arith, at.behind, number, placed-length s.first s.whole.items) in
    rw (← c.n.ensures) (moved-below s.first s.count _ s.whole.items _ received at c.n.result c.first_of-self-inside.result le
    c.first_of-self-inside.ensures)

pub put-requires-clause-room : goal.put-requires-clause-room
put-requires-clause-room c =
    let s = c.self.inside in
    let open' = sym c.take.ensures.value ∙ c.in-Some.is in
    let received = rw open' at c.self.invariant.1 in
    let at = rw open' at c.self.invariant.2 in
    let last = received.last in
    let number : c.n.result ≡ c.in-Some.message.n = c.n.ensures ∙ ap (λ (x : Incoming). x.n) c.extend.ensures in
    let le : s.first + length s.whole.items ≤ c.n.result =
    omega (arith, at.behind, number, placed-length s.first s.whole.items) in
    let above = moved-above s.first s.count _ s.whole.items _ received at c.n.result c.first_of-self-inside.result le
    c.first_of-self-inside.ensures in
    rw (← c.n.ensures) (omega (arith, number, above, last.last, last.kept))

pub put-requires-clause-next : goal.put-requires-clause-next
put-requires-clause-next c =
    let s = c.self.inside in
    rw (← c.n.ensures, c.first_of-self-inside.ensures) (first_place-again s.first c.n.result s.whole.items)

pub invariant_of-self : goal.invariant_of-self
invariant_of-self c =
    let s = c.self.inside in
    let items = s.whole.items in
    let m = c.in-Some.message in
    let now = c.first_of-self-inside.result in
    let open' = sym c.take.ensures.value ∙ c.in-Some.is in
    let received = rw open' at c.self.invariant.1 in
    let at = rw open' at c.self.invariant.2 in
    let number : c.n.result ≡ m.n = c.n.ensures ∙ ap (λ (x : Incoming). x.n) c.extend.ensures in
    let le : s.first + length items ≤ c.n.result = omega (arith, at.behind, number, placed-length s.first items) in
    let above = moved-above s.first s.count _ items _ received at c.n.result now le c.first_of-self-inside.ensures in
    let more : s.first + deque_capacity s.whole ≤ now + deque_capacity s.whole = omega (arith, above) in
    let received' = moved-received s.first s.count _ items _ received at c.n.result now le c.first_of-self-inside.ensures
    (now + deque_capacity s.whole) more in
    let at' = moved-places s.first s.count _ items _ received at c.n.result now le c.first_of-self-inside.ensures
    (omega (arith, number, received.last.last)) (omega (arith, number)) in
    let size : length c.args.bytes.now ≤ lacking m = omega (
      arith,
      rw (← c.self.view_is) at c.requires.within,
      lacking-open s.count (standing (placed s.first items)) _ s.unfinished m c.self.invariant.1 open',
    ) in (
      c.self.invariant.0,
      rw c.put.ensures.room (carried-received now s.count (placed now items) (placed now c.put.new.whole.items) _ m
          c.extend.new.self c.put.result c.args.bytes.now received' at' c.extend.ensures size
          c.put.ensures.put),
      carried-places now s.count (placed now items) (placed now c.put.new.whole.items) _ m
          c.extend.new.self c.put.result c.args.bytes.now received' at' c.extend.ensures size
          c.put.ensures.put,
      c.put.ensures.begins,
    )

pub returns : goal.returns
returns c = λ n e.
    let s = c.self.inside in
    let items = s.whole.items in
    let m = c.in-Some.message in
    let now = c.first_of-self-inside.result in
    let open' = sym c.take.ensures.value ∙ c.in-Some.is in
    let received = rw open' at c.self.invariant.1 in
    let at = rw open' at c.self.invariant.2 in
    let number : c.n.result ≡ m.n = c.n.ensures ∙ ap (λ (x : Incoming). x.n) c.extend.ensures in
    let le : s.first + length items ≤ c.n.result = omega (arith, at.behind, number, placed-length s.first items) in
    let above = moved-above s.first s.count _ items _ received at c.n.result now le c.first_of-self-inside.ensures in
    let more : s.first + deque_capacity s.whole ≤ now + deque_capacity s.whole = omega (arith, above) in
    let received' = moved-received s.first s.count _ items _ received at c.n.result now le c.first_of-self-inside.ensures
    (now + deque_capacity s.whole) more in
    let at' = moved-places s.first s.count _ items _ received at c.n.result now le c.first_of-self-inside.ensures
    (omega (arith, number, received.last.last)) (omega (arith, number)) in
    let same = moved-standing s.first s.count _ items _ received at c.n.result now le c.first_of-self-inside.ensures in
    let size : length c.args.bytes.now ≤ lacking m = omega (
      arith,
      rw (← c.self.view_is) at c.requires.within,
      lacking-open s.count (standing (placed s.first items)) _ s.unfinished m c.self.invariant.1 open',
    ) in
    rw (← c.self.view_is, open', ← same) (ap (λ (ms : List Incoming). let of : Stream = record {
      count = s.count;
      messages = ms;
    } in of) (carried-stream now s.count (placed now items) (placed now c.put.new.whole.items) _ m
    c.extend.new.self c.put.result c.args.bytes.now received' at' c.extend.ensures size
    c.put.ensures.put n (rw (← c.self.view_is) at e)))
