use Rattle.std.proofs.Common.{◌≡◌, ◌+◌, ◌++◌, ◌≤◌, List, None, Some, replicate, set, ap, ◌∙◌, arith, refl}
use Rattle.std.specs.VecDeque.{deque_capacity}
use Rattle.std.proofs.lemmas.Option.{get_or_from_slice_get, slice_get_within}
use Rattle.nm_eager.specs.Streams.{Incoming, Stream}
use Rattle.nm_eager.specs.Senders.{placed}
use Rattle.nm_eager.proofs.PlaceLemmas.{placed-from}
use Rattle.nm_eager.proofs.SenderLemmas.{from_first, message_there, stands_there}
use Rattle.nm_eager.proofs.SenderLemmas.{taken-places, taken-received, taken-stream}
use Rattle.nm_eager.proofs.senders.Sender.take.Goals as goal

pub place_of-place-requires : goal.place_of-place-requires
place_of-place-requires c =
    let s = c.self.inside in
    from_first s.first s.count (placed s.first s.whole.items) _ s.unfinished c.self.invariant.1 c.self.invariant.2
    c.args.n (rw (← c.self.view_is) at c.requires.whole)

pub index_mut-requires : goal.index_mut-requires
index_mut-requires c =
    let s = c.self.inside in
    let items = s.whole.items in
    let whole = rw (← c.self.view_is) at c.requires.whole in
    let le = from_first s.first s.count (placed s.first items) _ s.unfinished c.self.invariant.1 c.self.invariant.2
    c.args.n whole in
    let i = c.place_of-place.result in
    let place : c.args.n ≡ s.first + i = omega (arith, le, c.place_of-place.ensures) in
    let at = stands_there s.first s.count (placed s.first items) _ s.unfinished c.self.invariant.1
    c.self.invariant.2 c.args.n i place whole in
    let here = placed-from s.first items i at.0 at.1 in
    let within = slice_get_within items i (Some at.0.bytes) here in omega (arith, s.whole.ok.0, within)

pub unwrap-bytes-requires : goal.unwrap-bytes-requires
unwrap-bytes-requires c =
    let s = c.self.inside in
    let items = s.whole.items in
    let whole = rw (← c.self.view_is) at c.requires.whole in
    let le = from_first s.first s.count (placed s.first items) _ s.unfinished c.self.invariant.1 c.self.invariant.2
    c.args.n whole in
    let i = c.place_of-place.result in
    let place : c.args.n ≡ s.first + i = omega (arith, le, c.place_of-place.ensures) in
    let at = stands_there s.first s.count (placed s.first items) _ s.unfinished c.self.invariant.1
    c.self.invariant.2 c.args.n i place whole in
    let here = placed-from s.first items i at.0 at.1 in
    rw (c.take.ensures.value ∙ c.index_mut.ensures.value
    ∙ get_or_from_slice_get items i (Some at.0.bytes) c.index_mut.result.now here) refl

pub invariant_of-self : goal.invariant_of-self
invariant_of-self c =
    let s = c.self.inside in
    let items = s.whole.items in
    let whole = rw (← c.self.view_is) at c.requires.whole in
    let le = from_first s.first s.count (placed s.first items) _ s.unfinished c.self.invariant.1 c.self.invariant.2
    c.args.n whole in
    let i = c.place_of-place.result in
    let place : c.args.n ≡ s.first + i = omega (arith, le, c.place_of-place.ensures) in
    let at = stands_there s.first s.count (placed s.first items) _ s.unfinished c.self.invariant.1
    c.self.invariant.2 c.args.n i place whole in
    let gone : set items i None ≡ replicate c.let_go.result None ++ c.let_go.new.whole.items =
    rw c.take.ensures.after at c.let_go.ensures.gone in
    let now = s.first + c.let_go.result in
    let more : s.first + deque_capacity s.whole ≤ now + deque_capacity s.whole = omega arith in (
      c.self.invariant.0,
      rw c.let_go.ensures.room (taken-received s.first s.count items _ s.unfinished c.self.invariant.1
          c.self.invariant.2 c.args.n i place at.0 at.1 c.let_go.new.whole.items c.let_go.result now gone refl
          (now + deque_capacity s.whole) more),
      taken-places s.first s.count items _ s.unfinished c.self.invariant.1 c.self.invariant.2 c.args.n i place
          at.0 at.1 c.let_go.new.whole.items c.let_go.result now gone refl,
      c.let_go.ensures.begins,
    )

pub returns-clause-bytes : goal.returns-clause-bytes
returns-clause-bytes c =
    let s = c.self.inside in
    let items = s.whole.items in
    let whole = rw (← c.self.view_is) at c.requires.whole in
    let le = from_first s.first s.count (placed s.first items) _ s.unfinished c.self.invariant.1 c.self.invariant.2
    c.args.n whole in
    let i = c.place_of-place.result in
    let place : c.args.n ≡ s.first + i = omega (arith, le, c.place_of-place.ensures) in
    let at = stands_there s.first s.count (placed s.first items) _ s.unfinished c.self.invariant.1
    c.self.invariant.2 c.args.n i place whole in
    let here = placed-from s.first items i at.0 at.1 in
    let taken : c.take.result ≡ Some at.0.bytes = c.take.ensures.value ∙ c.index_mut.ensures.value
    ∙ get_or_from_slice_get items i (Some at.0.bytes) c.index_mut.result.now here in
    let same : c.unwrap-bytes.result ≡ at.0.bytes = cc (taken, c.unwrap-bytes.ensures) in
    rw (
      ← c.self.view_is,
      message_there s.first s.count (placed s.first items) _ s.unfinished c.self.invariant.1 c.self.invariant.2
          c.args.n i place at.0 at.1,
    ) same

pub returns-clause-others : goal.returns-clause-others
returns-clause-others c =
    let s = c.self.inside in
    let items = s.whole.items in
    let whole = rw (← c.self.view_is) at c.requires.whole in
    let le = from_first s.first s.count (placed s.first items) _ s.unfinished c.self.invariant.1 c.self.invariant.2
    c.args.n whole in
    let i = c.place_of-place.result in
    let place : c.args.n ≡ s.first + i = omega (arith, le, c.place_of-place.ensures) in
    let at = stands_there s.first s.count (placed s.first items) _ s.unfinished c.self.invariant.1
    c.self.invariant.2 c.args.n i place whole in
    let gone : set items i None ≡ replicate c.let_go.result None ++ c.let_go.new.whole.items =
    rw c.take.ensures.after at c.let_go.ensures.gone in
    let now = s.first + c.let_go.result in
    rw (← c.self.view_is)
    (ap (λ (ms : List Incoming). let of : Stream = record { count = s.count; messages = ms } in of)
    (taken-stream s.first s.count items _ s.unfinished c.self.invariant.1 c.self.invariant.2 c.args.n i place at.0
    at.1 c.let_go.new.whole.items c.let_go.result now gone refl))
