use Rattle.std.specs.Prelude.{IsSome, is_some}
use Rattle.std.proofs.Common.{◌≡◌, ◌<◌, ℕ, Bool, true, false, not, if◌then◌else◌, Option, Some, None, List, length}
use Rattle.std.proofs.Common.{cond}
use Rattle.std.proofs.Common.{refl, sym, ◌∙◌, ap, subst, arith}
use Rattle.std.specs.List.{slice_get}
use Rattle.std.specs.Option.{option_map_or}
use Rattle.std.proofs.Math.ListN.{set}
use Rattle.std.proofs.lemmas.Bool.{true≢false}
use Rattle.nm_types.specs.Sizes.{Sizes}
use Rattle.nm_types.specs.declared.answers.Answer.{Answer}
use Rattle.nm_types.specs.declared.answers.Answer.TheVariants.{Cancelled}
use Rattle.nm_types.specs.declared.messages.Arrival.{Arrival}
use Rattle.nm_history.specs.declared.events.Event.{Event}
use Rattle.nm_history.specs.Answers.{without_bytes as answer_without_bytes}
use Rattle.nm_history.specs.Completion.{result_of, shown}
use Rattle.nm_history.specs.Completion.Request.{Receiving}
use Rattle.nm_history.specs.Sends.{is_ask}
use Rattle.nm_history.specs.Matching.{pair_of_claimed as pair}
use Rattle.nm_eager.specs.Joining.{stream_from}
use Rattle.nm_eager.specs.Senders.{Received}
use Rattle.nm_eager.specs.Streams.{Stream, missing, without}
use Rattle.nm_receiving.specs.declared.receipts.Receipt.{Receipt}
use Rattle.nm_receiving.specs.declared.receipts.Receive.{Receive}
use Rattle.nm_receiving.specs.Calls.{FinishesReceive}
use Rattle.nm_receiving.specs.Kept.{ReceivingInvariant}
use Rattle.nm_receiving.specs.Receipts.{ReceivingView, SameOtherBytes, ShowsBytes, granted_to, pair_at}
use Rattle.nm_receiving.specs.Receipts.{receipt_of, stream_of}
use Rattle.nm_receiving.specs.Received.{AreReceived}
use Rattle.nm_kept.proofs.EntryLemmas.{kept_passes, kept_there}
use Rattle.nm_receiving.specs.Receives.{is_live, live_at}
use Rattle.nm_receiving.proofs.Answering.{cancelled_complete}
use Rattle.nm_receiving.proofs.Lives.{not_ended}
use Rattle.nm_types.proofs.ListLemmas.{get_some}
use Rattle.nm_receiving.specs.Seen.{seen}
use Rattle.nm_receiving.specs.Steps.{IsThere, bytes_there, has_ended, streams_of, with_ended}
use Rattle.nm_receiving.proofs.Beginning.{stream_at}
use Rattle.nm_receiving.proofs.Changing.{keeps-ended}
use Rattle.nm_receiving.proofs.Finishing.{bytes-finished, bytes_there_now, ended_is, kept-ended}
use Rattle.nm_receiving.proofs.Finishing.{kept-finished, received-finished, streams-finished, taken_from}
use Rattle.nm_receiving.proofs.Heres.{asked_here}
use Rattle.nm_receiving.proofs.Lists.{some_from}
use Rattle.nm_receiving.proofs.Showing.{result_cancelled, result_taken, result_untaken, shown_is, shows_bytes}
use Rattle.nm_receiving.proofs.Joinings.{stream_stepped}
use Rattle.nm_receiving.proofs.receivings.Receiving.finish.Goals as goal

-- the message that the receive took, as it came, and whether it is whole
taken_came : (v : ReceivingView) → ReceivingInvariant v → (number : ℕ) (r : Receive) →
    slice_get v.receives number ≡ Some r → (a : Arrival) → r.taken ≡ Some a → (b : Bool) →
    b ≡ option_map_or (λ q. q.whole) (receipt_of v a.env.from a.n) false
    → (q : Receipt) × (receipt_of v a.env.from a.n ≡ Some q) × (q.whole ≡ b)
taken_came v kept number r here a was b is =
    let had = kept.tables.taken number r a here was in
    (had.0, had.1.0, sym (is ∙ ap (λ (o : Option Receipt). option_map_or (λ q. q.whole) o false) had.1.0))

-- the receive as it was, where it did not end
live_is : (v : ReceivingView) (number : ℕ) (o : Option Receive) (r : Receive) → o ≡ live_at v.receives number →
    o ≡ Some r → (slice_get v.receives number ≡ Some r) × (r.ended ≡ false)
live_is v number o r found is =
    let was = kept_passes is_live (slice_get v.receives number) r (sym found ∙ is) in
    (was.0, not_ended r.ended was.1)

-- it is among those that did not end
is_there : (v : ReceivingView) (number : ℕ) → number < length v.receives →
    option_map_or (λ r. r.ended) (slice_get v.receives number) false ≡ false → IsSome (live_at v.receives number)
is_there v number below live =
    let r = get_some v.receives number below in
    ap (λ (o : Option Receive). is_some o) (kept_there is_live (slice_get v.receives number) r.0 r.1
    (ap not (ap (λ (o : Option Receive). option_map_or (λ r. r.ended) o false) (sym r.1) ∙ live)))

pub unwrap-receive-requires : goal.unwrap-receive-requires
unwrap-receive-requires c =
    let v : ReceivingView = seen c.self.inside in
    subst (λ (o : Option Receive). IsSome o) (sym c.live.ensures) (is_there v c.args.number
    (subst (λ (w : ReceivingView). c.args.number < length w.receives) (sym c.self.view_is) c.requires.known)
    (ap (λ (w : ReceivingView). option_map_or (λ r. r.ended) (slice_get w.receives c.args.number) false) c.self.view_is
    ∙ c.requires.live))

pub end-requires : goal.end-requires
end-requires c =
    let v : ReceivingView = seen c.self.inside in
    is_there v c.args.number
    (subst (λ (w : ReceivingView). c.args.number < length w.receives) (sym c.self.view_is) c.requires.known)
    (ap (λ (w : ReceivingView). option_map_or (λ r. r.ended) (slice_get w.receives c.args.number) false) c.self.view_is
    ∙ c.requires.live)

pub end-requires-2 : goal.end-requires-2
end-requires-2 c =
    let v : ReceivingView = seen c.self.inside in
    is_there v c.args.number
    (subst (λ (w : ReceivingView). c.args.number < length w.receives) (sym c.self.view_is) c.requires.known)
    (ap (λ (w : ReceivingView). option_map_or (λ r. r.ended) (slice_get w.receives c.args.number) false) c.self.view_is
    ∙ c.requires.live)

pub invariant_of-self : goal.invariant_of-self
invariant_of-self c =
    let v : ReceivingView = seen c.self.inside in
    let r = c.unwrap-receive.result in
    let here = live_is v c.args.number c.live.result r c.live.ensures c.unwrap-receive.ensures in
    subst (λ (rs : List Receive). ReceivingInvariant (record v { receives = rs }))
    (ended_is v.receives c.args.number r here.0 ∙ sym c.end.ensures)
    (kept-ended v c.self.invariant c.args.number r here.0
    (cancelled_complete v c.self.invariant.history c.self.invariant.received c.args.number r here.0 c.if-receive.true))

pub is_here-requires-clause-sender : goal.is_here-requires-clause-sender
is_here-requires-clause-sender c =
    let v : ReceivingView = seen c.self.inside in
    let r = c.unwrap-receive.result in
    let here = live_is v c.args.number c.live.result r c.live.ensures c.unwrap-receive.ensures in
    let sender = taken_from v c.self.invariant c.args.number r here.0 c.in_ok-a.a c.in_ok-a.was in
    let grants = c.self.invariant.tables.grants in
    omega (arith, sender, grants)

pub is_here-requires-clause-came : goal.is_here-requires-clause-came
is_here-requires-clause-came c =
    let v : ReceivingView = seen c.self.inside in
    let r = c.unwrap-receive.result in
    let a = c.in_ok-a.a in
    let here = live_is v c.args.number c.live.result r c.live.ensures c.unwrap-receive.ensures in
    let had = c.self.invariant.tables.taken c.args.number r a here.0 c.in_ok-a.was in
    some_from (λ (q : Receipt). q.arrival ≡ a) (receipt_of v a.env.from a.n) had.0 had.1.0 had.1.1

pub is_here-requires-clause-asked : goal.is_here-requires-clause-asked
is_here-requires-clause-asked c =
    let v : ReceivingView = seen c.self.inside in
    let r = c.unwrap-receive.result in
    let here = live_is v c.args.number c.live.result r c.live.ensures c.unwrap-receive.ensures in
    asked_here v c.self.invariant c.args.number r here.0 here.1 c.in_ok-a.a c.in_ok-a.was

pub take_bytes-bytes-requires-clause-here : goal.take_bytes-bytes-requires-clause-here
take_bytes-bytes-requires-clause-here c =
    let v : ReceivingView = seen c.self.inside in
    let r = c.unwrap-receive.result in
    let a = c.in_ok-a.a in
    let here = live_is v c.args.number c.live.result r c.live.ensures c.unwrap-receive.ensures in
    let came = taken_came v c.self.invariant c.args.number r here.0 a c.in_ok-a.was c.is_here.result c.is_here.ensures
    in
    let there = bytes_there_now v c.self.invariant c.args.number r here.0 here.1 a c.in_ok-a.was came.0 came.1
    (came.2 ∙ c.if-not-is_here.false) in
    subst (λ (s : Stream). IsThere s (granted_to v a.env.from) a)
    (stream_at c.self.inside.joiner a.env.from
    (taken_from v c.self.invariant c.args.number r here.0 a c.in_ok-a.was))
    there

-- where the bytes were taken
module _ (c : goal.After-shown) where
  abbrev v : ReceivingView
  v = seen c.self.inside

  abbrev r : Receive
  r = c.unwrap-receive.result

  abbrev a : Arrival
  a = c.in_ok-a.a

  abbrev number : ℕ
  number = c.args.number

  is_live' : (slice_get v.receives number ≡ Some r) × (r.ended ≡ false)
  is_live' = live_is v number c.live.result r c.live.ensures c.unwrap-receive.ensures

  here : slice_get v.receives number ≡ Some r
  here = is_live'.0

  live : r.ended ≡ false
  live = is_live'.1

  abbrev rs : List Receive
  rs = c.end-2.new.self.items

  again : set v.receives number (has_ended r) ≡ rs
  again = ended_is v.receives number r here ∙ sym c.end-2.ensures

  came : (q : Receipt) × (receipt_of v a.env.from a.n ≡ Some q) × (q.whole ≡ c.is_here.result)
  came = taken_came v c.self.invariant number r here a c.in_ok-a.was c.is_here.result c.is_here.ensures

  whole : came.0.whole ≡ true
  whole = came.2 ∙ c.if-not-is_here.false

  sender : a.env.from < v.sizes.ranks
  sender = taken_from v c.self.invariant number r here a c.in_ok-a.was

  stream_here : stream_of v a.env.from ≡ stream_from c.self.inside.joiner a.env.from
  stream_here = stream_at c.self.inside.joiner a.env.from sender

  abbrev stepped : Stream → Stream
  stepped s = if is_ask a.env.how then s else without s a.n

  left : missing (stepped (stream_of v a.env.from)) ≡ missing (stream_of v a.env.from)
  left = subst (λ (s : Stream). missing (stepped s) ≡ missing s) (sym stream_here)
      (ap (λ (s : Stream). missing s) (sym c.take_bytes-bytes.ensures.joined.changed)
      ∙ c.take_bytes-bytes.ensures.missing)

  streams_are : streams_of c.take_bytes-bytes.new.joiner ≡ set v.streams a.env.from (stepped (stream_of v a.env.from))
  streams_are = stream_stepped c.self.inside.joiner c.take_bytes-bytes.new.joiner a.env.from stepped
      c.take_bytes-bytes.ensures.joined.sizes
      sender c.take_bytes-bytes.ensures.joined.changed
      (λ other differ. ap (λ (x : Received). x.stream) (c.take_bytes-bytes.ensures.joined.others other differ))

  abbrev done : List Receive → ReceivingView
  done rs = record {
    sizes = c.take_bytes-bytes.new.joiner.sizes;
    deeds = v.deeds;
    streams = streams_of c.take_bytes-bytes.new.joiner;
    grants = c.take_bytes-bytes.new.grants.grants;
    receipts = v.receipts;
    receives = rs;
    drawn = v.drawn;
  }

  kept_after : ReceivingInvariant (done rs)
  kept_after = subst (λ (rs : List Receive). ReceivingInvariant (done rs)) again
      (kept-finished v c.self.invariant number r here live a c.in_ok-a.was came.0 came.1 whole sender left
      c.take_bytes-bytes.new.joiner.sizes (streams_of c.take_bytes-bytes.new.joiner)
      c.take_bytes-bytes.new.grants.grants
      c.take_bytes-bytes.ensures.joined.sizes streams_are c.take_bytes-bytes.ensures.grants)

  received_after : (h : List Event) → AreReceived v h → AreReceived (done rs) h
  received_after h received = subst (λ (rs : List Receive). AreReceived (done rs) h) again
      (received-finished v c.self.invariant number r here live a c.in_ok-a.was came.0 came.1 whole sender
      left
      c.take_bytes-bytes.new.joiner.sizes (streams_of c.take_bytes-bytes.new.joiner)
      c.take_bytes-bytes.new.grants.grants
      c.take_bytes-bytes.ensures.joined.sizes streams_are c.take_bytes-bytes.ensures.grants h received)

  streams_after : (i : ℕ) → ((stream_of (done rs) i).count ≡ (stream_of v i).count)
      × (missing (stream_of (done rs) i) ≡ missing (stream_of v i))
  streams_after i =
      streams-finished v c.self.invariant number r here live a c.in_ok-a.was came.0 came.1 whole sender
      left
      c.take_bytes-bytes.new.joiner.sizes (streams_of c.take_bytes-bytes.new.joiner)
      c.take_bytes-bytes.new.grants.grants
      c.take_bytes-bytes.ensures.joined.sizes streams_are c.take_bytes-bytes.ensures.grants i

  bytes_after : SameOtherBytes (pair_at v number) v (done rs)
  bytes_after = subst (λ (rs : List Receive). SameOtherBytes (pair_at v number) v (done rs)) again
      (bytes-finished v c.self.invariant number r here live a c.in_ok-a.was came.0 came.1 whole
      sender left c.take_bytes-bytes.new.joiner.sizes (streams_of c.take_bytes-bytes.new.joiner)
      c.take_bytes-bytes.new.grants.grants c.take_bytes-bytes.ensures.joined.sizes streams_are
      c.take_bytes-bytes.ensures.grants)

  value_after : (h : List Event) → AreReceived v h → Some (answer_without_bytes c.shown.result) ≡ result_of h
      (Receiving number)
  value_after h received =
      ap Some (ap (λ (x : Answer). answer_without_bytes x) c.shown.ensures
      ∙ shown_is number r.cap a c.take_bytes-bytes.result c.take_bytes-bytes.ensures.len)
      ∙ sym (result_taken v h received number r here c.if-receive.false a c.in_ok-a.was came.0 came.1
      ∙ ap (λ (b : Bool). cond b (Some (shown (pair number r.cap a))) None) whole)

  body_after : ShowsBytes v number c.shown.result
  body_after = subst (λ (x : Answer). ShowsBytes v number x) (sym c.shown.ensures)
      (shows_bytes v number r here a c.in_ok-a.was r.cap c.take_bytes-bytes.result
      (ap (λ (s : Stream). bytes_there s (granted_to v a.env.from) a) stream_here ∙ c.take_bytes-bytes.ensures.bytes))

  ended_after : rs ≡ with_ended v.receives number
  ended_after = c.end-2.ensures

pub invariant_of-self-2 : goal.invariant_of-self-2
invariant_of-self-2 c = kept_after c

pub returns-then-receive : goal.returns-then-receive
returns-then-receive c =
    let v : ReceivingView = seen c.self.inside in
    let number = c.args.number in
    let r = c.unwrap-receive.result in
    let here = live_is v number c.live.result r c.live.ensures c.unwrap-receive.ensures in
    let new : ReceivingView = record v { receives = c.end.new.self.items } in
    subst (λ (w : ReceivingView). FinishesReceive number (Some Cancelled) w new) c.self.view_is
    (record {
      value = λ h received. sym (result_cancelled v h received number r here.0 c.if-receive.true);
      body = tt;
      kept = λ h received. subst (λ (rs : List Receive). AreReceived (record v { receives = rs }) h)
          (ended_is v.receives number r here.0 ∙ sym c.end.ensures) (keeps-ended v number r here.0 h received);
      none = λ lie. absurd (true≢false lie);
      ended = λ _. c.end.ensures;
      streams = λ _. (refl, refl);
      bytes = λ _ _. refl;
      same = refl;
    })

-- nothing is given while it is not complete
gives_none : (v : ReceivingView) (number : ℕ)
    → ((h : List Event) → AreReceived v h → None ≡ result_of h (Receiving number))
    → FinishesReceive number None v v
gives_none v number none = record {
  value = none;
  body = tt;
  kept = λ _ received. received;
  none = λ _. refl;
  ended = λ lie. absurd (true≢false (sym lie));
  streams = λ _. (refl, refl);
  bytes = λ _ _. refl;
  same = refl;
}

pub returns-in_err-a : goal.returns-in_err-a
returns-in_err-a c =
    let v : ReceivingView = seen c.self.inside in
    let number = c.args.number in
    let r = c.unwrap-receive.result in
    let there = live_is v number c.live.result r c.live.ensures c.unwrap-receive.ensures in
    rw c.from_residual.ensures
    (subst (λ (w : ReceivingView). FinishesReceive number None w w) c.self.view_is
    (gives_none v number (λ h here. sym (result_untaken v h here number r there.0 c.if-receive.false c.in_err-a.was))))

pub returns-then-not-is_here : goal.returns-then-not-is_here
returns-then-not-is_here c =
    let v : ReceivingView = seen c.self.inside in
    let number = c.args.number in
    let r = c.unwrap-receive.result in
    let there = live_is v number c.live.result r c.live.ensures c.unwrap-receive.ensures in
    let came = taken_came v c.self.invariant number r there.0 c.in_ok-a.a c.in_ok-a.was c.is_here.result
    c.is_here.ensures in
    subst (λ (w : ReceivingView). FinishesReceive number None w w) c.self.view_is
    (gives_none v number (λ h here. sym (result_taken v h here number r there.0 c.if-receive.false
    c.in_ok-a.a c.in_ok-a.was came.0 came.1
    ∙ ap (λ (b : Bool). cond b (Some (shown (pair number r.cap c.in_ok-a.a))) None)
    (came.2 ∙ c.if-not-is_here.true))))

pub returns : goal.returns
returns c =
    let now : ReceivingView = done c (rs c) in
    subst (λ (v : ReceivingView). FinishesReceive c.args.number (Some c.shown.result) v now) c.self.view_is
    (record {
      value = value_after c;
      body = body_after c;
      kept = received_after c;
      none = λ lie. absurd (true≢false lie);
      ended = λ _. ended_after c;
      streams = streams_after c;
      bytes = bytes_after c;
      same = ap (λ (sizes : Sizes). record now { sizes = sizes }) c.take_bytes-bytes.ensures.joined.sizes;
    })
