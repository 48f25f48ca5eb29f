use Rattle.std.proofs.Common.{◌≡◌, ◌<◌, ◌==◌, ℕ, Option, None, List, [], ◌∷◌, ◌++◌, length, map, refl, sym, ◌∙◌}
use Rattle.std.proofs.Common.{ap, subst}
use Rattle.std.specs.Option.{option_map}
use Rattle.std.proofs.Math.ListN.{set}
use Rattle.nm_types.specs.declared.limits.TheConstants.{MAX_PACKETS}
use Rattle.nm_types.specs.declared.messages.Arrival.{Arrival}
use Rattle.nm_types.specs.declared.messages.How.TheVariants.{Eager}
use Rattle.nm_types.specs.declared.messages.Post as post
use Rattle.nm_types.specs.declared.packets.Packet.{Packet}
use Rattle.nm_types.specs.declared.packets.What.{What}
use Rattle.nm_history.specs.Matching.{first_receive, matched_pairs}
use Rattle.nm_match.specs.Deeds.{history_of, is_known_message}
use Rattle.nm_eager.specs.Senders.{Received}
use Rattle.nm_eager.specs.Streams.{IsStream, Stream, after, missing}
use Rattle.nm_receiving.specs.declared.receipts.Receipt.{Receipt}
use Rattle.nm_receiving.specs.declared.receipts.Receive.{Receive}
use Rattle.nm_receiving.specs.Calls.{MayBeTakenIn, TakesMessagePacket}
use Rattle.nm_receiving.specs.Kept.{ReceivingInvariant}
use Rattle.nm_receiving.specs.Receipts.{ReceivingView, receipts_from, stream_of}
use Rattle.nm_receiving.specs.Received.{TakesPacket}
use Rattle.nm_receiving.specs.Seen.{seen}
use Rattle.nm_receiving.specs.Steps.{rows_from, streams_of}
use Rattle.nm_receiving.proofs.Beginning.{stream_at}
use Rattle.nm_receiving.proofs.Goings.{next_message}
use Rattle.nm_receiving.proofs.Heres.{few_more}
use Rattle.nm_receiving.proofs.Joinings.{room_same, stream_stepped}
use Rattle.nm_receiving.proofs.Overs.{taken_ended}
use Rattle.nm_receiving.proofs.Packets.{finished, head_is, head_view, kept-head, takes-head, taker_live}
use Rattle.nm_receiving.proofs.Results.{ok_gives}
use Rattle.nm_receiving.proofs.CameLemmas.{packet-came}
use Rattle.nm_receiving.proofs.receivings.Receiving.begin.Goals as goal

pub prove-unreachable-requires : goal.prove-unreachable-requires
prove-unreachable-requires c =
    let v = seen c.self.inside in
    let p : Packet = c.args.p.now in
    let may = subst (λ (w : ReceivingView). MayBeTakenIn w p) (sym c.self.view_is) c.requires.continues in
    let sender = may.sender in
    let goes = may.continued in
    c.if-prove.true
    (c.missing.ensures.value ∙ ap (λ (s : Stream). missing s) (sym (stream_at c.self.inside.joiner p.from sender))
    ∙ finished v c.self.invariant p c.args.tag c.args.ctx c.args.len c.requires.head sender goes
    (subst (λ (s : Stream). IsStream s) (sym (stream_at c.self.inside.joiner p.from sender)) c.missing.ensures.stream)
    None)

pub arrive-requires : goal.arrive-requires
arrive-requires c =
    let v = seen c.self.inside in
    let p : Packet = c.args.p.now in
    let arr = c.arrival-arrival.ensures
    ∙ ap (λ (n : ℕ). let a : Arrival =
    record {
      n = n;
      env =
          record { from = p.from; tag = c.args.tag; ctx = c.args.ctx; len = c.args.len; how = Eager };
    } in a)
    c.count-n.ensures in
    record {
      is_new = ap (λ (a : Arrival). is_known_message (history_of c.self.inside.matcher) a.env.from a.n) arr
          ∙ next_message v c.self.invariant p.from (length (receipts_from v p.from)) refl;
    }

pub add-requires-clause-limit : goal.add-requires-clause-limit
add-requires-clause-limit c =
    let p : Packet = c.args.p.now in
    let may = subst (λ (w : ReceivingView). MayBeTakenIn w p) (sym c.self.view_is) c.requires.continues in
    let sender = may.sender in
    let few = may.few in
    subst (λ (s : Stream). s.count < MAX_PACKETS)
    (stream_at c.self.inside.joiner p.from sender
    ∙ sym (room_same c.self.inside.joiner c.reserve-2.new.self p.from c.reserve-2.ensures.same p.from)) few

pub push-requires-clause-few : goal.push-requires-clause-few
push-requires-clause-few c =
    let may = subst (λ (w : ReceivingView). MayBeTakenIn w c.args.p.now) (sym c.self.view_is) c.requires.continues in
    few_more (seen c.self.inside) c.self.invariant c.args.p.now may c.reserve.new.self.rows c.reserve.ensures.rows

pub give-requires : goal.give-requires
give-requires c =
    taker_live (seen c.self.inside) c.self.invariant c.arrival-arrival.result c.in_ok-taker.taker
    c.in_ok-taker.ensures.oldest

-- the fields afterwards
abbrev after_view : goal.After-give → ReceivingView
after_view c =
    record {
      sizes = c.add.new.self.sizes;
      deeds = c.arrive.new.self;
      streams = streams_of c.add.new.self;
      grants = c.self.inside.grants.grants;
      receipts = c.push.new.self.rows;
      receives = c.give.new.receives.items;
      drawn = c.self.inside.drawn.items;
    }

abbrev taker_post : goal.After-give → Option post.Post
taker_post c =
    let p : Packet = c.args.p.now in
    first_receive (history_of c.self.inside.matcher) (matched_pairs (history_of c.self.inside.matcher))
    (record { from = p.from; tag = c.args.tag; ctx = c.args.ctx; len = c.args.len; how = Eager })

may_of : (c : goal.After-give) → MayBeTakenIn (seen c.self.inside) c.args.p.now
may_of c = subst (λ (w : ReceivingView). MayBeTakenIn w c.args.p.now) (sym c.self.view_is) c.requires.continues

right_of : (c : goal.After-give) → IsStream (stream_of (seen c.self.inside) c.args.p.now.from)
right_of c = subst (λ (s : Stream). IsStream s)
    (sym (stream_at c.self.inside.joiner c.args.p.now.from (may_of c).sender)) c.missing.ensures.stream

streams_after : (c : goal.After-give) → let p : Packet = c.args.p.now in
    streams_of c.add.new.self ≡ set (streams_of c.self.inside.joiner) p.from
    (after (stream_of (seen c.self.inside) p.from) p.what p.payload)
streams_after c =
    let p : Packet = c.args.p.now in
    let old = c.self.inside.joiner in
    let room = c.reserve-2.ensures.same in
    let step = ok_gives c.add.result c.unwrap.result c.unwrap.ensures c.add.ensures.step in
    stream_stepped old c.add.new.self p.from (λ s. after s p.what p.payload) (step.sizes ∙ room.sizes) (may_of c).sender
    (step.changed ∙ ap (λ (s : Stream). after s p.what p.payload)
    (room_same old c.reserve-2.new.self p.from room p.from))
    (λ other differ. ap (λ (r : Received). r.stream) (step.others other differ)
    ∙ room_same old c.reserve-2.new.self p.from room other)

arrival_of : (c : goal.After-give) → let p : Packet = c.args.p.now in
    ◌≡◌ {A = Arrival} c.arrival-arrival.result
    (record {
      n = length (receipts_from (seen c.self.inside) p.from);
      env =
          record { from = p.from; tag = c.args.tag; ctx = c.args.ctx; len = c.args.len; how = Eager };
    })
arrival_of c =
    let p : Packet = c.args.p.now in
    c.arrival-arrival.ensures
    ∙ ap (λ (n : ℕ). let a : Arrival =
    record {
      n = n;
      env =
          record { from = p.from; tag = c.args.tag; ctx = c.args.ctx; len = c.args.len; how = Eager };
    } in a)
    c.count-n.ensures

view_is : (c : goal.After-give) → let v : ReceivingView = seen c.self.inside in let p : Packet = c.args.p.now in
    head_view v c.self.invariant p c.args.tag c.args.ctx c.args.len c.requires.head (may_of c).sender
    (may_of c).continued
    (right_of c) (taker_post c) ≡ after_view c
view_is c =
    let v : ReceivingView = seen c.self.inside in
    let p : Packet = c.args.p.now in
    let arrival = c.arrival-arrival.result in
    let step = ok_gives c.add.result c.unwrap.result c.unwrap.ensures c.add.ensures.step in
    head_is v c.self.invariant p c.args.tag c.args.ctx c.args.len c.requires.head (may_of c).sender (may_of c).continued
    (right_of c) (taker_post c)
    arrival c.in_ok-taker.taker (c.args.len == length c.as_slice.result.now) c.add.new.self.sizes c.arrive.new.self
    (streams_of c.add.new.self)
    c.push.new.self.rows c.give.new.receives.items (arrival_of c)
    (c.in_ok-taker.ensures.oldest
    ∙ ap (λ (a : Arrival). option_map (λ (q : post.Post). q.number)
    (first_receive (history_of c.self.inside.matcher) (matched_pairs (history_of c.self.inside.matcher)) a.env))
    (arrival_of c))
    (ap (λ (bs : List ℕ). c.args.len == length bs) c.as_slice.ensures.value)
    (step.sizes ∙ c.reserve-2.ensures.same.sizes)
    c.in_ok-taker.ensures.ok
    (streams_after c ∙ ap (λ (w : What). set (streams_of c.self.inside.joiner) p.from
    (after (stream_of v p.from) w p.payload)) c.requires.head)
    (c.push.ensures ∙ ap (λ (rows : List (List Receipt)). set rows p.from
    (rows_from rows p.from ++ record { arrival = arrival; whole = c.args.len == length c.as_slice.result.now } ∷ []))
    c.reserve.ensures.rows)
    c.give.ensures

pub invariant_of-self-2 : goal.invariant_of-self-2
invariant_of-self-2 c =
    subst (λ (w : ReceivingView). ReceivingInvariant w) (view_is c)
    (kept-head (seen c.self.inside) c.self.invariant c.args.p.now c.args.tag c.args.ctx c.args.len c.requires.head
    (may_of c).sender (may_of c).continued (right_of c)
    (taker_post c) refl)

pub returns-clause-took : goal.returns-clause-took
returns-clause-took c =
    let v : ReceivingView = seen c.self.inside in
    let p : Packet = c.args.p.now in
    let step = ok_gives c.add.result c.unwrap.result c.unwrap.ensures c.add.ensures.step in
    subst (λ (u : ReceivingView). TakesMessagePacket p u (after_view c)) c.self.view_is
    (record {
      kept = subst (λ (w : ReceivingView). TakesPacket v w p) (view_is c)
          (takes-head v c.self.invariant p c.args.tag c.args.ctx c.args.len c.requires.head (may_of c).sender
          (may_of c).continued (right_of c) (taker_post c) refl);
      streams = streams_after c;
      bytes = packet-came v (after_view c) c.self.invariant p (may_of c).sender (streams_after c) (λ _ _. refl)
          (λ _. right_of c) (may_of c).continued;
      sizes = step.sizes ∙ c.reserve-2.ensures.same.sizes;
      drawn = refl;
      ended = ap (λ (rs : List Receive). map (λ r. r.ended) rs) c.give.ensures
          ∙ taken_ended c.self.inside.receives.items c.in_ok-taker.taker c.arrival-arrival.result;
    })
