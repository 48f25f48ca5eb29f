use Rattle.std.proofs.Common.{◌≡◌, ◌<◌, ◌==◌, ℕ, true, List, length, refl, sym, ◌∙◌, ap, subst}
use Rattle.std.proofs.Math.ListN.{set}
use Rattle.nm_types.specs.declared.limits.TheConstants.{MAX_PACKETS}
use Rattle.nm_types.specs.declared.packets.Packet.{Packet}
use Rattle.nm_types.specs.declared.packets.What.{What}
use Rattle.nm_eager.specs.Senders.{Received}
use Rattle.nm_eager.specs.Streams.{IsStream, Stream, after, continues, is_eager, missing}
use Rattle.nm_receiving.specs.Calls.{MayBeTakenIn, TakesMessagePacket}
use Rattle.nm_receiving.specs.Kept.{ReceivingInvariant}
use Rattle.nm_receiving.specs.Receipts.{ReceivingView, stream_of}
use Rattle.nm_receiving.specs.Received.{TakesPacket}
use Rattle.nm_receiving.specs.Seen.{seen}
use Rattle.nm_receiving.specs.Steps.{streams_of}
use Rattle.nm_receiving.proofs.Beginning.{stream_at}
use Rattle.nm_receiving.proofs.Joinings.{stream_stepped}
use Rattle.nm_receiving.proofs.Packets.{kept-more, more_came, more_is, more_view, takes-more}
use Rattle.nm_receiving.proofs.CameLemmas.{packet-came}
use Rattle.nm_receiving.proofs.receivings.Receiving.go_on.Goals as goal

pub add-requires-clause-fits : goal.add-requires-clause-fits
add-requires-clause-fits c =
    let p : Packet = c.args.p.now in
    let may = subst (λ (w : ReceivingView). MayBeTakenIn w p) (sym c.self.view_is) c.requires.continues in
    let sender = may.sender in
    let goes = may.continued in
    record {
      sender = sender;
      eager = ap (λ (w : What). is_eager w) c.requires.more;
      continued = subst (λ (s : Stream). continues c.self.inside.joiner.sizes.eager s.count (missing s) p.what
          (length p.payload) ≡ true)
          (stream_at c.self.inside.joiner p.from sender) goes;
    }

pub add-requires-clause-limit : goal.add-requires-clause-limit
add-requires-clause-limit c =
    let p : Packet = c.args.p.now in
    let may = subst (λ (w : ReceivingView). MayBeTakenIn w p) (sym c.self.view_is) c.requires.continues in
    let sender = may.sender in
    let few = may.few in
    subst (λ (s : Stream). s.count < MAX_PACKETS) (stream_at c.self.inside.joiner p.from sender) few

pub make_whole_if-requires : goal.make_whole_if-requires
make_whole_if-requires c =
    let p : Packet = c.args.p.now in
    let may = subst (λ (w : ReceivingView). MayBeTakenIn w p) (sym c.self.view_is) c.requires.continues in
    let sender = may.sender in
    let goes = may.continued in
    more_came (seen c.self.inside) c.self.invariant p c.args.n c.requires.more sender goes
    (subst (λ (s : Stream). IsStream s) (sym (stream_at c.self.inside.joiner p.from sender)) c.missing.ensures.stream)

-- the fields afterwards
abbrev after_view : goal.After-make_whole_if → ReceivingView
after_view c =
    record {
      sizes = c.add.new.self.sizes;
      deeds = c.self.inside.matcher;
      streams = streams_of c.add.new.self;
      grants = c.self.inside.grants.grants;
      receipts = c.make_whole_if.new.self.rows;
      receives = c.self.inside.receives.items;
      drawn = c.self.inside.drawn.items;
    }

may_of : (c : goal.After-make_whole_if) → MayBeTakenIn (seen c.self.inside) c.args.p.now
may_of c = subst (λ (w : ReceivingView). MayBeTakenIn w c.args.p.now) (sym c.self.view_is) c.requires.continues

right_of : (c : goal.After-make_whole_if) → IsStream (stream_of (seen c.self.inside) c.args.p.now.from)
right_of c = subst (λ (s : Stream). IsStream s)
    (sym (stream_at c.self.inside.joiner c.args.p.now.from (may_of c).sender)) c.missing.ensures.stream

streams_after : (c : goal.After-make_whole_if) → let p : Packet = c.args.p.now in
    streams_of c.add.new.self ≡ set (streams_of c.self.inside.joiner) p.from
    (after (stream_of (seen c.self.inside) p.from) p.what p.payload)
streams_after c =
    let p : Packet = c.args.p.now in
    let step = c.in_ok-add.ensures.step in
    stream_stepped c.self.inside.joiner c.add.new.self p.from (λ s. after s p.what p.payload) step.sizes
    (may_of c).sender step.changed
    (λ other differ. ap (λ (r : Received). r.stream) (step.others other differ))

view_is : (c : goal.After-make_whole_if) → let v : ReceivingView = seen c.self.inside in
    let p : Packet = c.args.p.now in
    more_view v c.self.invariant p c.args.n c.requires.more (may_of c).sender (may_of c).continued (right_of c)
    ≡ after_view c
view_is c =
    let v : ReceivingView = seen c.self.inside in
    let p : Packet = c.args.p.now in
    let step = c.in_ok-add.ensures.step in
    more_is v c.self.invariant p c.args.n c.requires.more (may_of c).sender (may_of c).continued (right_of c)
    (c.missing.result == length c.as_slice.result.now) c.add.new.self.sizes (streams_of c.add.new.self)
    c.make_whole_if.new.self.rows
    (ap (λ (k : ℕ). k == length c.as_slice.result.now)
    (c.missing.ensures.value ∙ ap (λ (s : Stream). missing s)
    (sym (stream_at c.self.inside.joiner p.from (may_of c).sender)))
    ∙ ap (λ (bs : List ℕ). missing (stream_of v p.from) == length bs) c.as_slice.ensures.value)
    step.sizes
    (streams_after c ∙ ap (λ (w : What). set (streams_of c.self.inside.joiner) p.from
    (after (stream_of v p.from) w p.payload)) c.requires.more)
    c.make_whole_if.ensures

pub invariant_of-self-2 : goal.invariant_of-self-2
invariant_of-self-2 c =
    subst (λ (w : ReceivingView). ReceivingInvariant w) (view_is c)
    (kept-more (seen c.self.inside) c.self.invariant c.args.p.now c.args.n c.requires.more (may_of c).sender
    (may_of c).continued
    (right_of c))

pub returns-clause-took : goal.returns-clause-took
returns-clause-took c =
    let v : ReceivingView = seen c.self.inside in
    let p : Packet = c.args.p.now in
    subst (λ (u : ReceivingView). TakesMessagePacket p u (after_view c)) c.self.view_is
    (record {
      kept = subst (λ (w : ReceivingView). TakesPacket v w p) (view_is c)
          (takes-more v c.self.invariant p c.args.n c.requires.more (may_of c).sender (may_of c).continued
          (right_of c));
      streams = streams_after c;
      bytes = packet-came v (after_view c) c.self.invariant p (may_of c).sender (streams_after c) (λ _ _. refl)
          (λ _. right_of c) (may_of c).continued;
      sizes = c.in_ok-add.ensures.step.sizes;
      drawn = refl;
      ended = refl;
    })
