use Rattle.std.specs.Prelude.{IfSome}
use Rattle.std.proofs.Common.{◌≡◌, ◌<◌, ℕ, Bool, true, false, is_some, Option, None, List, [], ◌∷◌, ◌++◌, length, map}
use Rattle.std.proofs.Common.{refl, sym, ◌∙◌, ap, subst, arith}
use Rattle.std.specs.Bool.{then_some}
use Rattle.std.specs.Option.{option_map}
use Rattle.std.proofs.Math.ListN.{set}
use Rattle.nm_types.specs.declared.limits.TheConstants.{MAX_PACKETS}
use Rattle.nm_types.specs.declared.messages.Arrival.{Arrival}
use Rattle.nm_types.specs.declared.messages.How.TheVariants.{Ask}
use Rattle.nm_types.specs.declared.messages.Post as post
use Rattle.nm_types.specs.declared.packets.Packet.{Packet}
use Rattle.nm_types.specs.declared.packets.What.{What}
use Rattle.nm_history.specs.Matching.{first_receive, matched_pairs}
use Rattle.nm_match.specs.Deeds.{history_of, is_known_message}
use Rattle.nm_match.proofs.StandsLemmas.{first_receive-stands}
use Rattle.nm_rndv.specs.Grants.{Granting, IsReadyFor}
use Rattle.nm_receiving.specs.StreamViews.{is_done_at_once}
use Rattle.nm_eager.specs.Senders.{Received}
use Rattle.nm_eager.specs.Streams.{Stream, after, missing, skipped}
use Rattle.nm_receiving.specs.declared.receipts.Receipt.{Receipt}
use Rattle.nm_receiving.specs.declared.receipts.Receive.{Receive}
use Rattle.nm_receiving.specs.Calls.{MayBeTakenIn, TakesMessagePacket}
use Rattle.nm_receiving.specs.Kept.{ReceivingInvariant}
use Rattle.nm_receiving.specs.Receipts.{ReceivingView, receipts_from, stream_of}
use Rattle.nm_receiving.specs.Received.{AreReceived, TakesPacket}
use Rattle.nm_receiving.specs.Seen.{seen}
use Rattle.nm_receiving.specs.Steps.{grants_with, rows_from, rows_with, streams_of}
use Rattle.nm_receiving.proofs.Beginning.{stream_at}
use Rattle.nm_receiving.proofs.Goings.{next_message}
use Rattle.nm_receiving.proofs.Heres.{few_more}
use Rattle.nm_receiving.proofs.Joinings.{stream_stepped}
use Rattle.nm_receiving.proofs.Packets.{ask_finished, ask_grant-came, ask_grant-new, ask_is, ask_view, kept-ask}
use Rattle.nm_receiving.proofs.Packets.{takes-ask}
use Rattle.nm_receiving.proofs.Overs.{taken_ended}
use Rattle.nm_receiving.proofs.Packets.{taker_live, then_taken}
use Rattle.std.proofs.Common.{get_or}
use Rattle.std.proofs.lemmas.Bool.{true≢false}
use Rattle.nm_eager.specs.Streams.{is_eager}
use Rattle.nm_receiving.proofs.CameLemmas.{asked_came, granted-came, packet-came}
use Rattle.nm_receiving.proofs.receivings.Receiving.announce.Goals as goal
use Rattle.nm_types.proofs.OptionLemmas.{some_mapped}

pub arrive-requires : goal.arrive-requires
arrive-requires c =
    let v = seen c.self.inside in
    let p : Packet = c.args.p.now in
    let arr = c.arrival-arrival.ensures
    ∙ ap (λ (n : ℕ). let a : Arrival =
    record {
      n = n;
      env =
          record { from = p.from; tag = c.args.tag; ctx = c.args.ctx; len = c.args.len; how = Ask };
    } in a)
    c.count-n.ensures in
    record {
      is_new = ap (λ (a : Arrival). is_known_message (history_of c.self.inside.matcher) a.env.from a.n) arr
          ∙ next_message v c.self.invariant p.from (length (receipts_from v p.from)) refl;
    }

pub skip-requires-clause-closed : goal.skip-requires-clause-closed
skip-requires-clause-closed c =
    let v = seen c.self.inside in
    let p : Packet = c.args.p.now in
    let may = subst (λ (w : ReceivingView). MayBeTakenIn w p) (sym c.self.view_is) c.requires.continues in
    let sender = may.sender in
    let goes = may.continued in
    ap (λ (s : Stream). missing s) (sym (stream_at c.self.inside.joiner p.from sender))
    ∙ ask_finished v c.self.invariant p c.args.tag c.args.ctx c.args.len c.requires.ask sender goes None

pub skip-requires-clause-limit : goal.skip-requires-clause-limit
skip-requires-clause-limit c =
    let p : Packet = c.args.p.now in
    let may = subst (λ (w : ReceivingView). MayBeTakenIn w p) (sym c.self.view_is) c.requires.continues in
    let sender = may.sender in
    let few = may.few in
    subst (λ (s : Stream). s.count < MAX_PACKETS) (stream_at c.self.inside.joiner p.from sender) few

pub push-requires-clause-few : goal.push-requires-clause-few
push-requires-clause-few c =
    let may = subst (λ (w : ReceivingView). MayBeTakenIn w c.args.p.now) (sym c.self.view_is) c.requires.continues in
    few_more (seen c.self.inside) c.self.invariant c.args.p.now may c.reserve.new.self.rows c.reserve.ensures.rows

pub give-requires : goal.give-requires
give-requires c =
    taker_live (seen c.self.inside) c.self.invariant c.arrival-arrival.result c.in_ok-taker.taker
    c.in_ok-taker.ensures.oldest

pub reserve_for-requires : goal.reserve_for-requires
reserve_for-requires c =
    let may = subst (λ (w : ReceivingView). MayBeTakenIn w c.args.p.now) (sym c.self.view_is) c.requires.continues in
    let sender = may.sender in
    let grants = c.self.invariant.tables.grants in
    omega (arith, sender, grants)

-- there is room for the grant of a message, where it is taken
ready_where : (b : Bool) (arrival : Arrival) (taken : Option Arrival) (g : Granting) → taken ≡ then_some b arrival →
    IsReadyFor g arrival.env.from → IfSome taken (λ a. IsReadyFor g a.env.from)
ready_where b arrival taken g is ready =
    subst (λ (o : Option Arrival). IfSome o (λ a. IsReadyFor g a.env.from)) (sym is) (by b)
  where
    by : (b : Bool) → IfSome (then_some b arrival) (λ a. IsReadyFor g a.env.from)
    by true = ready
    by false = tt

pub grant_taken-requires-clause-ready : goal.grant_taken-requires-clause-ready
grant_taken-requires-clause-ready c =
    let p : Packet = c.args.p.now in
    let arr = c.arrival-arrival.ensures
    ∙ ap (λ (n : ℕ). let a : Arrival =
    record {
      n = n;
      env =
          record { from = p.from; tag = c.args.tag; ctx = c.args.ctx; len = c.args.len; how = Ask };
    } in a)
    c.count-n.ensures in
    ready_where c.is_some.result c.arrival-arrival.result c.then_some-taken.result c.reserve_for.new.self
    c.then_some-taken.ensures
    (subst (λ (a : Arrival). IsReadyFor c.reserve_for.new.self a.env.from) (sym arr) c.in_ok-reserve_for.ensures.ready)

pub grant_taken-requires-clause-new : goal.grant_taken-requires-clause-new
grant_taken-requires-clause-new c =
    let v : ReceivingView = seen c.self.inside in
    let p : Packet = c.args.p.now in
    let may = subst (λ (w : ReceivingView). MayBeTakenIn w p) (sym c.self.view_is) c.requires.continues in
    let sender = may.sender in
    let arr = c.arrival-arrival.ensures
    ∙ ap (λ (n : ℕ). let a : Arrival =
    record {
      n = n;
      env =
          record { from = p.from; tag = c.args.tag; ctx = c.args.ctx; len = c.args.len; how = Ask };
    } in a)
    c.count-n.ensures in
    ask_grant-new v c.self.invariant c.is_some.result c.arrival-arrival.result c.then_some-taken.result
    c.then_some-taken.ensures
    (subst (λ (a : Arrival). a.env.from < length v.receipts) (sym arr) (let n = c.self.invariant.tables.receipts in
    omega (arith, sender, n)))
    (subst (λ (a : Arrival). a.n ≡ length (receipts_from v a.env.from)) (sym arr) refl)
    c.reserve_for.new.self.grants c.reserve_for.ensures.same

pub grant_taken-requires-clause-came : goal.grant_taken-requires-clause-came
grant_taken-requires-clause-came c =
    let v : ReceivingView = seen c.self.inside in
    let p : Packet = c.args.p.now in
    let may = subst (λ (w : ReceivingView). MayBeTakenIn w p) (sym c.self.view_is) c.requires.continues in
    let sender = may.sender in
    let arr = c.arrival-arrival.ensures
    ∙ ap (λ (n : ℕ). let a : Arrival =
    record {
      n = n;
      env =
          record { from = p.from; tag = c.args.tag; ctx = c.args.ctx; len = c.args.len; how = Ask };
    } in a)
    c.count-n.ensures in
    let r : Receipt = record { arrival = c.arrival-arrival.result; whole = false } in
    ask_grant-came v c.self.invariant c.is_some.result c.arrival-arrival.result c.then_some-taken.result
    c.then_some-taken.ensures
    (subst (λ (a : Arrival). a.env.from < length v.receipts) (sym arr) (let n = c.self.invariant.tables.receipts in
    omega (arith, sender, n)))
    (subst (λ (a : Arrival). a.n ≡ length (receipts_from v a.env.from)) (sym arr) refl)
    c.push.new.self.rows r
    (c.push.ensures ∙ ap (λ (rows : List (List Receipt)). set rows p.from (rows_from rows p.from ++ r ∷ []))
    c.reserve.ensures.rows
    ∙ ap (λ (i : ℕ). set v.receipts i (rows_from v.receipts i ++ r ∷ [])) (ap (λ (a : Arrival). a.env.from) (sym arr)))

-- the fields afterwards
abbrev after_view : goal.After-is_some-2 → ReceivingView
after_view c =
    record {
      sizes = c.skip.new.self.sizes;
      deeds = c.arrive.new.self;
      streams = streams_of c.skip.new.self;
      grants = c.grant_taken.new.grants.grants;
      receipts = c.grant_taken.new.receipts.rows;
      receives = c.give.new.receives.items;
      drawn = c.self.inside.drawn.items;
    }

abbrev taker_post : goal.After-is_some-2 → Option post.Post
taker_post c =
    let p : Packet = c.args.p.now in
    first_receive (history_of c.self.inside.matcher) (matched_pairs (history_of c.self.inside.matcher))
    (record { from = p.from; tag = c.args.tag; ctx = c.args.ctx; len = c.args.len; how = Ask })

may_of : (c : goal.After-is_some-2) → MayBeTakenIn (seen c.self.inside) c.args.p.now
may_of c = subst (λ (w : ReceivingView). MayBeTakenIn w c.args.p.now) (sym c.self.view_is) c.requires.continues

streams_after : (c : goal.After-is_some-2) → let p : Packet = c.args.p.now in
    streams_of c.skip.new.self ≡ set (streams_of c.self.inside.joiner) p.from
    (skipped (stream_of (seen c.self.inside) p.from))
streams_after c =
    let step = c.skip.ensures.step in
    stream_stepped c.self.inside.joiner c.skip.new.self c.args.p.now.from (λ s. skipped s) step.sizes
    (may_of c).sender step.changed
    (λ other differ. ap (λ (r : Received). r.stream) (step.others other differ))

arrival_of : (c : goal.After-is_some-2) → let p : Packet = c.args.p.now in
    ◌≡◌ {A = Arrival} c.arrival-arrival.result
    (record {
      n = length (receipts_from (seen c.self.inside) p.from);
      env =
          record { from = p.from; tag = c.args.tag; ctx = c.args.ctx; len = c.args.len; how = Ask };
    })
arrival_of c =
    let p : Packet = c.args.p.now in
    c.arrival-arrival.ensures
    ∙ ap (λ (n : ℕ). let a : Arrival =
    record {
      n = n;
      env =
          record { from = p.from; tag = c.args.tag; ctx = c.args.ctx; len = c.args.len; how = Ask };
    } in a)
    c.count-n.ensures

taker_is : (c : goal.After-is_some-2) → c.in_ok-taker.taker ≡ option_map (λ (q : post.Post). q.number) (taker_post c)
taker_is c =
    c.in_ok-taker.ensures.oldest
    ∙ ap (λ (a : Arrival). option_map (λ (q : post.Post). q.number)
    (first_receive (history_of c.self.inside.matcher) (matched_pairs (history_of c.self.inside.matcher)) a.env))
    (arrival_of c)

view_is : (c : goal.After-is_some-2) → let v : ReceivingView = seen c.self.inside in let p : Packet = c.args.p.now in
    ask_view v c.self.invariant p c.args.tag c.args.ctx c.args.len c.requires.ask (may_of c).sender (may_of c).continued
    (taker_post c) ≡ after_view c
view_is c =
    let v : ReceivingView = seen c.self.inside in
    let p : Packet = c.args.p.now in
    let arrival = c.arrival-arrival.result in
    let r : Receipt = record { arrival = arrival; whole = false } in
    let taken = c.then_some-taken.result in
    ask_is v c.self.invariant p c.args.tag c.args.ctx c.args.len c.requires.ask (may_of c).sender
    (may_of c).continued (taker_post c)
    arrival c.in_ok-taker.taker taken c.skip.new.self.sizes c.arrive.new.self (streams_of c.skip.new.self)
    c.grant_taken.new.grants.grants
    c.grant_taken.new.receipts.rows c.give.new.receives.items (arrival_of c) (taker_is c)
    (c.then_some-taken.ensures ∙ ap (λ (b : Bool). then_some b arrival) c.is_some.ensures
    ∙ then_taken c.in_ok-taker.taker arrival)
    c.skip.ensures.step.sizes c.in_ok-taker.ensures.ok (streams_after c)
    (c.grant_taken.ensures.grants ∙ ap (λ gs. grants_with gs taken) c.reserve_for.ensures.same)
    (c.grant_taken.ensures.receipts
    ∙ ap (λ (rows : List (List Receipt)). rows_with rows taken)
    (c.push.ensures ∙ ap (λ (rows : List (List Receipt)). set rows p.from (rows_from rows p.from ++ r ∷ []))
    c.reserve.ensures.rows))
    c.give.ensures

pub returns-clause-at_once : goal.returns-clause-at_once
returns-clause-at_once c = λ h received.
    let here = subst (λ (v : ReceivingView). AreReceived v h) (sym c.self.view_is) received in
    c.is_some-2.ensures ∙ ap (λ (o : Option ℕ). is_some o) (taker_is c)
    ∙ some_mapped (λ (q : post.Post). q.number) (taker_post c)
    ∙ ap (λ (o : Option post.Post). is_some o) (sym (first_receive-stands c.self.inside.matcher h here.stands
    (record { from = c.args.p.now.from; tag = c.args.tag; ctx = c.args.ctx; len = c.args.len; how = Ask })))
    ∙ ap (λ (w : What). is_done_at_once h c.args.p.now.from w) (sym c.requires.ask)

pub invariant_of-self-2 : goal.invariant_of-self-2
invariant_of-self-2 c =
    subst (λ (w : ReceivingView). ReceivingInvariant w) (view_is c)
    (kept-ask (seen c.self.inside) c.self.invariant c.args.p.now c.args.tag c.args.ctx c.args.len c.requires.ask
    (may_of c).sender (may_of c).continued (taker_post c) refl)

pub returns-clause-took : goal.returns-clause-took
returns-clause-took c =
    let v : ReceivingView = seen c.self.inside in
    let p : Packet = c.args.p.now in
    let taken = c.then_some-taken.result in
    let streams = streams_after c
    ∙ ap (λ (w : What). set v.streams p.from (after (stream_of v p.from) w p.payload)) (sym c.requires.ask) in
    subst (λ (u : ReceivingView). TakesMessagePacket p u (after_view c)) c.self.view_is
    (record {
      kept = subst (λ (w : ReceivingView). TakesPacket v w p) (view_is c)
          (takes-ask v c.self.invariant p c.args.tag c.args.ctx c.args.len c.requires.ask (may_of c).sender
          (may_of c).continued (taker_post c) refl);
      streams = streams;
      bytes = packet-came v (after_view c) c.self.invariant p (may_of c).sender streams
          (λ from n. ap (λ gs. asked_came (get_or gs from []) n)
          (c.grant_taken.ensures.grants ∙ ap (λ gs. grants_with gs taken) c.reserve_for.ensures.same)
          ∙ granted-came v.grants taken from n)
          (λ eager. absurd (true≢false (sym eager ∙ ap (λ (w : What). is_eager w) c.requires.ask)))
          (may_of c).continued;
      sizes = c.skip.ensures.step.sizes;
      drawn = refl;
      ended = ap (λ (rs : List Receive). map (λ r. r.ended) rs) c.give.ensures
          ∙ taken_ended c.self.inside.receives.items c.in_ok-taker.taker c.arrival-arrival.result;
    })
