use Rattle.std.proofs.Common.{◌≡◌, ◌<◌, ◌≤◌, ◌∙◌, ◌+◌, ◌++◌, ℕ, true, List, length, sym, ap, subst, rules, arith}
use Rattle.std.specs.Prelude.{None, map, max, slice_set}
use Rattle.nm_history.specs.Clock.{stamped}
use Rattle.nm_history.specs.Continues.{continues, WORN_STAMP}
use Rattle.nm_history.specs.Effects.{packet_events}
use Rattle.nm_history.specs.Known.{Known}
use Rattle.nm_sending.specs.Departures.{SendingView}
use Rattle.nm_sending.specs.Sent.{Puts}
use Rattle.nm_receiving.specs.Receipts.{ReceivingView}
use Rattle.nm_rank.specs.Calls.{TakesPacket, taken_of}
use Rattle.nm_rank.specs.Fields.{AreFields}
use Rattle.nm_rank.specs.Ranks.{RankView, IsFresh, known_from, count_of, seen}
use Rattle.nm_rank.specs.Takes.{reply_of}
use Rattle.nm_rank.proofs.TakeLemmas.{fields-take, known-same, known-at, known_of}
use Rattle.nm_rank.proofs.TakenLemmas.{seen-room, known-set, takes-packet}
use Rattle.nm_rank.proofs.AcceptedLemmas.{may-be-accepted, streams-low, few-put, sent-room, stamp-early}
use Rattle.nm_rank.proofs.RoomLemmas.{fields-room}
use Rattle.nm_rank.proofs.ViewLemmas.{same-events, same-clock}
use Rattle.nm_rank.proofs.ranks.Rank.take_next.Goals as goal

pub invariant_of-self : goal.invariant_of-self
invariant_of-self g c = let a = c.self.inside in
    fields-room a.me a.shape a.journal _ a.sending _ a.receiving _ a.requests _ a.took.items a.pulled.items
    c.make_room.ensures.events c.make_room.ensures.kept c.make_room.ensures.letters
    c.make_room.ensures.requests c.self.invariant

pub invariant_of-self-in_err-reserve : goal.invariant_of-self-in_err-reserve
invariant_of-self-in_err-reserve g c = let a = c.self.inside in
    subst (λ (k : List Known). AreFields a.me a.shape c.make_room.new.journal c.make_room.new.sending
    a.receiving k c.make_room.new.requests a.took.items a.pulled.items)
    (sym (known-same a.streams.items c.args.p.now.from c.index_mut-stream.result.now c.reserve.new.self
    c.index_mut-stream.ensures.value c.reserve.ensures.same))
    (fields-room a.me a.shape a.journal _ a.sending _ a.receiving _ a.requests _ a.took.items a.pulled.items
    c.make_room.ensures.events c.make_room.ensures.kept c.make_room.ensures.letters
    c.make_room.ensures.requests c.self.invariant)

pub returns-in_err-reserve-clause-err : goal.returns-in_err-reserve-clause-err
returns-in_err-reserve-clause-err g c = let a = c.self.inside in
    let same = seen-room a.me a.shape a.journal c.make_room.new.journal a.sending c.make_room.new.sending
    a.receiving (map known_of a.streams.items)
    (map known_of (slice_set a.streams.items c.args.p.now.from c.reserve.new.self))
    a.requests c.make_room.new.requests a.took.items a.pulled.items a.strays
    c.make_room.ensures.events c.make_room.ensures.letters c.make_room.ensures.requests
    (known-same a.streams.items c.args.p.now.from c.index_mut-stream.result.now c.reserve.new.self
    c.index_mut-stream.ensures.value c.reserve.ensures.same) ∙ c.self.view_is in
    search (rules, same)

pub accept-requires : goal.accept-requires
accept-requires g c = let a = c.self.inside in
    let roomy = fields-room a.me a.shape a.journal c.make_room.new.journal a.sending c.make_room.new.sending
    a.receiving _ a.requests c.make_room.new.requests a.took.items a.pulled.items
    c.make_room.ensures.events c.make_room.ensures.kept c.make_room.ensures.letters
    c.make_room.ensures.requests c.self.invariant in
    let within : c.args.p.now.from < a.shape.ranks =
    subst (λ (v : RankView). c.args.p.now.from < v.sizes.ranks) (sym c.self.view_is) c.requires.sender in
    let number : c.args.p.now.seq ≡ count_of a.took.items c.args.p.now.from =
    subst (λ (v : RankView). c.args.p.now.seq ≡ count_of v.took c.args.p.now.from) (sym c.self.view_is)
    c.requires.number in
    let cont = subst (λ (v : RankView). (taken_of v c.args.p.now).continued ≡ true) (sym c.self.view_is)
    c.requires.continues in
    record {
      may = may-be-accepted a.me a.shape a.journal c.make_room.new.journal c.make_room.new.sending a.receiving
          (map known_of a.streams.items) c.make_room.new.requests a.took.items a.pulled.items c.args.p.now
          roomy (same-events a.journal c.make_room.new.journal c.make_room.ensures.events) within number
          cont;
    }

pub invariant_of-self-in_err-done_at_once : goal.invariant_of-self-in_err-done_at_once
invariant_of-self-in_err-done_at_once g c = let a = c.self.inside in
    subst (λ (s : SendingView). AreFields a.me a.shape c.make_room.new.journal s c.accept.new.receiving
    (map known_of (slice_set a.streams.items c.args.p.now.from c.reserve.new.self)) c.make_room.new.requests
    a.took.items a.pulled.items) (sym c.in_err-done_at_once.ensures.same)
    (subst (λ (r : ReceivingView). AreFields a.me a.shape c.make_room.new.journal c.make_room.new.sending r
    (map known_of (slice_set a.streams.items c.args.p.now.from c.reserve.new.self)) c.make_room.new.requests
    a.took.items a.pulled.items) (sym c.in_err-done_at_once.ensures.err)
    (subst (λ (k : List Known). AreFields a.me a.shape c.make_room.new.journal c.make_room.new.sending
    a.receiving k c.make_room.new.requests a.took.items a.pulled.items)
    (sym (known-same a.streams.items c.args.p.now.from c.index_mut-stream.result.now c.reserve.new.self
    c.index_mut-stream.ensures.value c.reserve.ensures.same))
    (fields-room a.me a.shape a.journal _ a.sending _ a.receiving _ a.requests _ a.took.items a.pulled.items
    c.make_room.ensures.events c.make_room.ensures.kept c.make_room.ensures.letters
    c.make_room.ensures.requests c.self.invariant)))

pub returns-in_err-done_at_once-clause-err : goal.returns-in_err-done_at_once-clause-err
returns-in_err-done_at_once-clause-err g c = let a = c.self.inside in
    let same = ap (λ (s : SendingView). seen a.me a.shape c.make_room.new.journal s c.accept.new.receiving
    (map known_of (slice_set a.streams.items c.args.p.now.from c.reserve.new.self)) c.make_room.new.requests
    a.took.items a.pulled.items a.strays) c.in_err-done_at_once.ensures.same
    ∙ ap (λ (r : ReceivingView). seen a.me a.shape c.make_room.new.journal c.make_room.new.sending r
    (map known_of (slice_set a.streams.items c.args.p.now.from c.reserve.new.self)) c.make_room.new.requests
    a.took.items a.pulled.items a.strays) c.in_err-done_at_once.ensures.err
    ∙ seen-room a.me a.shape a.journal c.make_room.new.journal a.sending c.make_room.new.sending
    a.receiving (map known_of a.streams.items)
    (map known_of (slice_set a.streams.items c.args.p.now.from c.reserve.new.self))
    a.requests c.make_room.new.requests a.took.items a.pulled.items a.strays
    c.make_room.ensures.events c.make_room.ensures.letters c.make_room.ensures.requests
    (known-same a.streams.items c.args.p.now.from c.index_mut-stream.result.now c.reserve.new.self
    c.index_mut-stream.ensures.value c.reserve.ensures.same) ∙ c.self.view_is in
    search (rules, same)

pub learn-requires-clause-continues : goal.learn-requires-clause-continues
learn-requires-clause-continues g c = let a = c.self.inside in
    let within : c.args.p.now.from < a.shape.ranks =
    subst (λ (v : RankView). c.args.p.now.from < v.sizes.ranks) (sym c.self.view_is) c.requires.sender in
    let low : c.args.p.now.from < length a.streams.items = streams-low a.me a.shape a.journal a.sending
    a.receiving a.streams.items a.requests a.took.items a.pulled.items c.args.p.now.from c.self.invariant
    within in
    let cont = subst (λ (v : RankView). (taken_of v c.args.p.now).continued ≡ true) (sym c.self.view_is)
    c.requires.continues in
    let same = known-at a.streams.items c.args.p.now.from c.index_mut-stream.result.now low
    c.index_mut-stream.ensures.value ∙ sym c.reserve.ensures.same in
    record {
      eager = a.shape.eager;
      history = a.journal.events;
      continued = subst (λ (k : Known). continues a.shape.eager k a.journal.events c.args.p.now ≡ true) same cont;
    }

pub reply-requires-clause-few : goal.reply-requires-clause-few
reply-requires-clause-few g c = let a = c.self.inside in
    let within : c.args.p.now.from < a.shape.ranks =
    subst (λ (v : RankView). c.args.p.now.from < v.sizes.ranks) (sym c.self.view_is) c.requires.sender in
    let fresh = subst (λ (v : RankView). IsFresh v) (sym c.self.view_is) c.requires.fresh in
    few-put a.me a.shape a.journal a.sending c.make_room.new.sending c.accept.new.sending a.receiving
    (map known_of a.streams.items) a.requests a.took.items a.pulled.items a.strays c.args.p.now.from
    c.make_room.ensures.letters c.in_ok-done_at_once.ensures.accepts.outbox fresh within

pub invariant_of-self-2 : goal.invariant_of-self-2
invariant_of-self-2 g c = let a = c.self.inside in
    let p = c.args.p.now in
    let known : List Known = map known_of a.streams.items in
    let roomy = fields-room a.me a.shape a.journal c.make_room.new.journal a.sending c.make_room.new.sending
    a.receiving known a.requests c.make_room.new.requests a.took.items a.pulled.items
    c.make_room.ensures.events c.make_room.ensures.kept c.make_room.ensures.letters
    c.make_room.ensures.requests c.self.invariant in
    let within : p.from < a.shape.ranks =
    subst (λ (v : RankView). c.args.p.now.from < v.sizes.ranks) (sym c.self.view_is) c.requires.sender in
    let number : p.seq ≡ count_of a.took.items p.from =
    subst (λ (v : RankView). c.args.p.now.seq ≡ count_of v.took c.args.p.now.from) (sym c.self.view_is)
    c.requires.number in
    let cont = subst (λ (v : RankView). (taken_of v c.args.p.now).continued ≡ true) (sym c.self.view_is)
    c.requires.continues in
    let low : p.from < length a.streams.items = streams-low a.me a.shape a.journal a.sending
    a.receiving a.streams.items a.requests a.took.items a.pulled.items p.from c.self.invariant within in
    let here = known-at a.streams.items p.from c.index_mut-stream.result.now low
    c.index_mut-stream.ensures.value ∙ sym c.reserve.ensures.same in
    let h : c.make_room.new.journal.events ≡ a.journal.events =
    same-events a.journal c.make_room.new.journal c.make_room.ensures.events in
    let cont' : continues a.shape.eager (known_from known p.from) c.make_room.new.journal.events p ≡ true =
    rw h cont in
    let at_once = c.in_ok-done_at_once.ensures.at_once c.make_room.new.journal.events roomy.history.sent
    roomy.history.received in
    let puts = c.reply.ensures.puts 0 (omega arith) in
    let start = max c.make_room.new.journal.clock p.stamp in
    let clock = c.note_packet.ensures.clock c.make_room.new.journal.events at_once in
    subst (λ (k : List Known). AreFields a.me a.shape c.note_packet.new.journal c.reply.new.sending
    c.accept.new.receiving k c.make_room.new.requests (slice_set a.took.items p.from (p.seq + 1))
    a.pulled.items)
    (sym (known-set a.streams.items p.from c.index_mut-stream.result.now c.reserve.new.self c.learn.new.self
    p.what (length p.payload) low c.index_mut-stream.ensures.value c.reserve.ensures.same c.learn.ensures))
    (fields-take a.me a.shape c.make_room.new.journal c.note_packet.new.journal c.make_room.new.sending
    c.accept.new.sending c.reply.new.sending a.receiving c.accept.new.receiving known
    c.make_room.new.requests a.took.items a.pulled.items p start
    (packet_events c.reserve.new.self.known c.make_room.new.journal.events p.from p.what (length p.payload))
    roomy within number cont'
    (ap (λ (k : Known). packet_events k c.make_room.new.journal.events p.from p.what
    (length p.payload)) (sym here))
    (c.note_packet.ensures.events c.make_room.new.journal.events at_once) (omega (arith, clock))
    c.in_ok-make_room.ensures.two c.note_packet.ensures.room c.in_ok-done_at_once.ensures.accepts
    c.reply.ensures.same puts.me puts.popped)

pub returns-clause-taken : goal.returns-clause-taken
returns-clause-taken g c = let a = c.self.inside in
    let p = c.args.p.now in
    let known : List Known = map known_of a.streams.items in
    let within : p.from < a.shape.ranks =
    subst (λ (v : RankView). c.args.p.now.from < v.sizes.ranks) (sym c.self.view_is) c.requires.sender in
    let number : p.seq ≡ count_of a.took.items p.from =
    subst (λ (v : RankView). c.args.p.now.seq ≡ count_of v.took c.args.p.now.from) (sym c.self.view_is)
    c.requires.number in
    let cont = subst (λ (v : RankView). (taken_of v c.args.p.now).continued ≡ true) (sym c.self.view_is)
    c.requires.continues in
    let low : p.from < length a.streams.items = streams-low a.me a.shape a.journal a.sending
    a.receiving a.streams.items a.requests a.took.items a.pulled.items p.from c.self.invariant within in
    let here = known-at a.streams.items p.from c.index_mut-stream.result.now low
    c.index_mut-stream.ensures.value ∙ sym c.reserve.ensures.same in
    let at_once = c.in_ok-done_at_once.ensures.at_once a.journal.events
    (sent-room a.sending c.make_room.new.sending a.journal.events c.make_room.ensures.letters
    c.self.invariant.history.sent) c.self.invariant.history.received in
    let ws = packet_events c.reserve.new.self.known a.journal.events p.from p.what (length p.payload) in
    let clock : c.make_room.new.journal.clock ≡ a.journal.clock =
    same-clock a.journal c.make_room.new.journal c.make_room.ensures.events in
    subst (λ (v : RankView). TakesPacket c.args.p.now v
    (seen a.me a.shape c.note_packet.new.journal c.reply.new.sending c.accept.new.receiving
    (map known_of (slice_set a.streams.items c.args.p.now.from c.learn.new.self)) c.make_room.new.requests
    (slice_set a.took.items c.args.p.now.from (c.args.p.now.seq + 1)) a.pulled.items a.strays))
    c.self.view_is
    (takes-packet a.me a.shape a.journal c.make_room.new.journal c.note_packet.new.journal a.sending
    c.make_room.new.sending c.accept.new.sending c.reply.new.sending a.receiving c.accept.new.receiving known
    _ a.requests c.make_room.new.requests a.took.items a.pulled.items a.strays p
    ws c.in_ok-done_at_once.done_at_once
    c.count-n.result
    c.make_room.ensures.events c.make_room.ensures.letters c.make_room.ensures.requests cont
    (ap (λ (k : Known). packet_events k a.journal.events p.from p.what (length p.payload)) (sym here))
    at_once
    (c.count-n.ensures ∙ ap (λ (k : Known). k.count) (sym (known-at a.streams.items p.from
    c.index_mut-stream.result.now low c.index_mut-stream.ensures.value)))
    (subst (λ (k : ℕ). c.note_packet.new.journal.events
    ≡ c.make_room.new.journal.events ++ stamped (max k p.stamp) ws)
    clock (c.note_packet.ensures.events a.journal.events at_once))
    (subst (λ (k : ℕ). c.note_packet.new.journal.clock ≡ max k p.stamp + length ws)
    clock (c.note_packet.ensures.clock a.journal.events at_once))
    c.in_ok-done_at_once.ensures.accepts.outbox
    (subst (λ (t : ℕ). (called : ℕ) → called ≤ t →
    Puts (reply_of c.count-n.result p.from p.what c.in_ok-done_at_once.done_at_once called) None t
    c.accept.new.sending.outbox c.reply.new.sending.outbox) c.clock.ensures.value c.reply.ensures.puts)
    (ap (λ (s : SendingView). s.pushed) c.reply.ensures.same ∙ c.in_ok-done_at_once.ensures.accepts.pushed)
    (ap (λ (s : SendingView). s.offers) c.reply.ensures.same ∙ c.in_ok-done_at_once.ensures.accepts.offers)
    c.in_ok-done_at_once.ensures.accepts.bytes (c.self.invariant.told.counts p.from within)
    (known-set a.streams.items p.from c.index_mut-stream.result.now c.reserve.new.self c.learn.new.self
    p.what (length p.payload) low c.index_mut-stream.ensures.value c.reserve.ensures.same c.learn.ensures)
    number c.in_ok-done_at_once.ensures.accepts.drawn)

pub note_packet-requires-clause-in_time : goal.note_packet-requires-clause-in_time
note_packet-requires-clause-in_time g c = let a = c.self.inside in
    let fresh = subst (λ (v : RankView). v.clock < WORN_STAMP) (sym c.self.view_is) c.requires.fresh.clock in
    let clock = same-clock a.journal c.make_room.new.journal c.make_room.ensures.events in
    omega (arith, fresh, clock)

pub note_packet-requires-clause-early : goal.note_packet-requires-clause-early
note_packet-requires-clause-early g c = let a = c.self.inside in
    let p = c.args.p.now in
    let cont = subst (λ (v : RankView). (taken_of v c.args.p.now).continued ≡ true) (sym c.self.view_is)
    c.requires.continues in
    stamp-early a.shape.eager (known_from (map known_of a.streams.items) p.from) a.journal.events p cont
