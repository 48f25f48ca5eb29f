use Rattle.std.proofs.Common.{◌≡◌, ◌+◌, ◌∷◌, length, refl, sym, ◌∙◌, ap, subst, arith}
use Rattle.std.specs.Prelude.{map, Option}
use Rattle.nm_types.specs.declared.messages.Arrival.{Arrival}
use Rattle.nm_history.specs.declared.events.Happened.TheVariants as event
use Rattle.nm_history.specs.Sends.{message_of, receives}
use Rattle.nm_sending.specs.Departures.{SendingView}
use Rattle.nm_receiving.specs.Receipts.{ReceivingView, taken_events}
use Rattle.nm_history.specs.Clock.{stamped}
use Rattle.nm_rank.specs.Calls.{called_by, clearance_of}
use Rattle.nm_rank.specs.Fields.{AreFields}
use Rattle.nm_rank.specs.Ranks.{RankView, seen}
use Rattle.nm_rank.specs.Steps.{StartsMatched}
use Rattle.nm_rank.proofs.ClearLemmas.{match-calls, starts-receive, starts-as}
use Rattle.nm_rank.proofs.ReceiveLemmas.{fields-receive}
use Rattle.nm_rank.proofs.RoomLemmas.{fields-room}
use Rattle.nm_rank.proofs.ViewLemmas.{same-offers}
use Rattle.nm_rank.proofs.ranks.Rank.imrecv.Goals as goal

pub invariant_of-self : goal.invariant_of-self
invariant_of-self g c = let a = c.self.inside in
    fields-room a.me a.shape a.journal _ a.sending _ a.receiving _ a.requests _ a.took.items a.pulled.items
    c.make_room.ensures.events c.make_room.ensures.kept c.make_room.ensures.letters
    c.make_room.ensures.requests c.self.invariant

pub invariant_of-self-in_err-started : goal.invariant_of-self-in_err-started
invariant_of-self-in_err-started g c = let a = c.self.inside in
    subst (λ (r : ReceivingView). AreFields a.me a.shape c.make_room.new.journal c.make_room.new.sending r
    (map (λ s. s.known) a.streams.items) c.make_room.new.requests a.took.items a.pulled.items)
    (sym c.in_err-started.ensures.err)
    (fields-room a.me a.shape a.journal _ a.sending _ a.receiving _ a.requests _ a.took.items a.pulled.items
    c.make_room.ensures.events c.make_room.ensures.kept c.make_room.ensures.letters
    c.make_room.ensures.requests c.self.invariant)

pub invariant_of-self-2 : goal.invariant_of-self-2
invariant_of-self-2 g c =
    let a = c.self.inside in
    let roomy = fields-room a.me a.shape a.journal c.make_room.new.journal a.sending c.make_room.new.sending
    a.receiving _ a.requests c.make_room.new.requests a.took.items a.pulled.items
    c.make_room.ensures.events c.make_room.ensures.kept c.make_room.ensures.letters
    c.make_room.ensures.requests c.self.invariant in
    let puts = c.follow.ensures.puts 0 (omega arith) in
    fields-receive a.me a.shape c.make_room.new.journal c.add.new.self c.follow.new.journal
    c.make_room.new.sending c.follow.new.sending a.receiving c.take_claimed.new.self _
    c.make_room.new.requests c.add-2.new.self a.took.items a.pulled.items
    (event.Match c.in_ok-started.started.number c.args.from c.args.n c.args.cap c.args.line)
    c.in_ok-started.started.taken c.in_ok-started.started.number _ c.unwrap.result roomy
    c.add.ensures.events c.add.ensures.clock c.add.ensures.room c.follow.ensures.events
    c.follow.ensures.clock c.follow.ensures.room c.in_ok-make_room.ensures.two c.follow.ensures.same
    puts.me puts.popped (λ i. refl) refl c.sides_stay.ensures.sent
    (c.in_ok-started.ensures.started.kept c.args.line)
    c.in_ok-started.ensures.started.sizes c.in_ok-started.ensures.started.streams c.in_ok-started.ensures.started.drawn
    c.in_ok-started.ensures.started.receives refl c.in_ok-started.ensures.started.number
    (rw (c.unwrap.ensures) at c.add-2.ensures.ok)

pub returns-clause-starts : goal.returns-clause-starts
returns-clause-starts g c =
    let a = c.self.inside in
    let h = a.journal.events in
    let number : c.in_ok-started.started.number ≡ length (receives h) =
    c.in_ok-started.ensures.started.number ∙ c.self.invariant.history.received.count in
    let taken : c.in_ok-started.started.taken
    ≡ message_of h c.args.from c.args.n =
    c.in_ok-started.ensures.taken h c.self.invariant.history.received in
    subst (λ (v : RankView). StartsMatched c.args.from c.args.n c.args.cap c.args.line c.unwrap.result v
    (seen a.me a.shape c.follow.new.journal c.follow.new.sending c.take_claimed.new.self
    (map (λ s. s.known) a.streams.items) c.add-2.new.self a.took.items a.pulled.items a.strays)) c.self.view_is
    (record {
      started = λ bodies. starts-as bodies (seen a.me a.shape a.journal a.sending a.receiving
          (map (λ s. s.known) a.streams.items) a.requests a.took.items a.pulled.items a.strays)
          (seen a.me a.shape c.follow.new.journal c.follow.new.sending c.take_claimed.new.self
          (map (λ s. s.known) a.streams.items) c.add-2.new.self a.took.items a.pulled.items a.strays)
          c.unwrap.result
          (λ n. event.Match n c.args.from c.args.n c.args.cap c.args.line) c.in_ok-started.started.number
          (length (receives h))
          c.in_ok-started.started.taken
          (message_of h c.args.from c.args.n) number taken
          (starts-receive bodies a.me a.shape a.journal c.make_room.new.journal c.add.new.self
          c.follow.new.journal a.sending c.make_room.new.sending c.follow.new.sending a.receiving
          c.take_claimed.new.self (map (λ s. s.known) a.streams.items) a.requests c.make_room.new.requests
          c.add-2.new.self a.took.items a.pulled.items a.strays c.in_ok-started.started.number
          (event.Match c.in_ok-started.started.number c.args.from c.args.n c.args.cap c.args.line)
          c.in_ok-started.started.taken c.unwrap.result
          c.make_room.ensures.events c.make_room.ensures.letters c.make_room.ensures.requests
          c.add.ensures.events c.add.ensures.clock c.follow.ensures.events c.follow.ensures.clock
          c.follow.ensures.puts (ap (λ (s : SendingView). s.pushed) c.follow.ensures.same) (λ ws. refl)
          (λ to. subst (λ (t : Option Arrival). called_by bodies to h
          (stamped a.journal.clock (event.Match c.in_ok-started.started.number c.args.from c.args.n c.args.cap
          c.args.line ∷ taken_events t)) ≡ clearance_of (a.journal.clock + 1) t to) (sym taken)
          (match-calls bodies h a.journal.clock c.in_ok-started.started.number c.args.from c.args.n c.args.cap
          c.args.line to))
          c.in_ok-started.ensures.started.streams c.in_ok-started.ensures.started.bytes c.in_ok-started.ensures.started.drawn
          (rw (c.unwrap.ensures) at c.add-2.ensures.ok));
      offers = ap (λ (s : SendingView). s.offers) c.follow.ensures.same
          ∙ same-offers a.sending c.make_room.new.sending c.make_room.ensures.letters;
    })
