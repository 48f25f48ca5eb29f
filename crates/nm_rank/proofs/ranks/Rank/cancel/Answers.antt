use Rattle.std.proofs.Common.{◌≡◌, List, Some, refl, sym, ◌∙◌, ap, subst, arith}
use Rattle.std.specs.Prelude.{map}
use Rattle.nm_request.specs.declared.Kind.TheVariants as kind
use Rattle.nm_request.specs.Requests.{kind_of}
use Rattle.nm_sending.specs.Departures.{SendingView}
use Rattle.nm_sending.specs.Sent.{AreSent}
use Rattle.nm_rank.specs.declared.answers.Cancelled.TheVariants.{Asked}
use Rattle.nm_rank.specs.Calls.{Happens}
use Rattle.nm_rank.specs.Fields.{AreFields}
use Rattle.nm_rank.specs.Journals.{JournalView}
use Rattle.nm_rank.specs.Ranks.{RankView, seen}
use Rattle.nm_rndv.specs.Offers.{Offering}
use Rattle.nm_rank.specs.Requests.{cancel_events, offers_cancelled}
use Rattle.nm_rank.specs.Steps.{Cancels}
use Rattle.nm_history.specs.declared.events.Event.{Event}
use Rattle.nm_rank.proofs.CancelLemmas.{cancel-order, cancel-takes, fields-cancel, fields-recall, recall-puts}
use Rattle.nm_rank.proofs.PutLemmas.{cancel-leaves, puts-none}
use Rattle.nm_rank.proofs.ViewLemmas.{happens-room, same-events, same-offers}
use Rattle.nm_rank.proofs.FinishLemmas.{found, was-started}
use Rattle.nm_rank.proofs.Goes.{sent-outbox}
use Rattle.nm_rank.proofs.RoomLemmas.{fields-room, room-again}
use Rattle.nm_rank.proofs.ranks.Rank.cancel.Goals as goal

pub invariant_of-self : goal.invariant_of-self
invariant_of-self g c = let a = c.self.inside in
    fields-room a.me a.shape a.journal _ a.sending _ a.receiving _ a.requests _ a.took.items a.pulled.items
    c.make_room.ensures.events c.make_room.ensures.kept c.make_room.ensures.letters
    c.make_room.ensures.requests c.self.invariant

pub cancel_receive-requires-clause-known : goal.cancel_receive-requires-clause-known
cancel_receive-requires-clause-known g c = let a = c.self.inside in
    let live : kind_of a.requests c.args.r ≡ Some (kind.Receive c.in-Receive.number) =
    found (kind_of a.requests c.args.r) c.in-Ok.kind _ (sym c.in-Ok.is ∙ c.get.ensures.kind)
    ∙ ap Some c.in-Receive.is in
    was-started a.receiving.receives c.in-Receive.number
    (c.self.invariant.requests.receives c.args.r c.in-Receive.number live)

pub invariant_of-self-in-Receive : goal.invariant_of-self-in-Receive
invariant_of-self-in-Receive g c =
    let a = c.self.inside in
    let roomy = fields-room a.me a.shape a.journal c.make_room.new.journal a.sending c.make_room.new.sending
    a.receiving _ a.requests c.make_room.new.requests a.took.items a.pulled.items
    c.make_room.ensures.events c.make_room.ensures.kept c.make_room.ensures.letters
    c.make_room.ensures.requests c.self.invariant in
    fields-cancel a.me a.shape c.make_room.new.journal c.cancel_receive.new.journal c.make_room.new.sending
    a.receiving c.cancel_receive.new.receiving _ c.make_room.new.requests a.took.items a.pulled.items
    c.in-Receive.number roomy
    (c.cancel_receive.ensures.events c.make_room.new.journal.events roomy.history.received)
    c.cancel_receive.ensures.clock c.cancel_receive.ensures.room c.in_ok-make_room.ensures.two
    c.sides_stay.ensures.sent c.cancel_receive.ensures.kept c.cancel_receive.ensures.same.0
    c.cancel_receive.ensures.same.1

pub invariant_of-self-in_err-recall-in-Send : goal.invariant_of-self-in_err-recall-in-Send
invariant_of-self-in_err-recall-in-Send g c = let a = c.self.inside in
    subst (λ (j : JournalView). AreFields a.me a.shape j c.recall.new.sending a.receiving
    (map (λ s. s.known) a.streams.items) c.make_room.new.requests a.took.items a.pulled.items)
    (sym c.in_err-recall-in-Send.ensures.same)
    (fields-room a.me a.shape a.journal _ a.sending _ a.receiving _ a.requests _ a.took.items a.pulled.items
    c.make_room.ensures.events c.make_room.ensures.kept
    (room-again a.sending c.make_room.new.sending c.recall.new.sending c.make_room.ensures.letters
    c.in_err-recall-in-Send.ensures.err)
    c.make_room.ensures.requests c.self.invariant)

pub recall-requires-clause-sent : goal.recall-requires-clause-sent
recall-requires-clause-sent g c = let a = c.self.inside in
    let live : kind_of a.requests c.args.r ≡ Some (kind.Send c.in-Send.to c.in-Send.n) =
    found (kind_of a.requests c.args.r) c.in-Ok.kind _ (sym c.in-Ok.is ∙ c.get.ensures.kind)
    ∙ ap Some c.in-Send.is in
    record {
      history = a.journal.events;
      messages = subst (λ (s : SendingView). AreSent s a.journal.events) (sym c.make_room.ensures.letters)
          (sent-outbox a.sending _ a.journal.events c.self.invariant.history.sent);
      sent = (c.self.invariant.requests.sends c.args.r c.in-Send.to c.in-Send.n live).1;
    }

pub invariant_of-self-in-Send : goal.invariant_of-self-in-Send
invariant_of-self-in-Send g c =
    let a = c.self.inside in
    let roomy = fields-room a.me a.shape a.journal c.make_room.new.journal a.sending c.make_room.new.sending
    a.receiving _ a.requests c.make_room.new.requests a.took.items a.pulled.items
    c.make_room.ensures.events c.make_room.ensures.kept c.make_room.ensures.letters
    c.make_room.ensures.requests c.self.invariant in
    let h = c.make_room.new.journal.events in
    let puts = c.in_ok-recall-in-Send.ensures.puts h 0 roomy.history.sent (omega arith) in
    fields-recall a.me a.shape c.make_room.new.journal c.recall.new.journal c.make_room.new.sending
    c.recall.new.sending a.receiving _ c.make_room.new.requests a.took.items a.pulled.items
    c.in-Send.to c.in-Send.n roomy
    (c.in_ok-recall-in-Send.ensures.events h roomy.history.sent)
    (c.in_ok-recall-in-Send.ensures.clock h roomy.history.sent)
    c.recall.ensures.room c.in_ok-make_room.ensures.two c.sides_stay.ensures.received
    c.in_ok-recall-in-Send.ensures.kept c.in_ok-recall-in-Send.ensures.staying
    (cancel-order h (kind.Send c.in-Send.to c.in-Send.n) c.make_room.new.sending.offers
    c.recall.new.sending.offers (c.in_ok-recall-in-Send.ensures.offers h roomy.history.sent))
    puts.me puts.popped

pub returns-in_ok-recall-in-Send-clause-cancels : goal.returns-in_ok-recall-in-Send-clause-cancels
returns-in_ok-recall-in-Send-clause-cancels g c =
    let a = c.self.inside in
    let known = map (λ s. s.known) a.streams.items in
    let roomy = fields-room a.me a.shape a.journal c.make_room.new.journal a.sending c.make_room.new.sending
    a.receiving known a.requests c.make_room.new.requests a.took.items a.pulled.items
    c.make_room.ensures.events c.make_room.ensures.kept c.make_room.ensures.letters
    c.make_room.ensures.requests c.self.invariant in
    let to = c.in-Send.to in
    let n = c.in-Send.n in
    let live : kind_of a.requests c.args.r ≡ Some (kind.Send c.in-Send.to c.in-Send.n) =
    found (kind_of a.requests c.args.r) c.in-Ok.kind _ (sym c.in-Ok.is ∙ c.get.ensures.kind)
    ∙ ap Some c.in-Send.is in
    let h = c.make_room.new.journal.events in
    let k = c.make_room.new.journal.clock in
    let clock = c.in_ok-recall-in-Send.ensures.clock h roomy.history.sent in
    let takes = cancel-takes a.me a.shape a.journal c.recall.new.journal a.sending c.recall.new.sending a.receiving
    a.receiving known a.requests c.make_room.new.requests a.took.items a.pulled.items a.strays refl
    c.make_room.ensures.requests in
    subst (λ (v : RankView). Cancels c.args.r Asked v
    (seen a.me a.shape c.recall.new.journal c.recall.new.sending a.receiving
    (map (λ s. s.known) a.streams.items) c.make_room.new.requests a.took.items a.pulled.items a.strays))
    c.self.view_is (record {
      kind = kind.Send to n;
      live = live;
      answered = refl;
      happened = λ bodies. subst (λ (events : List Event). Happens bodies a.journal.clock
          (cancel_events events (kind.Send to n))
          (seen a.me a.shape a.journal a.sending a.receiving (map (λ s. s.known) a.streams.items) a.requests
          a.took.items a.pulled.items a.strays)
          (seen a.me a.shape c.recall.new.journal c.recall.new.sending a.receiving
          (map (λ s. s.known) a.streams.items) c.make_room.new.requests a.took.items a.pulled.items a.strays))
          (same-events a.journal c.make_room.new.journal c.make_room.ensures.events)
          (happens-room bodies a.me a.shape a.journal c.make_room.new.journal c.recall.new.journal
          a.sending c.make_room.new.sending c.recall.new.sending a.receiving a.receiving
          (map (λ s. s.known) a.streams.items) a.requests c.make_room.new.requests a.took.items a.pulled.items
          a.strays (cancel_events h (kind.Send to n)) c.make_room.ensures.events c.make_room.ensures.letters
          (c.in_ok-recall-in-Send.ensures.events h roomy.history.sent) clock (cancel-leaves h (kind.Send to n))
          (recall-puts bodies h k to n c.recall.new.journal.clock c.make_room.new.sending.outbox
          c.recall.new.sending.outbox clock
          (λ called below. c.in_ok-recall-in-Send.ensures.puts h called roomy.history.sent below))
          c.in_ok-recall-in-Send.ensures.pushed);
      offers = c.in_ok-recall-in-Send.ensures.offers h roomy.history.sent
          ∙ ap (λ (o : Offering). offers_cancelled h (kind.Send c.in-Send.to c.in-Send.n) o)
          (same-offers a.sending c.make_room.new.sending c.make_room.ensures.letters)
          ∙ ap (λ (events : List Event). offers_cancelled events (kind.Send c.in-Send.to c.in-Send.n)
          a.sending.offers)
          (same-events a.journal c.make_room.new.journal c.make_room.ensures.events);
      takes = takes.0;
      requests = takes.1;
    })

pub returns-in-Receive-clause-cancels : goal.returns-in-Receive-clause-cancels
returns-in-Receive-clause-cancels g c =
    let a = c.self.inside in
    let known = map (λ s. s.known) a.streams.items in
    let roomy = fields-room a.me a.shape a.journal c.make_room.new.journal a.sending c.make_room.new.sending
    a.receiving known a.requests c.make_room.new.requests a.took.items a.pulled.items
    c.make_room.ensures.events c.make_room.ensures.kept c.make_room.ensures.letters
    c.make_room.ensures.requests c.self.invariant in
    let number = c.in-Receive.number in
    let live : kind_of a.requests c.args.r ≡ Some (kind.Receive c.in-Receive.number) =
    found (kind_of a.requests c.args.r) c.in-Ok.kind _ (sym c.in-Ok.is ∙ c.get.ensures.kind)
    ∙ ap Some c.in-Receive.is in
    let h = c.make_room.new.journal.events in
    let takes = cancel-takes a.me a.shape a.journal c.cancel_receive.new.journal a.sending c.make_room.new.sending
    a.receiving c.cancel_receive.new.receiving known a.requests c.make_room.new.requests a.took.items a.pulled.items
    a.strays c.cancel_receive.ensures.same.0 c.make_room.ensures.requests in
    subst (λ (v : RankView). Cancels c.args.r c.cancel_receive.result v
    (seen a.me a.shape c.cancel_receive.new.journal c.make_room.new.sending c.cancel_receive.new.receiving
    (map (λ s. s.known) a.streams.items) c.make_room.new.requests a.took.items a.pulled.items a.strays))
    c.self.view_is (record {
      kind = kind.Receive number;
      live = live;
      answered = c.cancel_receive.ensures.answer a.journal.events c.self.invariant.history.received;
      happened = λ bodies. subst (λ (events : List Event). Happens bodies a.journal.clock
          (cancel_events events (kind.Receive number))
          (seen a.me a.shape a.journal a.sending a.receiving (map (λ s. s.known) a.streams.items) a.requests
          a.took.items a.pulled.items a.strays)
          (seen a.me a.shape c.cancel_receive.new.journal c.make_room.new.sending c.cancel_receive.new.receiving
          (map (λ s. s.known) a.streams.items) c.make_room.new.requests a.took.items a.pulled.items a.strays))
          (same-events a.journal c.make_room.new.journal c.make_room.ensures.events)
          (happens-room bodies a.me a.shape a.journal c.make_room.new.journal c.cancel_receive.new.journal
          a.sending c.make_room.new.sending c.make_room.new.sending a.receiving c.cancel_receive.new.receiving
          (map (λ s. s.known) a.streams.items) a.requests c.make_room.new.requests a.took.items a.pulled.items
          a.strays (cancel_events h (kind.Receive number)) c.make_room.ensures.events c.make_room.ensures.letters
          (c.cancel_receive.ensures.events h roomy.history.received) c.cancel_receive.ensures.clock refl
          (puts-none _ _ _ (λ to. refl)) refl);
      offers = same-offers a.sending c.make_room.new.sending c.make_room.ensures.letters;
      takes = takes.0;
      requests = takes.1;
    })
