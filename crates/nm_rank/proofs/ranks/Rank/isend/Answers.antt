use Rattle.std.proofs.Common.{◌≡◌, ℕ, ◌+◌, ◌<◌, [], ◌∷◌, length, refl, sym, ◌∙◌, ap, subst, arith}
use Rattle.std.specs.Prelude.{if◌then◌else◌, map}
use Rattle.nm_history.specs.declared.events.Happened.TheVariants as event
use Rattle.nm_sending.specs.Sent.{Preserves}
use Rattle.nm_types.specs.Bodies.{body_len}
use Rattle.nm_history.specs.RankRun.{how_of}
use Rattle.nm_history.specs.Sends.{is_ask, sends}
use Rattle.nm_rndv.specs.Offers.{destined, with_asked, with_destined}
use Rattle.nm_sending.specs.declared.TheConstants.{MAX_MESSAGES}
use Rattle.nm_sending.specs.Departures.{SendingView, departures_to}
use Rattle.nm_sending.specs.Outboxes.{put_to}
use Rattle.nm_rank.specs.Ranks.{IsFresh, RankView, seen}
use Rattle.nm_rank.specs.Sends.{next_send}
use Rattle.nm_rank.specs.Steps.{StartsSend}
use Rattle.nm_rank.proofs.Goes.{length-sent}
use Rattle.nm_rank.proofs.ViewLemmas.{same-offers, starts-send}
use Rattle.nm_rank.proofs.RoomLemmas.{fields-room, room-again}
use Rattle.nm_rank.proofs.SendLemmas.{order-asked, fields-send}
use Rattle.nm_rank.proofs.ranks.Rank.isend.Goals as goal

pub invariant_of-self : goal.invariant_of-self
invariant_of-self g c = let a = c.self.inside in
    fields-room a.me a.shape a.journal _ a.sending _ a.receiving _ a.requests _ a.took.items a.pulled.items
    c.make_room.ensures.events c.make_room.ensures.kept c.make_room.ensures.letters
    c.make_room.ensures.requests c.self.invariant

pub invariant_of-self-in_err-n : goal.invariant_of-self-in_err-n
invariant_of-self-in_err-n g c = let a = c.self.inside in
    fields-room a.me a.shape a.journal _ a.sending _ a.receiving _ a.requests _ a.took.items a.pulled.items
    c.make_room.ensures.events c.make_room.ensures.kept
    (room-again a.sending c.make_room.new.sending c.send.new.self c.make_room.ensures.letters
    c.in_err-n.ensures.err)
    c.make_room.ensures.requests c.self.invariant

pub invariant_of-self-2 : goal.invariant_of-self-2
invariant_of-self-2 g c =
    let a = c.self.inside in
    let roomy = fields-room a.me a.shape a.journal c.make_room.new.journal a.sending c.make_room.new.sending
    a.receiving _ a.requests c.make_room.new.requests a.took.items a.pulled.items
    c.make_room.ensures.events c.make_room.ensures.kept c.make_room.ensures.letters
    c.make_room.ensures.requests c.self.invariant in
    let within : c.args.to < a.shape.ranks =
    subst (λ (v : RankView). c.args.to < v.sizes.ranks) (sym c.self.view_is) c.requires.to in
    let kept = subst (λ (l : ℕ). Preserves c.make_room.new.sending c.send.new.self
    (event.Send c.args.to c.in_ok-n.n c.args.tag c.args.ctx l c.mode-how.result c.args.line ∷ []))
    (sym c.len-len.ensures) (c.in_ok-n.ensures.sent c.args.line).kept in
    let puts = (c.in_ok-n.ensures.sent c.args.line).put.puts c.make_room.new.journal.events in
    fields-send a.me a.shape c.make_room.new.journal c.add.new.self c.make_room.new.sending c.send.new.self
    a.receiving _ c.make_room.new.requests c.add-2.new.self a.took.items a.pulled.items c.args.to
    c.in_ok-n.n c.args.tag c.args.ctx c.len-len.result c.args.line c.mode-how.result c.unwrap.result
    roomy within c.add.ensures.events c.add.ensures.clock c.add.ensures.room
    c.in_ok-make_room.ensures.two (c.in_ok-n.ensures.sent c.args.line).counted kept puts.me puts.popped
    (ap (λ o. o.order) (c.in_ok-n.ensures.sent c.args.line).put.asked ∙ order-asked _ _ _ _ _)
    (c.sides_stay.ensures.received a.receiving c.make_room.new.journal.events _ (refl, tt)
    roomy.history.received)
    (rw (c.unwrap.ensures) at c.add-2.ensures.ok)

pub returns-clause-starts : goal.returns-clause-starts
returns-clause-starts g c =
    let a = c.self.inside in
    let to = c.args.to in
    let body = c.args.body in
    let number : c.in_ok-n.n ≡ length (sends a.journal.events to) =
    (c.in_ok-n.ensures.sent c.args.line).number
    ∙ ap (λ (s : SendingView). length (departures_to s to)) c.make_room.ensures.letters
    ∙ length-sent a.sending a.journal.events c.self.invariant.history.sent to in
    let how : c.mode-how.result ≡ how_of a.shape.eager c.args.sync (body_len body) =
    c.mode-how.ensures.value
    ∙ ap (λ (e : ℕ). how_of e c.args.sync c.len-len.result) c.eager.ensures.value
    ∙ ap (λ (l : ℕ). how_of a.shape.eager c.args.sync l) c.len-len.ensures in
    let offers : c.send.new.self.offers
    ≡ (if is_ask (how_of a.shape.eager c.args.sync (body_len body))
    then with_destined a.sending.offers to
    (with_asked (destined a.sending.offers to) (length (sends a.journal.events to)) body)
    else a.sending.offers) =
    (rw (
      ← how,
      ← number,
      ← same-offers a.sending c.make_room.new.sending c.make_room.ensures.letters,
    ) (c.in_ok-n.ensures.sent c.args.line).put.asked) in
    subst (λ (v : RankView). StartsSend
    (next_send v c.args.to c.args.tag c.args.ctx c.args.body c.args.sync c.args.line) c.args.body c.unwrap.result v
    (seen a.me a.shape c.add.new.self c.send.new.self a.receiving
    (map (λ s. s.known) a.streams.items) c.add-2.new.self a.took.items a.pulled.items a.strays)) c.self.view_is
    (record {
      started = λ bodies same. starts-send bodies c.args.body a.me a.shape a.journal c.make_room.new.journal
          c.add.new.self
          a.sending c.make_room.new.sending c.send.new.self a.receiving (map (λ s. s.known) a.streams.items)
          a.requests c.make_room.new.requests c.add-2.new.self a.took.items a.pulled.items a.strays
          c.args.to c.in_ok-n.n c.args.tag c.args.ctx c.len-len.result c.args.line
          (c.clock-stamp.result + 1) c.mode-how.result
          (how_of a.shape.eager c.args.sync (body_len c.args.body)) c.unwrap.result
          (length (sends a.journal.events c.args.to)) (body_len c.args.body) same
          c.make_room.ensures.events c.make_room.ensures.letters c.make_room.ensures.requests
          c.add.ensures.events c.add.ensures.clock (ap (λ k. k + 1) c.clock-stamp.ensures.value)
          ((c.in_ok-n.ensures.sent c.args.line).put.puts a.journal.events) (c.in_ok-n.ensures.sent c.args.line).same
          (rw (c.unwrap.ensures) at c.add-2.ensures.ok) number c.len-len.ensures how;
      offers = offers;
    })

pub send-requires-clause-room : goal.send-requires-clause-room
send-requires-clause-room g c =
    let a = c.self.inside in
    let fresh = subst (λ (v : RankView). IsFresh v) (sym c.self.view_is) c.requires.fresh in
    let within : c.args.to < a.shape.ranks =
    subst (λ (v : RankView). c.args.to < v.sizes.ranks) (sym c.self.view_is) c.requires.to in
    let messages = fresh.messages c.args.to within in
    let clock = fresh.clock in
    let letters = c.make_room.ensures.letters in
    let put = ap (λ (s : SendingView). put_to s.outbox c.args.to) letters in
    let staying = ap (λ (s : SendingView). s.staying) letters in
    record {
      few = subst (λ (k : ℕ). k < MAX_MESSAGES)
          (sym (ap (λ (s : SendingView). length (departures_to s c.args.to)) letters
          ∙ length-sent a.sending a.journal.events c.self.invariant.history.sent c.args.to)) messages.0;
      room = let few = messages.1 in omega (arith, few, put);
      counted = let few = c.self.invariant.room.few in omega (arith, clock, staying, few);
    }
