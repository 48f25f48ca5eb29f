use Rattle.std.proofs.Common.{sym, subst}
use Rattle.std.specs.Prelude.{map}
use Rattle.nm_receiving.specs.Receipts.{ReceivingView}
use Rattle.nm_rank.specs.Fields.{AreFields}
use Rattle.nm_rank.proofs.LeaveLemmas.{fields-claim}
use Rattle.nm_rank.proofs.RoomLemmas.{fields-room}
use Rattle.nm_rank.proofs.ranks.Rank.improbe.Goals as goal

pub invariant_of-self : goal.invariant_of-self
invariant_of-self g c = let a = c.self.inside in
    fields-room a.me a.shape a.journal _ a.sending _ a.receiving _ a.requests _ a.took.items a.pulled.items
    c.make_room.ensures.events c.make_room.ensures.kept c.make_room.ensures.letters
    c.make_room.ensures.requests c.self.invariant

pub invariant_of-self-in_err-found : goal.invariant_of-self-in_err-found
invariant_of-self-in_err-found g c = let a = c.self.inside in
    subst (λ (r : ReceivingView). AreFields a.me a.shape c.make_room.new.journal c.make_room.new.sending r
    (map (λ s. s.known) a.streams.items) c.make_room.new.requests a.took.items a.pulled.items)
    (sym c.in_err-found.ensures.err)
    (fields-room a.me a.shape a.journal _ a.sending _ a.receiving _ a.requests _ a.took.items a.pulled.items
    c.make_room.ensures.events c.make_room.ensures.kept c.make_room.ensures.letters
    c.make_room.ensures.requests c.self.invariant)

pub invariant_of-self-in-Some : goal.invariant_of-self-in-Some
invariant_of-self-in-Some g c =
    let a = c.self.inside in
    let roomy = fields-room a.me a.shape a.journal c.make_room.new.journal a.sending c.make_room.new.sending
    a.receiving _ a.requests c.make_room.new.requests a.took.items a.pulled.items
    c.make_room.ensures.events c.make_room.ensures.kept c.make_room.ensures.letters
    c.make_room.ensures.requests c.self.invariant in
    fields-claim a.me a.shape c.make_room.new.journal c.add.new.self c.make_room.new.sending a.receiving
    c.claim.new.self _
    c.make_room.new.requests a.took.items a.pulled.items c.in-Some.a.env.from c.in-Some.a.n c.args.line roomy
    c.add.ensures.events c.add.ensures.clock c.add.ensures.room c.in_ok-make_room.ensures.two
    c.sides_stay.ensures.sent ((rw c.in-Some.is at c.in_ok-found.ensures.kept) c.args.line)
    c.claim.ensures.same

pub invariant_of-self-in_default : goal.invariant_of-self-in_default
invariant_of-self-in_default g c = let a = c.self.inside in
    subst (λ (r : ReceivingView). AreFields a.me a.shape c.make_room.new.journal c.make_room.new.sending r
    (map (λ s. s.known) a.streams.items) c.make_room.new.requests a.took.items a.pulled.items)
    (sym (rw c.in_default.is at c.in_ok-found.ensures.kept))
    (fields-room a.me a.shape a.journal _ a.sending _ a.receiving _ a.requests _ a.took.items a.pulled.items
    c.make_room.ensures.events c.make_room.ensures.kept c.make_room.ensures.letters
    c.make_room.ensures.requests c.self.invariant)
