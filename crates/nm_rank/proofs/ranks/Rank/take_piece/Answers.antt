use Rattle.std.proofs.Common.{◌≡◌, ◌<◌, sym, subst}
use Rattle.std.specs.Prelude.{map}
use Rattle.nm_history.specs.Effects.{whole_if}
use Rattle.nm_receiving.specs.Receipts.{ReceivingView}
use Rattle.nm_rank.specs.Fields.{AreFields}
use Rattle.nm_rank.specs.Ranks.{RankView, count_of}
use Rattle.nm_rank.proofs.DrawLemmas.{fields-draw}
use Rattle.nm_rank.proofs.RoomLemmas.{fields-room}
use Rattle.nm_rank.proofs.ranks.Rank.take_piece.Goals as goal

pub invariant_of-self : goal.invariant_of-self
invariant_of-self g c = let a = c.self.inside in
    fields-room a.me a.shape a.journal _ a.sending _ a.receiving _ a.requests _ a.took.items a.pulled.items
    c.make_room.ensures.events c.make_room.ensures.kept c.make_room.ensures.letters
    c.make_room.ensures.requests c.self.invariant

pub invariant_of-self-in_err-drawn : goal.invariant_of-self-in_err-drawn
invariant_of-self-in_err-drawn g c = let a = c.self.inside in
    subst (λ (r : ReceivingView). AreFields a.me a.shape c.make_room.new.journal c.make_room.new.sending r
    (map (λ s. s.known) a.streams.items) c.make_room.new.requests a.took.items a.pulled.items)
    (sym c.in_err-drawn.ensures.err)
    (fields-room a.me a.shape a.journal _ a.sending _ a.receiving _ a.requests _ a.took.items a.pulled.items
    c.make_room.ensures.events c.make_room.ensures.kept c.make_room.ensures.letters
    c.make_room.ensures.requests c.self.invariant)

pub invariant_of-self-2 : goal.invariant_of-self-2
invariant_of-self-2 g c =
    let a = c.self.inside in
    let roomy = fields-room a.me a.shape a.journal c.make_room.new.journal a.sending c.make_room.new.sending
    a.receiving _ a.requests c.make_room.new.requests a.took.items a.pulled.items
    c.make_room.ensures.events c.make_room.ensures.kept c.make_room.ensures.letters
    c.make_room.ensures.requests c.self.invariant in
    let within : c.args.p.now.from < a.shape.ranks =
    subst (λ (v : RankView). c.args.p.now.from < v.sizes.ranks) (sym c.self.view_is) c.requires.sender in
    let number : c.args.p.now.number ≡ count_of a.pulled.items c.args.p.now.from =
    subst (λ (v : RankView). c.args.p.now.number ≡ count_of v.pulled c.args.p.now.from) (sym c.self.view_is)
    c.requires.number in
    fields-draw a.me a.shape c.make_room.new.journal c.note_whole.new.journal c.make_room.new.sending a.receiving
    c.draw.new.self _ c.make_room.new.requests a.took.items a.pulled.items c.args.p.now
    (whole_if c.in_ok-drawn.drawn.whole c.args.p.now.from c.args.p.now.n) c.in_ok-drawn.drawn.continued _ roomy
    c.note_whole.ensures.events c.note_whole.ensures.clock c.note_whole.ensures.room c.in_ok-make_room.ensures.two
    (c.in_ok-drawn.ensures.drew.whole c.make_room.new.journal.events roomy.history.received)
    c.in_ok-drawn.ensures.drew.kept c.in_ok-drawn.ensures.drew.same c.in_ok-drawn.ensures.drew.counted within number
    c.sides_stay.ensures.sent
