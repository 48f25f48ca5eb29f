use Rattle.std.proofs.Common.{◌<◌, ◌∙◌, length, sym, ap, subst}
use Rattle.nm_types.specs.declared.packets.Packet.{Packet}
use Rattle.nm_eager.specs.Joining.{stream_from}
use Rattle.nm_receiving.specs.Receipts.{ReceivingView, stream_of}
use Rattle.nm_receiving.proofs.Beginning.{stream_at, streams_length}
use Rattle.nm_receiving.proofs.Told.{follows}
use Rattle.nm_receiving.proofs.receivings.Receiving.take.Goals as goal

pub returns-in_ok-go_on-in-More-clause-known : goal.returns-in_ok-go_on-in-More-clause-known
returns-in_ok-go_on-in-More-clause-known c = λ known count lacks.
    let p : Packet = c.args.p.now in
    let v : ReceivingView = c.args.self.now in
    let sender : p.from < c.self.inside.joiner.sizes.ranks =
    subst (λ (w : ReceivingView). p.from < w.sizes.ranks) (sym c.self.view_is) c.requires.continues.sender in
    let low : p.from < length v.streams =
    subst (λ (w : ReceivingView). p.from < length w.streams) c.self.view_is
    (rw (streams_length c.self.inside.joiner) sender) in
    follows v c.go_on.new.self p.from v.sizes.eager p.what p.payload known
    (stream_from c.self.inside.joiner p.from) low
    (ap (λ (w : ReceivingView). stream_of w p.from) (sym c.self.view_is)
    ∙ stream_at c.self.inside.joiner p.from sender)
    c.in_ok-go_on-in-More.ensures.took.streams c.requires.continues.continued
    (λ eager known goes told. c.packets_tell.ensures eager known c.requires.continues.kind goes told) count lacks
