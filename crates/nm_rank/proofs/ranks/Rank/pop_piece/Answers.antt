use Rattle.std.proofs.Common.{length, sym, ap, subst, append-nil, arith}
use Rattle.std.specs.Prelude.{Some, None, IsSome}
use Rattle.nm_rank.specs.Ranks.{RankView}
use Rattle.nm_rndv.specs.Offers.{next_offered}
use Rattle.nm_sending.specs.Outboxes.{OutboxView}
use Rattle.nm_rank.proofs.LeaveLemmas.{fields-leave, order-popped}
use Rattle.nm_rank.proofs.ranks.Rank.pop_piece.Goals as goal

pub invariant_of-self : goal.invariant_of-self
invariant_of-self g c =
    let a = c.self.inside in
    let first = subst (λ (v : RankView). IsSome (next_offered v.sending.offers)) (sym c.self.view_is)
    c.requires.next in
    let box = c.pop_piece.ensures.outbox in
    fields-leave a.me a.shape a.journal c.add.new.self a.sending c.pop_piece.new.self a.receiving _ a.requests
    a.took.items a.pulled.items (Some (c.in-Some.to, c.in-Some.n)) c.self.invariant
    c.add.ensures.events (omega (arith, c.add.ensures.clock)) c.add.ensures.room
    (rw c.in-Some.is at c.pop_piece.ensures.counted) (rw c.in-Some.is at c.pop_piece.ensures.kept)
    (ap (λ (o : OutboxView). o.me) box) (ap (λ (o : OutboxView). length o.popped) box)
    (order-popped a.sending.offers c.pop_piece.new.self.offers first c.pop_piece.ensures.popped)
    c.sides_stay.ensures.received

pub invariant_of-self-in_default : goal.invariant_of-self-in_default
invariant_of-self-in_default g c =
    let a = c.self.inside in
    let first = subst (λ (v : RankView). IsSome (next_offered v.sending.offers)) (sym c.self.view_is)
    c.requires.next in
    let box = c.pop_piece.ensures.outbox in
    fields-leave a.me a.shape a.journal a.journal a.sending c.pop_piece.new.self a.receiving _ a.requests
    a.took.items a.pulled.items None c.self.invariant
    (sym (append-nil a.journal.events)) (omega arith) (omega arith)
    (rw c.in_default.is at c.pop_piece.ensures.counted) (rw c.in_default.is at c.pop_piece.ensures.kept)
    (ap (λ (o : OutboxView). o.me) box) (ap (λ (o : OutboxView). length o.popped) box)
    (order-popped a.sending.offers c.pop_piece.new.self.offers first c.pop_piece.ensures.popped)
    c.sides_stay.ensures.received
