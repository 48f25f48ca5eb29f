use Rattle.std.proofs.Common.{◌<◌, length, sym, ap, subst, append-nil, arith}
use Rattle.std.specs.Prelude.{Some, None}
use Rattle.nm_rank.specs.Ranks.{RankView}
use Rattle.nm_rndv.specs.Offers.{Offering}
use Rattle.nm_rank.proofs.LeaveLemmas.{fields-leave, popped-same}
use Rattle.nm_rank.proofs.ranks.Rank.pop_front.Goals as goal

pub invariant_of-self : goal.invariant_of-self
invariant_of-self g c =
    let a = c.self.inside in
    let first = subst (λ (v : RankView). 0 < length v.sending.outbox.letters) (sym c.self.view_is)
    c.requires.first in
    let same = popped-same a.sending.outbox c.pop_front.new.self.outbox first c.pop_front.ensures.popped in
    fields-leave a.me a.shape a.journal c.add.new.self a.sending c.pop_front.new.self a.receiving _ a.requests
    a.took.items a.pulled.items (Some (c.in-Some.to, c.in-Some.n)) c.self.invariant
    c.add.ensures.events (omega (arith, c.add.ensures.clock)) c.add.ensures.room
    (rw c.in-Some.is at c.pop_front.ensures.counted) (rw c.in-Some.is at c.pop_front.ensures.kept)
    same.0 same.1 (ap (λ (o : Offering). o.order) c.pop_front.ensures.offers) c.sides_stay.ensures.received

pub invariant_of-self-in_default : goal.invariant_of-self-in_default
invariant_of-self-in_default g c =
    let a = c.self.inside in
    let first = subst (λ (v : RankView). 0 < length v.sending.outbox.letters) (sym c.self.view_is)
    c.requires.first in
    let same = popped-same a.sending.outbox c.pop_front.new.self.outbox first c.pop_front.ensures.popped in
    fields-leave a.me a.shape a.journal a.journal a.sending c.pop_front.new.self a.receiving _ a.requests
    a.took.items a.pulled.items None c.self.invariant
    (sym (append-nil a.journal.events)) (omega arith) (omega arith)
    (rw c.in_default.is at c.pop_front.ensures.counted) (rw c.in_default.is at c.pop_front.ensures.kept)
    same.0 same.1 (ap (λ (o : Offering). o.order) c.pop_front.ensures.offers) c.sides_stay.ensures.received
