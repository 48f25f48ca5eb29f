use Rattle.std.proofs.Common.{ℕ, ◌+◌, ◌≤◌, refl, subst, arith}
use Rattle.nm_rank.proofs.LeaveLemmas.{fields-ran}
use Rattle.nm_rank.proofs.RoomLemmas.{fields-room}
use Rattle.nm_rank.proofs.ranks.Rank.ran.Goals as goal

pub invariant_of-self : goal.invariant_of-self
invariant_of-self g c = let a = c.self.inside in
    fields-room a.me a.shape a.journal _ a.sending a.sending a.receiving _ a.requests a.requests a.took.items
    a.pulled.items c.reserve.ensures.same c.reserve.ensures.kept refl
    (record { requests = refl; room = omega arith }) c.self.invariant

pub invariant_of-self-2 : goal.invariant_of-self-2
invariant_of-self-2 g c =
    let a = c.self.inside in
    let roomy = fields-room a.me a.shape a.journal c.reserve.new.self a.sending a.sending a.receiving _
    a.requests a.requests a.took.items a.pulled.items c.reserve.ensures.same c.reserve.ensures.kept refl
    (record { requests = refl; room = omega arith }) c.self.invariant in
    fields-ran a.me a.shape c.reserve.new.self c.add.new.self a.sending a.receiving _ a.requests a.took.items
    a.pulled.items c.args.line c.args.answer roomy c.add.ensures.events c.add.ensures.clock c.add.ensures.room
    (subst (λ (n : ℕ). n + 2 ≤ c.reserve.new.self.spare) c.staying.ensures c.in_ok-reserve.ensures.ok)
    c.sides_stay.ensures.sent c.sides_stay.ensures.received
