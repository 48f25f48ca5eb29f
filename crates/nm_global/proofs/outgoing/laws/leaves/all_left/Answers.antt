-- Nothing is in the outbox, and no message is leaving.
use Rattle.std.proofs.Common.{◌≡◌, ℕ, false, Option, None, List, [], ◌∷◌, ◌++◌, refl, ◌∙◌, ap, subst}
use Rattle.std.proofs.Common.{append-nil}
use Rattle.nm_types.specs.declared.packets.Packet.{Packet}
use Rattle.nm_history.specs.Outgoing.{AreCalled, AreCalledPieces, CalledPiece, outgoing, ring}
use Rattle.nm_history.specs.Sends.{sends}
use Rattle.nm_rndv.specs.declared.asked.State.{State}
use Rattle.nm_rndv.specs.Offers.{state_of}
use Rattle.nm_sending.specs.Letters.{Letter}
use Rattle.nm_sending.specs.Letters.{packets_for}
use Rattle.nm_sending.specs.Departures.{cleared_to}
use Rattle.nm_global.specs.Emitted.{begun_of, first_of}
use Rattle.nm_global.proofs.Offers.{leaves_now}
use Rattle.nm_global.proofs.outgoing.laws.leaves.all_left.Goals as goal

none_first : (state : ℕ → Option State) (ns : List ℕ) → ((n : ℕ) → leaves_now (state n) ≡ false) →
    first_of state ns ≡ None
none_first state [] out = refl
none_first state (n ∷ ns) out = rw (out n) (none_first state ns out)

pub returns-clause-packets : goal.returns-clause-packets
returns-clause-packets c bodies v to left none is =
    subst (λ (ps : List Packet). AreCalled v.me 0 (outgoing bodies v.events to) ps)
    (ap (λ (ls : List Letter). left.packets ++ packets_for to ls) none ∙ append-nil left.packets)
    is.packets.called

pub returns-clause-pieces : goal.returns-clause-pieces
returns-clause-pieces c bodies v to left out is =
    let states = state_of v.sending.offers to in
    subst (λ (cs : List CalledPiece). AreCalledPieces v.me 0 cs left.pieces)
    (ap (λ (o : Option ℕ). ring bodies v.events to ++ begun_of bodies (sends v.events to) states o)
    (none_first states (cleared_to v.sending to) (out to)) ∙ append-nil (ring bodies v.events to))
    is.pieces.called
