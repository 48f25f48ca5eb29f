use Rattle.std.proofs.Common.{◌≡◌, ◌<◌, ◌∙◌, ℕ, true, length, sym, ap, subst, arith}
use Rattle.nm_types.proofs.NumberLemmas.{same_number}
use Rattle.nm_types.specs.declared.messages.Peer.{Peer}
use Rattle.nm_history.specs.Selection.{matches_source}
use Rattle.nm_rndv.specs.Grants.{IsReadyFor}
use Rattle.nm_receiving.proofs.Results.{ok_along}
use Rattle.nm_receiving.proofs.bytes.reserve_from.Goals as goal

pub returns-in-Any-clause-ready : goal.returns-in-Any-clause-ready
returns-in-Any-clause-ready c =
    ok_along c.reserve.result
    (λ _. (from : ℕ) → from < length c.reserve.new.self.grants → IsReadyFor c.reserve.new.self from)
    (λ _. (rank : ℕ) → rank < length c.args.grants.now.grants → matches_source c.args.from rank ≡ true →
    IsReadyFor c.reserve.new.self rank)
    (λ _ each rank within selected. each rank (omega (arith, within, ap length c.reserve.ensures.same)))
    c.reserve.ensures.each

pub returns-in-One-clause-ready : goal.returns-in-One-clause-ready
returns-in-One-clause-ready c =
    ok_along c.reserve_for.result (λ _. IsReadyFor c.reserve_for.new.self c.in-One.source)
    (λ _. (rank : ℕ) → rank < length c.args.grants.now.grants → matches_source c.args.from rank ≡ true →
    IsReadyFor c.reserve_for.new.self rank)
    (λ _ ready rank within selected. subst (λ (n : ℕ). IsReadyFor c.reserve_for.new.self n)
    (same_number c.in-One.source rank (sym (ap (λ (p : Peer). matches_source p rank) c.in-One.is) ∙ selected)) ready)
    c.reserve_for.ensures.ready
