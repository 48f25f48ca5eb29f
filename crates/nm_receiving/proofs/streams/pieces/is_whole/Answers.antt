use Rattle.std.proofs.Common.{true, false, inl, inr}
use Rattle.nm_receiving.proofs.GrantLemmas.{joined-made}
use Rattle.nm_receiving.proofs.streams.pieces.is_whole.Goals as goal

pub returns-in-Whole : goal.returns-in-Whole
returns-in-Whole c = λ before piece fit is.
    joined-made before piece c.args.joined fit is true (λ _. c.in-Whole.is) (λ h. absurd cc)

pub returns-in-Begun : goal.returns-in-Begun
returns-in-Begun c = λ before piece fit is.
    joined-made before piece c.args.joined fit is false (λ h. absurd cc) (λ _ h.
    elim c.in-Begun.is [ inl begun ↦ absurd cc | inr more ↦ absurd cc ])
