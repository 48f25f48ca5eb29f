-- Both tests passed, or one of them did not.
use Rattle.std.proofs.Common.{◌≡◌, ◌⊎◌, ◌∙◌, ◌&&◌, Bool, true, false, inl, inr, refl, sym}
use Rattle.nm_world.proofs.Results.{clash}
use Rattle.nm_world.proofs.whole.are_at_rest.Goals as goal
use Rattle.nm_types.proofs.TruthLemmas.{and_left, and_right}

one_false : (a b : Bool) → (a && b) ≡ false → (a ≡ false) ⊎ (b ≡ false)
one_false false b h = inl refl
one_false true b h = inr h

pub returns-clause-rest : goal.returns-clause-rest
returns-clause-rest g c rest = record {
  still = c.are_still-still.ensures.still (and_left c.are_still-still.result c.all_agree-agree.result rest);
  agree = c.all_agree-agree.ensures.0 (and_right c.are_still-still.result c.all_agree-agree.result rest);
}

pub returns-clause-moves : goal.returns-clause-moves
returns-clause-moves g c moves = elim (one_false c.are_still-still.result c.all_agree-agree.result moves) [
  | inl one ↦ inl (c.are_still-still.ensures.moves one)
  | inr other ↦ inr (λ agree. clash (sym (c.all_agree-agree.ensures.1 agree) ∙ other))
]
