-- Where one rank more waits.
use Rattle.std.proofs.Common.{◌≡◌, ℕ, suc, ◌+◌, List, [], ◌∷◌, ◌++◌, ◌∙◌, ap, arith, get_or, length, refl, sym, take, ◌<◌}
use Rattle.std.specs.Prelude.{Option, Some, None}
use Rattle.std.specs.List.{cons_option}
use Rattle.nm_types.specs.declared.scripts.Line.{Line}
use Rattle.nm_outcomes.specs.RankStates.{Spot}
use Rattle.nm_waits.specs.declared.waits.Wait.{Wait}
use Rattle.std.proofs.lemmas.List.{length-take-le, take_more}
use Rattle.nm_waits.specs.Waits.{wait_of, waits_from, waits_of}

cons_front : {X : Type 0} (o : Option X) (xs ys : List X) → cons_option o xs ++ ys ≡ cons_option o (xs ++ ys)
cons_front (Some x) xs ys = refl
cons_front None xs ys = refl

-- one rank more, behind those from this one on
pub waits_more : (lines : List Line) (i : ℕ) (states : List Spot) (spot : Spot) →
    waits_from lines i (states ++ spot ∷ [])
    ≡ waits_from lines i states ++ cons_option (wait_of lines (i + length states) spot) []
waits_more lines i [] spot =
    let e : i ≡ i + 0 = omega arith in ap (λ (k : ℕ). cons_option (wait_of lines k spot) []) e
waits_more lines i (s ∷ states) spot =
    let e : i + 1 + length states ≡ i + suc (length states) = omega arith in
    ap (λ (ws : List Wait). cons_option (wait_of lines i s) ws)
    (waits_more lines (i + 1) states spot
    ∙ ap (λ (k : ℕ). waits_from lines (i + 1) states ++ cons_option (wait_of lines k spot) []) e)
    ∙ sym (cons_front (wait_of lines i s) (waits_from lines (i + 1) states)
    (cons_option (wait_of lines (i + suc (length states)) spot) []))

-- where the first ranks wait, with one more
pub waits_take : (lines : List Line) (states : List Spot) (i : ℕ) (spot : Spot) (old new : List Wait)
    (wait : Option Wait) → i < length states → spot ≡ get_or states i spot → old ≡ waits_of lines (take i states) →
    wait ≡ wait_of lines i spot → new ≡ old ++ cons_option wait [] → new ≡ waits_of lines (take (i + 1) states)
waits_take lines states i spot old new wait low here are is more =
    let place : 0 + length (take i states) ≡ i = omega (arith, length-take-le i states (omega (arith, low))) in
    more
    ∙ ap (λ (ws : List Wait). ws ++ cons_option wait []) are
    ∙ ap (λ (w : Option Wait). waits_of lines (take i states) ++ cons_option w [])
    (is ∙ ap (λ (k : ℕ). wait_of lines k spot) (sym place))
    ∙ sym (waits_more lines 0 (take i states) spot)
    ∙ ap (λ (s : Spot). waits_from lines 0 (take i states ++ s ∷ [])) here
    ∙ sym (ap (λ (ss : List Spot). waits_from lines 0 ss) (take_more states i spot low))
