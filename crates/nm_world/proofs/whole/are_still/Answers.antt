-- One more.
use Rattle.std.proofs.Common.{◌≡◌, ◌<◌, ◌≤◌, ◌+◌, ℕ, ◌&&◌, not, Bool, true, false, Option, Some, None, List, length, refl, sym, ap, ◌∙◌}
use Rattle.std.proofs.Common.{subst, arith}
use Rattle.std.specs.Prelude.{IfSome, slice_get}
use Rattle.std.proofs.lemmas.Option.{slice_get_read}
use mathlib.Core.Logic.{dite}
use native.Mathlib.Decide.{ℕ_discrete}
use Rattle.nm_types.specs.Commands.{Numbered}
use Rattle.nm_process.specs.Sources.{SourceView}
use Rattle.nm_world.specs.declared.players.Player.{Player}
use Rattle.nm_world.specs.Runs.{IsStillAt}
use Rattle.nm_world.proofs.Results.{clash}
use Rattle.nm_world.proofs.Runs.{moves_more}
use Rattle.nm_world.proofs.whole.are_still.Goals as goal
use Rattle.nm_types.proofs.ListLemmas.{place_below}

still_more : {S B H : Type 0} (shows : S → SourceView B) (gives : S → List Numbered → ℕ → Type 0)
    (players : List (Player S H))
    (n : ℕ) (x : Player S H) (all moves : Bool) → slice_get players n ≡ Some x →
    (moves ≡ false → IsStillAt shows gives x) →
    (all ≡ true → (k : ℕ) → k < n → IfSome (slice_get players k) (IsStillAt shows gives)) → (all && not moves) ≡ true →
    (k : ℕ) → k < n + 1 → IfSome (slice_get players k) (IsStillAt shows gives)
still_more shows gives players n x true true at still before e k low = absurd (clash (sym e))
still_more shows gives players n x false moves at still before e k low = absurd (clash (sym e))
still_more {S} {B} {H} shows gives players n x true false at still before e k low = dite (ℕ_discrete k n)
    (λ same. subst (λ (o : Option (Player S H)). IfSome o (IsStillAt shows gives))
    (sym (ap (slice_get players) same ∙ at))
    (still refl))
    (λ other. before refl k (omega (arith, low, other)))

-- what holds at each place below the length holds at each
all_places : {A : Type 0} (P : A → Type 0) (xs : List A) (n : ℕ) → length xs ≤ n →
    ((k : ℕ) → k < n → IfSome (slice_get xs k) P) → (k : ℕ) → IfSome (slice_get xs k) P
all_places {A} P xs n long each k = by (slice_get xs k) refl where
  by : (o : Option A) → slice_get xs k ≡ o → IfSome o P
  by None is = tt
  by (Some x) is =
      let below = place_below xs k x is in
      subst (λ (o : Option A). IfSome o P) is (each k (omega (arith, below, long)))

pub returns-clause-still : goal.returns-clause-still
returns-clause-still g c all =
    all_places (IsStillAt g.S.Source.shows g.S.Source.gives) c.args.players.now c.loop-i.i
    (omega (arith, c.loop-i.invariant.end, c.loop-i-test.false)) (c.loop-i.invariant.still all)

pub loop-i-preserved : goal.loop-i-preserved
loop-i-preserved g c =
    let shows = g.S.Source.shows in
    let gives = g.S.Source.gives in
    let players = c.args.players.now in
    let end = c.loop-i.invariant.end in
    let low = c.loop-i-test.true in
    let x = c.index-players-i.result in
    let at = slice_get_read players (length players) c.loop-i.i x refl (omega (arith, low, end)) c.index-players-i.is in
    record {
      end = end;
      still = still_more shows gives players c.loop-i.i x c.loop-i.all c.can_move-moves.result at
          c.can_move-moves.ensures.still c.loop-i.invariant.still;
      moves = moves_more shows gives players c.loop-i.i x c.loop-i.all c.can_move-moves.result at
          (λ moves commands work. (c.can_move-moves.ensures.exactly commands work).0 moves)
          c.loop-i.invariant.moves;
    }
