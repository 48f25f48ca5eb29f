-- What events give in turn, and an element that is replaced.
use Rattle.std.proofs.Common.{◌≡◌, ℕ, ◌+◌, ◌<◌, ◌==◌, Bool, true, false, cond, List, [], ◌∷◌, ◌++◌, length}
use Rattle.std.proofs.Common.{get_or, set, refl, sym, ◌∙◌, ap, append_assoc, append-nil, arith}
use Rattle.std.specs.List.{AllByRecursion}
use Rattle.std.proofs.lemmas.List.{get_or-set_other}
use Rattle.std.proofs.lemmas.Grind.{get_or-set_at}
use Rattle.nm_history.specs.declared.events.Event.{Event}
use Rattle.nm_history.specs.declared.events.Happened.{Happened}
use Rattle.nm_history.specs.AtEach.{in_turn, in_turn_after}
use Rattle.nm_history.specs.Clock.{stamped}
use Rattle.nm_types.proofs.NumberLemmas.{eq_true, same_number}

turn-append : {X : Type 0} (f : List Event → Event → List X) (before events more : List Event) →
    in_turn_after f before (events ++ more)
    ≡ in_turn_after f before events ++ in_turn_after f (before ++ events) more
turn-append f before [] more =
    ap (λ (k : List Event). in_turn_after f k more) (sym (append-nil before))
turn-append f before (x ∷ events) more =
    ap (λ xs. f before x ++ xs) (turn-append f (before ++ x ∷ []) events more)
    ∙ sym (append_assoc (f before x) (in_turn_after f (before ++ x ∷ []) events)
    (in_turn_after f ((before ++ x ∷ []) ++ events) more))
    ∙ ap (λ (k : List Event). (f before x ++ in_turn_after f (before ++ x ∷ []) events)
    ++ in_turn_after f k more) (append_assoc before (x ∷ []) events)

-- what later events give stands behind
pub in_turn-append : {X : Type 0} (f : List Event → Event → List X) (h more : List Event) →
    in_turn f (h ++ more) ≡ in_turn f h ++ in_turn_after f h more
unfolding in_turn
in_turn-append f h more = turn-append f [] h more

-- where no event gives something, all together give nothing
pub turn-none : {X : Type 0} (f : List Event → Event → List X) (P : Happened → Type 0) →
    ((b : List Event) (e : Event) → P e.what → f b e ≡ []) → (h : List Event) (clock : ℕ)
    (ws : List Happened) → AllByRecursion P ws → in_turn_after f h (stamped clock ws) ≡ []
turn-none f P none h clock [] each = refl
turn-none f P none h clock (w ∷ ws) each =
    let e : Event = record { stamp = clock + 1; what = w } in
    rw (none h e each.0) (turn-none f P none (h ++ e ∷ []) (clock + 1) ws each.1)

-- an element after one was replaced
pub at-set : {X : Type 0} (xs : List X) (i j : ℕ) (y d : X) → j < length xs →
    get_or (set xs i y) j d ≡ cond (i == j) y (get_or xs j d)
at-set {X} xs i j y d within = by_test (i == j) refl where
  by_test : (b : Bool) → (i == j) ≡ b → get_or (set xs i y) j d ≡ cond b y (get_or xs j d)
  by_test true is =
      let same = same_number i j is in
      get_or-set_at xs i j y d (sym same) (omega (arith, same))
  by_test false is =
      get_or-set_other xs i j y d (λ same. let yes = eq_true i j (sym same) in cc)
