-- Events of a history, and those that are kept of it.
use Rattle.std.proofs.Common.{◌≡◌, ℕ, suc, ◌+◌, ◌-◌, ◌≤◌, Option, Some, None, List, [], ◌∷◌, ◌++◌, drop, length, take}
use Rattle.std.proofs.Common.{sym, ◌∙◌, ap, subst, arith, length-drop}
use Rattle.std.specs.Prelude.{IfNone, OnSome}
use Rattle.std.specs.List.{Contains, remove}
use Rattle.std.proofs.lemmas.List.{drop-append-le, drop-drop, length_push}
use Rattle.std.proofs.lemmas.List.Elements.{All-append, All-contains_itself, All-head, All-drop, All-push, All-take, All-weaker}
use Rattle.std.proofs.lemmas.List.Elements.{Contains-append_left}
use Rattle.nm_history.specs.declared.events.Event.{Event}
use Rattle.nm_recent.specs.Recents.{AreOf, last_items}

-- one less
pub less_of : (history xs : List Event) (k : ℕ) → AreOf history xs → AreOf history (remove xs k)
less_of history xs k all =
    All-append (Contains history) (take k xs) (drop (suc k) xs) (All-take (Contains history) k xs all)
    (All-drop (Contains history) (suc k) xs all)

-- one less, or as many
pub taken_of : {D : Type 0} (items : D → List Event) (old new : D) (k : ℕ) (taken : Option Event) →
    OnSome taken (items new ≡ remove (items old) k) → IfNone taken (new ≡ old) → (history : List Event) →
    AreOf history (items old) → AreOf history (items new)
taken_of items old new k (Some e) less same history all =
    subst (λ (xs : List Event). AreOf history xs) (sym less) (less_of history (items old) k all)
taken_of items old new k None less same history all =
    subst (λ d. AreOf history (items d)) (sym same) all

-- one more
pub more_of : (history xs : List Event) (e : Event) → AreOf history xs → Contains history e →
    AreOf history (xs ++ e ∷ [])
more_of history xs e all one = All-push (Contains history) xs e all one

-- the last ones are of the history
pub last_of : (history : List Event) (n : ℕ) → AreOf history (last_items n history)
last_of history n =
    All-drop (Contains history) (length history - n) history (All-contains_itself history)

-- the history grows
pub grown_of : (history xs : List Event) (e : Event) → AreOf history xs → AreOf (history ++ e ∷ []) xs
grown_of history xs e all =
    All-weaker (Contains history) (Contains (history ++ e ∷ [])) (λ x has. Contains-append_left history (e ∷ []) x has) xs
    all

-- the first of them is
pub first_of : (history xs rest : List Event) (x : Event) → xs ≡ x ∷ rest → AreOf history xs → Contains history x
first_of history xs rest x split all =
    All-head (Contains history) x rest (subst (λ (ys : List Event). AreOf history ys) split all)

-- there are at most so many last ones
pub last_few : (all xs : List Event) (n : ℕ) → xs ≡ last_items 64 all → n ≡ length xs → n ≤ 64
last_few all xs n last many =
    let len : length xs ≡ length all - (length all - 64) =
    ap length last ∙ length-drop (length all - 64) all in
    omega (arith, len, many)

-- one comes to the last ones, and the first of them goes where there were as many as are kept
pub slid : (all xs ys : List Event) (n : ℕ) (e : Event) → xs ≡ last_items 64 all → n ≡ length xs →
    ys ≡ drop (n + 1 - 64) xs → ys ++ e ∷ [] ≡ last_items 64 (all ++ e ∷ [])
slid all xs ys n e last many rest =
    let len : length xs ≡ length all - (length all - 64) =
    ap length last ∙ length-drop (length all - 64) all in
    let more : length (all ++ e ∷ []) ≡ length all + 1 = length_push all e in
    let place : (length all - 64) + (n + 1 - 64) ≡ length (all ++ e ∷ []) - 64 = omega (arith, len, many, more) in
    let low : length (all ++ e ∷ []) - 64 ≤ length all = omega (arith, more) in
    ap (λ (zs : List Event). zs ++ e ∷ [])
    (rest ∙ ap (λ (zs : List Event). drop (n + 1 - 64) zs) last
    ∙ drop-drop (n + 1 - 64) (length all - 64) all ∙ ap (λ (k : ℕ). drop k all) place)
    ∙ sym (drop-append-le (length (all ++ e ∷ []) - 64) all (e ∷ []) low)
