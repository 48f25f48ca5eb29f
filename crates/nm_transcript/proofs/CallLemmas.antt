-- The calls of a rank that are kept.
use Rattle.std.proofs.Common.{◌≡◌, ℕ, zero, suc, ◌<◌, Option, Some, None, List, [], ◌∷◌, ◌++◌, drop, take, length, refl}
use Rattle.std.proofs.Common.{sym, ◌∙◌, ap, subst, arith}
use Rattle.std.specs.Prelude.{IfNone, OnSome}
use Rattle.std.specs.List.{remove, slice_get}
use Rattle.std.proofs.lemmas.List.Elements.{All-append, All-drop, All-head, All-pop, All-push, All-tail, All-take}
use Rattle.std.proofs.lemmas.List.Elements.{All-weaker}
use Rattle.nm_types.specs.declared.scripts.Command.{Command}
use Rattle.nm_transcript.specs.declared.last_calls.Call.{Call}
use Rattle.nm_transcript.specs.LastCalls.{AreCallsOf, IsCallOf}

-- one less
less_calls : (all : List Command) (xs : List Call) (k : ℕ) → AreCallsOf all xs → AreCallsOf all (remove xs k)
less_calls all xs k are =
    All-append (IsCallOf all) (take k xs) (drop (suc k) xs) (All-take (IsCallOf all) k xs are)
    (All-drop (IsCallOf all) (suc k) xs are)

-- one less, or as many
pub taken_calls : {D : Type 0} (items : D → List Call) (old new : D) (k : ℕ) (taken : Option Call) →
    OnSome taken (items new ≡ remove (items old) k) → IfNone taken (new ≡ old) → (all : List Command) →
    AreCallsOf all (items old) → AreCallsOf all (items new)
taken_calls items old new k (Some e) less same all are =
    subst (λ (xs : List Call). AreCallsOf all xs) (sym less) (less_calls all (items old) k are)
taken_calls items old new k None less same all are =
    subst (λ d. AreCallsOf all (items d)) (sym same) are

-- one more
pub more_calls : (all : List Command) (xs more : List Call) (x : Call) → more ≡ xs ++ x ∷ [] → AreCallsOf all xs →
    IsCallOf all x → AreCallsOf all more
more_calls all xs more x grown are one =
    subst (λ (ys : List Call). AreCallsOf all ys) (sym grown) (All-push (IsCallOf all) xs x are one)

-- what is at a place stays there
stays_at : (xs ys : List Command) (k : ℕ) (c : Command) → slice_get xs k ≡ Some c → slice_get (xs ++ ys) k ≡ Some c
stays_at [] ys k c is = cc
stays_at (x ∷ xs) ys zero c is = is
stays_at (x ∷ xs) ys (suc k) c is = stays_at xs ys k c is

-- the rank made more calls
pub calls_later : (all more : List Command) (xs : List Call) → AreCallsOf all xs → AreCallsOf (all ++ more) xs
calls_later all more xs are =
    All-weaker (IsCallOf all) (IsCallOf (all ++ more))
    (λ x is low. stays_at all more x.number x.command (is low)) xs are

-- the last one is at its number
pub last_there : (all : List Command) (c : Command) (k : ℕ) → k ≡ length all → slice_get (all ++ c ∷ []) k ≡ Some c
last_there [] c zero is = refl
last_there [] c (suc k) is = absurd (omega (arith, is))
last_there (x ∷ all) c zero is = absurd (omega (arith, is))
last_there (x ∷ all) c (suc k) is = last_there all c k (omega (arith, is))

-- the first one, and the others
pub first_call : (all : List Command) (xs rest : List Call) (x : Call) → xs ≡ x ∷ rest → AreCallsOf all xs →
    IsCallOf all x
first_call all xs rest x split are =
    All-head (IsCallOf all) x rest (subst (λ (ys : List Call). AreCallsOf all ys) split are)

pub rest_calls : (all : List Command) (xs rest : List Call) (x : Call) → xs ≡ x ∷ rest → AreCallsOf all xs →
    AreCallsOf all rest
rest_calls all xs rest x split are =
    All-tail (IsCallOf all) x rest (subst (λ (ys : List Call). AreCallsOf all ys) split are)

-- the last one, with the same number and command
pub last_again : (all : List Command) (xs mid ys : List Call) (x y : Call) → xs ≡ mid ++ x ∷ [] →
    ys ≡ mid ++ y ∷ [] → y.number ≡ x.number → y.command ≡ x.command → AreCallsOf all xs → AreCallsOf all ys
last_again all xs mid ys x y split grown number command are =
    let parts = All-pop (IsCallOf all) xs mid (Some x) split are in
    more_calls all mid ys y grown parts.0 (λ low.
    ap (λ (k : ℕ). slice_get all k) number
    ∙ parts.1 (subst (λ (k : ℕ). k < 18446744073709551615) number low)
    ∙ ap (λ (c : Command). Some c) (sym command))

-- one call more, at its number
pub made_more : (all : List Command) (c : Command) (xs more : List Call) (x : Call) →
    more ≡ xs ++ x ∷ [] → x.command ≡ c → (x.number < 18446744073709551615 → x.number ≡ length all) →
    AreCallsOf all xs → AreCallsOf (all ++ c ∷ []) more
made_more all c xs more x grown command at are =
    more_calls (all ++ c ∷ []) xs more x grown (calls_later all (c ∷ []) xs are) (λ low.
    last_there all c x.number (at low) ∙ ap (λ (d : Command). Some d) (sym command))
