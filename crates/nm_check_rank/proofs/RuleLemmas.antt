-- The rules of single events, by what happened before.
use mathlib.Core.Bool.{beq}
use Rattle.std.proofs.Common.{◌≡◌, ℕ, Bool, true, false, not, ◌||◌, List, length, take, refl, sym, ◌∙◌}
use Rattle.std.proofs.Common.{ap, subst, arith}
use Rattle.std.proofs.lemmas.Bool.{false≢true}
use Rattle.std.proofs.lemmas.List.{take_all}
use Rattle.std.specs.Prelude.{IsTrue}
use Rattle.nm_history.specs.declared.events.Event.{Event}
use Rattle.nm_history.specs.declared.events.Happened.{Happened}
use Rattle.nm_history.specs.declared.events.Happened.TheVariants as happening
use Rattle.nm_history.specs.Happens.{happened}
use Rattle.nm_history.specs.Happens.{is_undone}
use Rattle.nm_history.specs.Quiescence.{IsAnswered}
use Rattle.nm_lookups.specs.Deciding.{Decides}

answered_by : (h : List Event) (to n : ℕ) (undone late : Bool) → undone ≡ happened (is_undone to n true) h →
    late ≡ happened (is_undone to n false) h → (r : Bool) → Decides r (IsTrue (undone || late)) →
    Decides r (IsAnswered h (happening.Recall to n))
answered_by h to n undone late u l r right =
    subst (λ (x : Bool). Decides r (IsTrue (x || happened (is_undone to n false) h))) u
    (subst (λ (x : Bool). Decides r (IsTrue (undone || x))) l right)

-- a recall, by whether its answer came before the end
pub recall_at : (h : List Event) (to n end : ℕ) (undone late : Bool) → length h ≡ end →
    undone ≡ happened (is_undone to n true) (take end h) → late ≡ happened (is_undone to n false) (take end h) →
    (r : Bool) → Decides r (IsTrue (undone || late)) → Decides r (IsAnswered h (happening.Recall to n))
recall_at h to n end undone late same u l r right =
    let all : take end h ≡ h = take_all end h (omega (arith, same)) in
    answered_by h to n undone late (u ∙ ap (λ (g : List Event). happened (is_undone to n true) g) all)
    (l ∙ ap (λ (g : List Event). happened (is_undone to n false) g) all) r right

pub no_recall : (h : List Event) (what : Happened) → ((to n : ℕ) → what ≡ happening.Recall to n → ⊥) → IsAnswered h what
no_recall h (happening.Recall to n) not = absurd (not to n refl)
no_recall h what not = tt

-- two answers of yes or no are compared
pub same_decided : (a b : Bool) → Decides (beq a b) (a ≡ b)
same_decided true true = refl
same_decided false false = refl
same_decided true false = λ same. false≢true (sym same)
same_decided false true = λ same. false≢true same
