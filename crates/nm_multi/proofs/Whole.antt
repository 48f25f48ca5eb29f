-- When all calls of all programs were made.
use Rattle.std.proofs.Common.{◌≡◌, ◌≢◌, ℕ, zero, suc, ◌+◌, ◌*◌, ◌<◌, ◌==◌, Bool, true, false, not, cond}
use Rattle.std.proofs.Common.{List, [], ◌∷◌, length, refl, sym, ◌∙◌, ap, subst, arith}
use Rattle.std.specs.Prelude.{filter}
use Rattle.std.specs.List.{AllByRecursion, list_any}
use Rattle.std.proofs.lemmas.Bool.Decides.{nat_tests}
use Rattle.std.proofs.lemmas.List.Filters.{length-filter_both}
use Rattle.nm_multi.specs.declared.calls.Entry.{Entry}
use Rattle.nm_types.specs.Sizes.{Sizes}
use Rattle.nm_multi.specs.Acts.{IsReplay, is_short}
use Rattle.nm_multi.specs.Programs.{AreOf, ArePrograms, HasMadeAll, IsWhole, SameTurns, TurnsView}
use Rattle.nm_multi.specs.Programs.{entries_of}
use Rattle.nm_types.proofs.NumberLemmas.{differ}

-- the calls of all but one
rest_whose : (k : ℕ) (log : List Entry) → AllByRecursion (λ e. e.who < suc k) log →
    AllByRecursion (λ e. e.who < k) (filter (λ e. not (e.who == k)) log)
rest_whose k [] w = tt
rest_whose k (e ∷ log) w = by (e.who == k) refl (rest_whose k log w.1) where
  by : (b : Bool) → (e.who == k) ≡ b → AllByRecursion (λ e. e.who < k) (filter (λ e. not (e.who == k)) log) →
      AllByRecursion (λ e. e.who < k)
      (cond (not b) (e ∷ filter (λ e. not (e.who == k)) log) (filter (λ e. not (e.who == k)) log))
  by true at before = before
  by false at before =
      let other = differ e.who k at in let below = w.0 in (omega (arith, other, below), before)

apart : (w k t : ℕ) → t ≢ k → (w == k) ≡ true → (w == t) ≡ false
apart w k t other at = grind (arith, nat_tests)

rest_same : (k t : ℕ) (log : List Entry) → t ≢ k →
    entries_of t (filter (λ e. not (e.who == k)) log) ≡ entries_of t log
rest_same k t [] other = refl
rest_same k t (e ∷ log) other = by (e.who == k) refl (rest_same k t log other) where
  by : (b : Bool) → (e.who == k) ≡ b →
      entries_of t (filter (λ e. not (e.who == k)) log) ≡ entries_of t log → entries_of t
      (cond (not b) (e ∷ filter (λ e. not (e.who == k)) log) (filter (λ e. not (e.who == k)) log))
      ≡ cond (e.who == t) (e ∷ entries_of t log) (entries_of t log)
  by true at before =
      before
      ∙ ap (λ (b : Bool). cond b (e ∷ entries_of t log) (entries_of t log)) (sym (apart e.who k t other at))
  by false at before = ap (λ (es : List Entry). cond (e.who == t) (e ∷ es) es) before

-- as many calls as threads times those of each
pub total : (k n : ℕ) (log : List Entry) → AllByRecursion (λ e. e.who < k) log →
    ((t : ℕ) → t < k → length (entries_of t log) ≡ n) → length log ≡ k * n
total zero n [] whose all = grind arith
total zero n (e ∷ log) whose all = let below = whose.0 in absurd (omega (arith, below))
total (suc k) n log whose all =
    let rest = filter (λ e. not (e.who == k)) log in
    let both = length-filter_both (λ e. e.who == k) (λ e. not (e.who == k)) (λ _. refl) log in
    let own = all k (omega arith) in
    let less = total k n rest (rest_whose k log whose)
    (λ t below. ap (λ (es : List Entry). length es) (rest_same k t log (λ same. absurd (omega (arith, below, same))))
    ∙ all t (omega (arith, below))) in
    let whole : suc k * n ≡ n + k * n = more k n in
    omega (arith, both, own, less, whole)
  where
    more : (k n : ℕ) → suc k * n ≡ n + k * n
    more k n = grind arith

-- the log of turns that are of so many threads and rounds, when all calls were made
pub whole : (threads rounds : ℕ) (u v : TurnsView) (log : List Entry) → AreOf threads rounds u → SameTurns u v →
    ((t : ℕ) → t < v.threads → HasMadeAll v t) → log ≡ v.desk.log →
    IsReplay v.desk.rank.sizes v.desk.log v.desk.rank → ArePrograms v.threads v.rounds v.desk.log →
    list_any (λ e. is_short e.reply) log ≡ false → IsWhole threads rounds log
whole threads rounds u v log of same all is replay programs short =
    let many : v.threads ≡ threads = same.threads ∙ of.of_threads in
    let long : v.rounds ≡ rounds = same.rounds ∙ of.of_rounds in
    let made : (t : ℕ) → t < threads → length (entries_of t log) ≡ 5 * rounds =
    (λ t within. ap (λ (es : List Entry). length (entries_of t es)) is
    ∙ all t (subst (λ (k : ℕ). t < k) (sym many) within) ∙ ap (λ (k : ℕ). 5 * k) long) in
    let are : ArePrograms threads rounds log =
    subst (λ (k : ℕ). ArePrograms k rounds log) many
    (subst (λ (k : ℕ). ArePrograms v.threads k log) long
    (subst (λ (es : List Entry). ArePrograms v.threads v.rounds es) (sym is) programs)) in
    record {
      rank = v.desk.rank;
      replay = subst (λ (s : Sizes). IsReplay s log v.desk.rank) (same.shape ∙ of.sizes)
          (subst (λ (es : List Entry). IsReplay v.desk.rank.sizes es v.desk.rank) (sym is) replay);
      programs = are;
      all = made;
      many = total threads (5 * rounds) log are.whose made;
      no_short = short;
    }
