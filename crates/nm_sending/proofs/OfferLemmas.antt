-- The offers of a rank, when one of them changes.
use Rattle.std.proofs.Common.{◌≡◌, ℕ, ◌<◌, ◌≤◌, ◌==◌, Bool, true, false, ◌&&◌, cond}
use Rattle.std.proofs.Common.{Some, None}
use Rattle.std.proofs.Common.{List, [], ◌∷◌, ◌++◌, length, get_or, refl, sym, ◌∙◌, ap, is_some}
use Rattle.std.proofs.Common.{nat_eq, true≢false, subst, arith}
use Rattle.std.specs.Map.{lookup}
use Rattle.std.proofs.Math.ListN.{set}
use Rattle.std.proofs.lemmas.Cmp.{nat_eq_equiv}
use Rattle.std.proofs.lemmas.Map.{lookup-set_value}
use Rattle.nm_types.specs.declared.scripts.Body.{Body}
use Rattle.nm_rndv.specs.declared.asked.State.{State}
use Rattle.nm_rndv.specs.declared.asked.State.TheVariants.{Asked}
use Rattle.nm_rndv.specs.Offers.{Destined, untold, state_in, state_at}
use Rattle.nm_rndv.specs.Offers.{recall_in}
use Rattle.nm_rndv.specs.Offers.{with_step, with_asked, with_recall, with_answer}
use Rattle.nm_rndv.proofs.StateLemmas.{state-set_value, asked-with_step, equal}
use Rattle.nm_sending.specs.Tables.{allowed}
use Rattle.nm_sending.proofs.PlaceLemmas.{eq_swap, row-set}
use Rattle.nm_types.proofs.NumberLemmas.{same_number}

-- one entry more, where there was none
pub lookup-push : {X : Type 0} (n q : ℕ) (es : List (ℕ × X)) (x : X) → lookup (nat_eq n) es ≡ None
    → lookup (nat_eq q) (es ++ (n, x) ∷ []) ≡ cond (n == q) (Some x) (lookup (nat_eq q) es)
lookup-push n q [] x none = ap (λ (b : Bool). cond b (Some x) None) (eq_swap q n)
lookup-push n q (e ∷ es) x none =
    by_first (nat_eq n e.0) refl none (λ rest. lookup-push n q es x rest)
  where
    by_first : (b : Bool) → nat_eq n e.0 ≡ b → cond b (Some e.1) (lookup (nat_eq n) es) ≡ None
        → (lookup (nat_eq n) es ≡ None
        → lookup (nat_eq q) (es ++ (n, x) ∷ []) ≡ cond (n == q) (Some x) (lookup (nat_eq q) es))
        → lookup (nat_eq q) (e ∷ es ++ (n, x) ∷ []) ≡ cond (n == q) (Some x) (lookup (nat_eq q) (e ∷ es))
    by_first true is h again = absurd cc
    by_first false is h again = here (nat_eq q e.0) refl (n == q) refl (again h) where
      here : (a : Bool) → nat_eq q e.0 ≡ a → (b : Bool) → (n == q) ≡ b
          → lookup (nat_eq q) (es ++ (n, x) ∷ []) ≡ cond b (Some x) (lookup (nat_eq q) es)
          → cond a (Some e.1) (lookup (nat_eq q) (es ++ (n, x) ∷ []))
          ≡ cond b (Some x) (cond a (Some e.1) (lookup (nat_eq q) es))
      here false same b other rest = rest
      here true same false other rest = refl
      here true same true other rest =
          absurd (true≢false (sym same ∙ ap (λ (k : ℕ). nat_eq k e.0) (sym (same_number n q other)) ∙ is))

-- the states of a destination after one more message was asked of it
pub state-asked : (d : Destined) (n : ℕ) (body : Body) → state_in d n ≡ None → (q : ℕ)
    → state_in (with_asked d n body) q ≡ cond (n == q) (Some (Asked body)) (state_in d q)
state-asked d n body none q = lookup-push n q d.asked (Asked body) none

-- and after a step of one of them
pub state-stepped : (d : Destined) (n : ℕ) (step : State → State) (s : State) → state_in d n ≡ Some s
    → (q : ℕ)
    → state_in (with_step d n step) q ≡ cond (n == q) (Some (step s)) (state_in d q)
state-stepped d n step s was q =
    state-set_value d (with_step d n step) n s (step s) was
    (asked-with_step d (with_step d n step) n step s was refl) q

-- what is asked of a destination, where one of its messages changes or none does
module _ {X : Type 0} (f : Destined → ℕ → X) (ds : List Destined) (to : ℕ) (within : to < length ds)
    (d : Destined) where
  read-there : (t q : ℕ) → f (get_or (set ds to d) t untold) q ≡ f (cond (to == t) d (get_or ds t untold)) q
  read-there t q = ap (λ (x : Destined). f x q) (row-set ds to t d untold within)

  pub read-change : (n : ℕ) (x : X)
      → ((q : ℕ) → f d q ≡ cond (n == q) x (f (get_or ds to untold) q)) → (t q : ℕ)
      → f (get_or (set ds to d) t untold) q ≡ cond (to == t && n == q) x (f (get_or ds t untold) q)
  read-change n x each t q = read-there t q ∙ by_test (to == t) refl where
    by_test : (b : Bool) → (to == t) ≡ b → f (cond b d (get_or ds t untold)) q
        ≡ cond (b && n == q) x (f (get_or ds t untold) q)
    by_test true is = each q
        ∙ ap (λ (k : ℕ). cond (n == q) x (f (get_or ds k untold) q)) (same_number to t is)
    by_test false is = refl

  pub read-stay : ((q : ℕ) → f d q ≡ f (get_or ds to untold) q) → (t q : ℕ)
      → f (get_or (set ds to d) t untold) q ≡ f (get_or ds t untold) q
  read-stay each t q = read-there t q ∙ by_test (to == t) refl where
    by_test : (b : Bool) → (to == t) ≡ b → f (cond b d (get_or ds t untold)) q ≡ f (get_or ds t untold) q
    by_test true is = each q ∙ ap (λ (k : ℕ). f (get_or ds k untold) q) (same_number to t is)
    by_test false is = refl

-- the pieces that are allowed, where a destination is replaced by one that is allowed no more
pub allowed-set : (ds : List Destined) (to : ℕ) → to < length ds → (d : Destined)
    → allowed d ≤ allowed (get_or ds to untold) → (t : ℕ)
    → allowed (get_or (set ds to d) t untold) ≤ allowed (get_or ds t untold)
allowed-set ds to within d less t =
    subst (λ (x : Destined). allowed x ≤ allowed (get_or ds t untold)) (sym (row-set ds to t d untold within))
    (by_test (to == t) refl)
  where
    by_test : (b : Bool) → (to == t) ≡ b → allowed (cond b d (get_or ds t untold))
        ≤ allowed (get_or ds t untold)
    by_test true is = subst (λ (k : ℕ). allowed d ≤ allowed (get_or ds k untold)) (same_number to t is) less
    by_test false is = omega arith

module _ (ds : List Destined) (to : ℕ) (within : to < length ds) (d : Destined) where
  -- where one state of a destination changes, that is the only one
  pub states-change : (n : ℕ) (s : State)
      → ((q : ℕ) → state_in d q ≡ cond (n == q) (Some s) (state_in (get_or ds to untold) q)) → (t q : ℕ)
      → state_at (set ds to d) (t, q) ≡ cond (to == t && n == q) (Some s) (state_at ds (t, q))
  states-change n s = read-change state_in ds to within d n (Some s)

  -- where none changes, all are as before
  pub states-stay : ((q : ℕ) → state_in d q ≡ state_in (get_or ds to untold) q) → (t q : ℕ)
      → state_at (set ds to d) (t, q) ≡ state_at ds (t, q)
  states-stay = read-stay state_in ds to within d

-- a recall changes no state
pub state-recalled : (d : Destined) (n q : ℕ) → state_in (with_recall d n) q ≡ state_in d q
state-recalled d n q = refl

-- and adds itself
pub recall-recalled : (d : Destined) (n : ℕ) → recall_in d n ≡ None → (q : ℕ)
    → recall_in (with_recall d n) q ≡ cond (n == q) (Some None) (recall_in d q)
recall-recalled d n none q = lookup-push n q d.recalls None none

-- an answer is that of its recall
pub recall-answered : (d : Destined) (n : ℕ) (done : Bool) → is_some (recall_in d n) ≡ true → (q : ℕ)
    → recall_in (with_answer d n done) q ≡ cond (n == q) (Some (Some done)) (recall_in d q)
recall-answered d n done there q =
    let one : (x y : ℕ) → nat_eq n x ≡ true → nat_eq n y
    ≡ nat_eq x y = λ x y h. ap (λ k. nat_eq k y) (equal n x h) in
    lookup-set_value nat_eq_equiv (nat_eq n) one q (Some done) d.recalls there
