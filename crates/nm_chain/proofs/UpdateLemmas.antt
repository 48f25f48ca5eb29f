-- What an updated function is at each point.
use Rattle.std.proofs.Common.{◌≡◌, ◌≢◌, ℕ, refl}
use native.Mathlib.Decide.{ℕ_discrete}
use Rattle.nm_chain.specs.Update.{pick, update}

module _ {A : Type 0} {k j : ℕ} (y z : A) where
  pub pick_yes : j ≡ k → (d : Dec (j ≡ k)) → pick d y z ≡ y
  pick_yes e (yes _) = refl
  pick_yes e (no n) = absurd (n e)

  pub pick_no : j ≢ k → (d : Dec (j ≡ k)) → pick d y z ≡ z
  pick_no n (yes e) = absurd (n e)
  pick_no n (no _) = refl

module _ {A : Type 0} (f : ℕ → A) (k : ℕ) (y : A) where
  pub update_here : (j : ℕ) → j ≡ k → update f k y j ≡ y
  update_here j e = pick_yes y (f j) e (ℕ_discrete j k)

  pub update_else : (j : ℕ) → j ≢ k → update f k y j ≡ f j
  update_else j n = pick_no y (f j) n (ℕ_discrete j k)
