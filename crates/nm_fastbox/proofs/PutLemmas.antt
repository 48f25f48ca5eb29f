-- How many parcels were sent to each rank, once one more was put.
use Rattle.std.proofs.Common.{◌≡◌, ℕ, ◌+◌, List, [], ◌∷◌, ◌++◌, length, sym, ap, ◌∙◌}
use Rattle.std.proofs.Common.{arith, length-append}
use mathlib.Core.Logic.{dite}
use native.Mathlib.Decide.{ℕ_discrete}
use Rattle.nm_chain.specs.Update.{update}
use Rattle.nm_chain.proofs.UpdateLemmas.{update_here, update_else}
use Rattle.nm_chain.specs.Rule.{Load, put_to, sent_to}
use Rattle.nm_chain.proofs.QueueLemmas.{put_append, pick_yes}
use Rattle.nm_cells.proofs.NumberLemmas.{put_other}

module _ {A : Type 0} where
  put_longer : (i j : ℕ) (y : Load A) (xs : List (ℕ × Load A)) → i ≡ j
      → length (put_to i (xs ++ (j, y) ∷ [])) ≡ length (put_to i xs) + 1
  put_longer i j y xs e = ap length (put_append i xs ((j, y) ∷ []))
      ∙ length-append (put_to i xs) _
      ∙ ap (λ l. length (put_to i xs) + length l)
      (pick_yes (ℕ_discrete j i) (y ∷ []) [] (sym e))

module _ {A : Type 0} (by_box by_cell : List (ℕ × Load A)) (j : ℕ) (y : Load A) where
  abbrev sent : ℕ → ℕ
  sent i = sent_to i by_box by_cell

  -- one more parcel was sent to the rank j, by cell or by box
  pub sent_cell : (i : ℕ) → sent_to i by_box (by_cell ++ (j, y) ∷ [])
      ≡ update sent j (sent j + 1) i
  sent_cell i = dite (ℕ_discrete i j)
      (λ e. (let l = put_longer i j y by_cell e in
      let z : sent_to i by_box (by_cell ++ (j, y) ∷ []) ≡ sent i + 1 = omega arith in z)
      ∙ ap (λ k. sent k + 1) e ∙ sym (update_here sent j (sent j + 1) i e))
      (λ ne. ap (λ l. length (put_to i by_box) + length l) (put_other i j y by_cell ne)
      ∙ sym (update_else sent j (sent j + 1) i ne))

  pub sent_box : (i : ℕ) → sent_to i (by_box ++ (j, y) ∷ []) by_cell
      ≡ update sent j (sent j + 1) i
  sent_box i = dite (ℕ_discrete i j)
      (λ e. (let l = put_longer i j y by_box e in
      let z : sent_to i (by_box ++ (j, y) ∷ []) by_cell ≡ sent i + 1 = omega arith in z)
      ∙ ap (λ k. sent k + 1) e ∙ sym (update_here sent j (sent j + 1) i e))
      (λ ne. ap (λ l. length l + length (put_to i by_cell)) (put_other i j y by_box ne)
      ∙ sym (update_else sent j (sent j + 1) i ne))
