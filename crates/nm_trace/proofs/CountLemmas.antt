-- Too few words, or too many.
use Rattle.std.proofs.Common.{◌≡◌, ℕ, List, [], ◌∷◌, None, length, refl}
use Rattle.nm_trace.specs.Events.{answer_of, send_of, post_of, arrive_of, match_of, whole_of, out_of}
use Rattle.nm_trace.specs.Events.{cancel_of, recall_of, withdraw_of, undone_of, claim_of}

pub other_send : (words : List (List ℕ)) → (length words ≡ 7 → ⊥) → send_of words ≡ None
unfolding send_of
other_send ([]) other = refl
other_send (a ∷ []) other = refl
other_send (a ∷ b ∷ []) other = refl
other_send (a ∷ b ∷ c ∷ []) other = refl
other_send (a ∷ b ∷ c ∷ d ∷ []) other = refl
other_send (a ∷ b ∷ c ∷ d ∷ e ∷ []) other = refl
other_send (a ∷ b ∷ c ∷ d ∷ e ∷ f ∷ []) other = refl
other_send (a ∷ b ∷ c ∷ d ∷ e ∷ f ∷ g ∷ []) other = absurd (other refl)
other_send (a ∷ b ∷ c ∷ d ∷ e ∷ f ∷ g ∷ x ∷ more) other = refl

pub other_post : (words : List (List ℕ)) → (length words ≡ 6 → ⊥) → post_of words ≡ None
unfolding post_of
other_post ([]) other = refl
other_post (a ∷ []) other = refl
other_post (a ∷ b ∷ []) other = refl
other_post (a ∷ b ∷ c ∷ []) other = refl
other_post (a ∷ b ∷ c ∷ d ∷ []) other = refl
other_post (a ∷ b ∷ c ∷ d ∷ e ∷ []) other = refl
other_post (a ∷ b ∷ c ∷ d ∷ e ∷ f ∷ []) other = absurd (other refl)
other_post (a ∷ b ∷ c ∷ d ∷ e ∷ f ∷ x ∷ more) other = refl

pub other_arrive : (words : List (List ℕ)) → (length words ≡ 6 → ⊥) → arrive_of words ≡ None
unfolding arrive_of
other_arrive ([]) other = refl
other_arrive (a ∷ []) other = refl
other_arrive (a ∷ b ∷ []) other = refl
other_arrive (a ∷ b ∷ c ∷ []) other = refl
other_arrive (a ∷ b ∷ c ∷ d ∷ []) other = refl
other_arrive (a ∷ b ∷ c ∷ d ∷ e ∷ []) other = refl
other_arrive (a ∷ b ∷ c ∷ d ∷ e ∷ f ∷ []) other = absurd (other refl)
other_arrive (a ∷ b ∷ c ∷ d ∷ e ∷ f ∷ x ∷ more) other = refl

pub other_match : (words : List (List ℕ)) → (length words ≡ 5 → ⊥) → match_of words ≡ None
unfolding match_of
other_match ([]) other = refl
other_match (a ∷ []) other = refl
other_match (a ∷ b ∷ []) other = refl
other_match (a ∷ b ∷ c ∷ []) other = refl
other_match (a ∷ b ∷ c ∷ d ∷ []) other = refl
other_match (a ∷ b ∷ c ∷ d ∷ e ∷ []) other = absurd (other refl)
other_match (a ∷ b ∷ c ∷ d ∷ e ∷ x ∷ more) other = refl

pub other_answer : (words : List (List ℕ)) → (length words ≡ 1 → ⊥) → (length words ≡ 4 → ⊥)
    → answer_of words ≡ None
unfolding answer_of
other_answer [] one four = refl
other_answer (a ∷ []) one four = absurd (one refl)
other_answer (a ∷ b ∷ []) one four = refl
other_answer (a ∷ b ∷ c ∷ []) one four = refl
other_answer (a ∷ b ∷ c ∷ d ∷ []) one four = absurd (four refl)
other_answer (a ∷ b ∷ c ∷ d ∷ x ∷ more) one four = refl

pub other_whole : (words : List (List ℕ)) → (length words ≡ 2 → ⊥) → whole_of words ≡ None
unfolding whole_of
other_whole ([]) other = refl
other_whole (a ∷ []) other = refl
other_whole (a ∷ b ∷ []) other = absurd (other refl)
other_whole (a ∷ b ∷ x ∷ more) other = refl

pub other_out : (words : List (List ℕ)) → (length words ≡ 2 → ⊥) → out_of words ≡ None
unfolding out_of
other_out ([]) other = refl
other_out (a ∷ []) other = refl
other_out (a ∷ b ∷ []) other = absurd (other refl)
other_out (a ∷ b ∷ x ∷ more) other = refl

pub other_cancel : (words : List (List ℕ)) → (length words ≡ 2 → ⊥) → cancel_of words ≡ None
unfolding cancel_of
other_cancel ([]) other = refl
other_cancel (a ∷ []) other = refl
other_cancel (a ∷ b ∷ []) other = absurd (other refl)
other_cancel (a ∷ b ∷ x ∷ more) other = refl

pub other_recall : (words : List (List ℕ)) → (length words ≡ 2 → ⊥) → recall_of words ≡ None
unfolding recall_of
other_recall ([]) other = refl
other_recall (a ∷ []) other = refl
other_recall (a ∷ b ∷ []) other = absurd (other refl)
other_recall (a ∷ b ∷ x ∷ more) other = refl

pub other_withdraw : (words : List (List ℕ)) → (length words ≡ 3 → ⊥) → withdraw_of words ≡ None
unfolding withdraw_of
other_withdraw ([]) other = refl
other_withdraw (a ∷ []) other = refl
other_withdraw (a ∷ b ∷ []) other = refl
other_withdraw (a ∷ b ∷ c ∷ []) other = absurd (other refl)
other_withdraw (a ∷ b ∷ c ∷ x ∷ more) other = refl

pub other_undone : (words : List (List ℕ)) → (length words ≡ 3 → ⊥) → undone_of words ≡ None
unfolding undone_of
other_undone ([]) other = refl
other_undone (a ∷ []) other = refl
other_undone (a ∷ b ∷ []) other = refl
other_undone (a ∷ b ∷ c ∷ []) other = absurd (other refl)
other_undone (a ∷ b ∷ c ∷ x ∷ more) other = refl

pub other_claim : (words : List (List ℕ)) → (length words ≡ 3 → ⊥) → claim_of words ≡ None
unfolding claim_of
other_claim ([]) other = refl
other_claim (a ∷ []) other = refl
other_claim (a ∷ b ∷ []) other = refl
other_claim (a ∷ b ∷ c ∷ []) other = absurd (other refl)
other_claim (a ∷ b ∷ c ∷ x ∷ more) other = refl
