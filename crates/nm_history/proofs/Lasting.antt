-- What a rank sent, cleared and pushed lasts.
use Rattle.std.proofs.Common.{◌≡◌, ℕ, ◌<◌, ◌==◌, Bool, true, false, not, ◌&&◌, cond, Option, Some, None, List, []}
use Rattle.std.proofs.Common.{◌∷◌, ◌++◌, length, refl, sym, ◌∙◌, ap, subst, append_assoc, arith}
use Rattle.std.specs.List.{AllByRecursion, filter, filter_map}
use Rattle.nm_history.specs.declared.events.Event.{Event}
use Rattle.nm_history.specs.declared.events.Happened.{Happened}
use Rattle.nm_history.specs.declared.events.Happened.TheVariants.{Out}
use Rattle.nm_history.specs.Sends.{Sent, sends, is_ask}
use Rattle.nm_history.specs.Delivery.{is_asked}
use Rattle.nm_history.specs.RankRun.{Always, NumberAt, EndAt}
use Rattle.nm_history.proofs.AtEachLemmas.{AtEach-split}
use Rattle.nm_history.specs.Effects.{is_empty_send}
use Rattle.nm_history.specs.Clearance.{left_of, pushed_out}
use Rattle.nm_history.proofs.Sent.{sends_grow, sent_number, sends_numbered, any_within, sent_lasts}
use Rattle.nm_types.proofs.NumberLemmas.{same_number}
use Rattle.nm_history.proofs.EachLemmas.{AtEach-prefix}

-- what holds of each event by a split holds of each
pub by_splits : (P : Event → Type 0) (h before events : List Event) → h ≡ before ++ events →
    ((b : List Event) (e : Event) (after : List Event) → h ≡ b ++ e ∷ after → P e) → AllByRecursion P events
by_splits P h before [] same each = tt
by_splits P h before (e ∷ events) same each = (
  each before e events same,
  by_splits P h (before ++ e ∷ []) events
      (same ∙ sym (append_assoc before (e ∷ []) events)) each,
)

pub filter_same : {X : Type 0} (p q : X → Bool) (xs : List X) → AllByRecursion (λ x. p x ≡ q x) xs →
    filter p xs ≡ filter q xs
filter_same p q [] each = refl
filter_same p q (x ∷ xs) each = rw (each.0, filter_same p q xs each.1) refl

pub filter_map_same : {X Y : Type 0} (f g : X → Option Y) (xs : List X) → AllByRecursion (λ x. f x ≡ g x) xs →
    filter_map f xs ≡ filter_map g xs
filter_map_same f g [] each = refl
filter_map_same f g (x ∷ xs) each = rw (each.0, filter_map_same f g xs each.1) refl

-- a rank's whole history, of which these events are the first
pub record IsFront (ranks : ℕ) (whole h : List Event) : Type 0 where
  pub more : List Event
  pub split : whole ≡ h ++ more
  pub numbers : Always (NumberAt ranks) whole
  pub ends : Always EndAt whole

pub early_ends : (ranks : ℕ) (whole h : List Event) → IsFront ranks whole h → Always EndAt h
early_ends ranks whole h of' = AtEach-prefix (λ before e. EndAt before e.what) h of'.more
    (subst (λ (k : List Event). Always EndAt k) of'.split of'.ends)

pub early_numbers : (ranks : ℕ) (whole h : List Event) → IsFront ranks whole h → Always (NumberAt ranks) h
early_numbers ranks whole h of' = AtEach-prefix (λ before e. NumberAt ranks before e.what) h of'.more
    (subst (λ (k : List Event). Always (NumberAt ranks) k) of'.split of'.numbers)

-- what a message that was sent is does not change
pub empty_lasts : (ranks j n : ℕ) (whole h : List Event) → IsFront ranks whole h → n < length (sends h j) →
    is_empty_send h j n ≡ is_empty_send whole j n
empty_lasts ranks j n whole h of' early = sent_lasts ranks j n (λ (s : Sent). s.len == 0) whole h of'.more of'.split
    of'.numbers early

pub asked_lasts : (ranks j n : ℕ) (whole h : List Event) → IsFront ranks whole h → n < length (sends h j) →
    is_asked (sends h j) n ≡ is_asked (sends whole j) n
asked_lasts ranks j n whole h of' early = sent_lasts ranks j n (λ (s : Sent). is_ask s.how) whole h of'.more of'.split
    of'.numbers early

pub asked_early : (ranks j n : ℕ) (h : List Event) → Always (NumberAt ranks) h → is_asked (sends h j) n ≡ true →
    n < length (sends h j)
asked_early ranks j n h numbers asked = let within = any_within (λ (s : Sent). s.n) (λ (s : Sent). is_ask s.how) 0 n
    (sends h j) (sends_numbered ranks j h numbers) asked in omega (arith, within)

-- what left is the same by a rank's whole history
pub left_lasts : (ranks j : ℕ) (whole h : List Event) → IsFront ranks whole h → pushed_out h j ≡ filter_map
    (λ e. left_of whole j e.what) h
left_lasts ranks j whole h of' =
    filter_map_same (λ (e : Event). left_of h j e.what) (λ e. left_of whole j e.what) h
    (by_splits (λ (e : Event). left_of h j e.what ≡ left_of whole j e.what) h [] h refl (λ b e after split.
    one b e after split e.what (AtEach-split (λ before e. EndAt before e.what) b e after
    (subst (λ (k : List Event). Always EndAt k) split (early_ends ranks whole h of')))))
  where
    one : (b : List Event) (e : Event) (after : List Event) → h ≡ b ++ e ∷ after → (w : Happened) → EndAt b w →
        left_of h j w ≡ left_of whole j w
    one b e after split (Out to n) end' = by_to (to == j) refl where
      by_to : (x : Bool) → (to == j) ≡ x → cond (x && is_asked (sends h j) n && not (is_empty_send h j n))
          (Some n) None ≡ cond (x && is_asked (sends whole j) n && not (is_empty_send whole j n)) (Some n) None
      by_to false test = refl
      by_to true test =
          let numbers_b = AtEach-prefix (λ before e. NumberAt ranks before e.what) b (e ∷ after)
          (subst (λ (k : List Event). Always (NumberAt ranks) k) split (early_numbers ranks whole h of')) in
          let first : n < length (sends b to) = sent_number ranks b to n numbers_b end'.1 in
          let to_j : length (sends b to) ≡ length (sends b j) = ap (λ (k : ℕ). length (sends b k))
          (same_number to j test) in
          let grown = sends_grow b (e ∷ after) j in
          let count : length (sends h j) ≡ length (sends (b ++ e ∷ after) j) =
          ap (λ (k : List Event). length (sends k j)) split in
          let early : n < length (sends h j) = omega (arith, first, to_j, grown, count) in
          rw (asked_lasts ranks j n whole h of' early, empty_lasts ranks j n whole h of' early) refl
    one b e after split w end' = refl
