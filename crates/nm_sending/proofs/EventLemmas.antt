-- What a history says of sends, with one event more.
use Rattle.std.proofs.Common.{◌≡◌, ℕ, ◌==◌, Bool, true, false, not, ◌&&◌, cond, Option, Some, None}
use Rattle.std.proofs.Common.{List, [], ◌∷◌, ◌++◌, filter, refl, sym, ◌∙◌, ap, append-nil}
use Rattle.std.specs.List.{filter_map, cons_option, list_any}
use Rattle.std.proofs.lemmas.List.Elements.{filter_map-append}
use Rattle.nm_history.specs.declared.events.Event.{Event}
use Rattle.nm_history.specs.declared.events.Happened.{Happened}
use Rattle.nm_history.specs.declared.events.Happened.TheVariants.{Out}
use Rattle.nm_history.specs.Delivery.{is_asked}
use Rattle.nm_history.specs.Sends.{Sent, sends, sent_of}
use Rattle.nm_history.proofs.DeliveryLemmas.{sends-push}
use Rattle.nm_history.proofs.Basic.{all_of}
use Rattle.nm_history.proofs.Lasting.{filter_map_same}
use Rattle.nm_history.specs.Clearance.{left_of, pushed_out}
use Rattle.nm_history.specs.Effects.{is_empty_send}
use Rattle.nm_types.proofs.NumberLemmas.{same_number}

-- an event that is no send
pub sends-same : (h : List Event) (e : Event) (to : ℕ) → sent_of e.stamp e.what ≡ None
    → sends (h ++ e ∷ []) to ≡ sends h to
sends-same h e to none =
    sends-push h e to ∙ ap (λ (o : Option Sent). sends h to ++ filter (λ s. s.to == to) (cons_option o []))
    none
    ∙ append-nil (sends h to)

-- what leaves depends on the sends alone
pub left_of-same : (h h' : List Event) (to : ℕ) → sends h' to ≡ sends h to → (w : Happened)
    → left_of h' to w ≡ left_of h to w
left_of-same h h' to same (Out t n) =
    ap (λ (ss : List Sent). cond (t == to && is_asked ss n && not (list_any (λ s. s.n == n && s.len == 0) ss))
    (Some n) None) same
left_of-same h h' to same w = refl

filter_map_all : {X Y : Type 0} (f g : X → Option Y) (xs : List X) → ((x : X) → f x ≡ g x)
    → filter_map f xs ≡ filter_map g xs
filter_map_all f g xs each = filter_map_same f g xs (all_of (λ x. f x ≡ g x) xs each)

-- one more that leaves
pub pushed_out-push : (h : List Event) (e : Event) (to : ℕ) → sends (h ++ e ∷ []) to ≡ sends h to
    → pushed_out (h ++ e ∷ []) to ≡ pushed_out h to ++ cons_option (left_of h to e.what) []
pushed_out-push h e to same =
    filter_map-append (λ (x : Event). left_of (h ++ e ∷ []) to x.what) h (e ∷ [])
    ∙ ap (λ (ns : List ℕ). ns ++ cons_option (left_of (h ++ e ∷ []) to e.what) [])
    (filter_map_all (λ (x : Event). left_of (h ++ e ∷ []) to x.what) (λ x. left_of h to x.what) h
    (λ x. left_of-same h (h ++ e ∷ []) to same x.what))
    ∙ ap (λ (o : Option ℕ). pushed_out h to ++ cons_option o []) (left_of-same h (h ++ e ∷ []) to same e.what)

-- one more of which nothing leaves in pieces
pub pushed_out-same : (h : List Event) (e : Event) (to : ℕ) → sends (h ++ e ∷ []) to ≡ sends h to
    → left_of h to e.what ≡ None → pushed_out (h ++ e ∷ []) to ≡ pushed_out h to
pushed_out-same h e to same none =
    pushed_out-push h e to same ∙ ap (λ (o : Option ℕ). pushed_out h to ++ cons_option o []) none
    ∙ append-nil (pushed_out h to)

-- an eager message, or an empty one, leaves in no pieces
pub left_none : (h : List Event) (to n t : ℕ)
    → (is_asked (sends h to) n && not (is_empty_send h to n)) ≡ false → left_of h t (Out to n) ≡ None
left_none h to n t no' = by_test (to == t) refl where
  by_test : (b : Bool) → (to == t) ≡ b
      → cond (b && is_asked (sends h t) n && not (is_empty_send h t n)) (Some n) None ≡ None
  by_test true is = ap (λ (b : Bool). cond b (Some n) None)
      (ap (λ (x : ℕ). is_asked (sends h x) n && not (is_empty_send h x n)) (sym (same_number to t is)) ∙ no')
  by_test false is = refl

-- one that was sent by asking, with a body, leaves in pieces
pub left_some : (h : List Event) (to n t : ℕ) → is_asked (sends h to) n ≡ true → is_empty_send h to n ≡ false
    → cons_option (left_of h t (Out to n)) [] ≡ cond (to == t) (n ∷ []) []
left_some h to n t asked full = by_test (to == t) refl where
  by_test : (b : Bool) → (to == t) ≡ b
      → cons_option (cond (b && is_asked (sends h t) n && not (is_empty_send h t n)) (Some n) None) []
      ≡ cond b (n ∷ []) []
  by_test true is =
      let there : (is_asked (sends h t) n && not (is_empty_send h t n)) ≡ true =
      ap (λ (x : ℕ). is_asked (sends h x) n && not (is_empty_send h x n)) (sym (same_number to t is))
      ∙ rw (asked, full) refl in
      ap (λ (b : Bool). cons_option (cond b (Some n) None) []) there
  by_test false is = refl
