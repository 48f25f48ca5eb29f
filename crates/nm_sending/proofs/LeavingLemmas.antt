-- What a clearance and a piece do to the order in which cleared messages leave.
use Rattle.std.proofs.Common.{◌≡◌, ℕ, ◌==◌, Bool, true, false, not, ◌&&◌, cond, Some, List, [], ◌∷◌}
use Rattle.std.proofs.Common.{◌++◌, length, filter, refl, sym, ◌∙◌, ap, subst, append-nil, append_assoc}
use Rattle.std.specs.List.{list_any, slice_get}
use Rattle.std.proofs.lemmas.List.Elements.{filter-append, filter_agree}
use Rattle.nm_history.specs.declared.events.Event.{Event}
use Rattle.nm_history.specs.Sends.{Sent, sends}
use Rattle.nm_history.proofs.Basic.{self_true}
use Rattle.nm_history.specs.Clearance.{pushed_out}
use Rattle.nm_history.specs.Continues.{AreApart, has}
use Rattle.nm_history.specs.Effects.{is_empty_send}
use Rattle.nm_rndv.specs.Offers.{leaves, first_leaving}
use Rattle.nm_sending.specs.Departures.{SendingView, cleared_to, leaving_to}
use Rattle.nm_sending.proofs.TurnLemmas.{InTurn, numbers_to, numbers-push, filter-apart, filter-without}
use Rattle.nm_sending.proofs.TurnLemmas.{first_of_rank}
use Rattle.nm_types.proofs.NumberLemmas.{same_number}
use Rattle.nm_types.proofs.ListLemmas.{get_behind}

not_not : (b : Bool) → not (not b) ≡ b
not_not true = refl
not_not false = refl

-- the messages that have a body among these, by the sends
abbrev pub with_body : List Sent → List ℕ → List ℕ
with_body ss ns = filter (λ n. not (list_any (λ s. s.n == n && s.len == 0) ss)) ns

module _ (old new : SendingView) (h h' : List Event) (same : (t : ℕ) → sends h' t ≡ sends h t)
    (was : InTurn old h) where
  -- where no more messages leave and none is cleared
  still : new.offers.order ≡ old.offers.order → (t : ℕ) → pushed_out h' t ≡ pushed_out h t
      → ((q : ℕ) → leaves new.offers.destinations (t, q) ≡ leaves old.offers.destinations (t, q))
      → with_body (sends h' t) (cleared_to new t) ≡ pushed_out h' t ++ leaving_to new t
  still order t pushed each =
      ap (λ (ss : List Sent). with_body ss (cleared_to new t)) (same t)
      ∙ ap (λ (ms : List (ℕ × ℕ)). with_body (sends h t) (numbers_to t ms)) order ∙ was t
      ∙ ap (λ (ns : List ℕ). ns ++ leaving_to old t) (sym pushed)
      ∙ ap (λ (ns : List ℕ). pushed_out h' t ++ ns)
      (sym (ap (λ (ms : List (ℕ × ℕ)). filter (λ n. leaves new.offers.destinations (t, n))
      (numbers_to t ms)) order
      ∙ filter_agree (λ n. leaves new.offers.destinations (t, n))
      (λ n. leaves old.offers.destinations (t, n)) each
      (cleared_to old t)))

  pub turn-still : new.offers.order ≡ old.offers.order → ((t : ℕ) → pushed_out h' t ≡ pushed_out h t)
      → ((t q : ℕ) → leaves new.offers.destinations (t, q) ≡ leaves old.offers.destinations (t, q))
      → InTurn new h'
  turn-still order pushed each t = still order t (pushed t) (each t)

  module _ (to n : ℕ) where
    -- where a message was cleared, which leaves in pieces or is empty
    pub turn-clear : (x : Bool) → new.offers.order ≡ old.offers.order ++ (to, n) ∷ []
        → ((t : ℕ) → pushed_out h' t ≡ pushed_out h t) → has (cleared_to old to) n ≡ false
        → is_empty_send h to n ≡ not x
        → ((t q : ℕ) → leaves new.offers.destinations (t, q)
        ≡ cond (to == t && n == q) x (leaves old.offers.destinations (t, q)))
        → InTurn new h'
    turn-clear x order pushed none empty each t = by_test (to == t) refl where
      own : cleared_to new to ≡ cleared_to old to ++ n ∷ []
      own =
          ap (λ (ms : List (ℕ × ℕ)). numbers_to to ms) order ∙ numbers-push to old.offers.order (to, n)
          ∙ ap (λ (b : Bool). cleared_to old to ++ cond b (n ∷ []) []) (self_true to)

      left : leaving_to new to ≡ leaving_to old to ++ cond x (n ∷ []) []
      left =
          ap (λ (ns : List ℕ). filter (λ q. leaves new.offers.destinations (to, q)) ns) own
          ∙ filter-append (λ q. leaves new.offers.destinations (to, q)) (cleared_to old to) (n ∷ [])
          ∙ ap (λ (ns : List ℕ). ns ++ filter (λ q. leaves new.offers.destinations (to, q)) (n ∷ []))
          (filter-apart (λ q. leaves new.offers.destinations (to, q))
          (λ q. leaves old.offers.destinations (to, q)) n (cleared_to old to) none
          (λ k other. each to k ∙ rw (self_true to, other) refl))
          ∙ ap (λ (b : Bool). leaving_to old to ++ cond b (n ∷ []) [])
          (each to n ∙ rw (self_true to, self_true n) refl)

      at_to : with_body (sends h' to) (cleared_to new to) ≡ pushed_out h' to ++ leaving_to new to
      at_to =
          ap (λ (ss : List Sent). with_body ss (cleared_to new to)) (same to)
          ∙ ap (λ (ns : List ℕ). with_body (sends h to) ns) own
          ∙ filter-append (λ q. not (is_empty_send h to q)) (cleared_to old to) (n ∷ [])
          ∙ ap (λ (b : Bool). with_body (sends h to) (cleared_to old to) ++ cond (not b) (n ∷ []) []) empty
          ∙ ap (λ (b : Bool). with_body (sends h to) (cleared_to old to) ++ cond b (n ∷ []) []) (not_not x)
          ∙ ap (λ (ns : List ℕ). ns ++ cond x (n ∷ []) []) (was to)
          ∙ append_assoc (pushed_out h to) (leaving_to old to) (cond x (n ∷ []) [])
          ∙ ap (λ (ns : List ℕ). ns ++ (leaving_to old to ++ cond x (n ∷ []) [])) (sym (pushed to))
          ∙ ap (λ (ns : List ℕ). pushed_out h' to ++ ns) (sym left)

      other : (to == t) ≡ false → with_body (sends h' t) (cleared_to new t)
          ≡ pushed_out h' t ++ leaving_to new t
      other apart =
          let cleared : cleared_to new t ≡ cleared_to old t =
          ap (λ (ms : List (ℕ × ℕ)). numbers_to t ms) order ∙ numbers-push t old.offers.order (to, n)
          ∙ ap (λ (b : Bool). cleared_to old t ++ cond b (n ∷ []) []) apart ∙ append-nil (cleared_to old t) in
          ap (λ (ss : List Sent). with_body ss (cleared_to new t)) (same t)
          ∙ ap (λ (ns : List ℕ). with_body (sends h t) ns) cleared ∙ was t
          ∙ ap (λ (ns : List ℕ). ns ++ leaving_to old t) (sym (pushed t))
          ∙ ap (λ (ns : List ℕ). pushed_out h' t ++ ns)
          (sym (ap (λ (ns : List ℕ). filter (λ q. leaves new.offers.destinations (t, q)) ns) cleared
          ∙ filter_agree (λ q. leaves new.offers.destinations (t, q))
          (λ q. leaves old.offers.destinations (t, q))
          (λ q. each t q ∙ ap (λ (b : Bool). cond (b && n == q) x (leaves old.offers.destinations (t, q)))
          apart)
          (cleared_to old t)))

      by_test : (b : Bool) → (to == t) ≡ b
          → with_body (sends h' t) (cleared_to new t) ≡ pushed_out h' t ++ leaving_to new t
      by_test true is = subst
          (λ (k : ℕ). with_body (sends h' k) (cleared_to new k) ≡ pushed_out h' k ++ leaving_to new k)
          (same_number to t is) at_to
      by_test false is = other is

    -- where the first message that leaves left with its last piece
    pub turn-pop : new.offers.order ≡ old.offers.order → first_leaving old.offers ≡ Some (to, n)
        → AreApart (cleared_to old to)
        → ((t : ℕ) → pushed_out h' t ≡ pushed_out h t ++ cond (to == t) (n ∷ []) [])
        → ((t q : ℕ) → leaves new.offers.destinations (t, q)
        ≡ cond (to == t && n == q) false (leaves old.offers.destinations (t, q)))
        → InTurn new h'
    turn-pop order first apart pushed each t = by_test (to == t) refl where
      found : (rest : List ℕ) × (leaving_to old to ≡ n ∷ rest)
      found = first_of_rank old.offers.destinations old.offers.order (to, n) first

      left : leaving_to new to ≡ found.0
      left =
          ap (λ (ms : List (ℕ × ℕ)). filter (λ q. leaves new.offers.destinations (to, q))
          (numbers_to to ms)) order
          ∙ filter-without (λ q. leaves old.offers.destinations (to, q))
          (λ q. leaves new.offers.destinations (to, q)) n (cleared_to old to) found.0 apart found.1
          (each to n ∙ rw (self_true to, self_true n) refl)
          (λ k other. each to k ∙ rw (self_true to, other) refl)

      at_to : with_body (sends h' to) (cleared_to new to) ≡ pushed_out h' to ++ leaving_to new to
      at_to =
          ap (λ (ss : List Sent). with_body ss (cleared_to new to)) (same to)
          ∙ ap (λ (ms : List (ℕ × ℕ)). with_body (sends h to) (numbers_to to ms)) order ∙ was to
          ∙ ap (λ (ns : List ℕ). pushed_out h to ++ ns) found.1
          ∙ sym (append_assoc (pushed_out h to) (n ∷ []) found.0)
          ∙ ap (λ (ns : List ℕ). ns ++ found.0)
          (sym (pushed to ∙ ap (λ (b : Bool). pushed_out h to ++ cond b (n ∷ []) []) (self_true to)))
          ∙ ap (λ (ns : List ℕ). pushed_out h' to ++ ns) (sym left)

      by_test : (b : Bool) → (to == t) ≡ b
          → with_body (sends h' t) (cleared_to new t) ≡ pushed_out h' t ++ leaving_to new t
      by_test true is = subst
          (λ (k : ℕ). with_body (sends h' k) (cleared_to new k) ≡ pushed_out h' k ++ leaving_to new k)
          (same_number to t is) at_to
      by_test false is = still order t
          (pushed t ∙ ap (λ (b : Bool). pushed_out h t ++ cond b (n ∷ []) []) is
          ∙ append-nil (pushed_out h t))
          (λ q. each t q ∙ ap (λ (b : Bool). cond (b && n == q) false
          (leaves old.offers.destinations (t, q))) is)

    -- and that message is the next one in its turn
    pub turn_next : first_leaving old.offers ≡ Some (to, n)
        → slice_get (with_body (sends h to) (cleared_to old to)) (length (pushed_out h to)) ≡ Some n
    turn_next first =
        let found = first_of_rank old.offers.destinations old.offers.order (to, n) first in
        ap (λ (ns : List ℕ). slice_get ns (length (pushed_out h to))) (was to)
        ∙ ap (λ (ns : List ℕ). slice_get (pushed_out h to ++ ns) (length (pushed_out h to))) found.1
        ∙ get_behind (pushed_out h to) found.0 n
