-- Where no piece is left to push, each cleared message has left.
use Rattle.std.proofs.Common.{◌≡◌, ℕ, ◌<◌, ◌==◌, Bool, true, false, not, cond, Option, Some, None, List, [], ◌∷◌}
use Rattle.std.proofs.Common.{◌++◌, is_some, length, map, refl, sym, ◌∙◌, ap, subst, append-nil, length-append, arith}
use Rattle.std.specs.Prelude.{IfSome, IsNone, IsSome, filter, find, option_map, option_and_then}
use Rattle.nm_types.specs.declared.packets.Piece.{Piece}
use Rattle.nm_history.specs.declared.events.Event.{Event}
use Rattle.nm_history.specs.Clearance.{pushed_out, to_push}
use Rattle.nm_history.specs.Effects.{is_empty_send}
use Rattle.nm_history.specs.Known.{Known}
use Rattle.nm_history.proofs.Basic.{self_true}
use Rattle.nm_rndv.specs.Offers.{AllOut, Destined, Offered, first_leaving, leaves, next_in, next_offered, offered}
use Rattle.nm_rndv.specs.Offers.{offered_of, state_at}
use Rattle.nm_sending.specs.Departures.{SendingView, cleared_to, leaving_to}
use Rattle.nm_sending.specs.Sent.{AreSent}
use Rattle.nm_rank.specs.Ranks.{known_from}

-- none is left of these where none leaves
none_left : (f : ℕ → Bool) (ns : List ℕ) → ((n : ℕ) → f n ≡ false) → filter f ns ≡ []
none_left f [] none = refl
none_left f (n ∷ ns) none = rw (none n) (none_left f ns none)

-- where one leaves, one is left for its destination
one_left : (ds : List Destined) (order : List (ℕ × ℕ)) (m : ℕ × ℕ) → find (leaves ds) order ≡ Some m
    → 0 < length (filter (λ n. leaves ds (m.0, n)) (map (λ x. x.1) (filter (λ x. x.0 == m.0) order)))
one_left ds [] m e = absurd (nothing m e) where
  nothing : (m : ℕ × ℕ) → None ≡ Some m → ⊥
  nothing m e = cc
one_left ds (x ∷ order) m e = by_leaving (leaves ds x) refl e (λ f. one_left ds order m f) where
  rest : List (ℕ × ℕ)
  rest = filter (λ x. x.0 == m.0) order

  here : x ≡ m → leaves ds x ≡ true
      → 0 < length (filter (λ n. leaves ds (m.0, n)) (map (λ x. x.1) (filter (λ x. x.0 == m.0) (x ∷ order))))
  here same l = subst
      (λ (y : ℕ × ℕ). 0 < length (filter (λ n. leaves ds (y.0, n))
      (map (λ x. x.1) (filter (λ z. z.0 == y.0) (x ∷ order)))))
      same (rw (self_true x.0, l) (omega arith))

  more : (b c : Bool) (ns : List ℕ) → 0 < length (filter (λ n. leaves ds (m.0, n)) ns)
      → leaves ds (m.0, x.1) ≡ c
      → 0 < length (filter (λ n. leaves ds (m.0, n)) (cond b (x.1 ∷ ns) ns))
  more true true ns some is = rw is (omega arith)
  more true false ns some is = rw is some
  more false c ns some is = some

  mapped : (b : Bool) → map (λ (x : ℕ × ℕ). x.1) (cond b (x ∷ rest) rest)
      ≡ cond b (x.1 ∷ map (λ x. x.1) rest) (map (λ x. x.1) rest)
  mapped true = refl
  mapped false = refl

  by_leaving : (b : Bool) → leaves ds x ≡ b → cond b (Some x) (find (leaves ds) order) ≡ Some m
      → (find (leaves ds) order ≡ Some m → 0 < length (filter (λ n. leaves ds (m.0, n)) (map (λ x. x.1) rest)))
      → 0 < length (filter (λ n. leaves ds (m.0, n)) (map (λ x. x.1) (filter (λ x. x.0 == m.0) (x ∷ order))))
  by_leaving true l f later = here (same x m f) l where
    same : (x m : ℕ × ℕ) → Some x ≡ Some m → x ≡ m
    same x m f = cc
  by_leaving false l f later =
      rw (mapped (x.0 == m.0))
      (more (x.0 == m.0) (leaves ds (m.0, x.1)) (map (λ x. x.1) rest) (later f) refl)

-- a piece that has a destination is there, and one that has none isn't
pub some_there : (o : Option ℕ) (p : Option Offered) → o ≡ option_map (λ x. x.to) p → is_some o ≡ true → IsSome p
some_there None p is some = absurd (clash some) where
  clash : false ≡ true → ⊥
  clash e = cc
some_there (Some to) None is some = absurd (clash is) where
  clash : Some to ≡ None → ⊥
  clash e = cc
some_there (Some to) (Some x) is some = refl

pub none_there : (o : Option ℕ) (p : Option Offered) → o ≡ option_map (λ x. x.to) p → is_some o ≡ false → p ≡ None
none_there o None is none = refl
none_there None (Some x) is none = absurd (clash is) where
  clash : None ≡ Some x.to → ⊥
  clash e = cc
none_there (Some to) (Some x) is none = absurd (clash none) where
  clash : true ≡ false → ⊥
  clash e = cc

pub is_none : (o : Option ℕ) → is_some o ≡ false → IsNone o
is_none None none = refl
is_none (Some to) none = absurd (clash none) where
  clash : true ≡ false → ⊥
  clash e = cc

pub isnt_some : (o : Option ℕ) → IsNone o → is_some o ≡ false
isnt_some None none = refl
isnt_some (Some to) none = absurd (clash none) where
  clash : IsNone (Some to) → ⊥
  clash e = cc

-- the message of which the next piece is
next_of : (ds : List Destined) (o : Option (ℕ × ℕ)) (x : Offered)
    → option_and_then (offered_of ds) o ≡ Some x → (m : ℕ × ℕ) × (o ≡ Some m) × (m.0 ≡ x.to)
next_of ds None x e = absurd (nothing x e) where
  nothing : (x : Offered) → None ≡ Some x → ⊥
  nothing x e = cc
next_of ds (Some m) x e = (m, refl, to_is (option_and_then next_in (state_at ds m)) e) where
  to_is : (o : Option (ℕ × List ℕ))
      → option_map (λ next. record { to = m.0; n = m.1; at = next.0; bytes = next.1 }) o ≡ Some x
      → m.0 ≡ x.to
  to_is None e = cc
  to_is (Some next) e = cc

module _ (v : SendingView) (h : List Event) (ranks : ℕ) (known : List Known) (sent : AreSent v h)
    (cleared : (to : ℕ) → to < ranks → (known_from known to).cleared ≡ cleared_to v to) where
  -- the messages that are to be pushed are those that have left and then those that leave
  turn : (to : ℕ) → to < ranks
      → to_push h (known_from known to) to ≡ pushed_out h to ++ leaving_to v to
  turn to b = ap (λ (ns : List ℕ). filter (λ n. not (is_empty_send h to n)) ns) (cleared to b)
      ∙ sent.in_turn to

  pub all_left : AllOut v.offers → (to : ℕ) → to < ranks
      → pushed_out h to ≡ to_push h (known_from known to) to
  all_left out to b = sym (turn to b
      ∙ ap (λ (ns : List ℕ). pushed_out h to ++ ns)
      (none_left (λ n. leaves v.offers.destinations (to, n)) (cleared_to v to) (λ n. out to n))
      ∙ append-nil (pushed_out h to))

  -- where all have left, none is next
  none_more : ((to : ℕ) → to < ranks → pushed_out h to ≡ to_push h (known_from known to) to)
      → (x : Offered) → next_offered v.offers ≡ Some x → x.to < ranks → ⊥
  none_more all x next low =
      let m = next_of v.offers.destinations (first_leaving v.offers) x next in
      let some = one_left v.offers.destinations v.offers.order m.0 m.1 in
      let within : m.0.0 < ranks = subst (λ (k : ℕ). k < ranks) (sym m.2) low in
      let lengths = ap length (all m.0.0 within ∙ turn m.0.0 within)
      ∙ length-append (pushed_out h m.0.0) (leaving_to v m.0.0) in
      omega (arith, some, lengths)

  pub none_next : ((to : ℕ) → to < ranks → pushed_out h to ≡ to_push h (known_from known to) to)
      → (o : Option ℕ) (p : Piece) → option_map (λ to. offered (to, p)) o ≡ next_offered v.offers
      → IfSome o (λ to. to < ranks) → IsNone o
  none_next all None p next low = refl
  none_next all (Some to) p next low = absurd (none_more all (offered (to, p)) (sym next) low)

  -- so its destination is none
  pub none_goes : ((to : ℕ) → to < ranks → pushed_out h to ≡ to_push h (known_from known to) to)
      → (o : Option ℕ) → o ≡ option_map (λ x. x.to) (next_offered v.offers)
      → IfSome o (λ to. to < ranks) → is_some o ≡ false
  none_goes all None next low = refl
  none_goes all (Some to) next low = by (next_offered v.offers) refl next where
    same : (to k : ℕ) → Some to ≡ Some k → to ≡ k
    same to k e = cc

    nothing : (to : ℕ) → Some to ≡ None → ⊥
    nothing to e = cc

    by : (p : Option Offered) → next_offered v.offers ≡ p → Some to ≡ option_map (λ x. x.to) p →
        is_some (Some to) ≡ false
    by None e f = absurd (nothing to f)
    by (Some x) e f = absurd (none_more all x e (subst (λ (k : ℕ). k < ranks) (same to x.to f) low))
