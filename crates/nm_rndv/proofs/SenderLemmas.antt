-- One sender among all, before and after it changed.
use Rattle.std.proofs.Common.{◌≡◌, ℕ, ◌<◌, List, [], length, get_or, set, map, All, sym, ap, ◌∙◌}
use Rattle.std.proofs.Common.{Bool, true, false, cond, length-set, nat_eq, subst, sum_by, refl}
use Rattle.std.proofs.Common.{arith, ◌+◌, ◌≤◌, ◌≢◌, ◌⊎◌, inl, inr, Option, Some, None}
use Rattle.std.proofs.lemmas.Bool.{cases_lt}
use Rattle.std.proofs.lemmas.List.{map-set, get_or-map, length-map, get_or-set_other}
use Rattle.std.proofs.lemmas.List.{get_or-set_same, get_or_past}
use Rattle.std.proofs.lemmas.List.Sums.{count_by-le-length, get_or-le-sum_by, sum_by-set}
use Rattle.std.proofs.Math.Seq.{map-set_same}
use Rattle.nm_types.specs.declared.packets.Piece.{Piece}
use Rattle.nm_rndv.specs.Grants.{Granted, FromSender, Granting, seen, grants_from, IsReady, IsReadyFor}
use Rattle.nm_rndv.specs.Grants.{Continues}
use Rattle.nm_rndv.specs.Grants.{count_unfinished, expected_in, has_unfinished}
use Rattle.nm_rndv.proofs.StateLemmas.{apart, equal}

module _ (ss : List FromSender) (v : Granting) (i : ℕ) (view : seen ss ≡ v) (within : i < length v.grants) where
  -- the place is one of the senders
  pub sender_within : i < length ss
  sender_within =
      let same : length v.grants ≡ length ss = ap (λ (w : Granting). length w.grants) (sym view)
      ∙ length-map ss (λ (s : FromSender). s.grants) in
      omega arith

  module _ (s : FromSender) (at : s ≡ get_or ss i s) where
    -- its grants are those that are seen of it
    pub grants_there : s.grants ≡ grants_from v i
    grants_there =
        ap (λ (x : FromSender). x.grants) at ∙ sym (get_or-map
        (λ (x : FromSender). x.grants) ss i s [] sender_within) ∙ ap (λ w. grants_from w i) view

    -- it has the room that is seen of it
    pub spare_there : get_or v.spare i 0 ≡ s.spare
    spare_there =
        ap (λ (w : Granting). get_or w.spare i 0) (sym view)
        ∙ get_or-map (λ (x : FromSender). x.spare) ss i s 0 sender_within
        ∙ ap (λ (x : FromSender). x.spare) (sym at)

    -- it has room where all have
    pub ready_there : IsReady v → 0 < s.spare
    ready_there ready =
        let many : length v.spare ≡ length ss = ap (λ (w : Granting). length w.spare) (sym view)
        ∙ length-map ss (λ (x : FromSender). x.spare) in
        subst (λ n. 0 < n) spare_there
        (ready i 0 (let lt : i < length v.spare = omega (arith, sender_within) in lt))

    -- it has room where that is seen of it
    pub ready_for_there : IsReadyFor v i → 0 < s.spare
    ready_for_there ready = subst (λ n. 0 < n) spare_there ready

    -- it is counted where it has an unfinished grant
    pub counted_there : cond (has_unfinished s.grants) 1 0 ≤ count_unfinished (map (λ x. x.grants) ss)
    counted_there =
        let one : List (ℕ × Granted) → ℕ = λ row. cond (has_unfinished row) 1 0 in
        let rows = map (λ (x : FromSender). x.grants) ss in
        let here = get_or-map (λ (x : FromSender). x.grants) ss i s [] sender_within
        ∙ ap (λ (x : FromSender). x.grants) (sym at) in
        let within : i < length rows = omega
        (arith, sender_within, length-map ss (λ (x : FromSender). x.grants)) in
        subst (λ (row : List (ℕ × Granted)). one row ≤ sum_by one rows) here
        (get_or-le-sum_by one rows i [] within)

    module _ (y : FromSender) where
      -- after a change with other grants, these are seen in their place
      pub grants-set : (gs : List (ℕ × Granted)) → y.grants ≡ gs → map (λ x. x.grants) (set ss i y) ≡ set v.grants i gs
      grants-set gs is =
          map-set (λ (x : FromSender). x.grants) ss i y ∙ ap (set (map (λ (x : FromSender). x.grants) ss) i) is
          ∙ ap (λ (w : Granting). set w.grants i gs) view

      -- after a change with the same grants, the same is seen
      pub grants-set_same : y.grants ≡ s.grants → map (λ x. x.grants) (set ss i y) ≡ v.grants
      grants-set_same same =
          map-set_same (λ (x : FromSender). x.grants) ss i y s (same ∙ ap (λ (x : FromSender). x.grants) at)
          ∙ ap (λ (w : Granting). w.grants) view

      -- the count of those with an unfinished grant, after this one changed
      pub count-set : count_unfinished (map (λ x. x.grants) (set ss i y)) + cond (has_unfinished s.grants) 1 0
          ≡ count_unfinished (map (λ x. x.grants) ss) + cond (has_unfinished y.grants) 1 0
      count-set =
          let one : List (ℕ × Granted) → ℕ = λ row. cond (has_unfinished row) 1 0 in
          let rows = map (λ (x : FromSender). x.grants) ss in
          let here = get_or-map (λ (x : FromSender). x.grants) ss i s [] sender_within
          ∙ ap (λ (x : FromSender). x.grants) (sym at) in
          let within : i < length rows = omega
          (arith, sender_within, length-map ss (λ (x : FromSender). x.grants)) in
          ap (λ (all : List (List (ℕ × Granted))). sum_by one all + one s.grants)
          (map-set (λ (x : FromSender). x.grants) ss i y)
          ∙ ap (λ (row : List (ℕ × Granted)). sum_by one (set rows i y.grants) + one row) (sym here)
          ∙ sum_by-set one rows i y.grants [] within

      -- after a change with the same grants, that count is the same
      pub count-set_same : y.grants ≡ s.grants → count_unfinished (map (λ x. x.grants) (set ss i y))
          ≡ count_unfinished (map (λ x. x.grants) ss)
      count-set_same same = ap count_unfinished (map-set_same (λ (x : FromSender). x.grants) ss i y s
          (same ∙ ap (λ (x : FromSender). x.grants) at))

      -- after a change with room, that is seen of it
      pub ready_for-set : 0 < y.spare → 0 < get_or (map (λ x. x.spare) (set ss i y)) i 0
      ready_for-set room =
          let within' : i < length (set ss i y) = omega (arith, sender_within, length-set ss i y) in
          let there : get_or (map (λ (x : FromSender). x.spare) (set ss i y)) i 0 ≡ y.spare =
          get_or-map (λ (x : FromSender). x.spare) (set ss i y) i y 0 within'
          ∙ ap (λ (x : FromSender). x.spare) (get_or-set_same ss i y y sender_within) in
          subst (λ n. 0 < n) (sym there) room

      -- after a change with no less room, all have room as before
      pub ready-set : s.spare ≤ y.spare → IsReady v → All (λ n. 0 < n) (map (λ x. x.spare) (set ss i y))
      ready-set le ready k d lt = subst (λ ns. 0 < get_or ns k d) (sym now) (by (nat_eq k i) refl)
        where
          spares : List ℕ
          spares = map (λ (x : FromSender). x.spare) ss

          now : map (λ (x : FromSender). x.spare) (set ss i y) ≡ set spares i y.spare
          now = map-set (λ (x : FromSender). x.spare) ss i y

          many : length (map (λ (x : FromSender). x.spare) (set ss i y)) ≡ length spares
          many = ap length now ∙ length-set spares i y.spare

          within' : i < length spares
          within' = omega (arith, sender_within, length-map ss (λ (x : FromSender). x.spare))

          before : All (λ n. 0 < n) spares
          before = subst (λ ns. All (λ n. 0 < n) ns) (sym (ap (λ (w : Granting). w.spare) view)) ready

          by : (b : Bool) → nat_eq k i ≡ b → 0 < get_or (set spares i y.spare) k d
          by true e =
              subst (λ j. 0 < get_or (set spares i y.spare) j d) (sym (equal k i e))
              (subst (λ n. 0 < n) (sym (get_or-set_same spares i y.spare d within'))
              (omega (arith, le, ready_there ready)))
          by false e =
              subst (λ n. 0 < n) (sym (get_or-set_other spares i k y.spare d (apart k i e)))
              (before k d (omega (arith, lt, many)))

-- so many senders are counted at most
pub counted_within : (ss : List FromSender) → count_unfinished (map (λ x. x.grants) ss) ≤ length ss
counted_within ss = omega (
  arith,
  count_by-le-length has_unfinished (map (λ (x : FromSender). x.grants) ss),
  length-map ss (λ (x : FromSender). x.grants),
)

-- the senders up to a place have room, and so has the one that is written there
pub room_more : (ss : List FromSender) (i : ℕ) (y : FromSender) → i < length ss → 0 < y.spare →
    ((k : ℕ) (d : FromSender) → k < i → 0 < (get_or ss k d).spare) → (k : ℕ) (d : FromSender) → k < i + 1 →
    0 < (get_or (set ss i y) k d).spare
room_more ss i y within room before k d lt = by (cases_lt k i)
  where
    by : (k < i) ⊎ (i ≤ k) → 0 < (get_or (set ss i y) k d).spare
    by (inl below) =
        let other : k ≢ i = omega arith in
        subst (λ (s : FromSender). 0 < s.spare) (sym (get_or-set_other ss i k y d other)) (before k d below)
    by (inr above) =
        let here : k ≡ i = omega arith in
        subst (λ j. 0 < (get_or (set ss i y) j d).spare) (sym here)
        (subst (λ (s : FromSender). 0 < s.spare) (sym (get_or-set_same ss i y d within)) room)

-- all senders have room
pub room_all : (ss : List FromSender) → ((k : ℕ) (d : FromSender) → k < length ss → 0 < (get_or ss k d).spare) →
    All (λ n. 0 < n) (map (λ s. s.spare) ss)
room_all ss each k d lt =
    let within : k < length ss = omega (arith, length-map ss (λ (s : FromSender). s.spare)) in
    let nobody : FromSender = record { grants = []; spare = d } in
    subst (λ n. 0 < n) (sym (get_or-map (λ (s : FromSender). s.spare) ss k nobody d within)) (each k nobody within)

-- each sender has room
pub room_each : (ss : List FromSender) → ((k : ℕ) (d : FromSender) → k < length ss → 0 < (get_or ss k d).spare) →
    (k : ℕ) → k < length ss → 0 < get_or (map (λ s. s.spare) ss) k 0
room_each ss each k lt =
    room_all ss each k 0 (omega (arith, lt, length-map ss (λ (s : FromSender). s.spare)))

-- a piece that continues is of one of the senders
pub continues_within : (v : Granting) (p : Piece) → Continues v p → p.from < length v.grants
continues_within v p goes = by (cases_lt p.from (length v.grants))
  where
    by : (p.from < length v.grants) ⊎ (length v.grants ≤ p.from) → p.from < length v.grants
    by (inl below) = below
    by (inr above) =
        let none : ◌≡◌ {A = Option (ℕ × ℕ)} None (Some (p.n, p.at)) =
        ap expected_in (sym (get_or_past v.grants p.from [] above)) ∙ goes.expected in
        absurd cc
