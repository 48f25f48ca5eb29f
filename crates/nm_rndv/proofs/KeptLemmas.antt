-- What the offers keep, when the state of one message changes.
use Rattle.std.proofs.Common.{◌≡◌, ℕ, ◌+◌, ◌-◌, ◌<◌, ◌≤◌, inl, inr, ◌++◌, [], ◌∷◌, List}
use Rattle.std.proofs.Common.{length, get_or, set}
use Rattle.std.proofs.Common.{Bool, true, false, cond, nat_eq, Option, Some, None, All, Contains}
use Rattle.std.proofs.Common.{refl, sym, ap, ◌∙◌, subst, IsNone, slice_get, true≢false, sum_by}
use Rattle.std.proofs.Common.{arith, length-append}
use Rattle.std.proofs.lemmas.Bool.Decides.{Decides-eqb}
use Rattle.std.proofs.lemmas.List.Elements.{Contains-append_left, Contains-push, All-push}
use Rattle.std.specs.List.{position_or_len}
use Rattle.std.specs.Map.{lookup, set_value, values_of}
use Rattle.std.specs.Option.{option_map_or}
use Rattle.nm_types.specs.declared.scripts.Body.{Body}
use Rattle.nm_rndv.specs.declared.asked.State.{State}
use Rattle.nm_rndv.specs.declared.asked.State.TheVariants.{Asked}
use Rattle.nm_rndv.specs.Cuts.{Cut}
use Rattle.nm_rndv.specs.Offers.{Destined, state_in, state_at, leaves, cleared_at}
use Rattle.nm_rndv.specs.Offers.{is_leaving, was_cleared, with_asked, with_answer}
use Rattle.nm_rndv.specs.Kept.{waiting_in, OffersInvariant}
use Rattle.nm_rndv.specs.Offers.{leaving_or_out, after_withdrawal}
use Rattle.nm_rndv.proofs.Places.{position_or_len-append_le, position_or_len-le}
use Rattle.nm_rndv.proofs.Places.{position_or_len-same}
use Rattle.nm_rndv.proofs.Places.{none_found, find-first}
use Rattle.nm_rndv.proofs.StateLemmas.{weight, Changes, ChangesAt}
use Rattle.nm_rndv.proofs.StateLemmas.{state_here, states_same}
use Rattle.nm_rndv.proofs.StateLemmas.{state_changes, waiting-set, waiting_le, state-set_value}
use Rattle.nm_rndv.proofs.StateLemmas.{waiting-set_value}
use Rattle.nm_rndv.proofs.StateLemmas.{waiting-asked, cleared_now, waits_no_more, withdrawal_leaves}
use Rattle.nm_rndv.proofs.StateLemmas.{withdrawal_clears, withdrawal_waits, place_of}

module _ (ds ds' : List Destined) (order : List (ℕ × ℕ)) (first reserved room : ℕ)
    (kept : OffersInvariant ds order first reserved room) where
  -- where the tests of all messages are as before, so is the rest
  pub kept_steady : ((m : ℕ × ℕ) → leaves ds' m ≡ leaves ds m) → ((m : ℕ × ℕ) → cleared_at ds' m ≡ cleared_at ds m) →
      (reserved' room' : ℕ) → sum_by waiting_in ds' ≡ reserved' → length order + reserved' ≤ room' →
      OffersInvariant ds' order first reserved' room'
  kept_steady same_leaves same_cleared reserved' room' counted fits = record {
    cleared = λ k d lt. same_cleared (get_or order k d) ∙ kept.cleared k d lt;
    first_is = kept.first_is ∙ sym (position_or_len-same (leaves ds') (leaves ds) same_leaves order);
    listed = λ t q h. kept.listed t q (sym (same_leaves (t, q)) ∙ h);
    counted = counted;
    fits = fits;
  }

  module _ (to n : ℕ) (o : Option State) (s : State) (changes : Changes ds ds' to n o s) where
    -- a test that the change does not touch
    pub test_same : (test : State → Bool) → test s ≡ option_map_or test o false → (m : ℕ × ℕ) →
        option_map_or test (state_at ds' m) false ≡ option_map_or test (state_at ds m) false
    test_same test same m = by (changes m.0 m.1)
      where
        by : ChangesAt ds ds' to n o s m → option_map_or test (state_at ds' m) false ≡ option_map_or test
            (state_at ds m) false
        by (inl e) = ap (λ x. option_map_or test x false) e
        by (inr w) =
            ap (λ x. option_map_or test x false) w.3 ∙ same ∙ sym (ap (λ x. option_map_or test x false) w.2)

    module _ (now : was_cleared s ≡ true) (then' : option_map_or was_cleared o false ≡ true →
        option_map_or is_leaving o false ≡ true) where
      -- a message that was cleared stays so
      pub still_cleared : (m : ℕ × ℕ) → cleared_at ds m ≡ true → cleared_at ds' m ≡ true
      still_cleared m h = by (changes m.0 m.1)
        where
          by : ChangesAt ds ds' to n o s m → cleared_at ds' m ≡ true
          by (inl e) = ap (λ x. option_map_or was_cleared x false) e ∙ h
          by (inr w) = ap (λ x. option_map_or was_cleared x false) w.3 ∙ now

      -- one that leaves now and was cleared left before
      pub left_before : (m : ℕ × ℕ) → cleared_at ds m ≡ true → leaves ds' m ≡ true → leaves ds m ≡ true
      left_before m h l = by (changes m.0 m.1)
        where
          by : ChangesAt ds ds' to n o s m → leaves ds m ≡ true
          by (inl e) = ap (λ x. option_map_or is_leaving x false) (sym e) ∙ l
          by (inr w) =
              let was = ap (λ x. option_map_or was_cleared x false) (sym w.2) ∙ h in
              ap (λ x. option_map_or is_leaving x false) w.2 ∙ then' was

      -- so the first that leaves is no earlier
      pub first_no_earlier : (more : List (ℕ × ℕ)) → first ≤ position_or_len (leaves ds') (order ++ more)
      first_no_earlier more =
          let later = position_or_len-le (leaves ds) (leaves ds') order
          (λ k d lt l. left_before (get_or order k d) (kept.cleared k d lt) l) (0, 0) in
          omega (arith, kept.first_is, later, position_or_len-append_le (leaves ds') order more)

module _ (ds : List Destined) (order : List (ℕ × ℕ)) (first reserved room : ℕ)
    (kept : OffersInvariant ds order first reserved room) where
  -- with more room
  pub more_room : (room' : ℕ) → room ≤ room' → OffersInvariant ds order first reserved room'
  more_room room' le = kept_steady ds ds order first reserved room kept (λ m. refl) (λ m. refl) reserved room'
      kept.counted (omega (arith, kept.fits, le))

  -- where none leaves in the order, none leaves at all
  pub all_out : IsNone (slice_get order first) → (to n : ℕ) → leaves ds (to, n) ≡ false
  all_out none to n = by (leaves ds (to, n)) refl
    where
      by : (b : Bool) → leaves ds (to, n) ≡ b → leaves ds (to, n) ≡ false
      by false e = e
      by true e =
          let there = kept.listed to n e in
          let fails = none_found (leaves ds) order (rw
          (find-first (leaves ds) order first kept.first_is) none) there.0 (to, n) there.1 in
          absurd (true≢false (sym e ∙ ap (leaves ds) (sym there.2) ∙ fails))

module _ (ds : List Destined) (order : List (ℕ × ℕ)) (first reserved room : ℕ)
    (kept : OffersInvariant ds order first reserved room) (to : ℕ) (within : to < length ds) (d : Destined)
    (at : d ≡ get_or ds to d) (d' : Destined) (n : ℕ) where
  -- a change that leaves the destination's states
  pub kept_unchanged : d'.asked ≡ d.asked → OffersInvariant (set ds to d') order first reserved room
  kept_unchanged is =
      let same = states_same ds to within d at d' (λ q. ap (lookup (nat_eq q)) is) in
      let count : waiting_in d' ≡ waiting_in d = ap (λ es. sum_by weight (values_of es)) is in
      kept_steady ds (set ds to d') order first reserved room kept
      (λ m. ap (λ x. option_map_or is_leaving x false) (same m))
      (λ m. ap (λ x. option_map_or was_cleared x false) (same m)) reserved room
      (omega (arith, waiting-set ds to within d at d', count, kept.counted)) kept.fits

  -- one message more that waits
  pub kept_asked : (body : Body) → state_in d n ≡ None →
      ((q : ℕ) → state_in d' q ≡ cond (nat_eq n q) (Some (Asked body)) (state_in d q)) → d' ≡ with_asked d n body →
      (room' : ℕ) → length order + (reserved + 1) ≤ room' →
      OffersInvariant (set ds to d') order first (reserved + 1) room'
  kept_asked body was states is room' fits =
      let changes = state_changes ds to within d at d' n (Asked body) states in
      let count : waiting_in d' ≡ waiting_in d + 1 = ap waiting_in is ∙ waiting-asked d n body in
      kept_steady ds (set ds to d') order first reserved room kept
      (test_same ds (set ds to d') order first reserved room kept to n (state_in d n)
      (Asked body) changes is_leaving (sym (ap (λ x. option_map_or is_leaving x false) was)))
      (test_same ds (set ds to d') order first reserved room kept to n (state_in d n)
      (Asked body) changes was_cleared (sym (ap (λ x. option_map_or was_cleared x false) was)))
      (reserved + 1) room' (omega (arith, waiting-set ds to within d at d', count, kept.counted)) fits

  -- the answer of a recall: a message that waited and is withdrawn gives up its place
  pub kept_answered : (done : Bool) (o : Option State) → state_in d n ≡ o → d' ≡ with_answer d n done →
      (reserved' : ℕ) → reserved' + place_of done o ≡ reserved →
      OffersInvariant (set ds to d') order first reserved' room
  kept_answered false o was is reserved' less =
      let same : reserved ≡ reserved' = omega (arith, less) in
      subst (λ many. OffersInvariant (set ds to d') order first many room) same
      (kept_unchanged (ap (λ (x : Destined). x.asked) is))
  kept_answered true None was is reserved' less =
      let same : reserved ≡ reserved' = omega (arith, less) in
      subst (λ many. OffersInvariant (set ds to d') order first many room) same
      (kept_unchanged (ap (λ (x : Destined). x.asked) is
      ∙ ap (λ o. option_map_or (λ s. set_value (nat_eq n) d.asked (after_withdrawal s)) o d.asked) was))
  kept_answered true (Some s) was is reserved' less =
      let w = after_withdrawal s in
      let entries : d'.asked ≡ set_value (nat_eq n) d.asked w =
      ap (λ (x : Destined). x.asked) is ∙ ap (λ o. option_map_or
      (λ s. set_value (nat_eq n) d.asked (after_withdrawal s)) o d.asked) was in
      let changes = state_changes ds to within d at d' n w (state-set_value d d' n s w was entries) in
      let count = waiting-set_value d d' n s w was entries in
      kept_steady ds (set ds to d') order first reserved room kept
      (test_same ds (set ds to d') order first reserved room kept to n (state_in d n) w changes is_leaving
      (withdrawal_leaves s ∙ sym (ap (λ x. option_map_or is_leaving x false) was)))
      (test_same ds (set ds to d') order first reserved room kept to n (state_in d n) w changes was_cleared
      (withdrawal_clears s ∙ sym (ap (λ x. option_map_or was_cleared x false) was)))
      reserved' room
      (omega (arith, waiting-set ds to within d at d', count, withdrawal_waits s, kept.counted, less))
      (omega (arith, kept.fits, less))

  module _ (s : State) (o : Option Cut) (was : state_in d n ≡ Some s)
      (entries : d'.asked ≡ set_value (nat_eq n) d.asked (leaving_or_out o)) where
    changes_here : Changes ds (set ds to d') to n (state_in d n) (leaving_or_out o)
    changes_here =
        state_changes ds to within d at d' n (leaving_or_out o)
        (state-set_value d d' n s (leaving_or_out o) was entries)

    -- a message that waits has its room
    pub room_reserved : weight s ≡ 1 → 1 ≤ reserved
    room_reserved waits =
        omega (
          arith,
          waiting-set_value d d' n s (leaving_or_out o) was entries,
          waits_no_more o,
          waits,
          waiting_le ds to within d at,
          kept.counted,
        )

    module _ (then' : was_cleared s ≡ true → is_leaving s ≡ true) where
      before : option_map_or was_cleared (state_in d n) false ≡ true →
          option_map_or is_leaving (state_in d n) false ≡ true
      before h =
          ap (λ x. option_map_or is_leaving x false) was
          ∙ then' (sym (ap (λ x. option_map_or was_cleared x false) was) ∙ h)

      -- the first that leaves is no earlier
      pub low_then : (more : List (ℕ × ℕ)) → first ≤ position_or_len (leaves (set ds to d')) (order ++ more)
      low_then more =
          first_no_earlier ds (set ds to d') order first reserved room kept to n (state_in d n)
          (leaving_or_out o) changes_here (cleared_now o) before more

      still_all : All (λ m. cleared_at (set ds to d') m ≡ true) order
      still_all k e lt =
          still_cleared ds (set ds to d') order first reserved room kept to n (state_in d n)
          (leaving_or_out o) changes_here (cleared_now o) before (get_or order k e) (kept.cleared k e lt)

      -- after the clearance of a message that waited
      pub kept_cleared : weight s ≡ 1 → is_leaving s ≡ false → (first' : ℕ) →
          first' ≡ position_or_len (leaves (set ds to d')) (order ++ (to, n) ∷ []) →
          OffersInvariant (set ds to d') (order ++ (to, n) ∷ []) first' (reserved - 1) room
      kept_cleared waits stays first' is =
          let count = waiting-set_value d d' n s (leaving_or_out o) was entries in
          let here : state_at (set ds to d') (to, n) ≡ Some (leaving_or_out o) =
          state_here ds to within d at d' n ∙ state-set_value d d' n s (leaving_or_out o) was entries n
          ∙ ap (λ b. cond b (Some (leaving_or_out o)) (state_in d n)) ((Decides-eqb n n).1 refl) in
          record {
            cleared = All-push (λ m. cleared_at (set ds to d') m ≡ true) order (to, n) still_all
                (ap (λ x. option_map_or was_cleared x false) here ∙ cleared_now o);
            first_is = is;
            listed = listed';
            counted = omega (arith, waiting-set ds to within d at d', count, waits_no_more o, waits, kept.counted);
            fits = omega (arith, length-append order ((to, n) ∷ []), kept.fits, room_reserved waits);
          }
        where
          listed' : (t q : ℕ) → leaves (set ds to d') (t, q) ≡ true → Contains (order ++ (to, n) ∷ []) (t, q)
          listed' t q h = by (changes_here t q)
            where
              by : ChangesAt ds (set ds to d') to n (state_in d n) (leaving_or_out o) (t, q) →
                  Contains (order ++ (to, n) ∷ []) (t, q)
              by (inl e) =
                  Contains-append_left order ((to, n) ∷ []) (t, q)
                  (kept.listed t q (sym (ap (λ x. option_map_or is_leaving x false) e) ∙ h))
              by (inr w) =
                  subst (λ x. Contains (order ++ (to, n) ∷ []) (x, q)) (sym w.0)
                  (subst (λ y. Contains (order ++ (to, n) ∷ []) (to, y)) (sym w.1)
                  (Contains-push order (to, n)))

      -- after one piece more of a message that leaves
      pub kept_popped : weight s ≡ 0 → is_leaving s ≡ true → (first' : ℕ) →
          first' ≡ position_or_len (leaves (set ds to d')) order →
          OffersInvariant (set ds to d') order first' reserved room
      kept_popped waits left first' is =
          let count = waiting-set_value d d' n s (leaving_or_out o) was entries in
          record {
            cleared = still_all;
            first_is = is;
            listed = listed';
            counted = omega (arith, waiting-set ds to within d at d', count, waits_no_more o, waits, kept.counted);
            fits = kept.fits;
          }
        where
          listed' : (t q : ℕ) → leaves (set ds to d') (t, q) ≡ true → Contains order (t, q)
          listed' t q h = by (changes_here t q)
            where
              by : ChangesAt ds (set ds to d') to n (state_in d n) (leaving_or_out o) (t, q) → Contains order (t, q)
              by (inl e) = kept.listed t q (sym (ap (λ x. option_map_or is_leaving x false) e) ∙ h)
              by (inr w) =
                  kept.listed t q (ap (λ x. option_map_or is_leaving x false) (w.2 ∙ was) ∙ left)
