-- The states of messages, when that of one of them changes.
use Rattle.std.proofs.Common.{◌≡◌, ◌≢◌, ℕ, ◌+◌, ◌<◌, ◌≤◌, ◌⊎◌, inl, inr, [], ◌∷◌, List, length}
use Rattle.std.proofs.Common.{get_or, set}
use Rattle.std.proofs.Common.{Bool, true, false, cond, nat_eq, Option, Some, None}
use Rattle.std.proofs.Common.{refl, sym, ap, ◌∙◌, subst, is_some, IsTrue, ◌↔◌, true≢false, sum_by}
use Rattle.std.proofs.Common.{arith}
use Rattle.std.proofs.lemmas.Bool.{cases_lt}
use Rattle.std.proofs.lemmas.Bool.Decides.{Decides-eqb}
use Rattle.std.proofs.lemmas.Cmp.{nat_eq_equiv}
use Rattle.std.proofs.lemmas.List.{get_or_read, get_or_past, get_or-set_same, get_or-set_other}
use Rattle.std.proofs.lemmas.List.{map-append}
use Rattle.std.proofs.lemmas.List.Sums.{sum_by-set, sum_by_push, get_or-le-sum_by}
use Rattle.std.proofs.lemmas.Map.{lookup-set_value}
use Rattle.std.proofs.lemmas.Map.Entries.{sum_by-set_value}
use Rattle.std.specs.Map.{lookup, set_value, values_of}
use Rattle.std.specs.Option.{option_and_then, option_map_or}
use Rattle.nm_types.specs.declared.scripts.Body.{Body}
use Rattle.nm_rndv.specs.declared.asked.State.{State}
use Rattle.nm_rndv.specs.declared.asked.State.TheVariants.{Asked, Cleared, Out, Withdrawn}
use Rattle.nm_rndv.specs.Cuts.{Cut, start_of}
use Rattle.nm_rndv.specs.Offers.{Destined, untold, state_in, state_at, leaves, is_waiting}
use Rattle.nm_rndv.specs.Offers.{is_leaving, was_cleared, with_step, with_asked, is_out}
use Rattle.nm_rndv.specs.Kept.{waiting_in}
use Rattle.std.proofs.lemmas.Map.Steps.{set_value_same}
use Rattle.nm_kept.specs.Entering.{kept_if}
use Rattle.nm_rndv.specs.Offers.{has_body, leaving_or_out, after_withdrawal, Offering, state_of, is_asked}
use Rattle.nm_rndv.specs.Offers.{next_in, withdrawn_in}
use Rattle.nm_types.specs.Bodies.{body_len}

-- how much a state adds to the number of those that wait
abbrev pub weight : State → ℕ
weight s = cond (is_waiting s) 1 0

-- a message that waits is asked
pub waiting_is_asked : (o : Option State) → option_map_or is_waiting o false ≡ true →
    (body : Body) × (o ≡ Some (Asked body))
waiting_is_asked None h = absurd (true≢false (sym h))
waiting_is_asked (Some (Asked body)) h = (body, refl)
waiting_is_asked (Some (Cleared cut)) h = absurd (true≢false (sym h))
waiting_is_asked (Some Out) h = absurd (true≢false (sym h))
waiting_is_asked (Some Withdrawn) h = absurd (true≢false (sym h))

-- a message that leaves was cleared
pub leaving_is_cleared : (o : Option State) → option_map_or is_leaving o false ≡ true →
    (cut : Cut) × (o ≡ Some (Cleared cut))
leaving_is_cleared None h = absurd (true≢false (sym h))
leaving_is_cleared (Some (Asked body)) h = absurd (true≢false (sym h))
leaving_is_cleared (Some (Cleared cut)) h = (cut, refl)
leaving_is_cleared (Some Out) h = absurd (true≢false (sym h))
leaving_is_cleared (Some Withdrawn) h = absurd (true≢false (sym h))

-- a message that leaves is for one of the destinations
pub leaving_within : (ds : List Destined) (m : ℕ × ℕ) → leaves ds m ≡ true → m.0 < length ds
leaving_within ds m h = by (cases_lt m.0 (length ds))
  where
    by : (m.0 < length ds) ⊎ (length ds ≤ m.0) → m.0 < length ds
    by (inl lt) = lt
    by (inr past) =
        absurd (true≢false (sym h ∙ ap (λ (d : Destined). option_map_or is_leaving (state_in d m.1) false)
        (get_or_past ds m.0 untold past)))

-- the state of a message is as before; or it is that of message n, which was o, and is s now
abbrev pub ChangesAt : List Destined → List Destined → ℕ → ℕ → Option State → State → ℕ × ℕ → Type 0
ChangesAt old new to n o s m =
    (state_at new m ≡ state_at old m)
    ⊎ ((m.0 ≡ to) × (m.1 ≡ n) × (state_at old m ≡ o) × (state_at new m ≡ Some s))

-- the state of one message, which was o, is s now, and all others are as before
abbrev pub Changes : List Destined → List Destined → ℕ → ℕ → Option State → State → Type 0
Changes old new to n o s = (t q : ℕ) → ChangesAt old new to n o s (t, q)

pub equal : (a b : ℕ) → nat_eq a b ≡ true → a ≡ b
equal a b h = (Decides-eqb a b).0 h

pub apart : (a b : ℕ) → nat_eq a b ≡ false → a ≢ b
apart a b h = λ e. true≢false (sym ((Decides-eqb a b).1 e) ∙ h)

module _ (ds : List Destined) (to : ℕ) (within : to < length ds) (d : Destined) (at : d ≡ get_or ds to d) where
  -- the states that are looked up are those of the destination
  pub state_there : (q : ℕ) → state_at ds (to, q) ≡ state_in d q
  state_there q = ap (λ (x : Destined). state_in x q) (sym (get_or_read ds to d within at untold))

  module _ (d' : Destined) where
    -- the states that are looked up after a change are those of the new destination
    pub state_here : (q : ℕ) → state_at (set ds to d') (to, q) ≡ state_in d' q
    state_here q = ap (λ (x : Destined). state_in x q) (get_or-set_same ds to d' untold within)

    state_elsewhere : (t q : ℕ) → t ≢ to → state_at (set ds to d') (t, q) ≡ state_at ds (t, q)
    state_elsewhere t q ne = ap (λ (x : Destined). state_in x q) (get_or-set_other ds to t d' untold ne)

    -- where the destination's states are as before, all are
    pub states_same : ((q : ℕ) → state_in d' q ≡ state_in d q) → (m : ℕ × ℕ) → state_at (set ds to d') m ≡ state_at ds m
    states_same same m = by (nat_eq m.0 to) refl
      where
        by : (b : Bool) → nat_eq m.0 to ≡ b → state_at (set ds to d') m ≡ state_at ds m
        by true e =
            let is = equal m.0 to e in
            subst (λ t. state_at (set ds to d') (t, m.1) ≡ state_at ds (t, m.1)) (sym is)
            (state_here m.1 ∙ same m.1 ∙ sym (state_there m.1))
        by false e = state_elsewhere m.0 m.1 (apart m.0 to e)

    -- where one of them changes, that is the only one that changes
    pub state_changes : (n : ℕ) (s : State) → ((q : ℕ) → state_in d' q ≡ cond (nat_eq n q) (Some s) (state_in d q)) →
        Changes ds (set ds to d') to n (state_in d n) s
    state_changes n s is t q = by (nat_eq t to) refl (nat_eq n q) refl
      where
        by : (b : Bool) → nat_eq t to ≡ b → (c : Bool) → nat_eq n q ≡ c →
            ChangesAt ds (set ds to d') to n (state_in d n) s (t, q)
        by false e c f = inl (state_elsewhere t q (apart t to e))
        by true e true f =
            let here = equal t to e in
            let this = sym (equal n q f) in
            inr (
              here,
              this,
              subst (λ x. state_at ds (x, q) ≡ state_in d n) (sym here) (state_there q ∙ ap (state_in d) this),
              subst (λ x. state_at (set ds to d') (x, q) ≡ Some s) (sym here)
                  (state_here q ∙ is q ∙ ap (λ b. cond b (Some s) (state_in d q)) f),
            )
        by true e false f =
            let here = equal t to e in
            inl (subst (λ x. state_at (set ds to d') (x, q) ≡ state_at ds (x, q)) (sym here)
            (state_here q ∙ is q ∙ ap (λ b. cond b (Some s) (state_in d q)) f ∙ sym (state_there q)))

    -- how the number of those that wait changes with one destination
    pub waiting-set : sum_by waiting_in (set ds to d') + waiting_in d ≡ sum_by waiting_in ds + waiting_in d'
    waiting-set =
        let e = sum_by-set waiting_in ds to d' d within in
        ap (λ (x : Destined). sum_by waiting_in (set ds to d') + waiting_in x) at ∙ e

  -- it is one of the summands
  pub waiting_le : waiting_in d ≤ sum_by waiting_in ds
  waiting_le = subst (λ (x : Destined). waiting_in x ≤ sum_by waiting_in ds) (sym at)
      (get_or-le-sum_by waiting_in ds to d within)

module _ (d d' : Destined) (n : ℕ) (s w : State) (was : state_in d n ≡ Some s)
    (is : d'.asked ≡ set_value (nat_eq n) d.asked w) where
  -- the states after one of them was set
  pub state-set_value : (q : ℕ) → state_in d' q ≡ cond (nat_eq n q) (Some w) (state_in d q)
  state-set_value q =
      let one : (x y : ℕ) → nat_eq n x ≡ true → nat_eq n y ≡ nat_eq x y = λ x y h. ap (λ k. nat_eq k y) (equal n x h) in
      ap (lookup (nat_eq q)) is ∙ lookup-set_value nat_eq_equiv (nat_eq n) one q w d.asked (ap is_some was)

  -- and how many of them wait
  pub waiting-set_value : waiting_in d' + weight s ≡ waiting_in d + weight w
  waiting-set_value =
      ap (λ es. sum_by weight (values_of es) + weight s) is ∙ sum_by-set_value weight (nat_eq n) d.asked s w was

-- one message more that waits
pub waiting-asked : (d : Destined) (n : ℕ) (body : Body) → waiting_in (with_asked d n body) ≡ waiting_in d + 1
waiting-asked d n body =
    ap (sum_by weight) (map-append (λ (e : ℕ × State). e.1) d.asked ((n, Asked body) ∷ []))
    ∙ sum_by_push weight (values_of d.asked) (Asked body)

-- a cleared message is out, or leaves
pub cleared_now : (o : Option Cut) → was_cleared (leaving_or_out o) ≡ true
cleared_now None = refl
cleared_now (Some cut) = refl

-- it waits no more
pub waits_no_more : (o : Option Cut) → weight (leaving_or_out o) ≡ 0
waits_no_more None = refl
waits_no_more (Some cut) = refl

-- it is out at once exactly where its body is empty
pub out_at_once : (body : Body) → IsTrue (is_out (leaving_or_out (start_of body))) ↔ (body_len body ≡ 0)
out_at_once body = by (nat_eq (body_len body) 0) refl
  where
    by : (b : Bool) → nat_eq (body_len body) 0 ≡ b → IsTrue
        (is_out (leaving_or_out (cond b None (Some (record { body = body; popped = 0 }))))) ↔ (body_len body ≡ 0)
    by true e = (λ _. equal (body_len body) 0 e, λ _. refl)
    by false e = (λ h. absurd (true≢false (sym h)), λ h. absurd (apart (body_len body) 0 e h))

-- a withdrawal touches neither test
pub withdrawal_leaves : (s : State) → is_leaving (after_withdrawal s) ≡ is_leaving s
withdrawal_leaves (Asked body) = refl
withdrawal_leaves (Cleared cut) = refl
withdrawal_leaves Out = refl
withdrawal_leaves Withdrawn = refl

pub withdrawal_clears : (s : State) → was_cleared (after_withdrawal s) ≡ was_cleared s
withdrawal_clears (Asked body) = refl
withdrawal_clears (Cleared cut) = refl
withdrawal_clears Out = refl
withdrawal_clears Withdrawn = refl

-- after it the message does not wait
pub withdrawal_waits : (s : State) → weight (after_withdrawal s) ≡ 0
withdrawal_waits (Asked body) = refl
withdrawal_waits (Cleared cut) = refl
withdrawal_waits Out = refl
withdrawal_waits Withdrawn = refl

-- how many places the answer of a recall frees: that of a message that waits and is withdrawn
abbrev pub place_of : Bool → Option State → ℕ
place_of done o = cond (cond done (option_map_or is_waiting o false) false) 1 0

-- a message that waits is one of those counted
pub waits_one : (d : Destined) (n : ℕ) (s : State) → state_in d n ≡ Some s → weight s ≤ waiting_in d
waits_one d n s was = let set' = sum_by-set_value weight (nat_eq n) d.asked s Out was in omega (arith, set')

-- so its place is one of those reserved
pub place_reserved : (ds : List Destined) (to : ℕ) → to < length ds → (d : Destined) → d ≡ get_or ds to d → (n : ℕ)
    (done : Bool) (o : Option State) → state_in d n ≡ o → place_of done o ≤ sum_by waiting_in ds
place_reserved ds to within d at n false o was = omega arith
place_reserved ds to within d at n true None was = omega arith
place_reserved ds to within d at n true (Some s) was =
    omega (arith, waits_one d n s was, waiting_le ds to within d at)

module _ (d d' : Destined) (n : ℕ) (step : State → State) (s : State) (was : state_in d n ≡ Some s) where
  -- the entries after a step of a message that is there
  pub asked-with_step : d' ≡ with_step d n step → d'.asked ≡ set_value (nat_eq n) d.asked (step s)
  asked-with_step is =
      ap (λ (x : Destined). x.asked) is ∙ ap (λ o. option_map_or
      (λ x. set_value (nat_eq n) d.asked (step x)) o d.asked) was

  -- and its state
  pub state-with_step : d' ≡ with_step d n step → state_in d' n ≡ Some (step s)
  state-with_step is =
      state-set_value d d' n s (step s) was (asked-with_step is) n
      ∙ ap (λ b. cond b (Some (step s)) (state_in d n)) ((Decides-eqb n n).1 refl)

-- to set what a step makes of a message's state is that step
pub with_step-set : (d : Destined) (n : ℕ) (step : State → State) (s : State) → state_in d n ≡ Some s →
    (asked : List (ℕ × State)) → asked ≡ set_value (nat_eq n) d.asked (step s) →
    record { asked = asked; recalls = d.recalls } ≡ with_step d n step
with_step-set d n step s was asked is = rw (is, was) refl

-- a message that waits has its body, and so has one that leaves
pub waiting_has_body : (o : Option State) → option_map_or is_waiting o false ≡ true →
    option_map_or has_body o false ≡ true
waiting_has_body o h = ap (λ x. option_map_or has_body x false) (waiting_is_asked o h).1

pub leaving_has_body : (o : Option State) → option_map_or is_leaving o false ≡ true →
    option_map_or has_body o false ≡ true
leaving_has_body o h = ap (λ x. option_map_or has_body x false) (leaving_is_cleared o h).1

-- one without a body neither waits nor leaves
pub bare_waits : (s : State) → has_body s ≡ false → is_waiting s ≡ false
bare_waits (Asked body) h = absurd (true≢false h)
bare_waits (Cleared cut) h = absurd (true≢false h)
bare_waits Out h = refl
bare_waits Withdrawn h = refl

pub bare_leaves : (s : State) → has_body s ≡ false → is_leaving s ≡ false
bare_leaves (Asked body) h = absurd (true≢false h)
bare_leaves (Cleared cut) h = absurd (true≢false h)
bare_leaves Out h = refl
bare_leaves Withdrawn h = refl

-- nor has a next piece
pub next_kept : (o : Option State) → option_and_then next_in (kept_if has_body o) ≡ option_and_then next_in o
next_kept None = refl
next_kept (Some (Asked body)) = refl
next_kept (Some (Cleared cut)) = refl
next_kept (Some Out) = refl
next_kept (Some Withdrawn) = refl

-- the withdrawal of a message that waits, and of one that does not
pub withdrawn_waiting : (es : List (ℕ × State)) (n : ℕ) → option_map_or is_waiting (lookup (nat_eq n) es) false ≡ true →
    withdrawn_in es n ≡ set_value (nat_eq n) es Withdrawn
withdrawn_waiting es n h =
    ap (λ o. option_map_or (λ s. set_value (nat_eq n) es (after_withdrawal s)) o es)
    (waiting_is_asked (lookup (nat_eq n) es) h).1

pub withdrawn_other : (es : List (ℕ × State)) (n : ℕ) → option_map_or is_waiting (lookup (nat_eq n) es) false ≡ false →
    withdrawn_in es n ≡ es
withdrawn_other es n h = by (lookup (nat_eq n) es) refl h
  where
    by : (o : Option State) → lookup (nat_eq n) es ≡ o → option_map_or is_waiting o false ≡ false →
        option_map_or (λ s. set_value (nat_eq n) es (after_withdrawal s)) o es ≡ es
    by None at h = refl
    by (Some (Asked body)) at h = absurd (true≢false h)
    by (Some (Cleared cut)) at h = set_value_same (nat_eq n) es (Cleared cut) at
    by (Some Out) at h = set_value_same (nat_eq n) es Out at
    by (Some Withdrawn) at h = set_value_same (nat_eq n) es Withdrawn at

module _ (ds : List Destined) (order : List (ℕ × ℕ)) (v : Offering)
    (view : ◌≡◌ {A = Offering} (record { destinations = ds; order = order }) v) (to : ℕ)
    (within : to < length v.destinations) where
  -- the place is one of the destinations
  pub within_here : to < length ds
  within_here = omega (arith, ap (λ (w : Offering). length w.destinations) view)

  module _ (d : Destined) (at : d ≡ get_or ds to d) (n : ℕ) where
    -- the state that is seen of a message
    pub state_seen : state_of v to n ≡ state_in d n
    state_seen = ap (λ (w : Offering). state_of w to n) (sym view) ∙ state_there ds to within_here d at n

    -- one that is seen as asked waits
    pub asked_here : is_asked v to n ≡ true → (body : Body) × (state_in d n ≡ Some (Asked body))
    asked_here h =
        waiting_is_asked (state_in d n) (ap (λ o. option_map_or is_waiting o false) (sym state_seen) ∙ h)

    -- one that is seen to leave was cleared
    pub leaving_here : leaves v.destinations (to, n) ≡ true → (cut : Cut) × (state_in d n ≡ Some (Cleared cut))
    leaving_here h =
        leaving_is_cleared (state_in d n) (ap (λ o. option_map_or is_leaving o false) (sym state_seen) ∙ h)
