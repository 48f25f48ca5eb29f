-- What a rank did since its last answer, and the last of what it did.
use Rattle.std.proofs.Common.{◌≡◌, ℕ, suc, ◌-◌, ◌||◌, not, Bool, true, false, cond, Option, Some, None, List, [], ◌∷◌}
use Rattle.std.proofs.Common.{◌++◌, length, map, refl, sym, ◌∙◌, ap, arith}
use Rattle.std.specs.Prelude.{fold}
use Rattle.std.specs.List.{cons_option, filter, filter_map, list_any, slice_get}
use Rattle.std.specs.Option.{option_map_or}
use Rattle.std.proofs.lemmas.Bool.{false≢true}
use Rattle.std.proofs.lemmas.List.{map-append}
use Rattle.std.proofs.lemmas.List.Folds.{list_any-append}
use Rattle.nm_types.specs.declared.scripts.Line.{Line}
use Rattle.nm_history.specs.declared.events.Event.{Event}
use Rattle.nm_history.specs.declared.events.Happened.{Happened}
use Rattle.nm_history.specs.declared.events.Happened.TheVariants as event
use Rattle.nm_history.specs.RankRun.{cancels_since, claims_since, is_cancelling, is_start, line_of_claim, since_after}
use Rattle.nm_history.specs.RankRun.{since_command, starts_since}
use Rattle.nm_history.specs.Underway.{is_answer, is_of_packet}
use Rattle.nm_history.proofs.AppendLemmas.{since_grows}
use Rattle.nm_types.proofs.ListLemmas.{no_item}
use Rattle.nm_types.proofs.OptionLemmas.{no_some, same_some}
use Rattle.nm_types.proofs.TruthLemmas.{not_true, or_left, or_right}
use Rattle.nm_outcomes.specs.declared.spots.deeds.Deed.{Deed}
use Rattle.nm_outcomes.specs.declared.spots.deeds.Deed.TheVariants as deed
use Rattle.nm_outcomes.specs.Deeds.{happening}
use Rattle.nm_outcomes.specs.Looks.{is_answer_by, is_cancelling_by, is_claim_any, is_starting_by}
use Rattle.nm_outcomes.specs.RankStates.{IsSpotOf, Spot, own_of}
use Rattle.nm_explored.specs.Successors.{is_idle_at}

-- what happened since the last answer, where this happened since the last one before
abbrev since_from : List Happened → List Event → List Happened
since_from s h = fold (λ since (e : Event). since_after since e.what) s h

after_answer : (s : List Happened) (what : Happened) → is_answer what ≡ true → since_after s what ≡ []
after_answer s (event.Ran line answer) is = refl
after_answer s what is = absurd (false≢true is)

packet_other : (what : Happened) → is_of_packet what ≡ true → is_answer what ≡ false
packet_other (event.Ran line answer) packet = absurd (false≢true packet)
packet_other what packet = refl

kept_in : (test : Happened → Bool) (s : List Happened) (what : Happened) → list_any test s ≡ true →
    list_any test (s ++ what ∷ []) ≡ true
kept_in test s what some = list_any-append test s (what ∷ []) ∙ or_left (list_any test s) _ some

put_in : (test : Happened → Bool) (s : List Happened) (what : Happened) → test what ≡ true →
    list_any test (s ++ what ∷ []) ≡ true
put_in test s what is =
    list_any-append test s (what ∷ [])
    ∙ or_right (list_any test s) (list_any test (what ∷ [])) (ap (λ (b : Bool). b || false) is)

not_in : (test : Happened → Bool) (s : List Happened) (what : Happened) → list_any test s ≡ false →
    test what ≡ false → list_any test (s ++ what ∷ []) ≡ false
not_in test s what none not_this =
    list_any-append test s (what ∷ [])
    ∙ ap (λ (b : Bool). b || list_any test (what ∷ [])) none ∙ ap (λ (b : Bool). b || false) not_this

not_empty : (what : Happened) (ws : List Happened) → what ∷ ws ≡ [] → ⊥
not_empty what ws none = grind arith

-- what is there stays there while no command does anything
stays : (test : Happened → Bool) (s : List Happened) (h : List Event) → own_of h ≡ [] → list_any test s ≡ true →
    list_any test (since_from s h) ≡ true
stays test s [] none some = some
stays test s (e ∷ h) none some =
    by_kind (is_of_packet e.what) refl none (λ none some. stays test (since_after s e.what) h none some)
  where
    by_kind : (b : Bool) → is_of_packet e.what ≡ b → cond (not b) (e.what ∷ own_of h) (own_of h) ≡ [] →
        (own_of h ≡ [] → list_any test (since_after s e.what) ≡ true →
        list_any test (since_from (since_after s e.what) h) ≡ true) →
        list_any test (since_from (since_after s e.what) h) ≡ true
    by_kind true packet none later =
        later none
        (ap (λ (ws : List Happened). list_any test ws) (since_grows s e.what (packet_other e.what packet))
        ∙ kept_in test s e.what some)
    by_kind false own none later = absurd (not_empty e.what (own_of h) none)

ends_not : (ws : List Happened) (x : Happened) → ws ++ x ∷ [] ≡ [] → ⊥
ends_not [] x none = grind arith
ends_not (w ∷ ws) x none = grind arith

-- the last deed, which is no answer, is among what happened since
last_in : (test : Happened → Bool) (s : List Happened) (h : List Event) (ws : List Happened) (x : Happened) →
    own_of h ≡ ws ++ x ∷ [] → is_answer x ≡ false → test x ≡ true → list_any test (since_from s h) ≡ true
last_in test s [] ws x own no_answer is = absurd (ends_not ws x (sym own))
last_in test s (e ∷ h) ws x own no_answer is =
    by_kind (is_of_packet e.what) own (λ ws own. last_in test (since_after s e.what) h ws x own no_answer is)
  where
    Later : Type 0
    Later = (ws : List Happened) → own_of h ≡ ws ++ x ∷ [] →
        list_any test (since_from (since_after s e.what) h) ≡ true

    by_front : (ws : List Happened) → e.what ∷ own_of h ≡ ws ++ x ∷ [] → Later →
        list_any test (since_from (since_after s e.what) h) ≡ true
    by_front [] own later =
        let first : e.what ≡ x = cc in
        let rest : own_of h ≡ [] = cc in
        stays test (since_after s e.what) h rest
        (ap (λ (w : Happened). list_any test (since_after s w)) first
        ∙ ap (λ (ws : List Happened). list_any test ws) (since_grows s x no_answer) ∙ put_in test s x is)
    by_front (w ∷ ws) own later = let rest : own_of h ≡ ws ++ x ∷ [] = cc in later ws rest

    by_kind : (b : Bool) → cond (not b) (e.what ∷ own_of h) (own_of h) ≡ ws ++ x ∷ [] → Later →
        list_any test (since_from (since_after s e.what) h) ≡ true
    by_kind true own later = later ws own
    by_kind false own later = by_front ws own later

-- a test that no event of a packet passes
abbrev IsOfDeeds : (Happened → Bool) → Type 0
IsOfDeeds test = (what : Happened) → is_of_packet what ≡ true → test what ≡ false

none_added : (test : Happened → Bool) → IsOfDeeds test → (s : List Happened) (h : List Event) → own_of h ≡ [] →
    list_any test s ≡ false → list_any test (since_from s h) ≡ false
none_added test never s [] own none = none
none_added test never s (e ∷ h) own none =
    by_kind (is_of_packet e.what) refl own (λ own none. none_added test never (since_after s e.what) h own none)
  where
    by_kind : (b : Bool) → is_of_packet e.what ≡ b → cond (not b) (e.what ∷ own_of h) (own_of h) ≡ [] →
        (own_of h ≡ [] → list_any test (since_after s e.what) ≡ false →
        list_any test (since_from (since_after s e.what) h) ≡ false) →
        list_any test (since_from (since_after s e.what) h) ≡ false
    by_kind true packet own later =
        later own
        (ap (λ (ws : List Happened). list_any test ws) (since_grows s e.what (packet_other e.what packet))
        ∙ not_in test s e.what none (never e.what packet))
    by_kind false command own later = absurd (not_empty e.what (own_of h) own)

-- behind an answer nothing was done
emptied : (test : Happened → Bool) → IsOfDeeds test → (s : List Happened) (h : List Event) (ws : List Happened)
    (x : Happened) → own_of h ≡ ws ++ x ∷ [] → is_answer x ≡ true → list_any test (since_from s h) ≡ false
emptied test never s [] ws x own answer = absurd (ends_not ws x (sym own))
emptied test never s (e ∷ h) ws x own answer =
    by_kind (is_of_packet e.what) own (λ ws own. emptied test never (since_after s e.what) h ws x own answer)
  where
    Later : Type 0
    Later = (ws : List Happened) → own_of h ≡ ws ++ x ∷ [] →
        list_any test (since_from (since_after s e.what) h) ≡ false

    by_front : (ws : List Happened) → e.what ∷ own_of h ≡ ws ++ x ∷ [] → Later →
        list_any test (since_from (since_after s e.what) h) ≡ false
    by_front [] own later =
        let first : e.what ≡ x = cc in
        let rest : own_of h ≡ [] = cc in
        none_added test never (since_after s e.what) h rest
        (ap (λ (w : Happened). list_any test (since_after s w)) first
        ∙ ap (λ (ws : List Happened). list_any test ws) (after_answer s x answer))
    by_front (w ∷ ws) own later = let rest : own_of h ≡ ws ++ x ∷ [] = cc in later ws rest

    by_kind : (b : Bool) → cond (not b) (e.what ∷ own_of h) (own_of h) ≡ ws ++ x ∷ [] → Later →
        list_any test (since_from (since_after s e.what) h) ≡ false
    by_kind true own later = later ws own
    by_kind false own later = by_front ws own later

-- the last element of a list
split_last : {X : Type 0} (xs : List X) (x : X) → slice_get xs (length xs - 1) ≡ Some x →
    (ys : List X) × (xs ≡ ys ++ x ∷ [])
split_last {X} [] x here = absurd (no_item (length {A = X} [] - 1) x here)
split_last {X} (y ∷ []) x here =
    let e : length (y ∷ []) - 1 ≡ 0 = omega arith in
    let same : y ≡ x = same_some y x (ap (λ (k : ℕ). slice_get (y ∷ []) k) (sym e) ∙ here) in
    ([], ap (λ (z : X). z ∷ []) same)
split_last {X} (y ∷ z ∷ zs) x here =
    let e : length (y ∷ z ∷ zs) - 1 ≡ suc (length (z ∷ zs) - 1) = omega arith in
    let rest = split_last (z ∷ zs) x (ap (λ (k : ℕ). slice_get (y ∷ z ∷ zs) k) (sym e) ∙ here) in
    (y ∷ rest.0, ap (λ (ys : List X). y ∷ ys) rest.1)

no_last : {X : Type 0} (xs : List X) → slice_get xs (length xs - 1) ≡ None → xs ≡ []
no_last [] none = refl
no_last (y ∷ []) none =
    let e : length (y ∷ []) - 1 ≡ 0 = omega arith in
    absurd (no_some y (sym (ap (λ (k : ℕ). slice_get (y ∷ []) k) (sym e) ∙ none)))
no_last (y ∷ z ∷ zs) none =
    let e : length (y ∷ z ∷ zs) - 1 ≡ suc (length (z ∷ zs) - 1) = omega arith in
    absurd (other (no_last (z ∷ zs) (ap (λ (k : ℕ). slice_get (y ∷ z ∷ zs) k) (sym e) ∙ none)))
  where
    other : z ∷ zs ≡ [] → ⊥
    other none = grind arith

none_any : (test : Happened → Bool) (ws : List Happened) → filter test ws ≡ [] → list_any test ws ≡ false
none_any test [] none = refl
none_any test (w ∷ ws) none = by_test (test w) none (λ none. none_any test ws none)
  where
    by_test : (b : Bool) → cond b (w ∷ filter test ws) (filter test ws) ≡ [] →
        (filter test ws ≡ [] → list_any test ws ≡ false) → (b || list_any test ws) ≡ false
    by_test true none later = absurd (not_empty w (filter test ws) none)
    by_test false none later = later none

some_any : (test : Happened → Bool) (ws : List Happened) (x : Happened) (xs : List Happened) →
    filter test ws ≡ x ∷ xs → list_any test ws ≡ true
some_any test [] x xs some = absurd (not_empty x xs (sym some))
some_any test (w ∷ ws) x xs some = by_test (test w) some (λ some. some_any test ws x xs some)
  where
    by_test : (b : Bool) → cond b (w ∷ filter test ws) (filter test ws) ≡ x ∷ xs →
        (filter test ws ≡ x ∷ xs → list_any test ws ≡ true) → (b || list_any test ws) ≡ true
    by_test true some later = refl
    by_test false some later = later some

abbrev pub is_claiming : Happened → Bool
is_claiming (event.Claim from n line) = true
is_claiming _ = false

line_empty : (line : ℕ) (ls : List ℕ) → line ∷ ls ≡ [] → ⊥
line_empty line ls none = grind arith

none_claims : (ws : List Happened) → filter_map line_of_claim ws ≡ [] → list_any is_claiming ws ≡ false
none_claims [] none = refl
none_claims (w ∷ ws) none = by_event w none (λ none. none_claims ws none)
  where
    by_event : (w : Happened) → cons_option (line_of_claim w) (filter_map line_of_claim ws) ≡ [] →
        (filter_map line_of_claim ws ≡ [] → list_any is_claiming ws ≡ false) →
        (is_claiming w || list_any is_claiming ws) ≡ false
    by_event (event.Claim from n line) none later = absurd (line_empty line (filter_map line_of_claim ws) none)
    by_event w none later = later none

some_claims : (ws : List Happened) (line : ℕ) (ls : List ℕ) → filter_map line_of_claim ws ≡ line ∷ ls →
    list_any is_claiming ws ≡ true
some_claims [] line ls some = absurd (line_empty line ls (sym some))
some_claims (w ∷ ws) line ls some = by_event w some (λ some. some_claims ws line ls some)
  where
    by_event : (w : Happened) → cons_option (line_of_claim w) (filter_map line_of_claim ws) ≡ line ∷ ls →
        (filter_map line_of_claim ws ≡ line ∷ ls → list_any is_claiming ws ≡ true) →
        (is_claiming w || list_any is_claiming ws) ≡ true
    by_event (event.Claim from n own) some later = refl
    by_event w some later = later some

no_start : IsOfDeeds is_start
no_start (event.Send to n tag ctx len how line) packet = absurd (false≢true packet)
no_start (event.Post p line) packet = absurd (false≢true packet)
no_start (event.Match number from n cap line) packet = absurd (false≢true packet)
no_start what packet = refl

no_cancelling : IsOfDeeds is_cancelling
no_cancelling (event.Cancel number done) packet = absurd (false≢true packet)
no_cancelling (event.Recall to n) packet = absurd (false≢true packet)
no_cancelling what packet = refl

no_claiming : IsOfDeeds is_claiming
no_claiming (event.Claim from n line) packet = absurd (false≢true packet)
no_claiming what packet = refl

-- a kind of deeds, and of the events that they stand for
abbrev Tells : List Line → (Happened → Bool) → (Deed → Bool) → Type 0
Tells lines test kind =
    (d : Deed) → kind d ≡ true → (test (happening lines d) ≡ true) × (is_answer (happening lines d) ≡ false)

tells_start : (lines : List Line) → Tells lines is_start is_starting_by
tells_start lines (deed.Send to n tag ctx len how line) so = (refl, refl)
tells_start lines (deed.Post r line) so = (refl, refl)
tells_start lines (deed.Match number from n cap line) so = (refl, refl)
tells_start lines (deed.Cancel number done) so = absurd (false≢true so)
tells_start lines (deed.Recall to n) so = absurd (false≢true so)
tells_start lines (deed.Claim from n line) so = absurd (false≢true so)
tells_start lines (deed.Ran line reply) so = absurd (false≢true so)

tells_cancel : (lines : List Line) → Tells lines is_cancelling is_cancelling_by
tells_cancel lines (deed.Cancel number done) so = (refl, refl)
tells_cancel lines (deed.Recall to n) so = (refl, refl)
tells_cancel lines (deed.Send to n tag ctx len how line) so = absurd (false≢true so)
tells_cancel lines (deed.Post r line) so = absurd (false≢true so)
tells_cancel lines (deed.Match number from n cap line) so = absurd (false≢true so)
tells_cancel lines (deed.Claim from n line) so = absurd (false≢true so)
tells_cancel lines (deed.Ran line reply) so = absurd (false≢true so)

tells_claim : (lines : List Line) → Tells lines is_claiming is_claim_any
tells_claim lines (deed.Claim from n line) so = (refl, refl)
tells_claim lines (deed.Send to n tag ctx len how line) so = absurd (false≢true so)
tells_claim lines (deed.Post r line) so = absurd (false≢true so)
tells_claim lines (deed.Match number from n cap line) so = absurd (false≢true so)
tells_claim lines (deed.Cancel number done) so = absurd (false≢true so)
tells_claim lines (deed.Recall to n) so = absurd (false≢true so)
tells_claim lines (deed.Ran line reply) so = absurd (false≢true so)

tells_answer : (lines : List Line) (d : Deed) → is_answer_by d ≡ true → is_answer (happening lines d) ≡ true
tells_answer lines (deed.Ran line reply) so = refl
tells_answer lines (deed.Send to n tag ctx len how line) so = absurd (false≢true so)
tells_answer lines (deed.Post r line) so = absurd (false≢true so)
tells_answer lines (deed.Match number from n cap line) so = absurd (false≢true so)
tells_answer lines (deed.Cancel number done) so = absurd (false≢true so)
tells_answer lines (deed.Recall to n) so = absurd (false≢true so)
tells_answer lines (deed.Claim from n line) so = absurd (false≢true so)

only_answers : (d : Deed) → is_starting_by d ≡ false → is_cancelling_by d ≡ false → is_claim_any d ≡ false →
    is_answer_by d ≡ true
only_answers (deed.Ran line reply) a b c = refl
only_answers (deed.Send to n tag ctx len how line) a b c = absurd (false≢true (sym a))
only_answers (deed.Post r line) a b c = absurd (false≢true (sym a))
only_answers (deed.Match number from n cap line) a b c = absurd (false≢true (sym a))
only_answers (deed.Cancel number done) a b c = absurd (false≢true (sym b))
only_answers (deed.Recall to n) a b c = absurd (false≢true (sym b))
only_answers (deed.Claim from n line) a b c = absurd (false≢true (sym c))

module _ (lines : List Line) (h : List Event) (spot : Spot) (is : IsSpotOf lines h spot) where
  last_own : (d : Deed) → slice_get spot.deeds (length spot.deeds - 1) ≡ Some d →
      (ws : List Happened) × (own_of h ≡ ws ++ happening lines d ∷ [])
  last_own d here =
      let s = split_last spot.deeds d here in (
        map (happening lines) s.0,
        sym is.deeds ∙ ap (λ (ds : List Deed). map (happening lines) ds) s.1
            ∙ map-append (happening lines) s.0 (d ∷ []),
      )

  -- the last deed is not of a kind of which nothing was done
  other_kind : (test : Happened → Bool) (kind : Deed → Bool) → Tells lines test kind → (d : Deed) →
      slice_get spot.deeds (length spot.deeds - 1) ≡ Some d → list_any test (since_command h) ≡ false →
      kind d ≡ false
  other_kind test kind tells d here none =
      not_true (kind d) (λ so.
      let t = tells d so in
      let o = last_own d here in
      false≢true (sym none ∙ last_in test [] h o.0 (happening lines d) o.1 t.1 t.0))

  may_come : (test : Happened → Bool) (kind : Deed → Bool) → Tells lines test kind →
      list_any test (since_command h) ≡ false →
      option_map_or (λ last. not (kind last)) (slice_get spot.deeds (length spot.deeds - 1)) true ≡ true
  may_come test kind tells none = by_last (slice_get spot.deeds (length spot.deeds - 1)) refl
    where
      by_last : (o : Option Deed) → slice_get spot.deeds (length spot.deeds - 1) ≡ o →
          option_map_or (λ last. not (kind last)) o true ≡ true
      by_last None here = refl
      by_last (Some d) here = ap not (other_kind test kind tells d here none)

  pub start_free : starts_since h ≡ [] →
      option_map_or (λ last. not (is_starting_by last)) (slice_get spot.deeds (length spot.deeds - 1)) true ≡ true
  start_free none = may_come is_start is_starting_by (tells_start lines) (none_any is_start (since_command h) none)

  pub cancel_free : cancels_since h ≡ [] →
      option_map_or (λ last. not (is_cancelling_by last)) (slice_get spot.deeds (length spot.deeds - 1)) true ≡ true
  cancel_free none =
      may_come is_cancelling is_cancelling_by (tells_cancel lines) (none_any is_cancelling (since_command h) none)

  pub claim_free : claims_since h ≡ [] →
      option_map_or (λ last. not (is_claim_any last)) (slice_get spot.deeds (length spot.deeds - 1)) true ≡ true
  claim_free none = may_come is_claiming is_claim_any (tells_claim lines) (none_claims (since_command h) none)

  -- the next command has done nothing yet
  pub idle : starts_since h ≡ [] → cancels_since h ≡ [] → claims_since h ≡ [] → is_idle_at spot ≡ true
  idle starts cancels claims = by_last (slice_get spot.deeds (length spot.deeds - 1)) refl
    where
      by_last : (o : Option Deed) → slice_get spot.deeds (length spot.deeds - 1) ≡ o →
          option_map_or is_answer_by o true ≡ true
      by_last None here = refl
      by_last (Some d) here =
          only_answers d
          (other_kind is_start is_starting_by (tells_start lines) d here
          (none_any is_start (since_command h) starts))
          (other_kind is_cancelling is_cancelling_by (tells_cancel lines) d here
          (none_any is_cancelling (since_command h) cancels))
          (other_kind is_claiming is_claim_any (tells_claim lines) d here (none_claims (since_command h) claims))

  -- .. or has
  busy : (test : Happened → Bool) → IsOfDeeds test → list_any test (since_command h) ≡ true →
      is_idle_at spot ≡ false
  busy test never some = by_last (slice_get spot.deeds (length spot.deeds - 1)) refl
    where
      by_last : (o : Option Deed) → slice_get spot.deeds (length spot.deeds - 1) ≡ o →
          option_map_or is_answer_by o true ≡ false
      by_last None here =
          absurd (false≢true (sym (none_added test never [] h
          (sym is.deeds ∙ ap (λ (ds : List Deed). map (happening lines) ds) (no_last spot.deeds here)) refl) ∙ some))
      by_last (Some d) here =
          not_true (is_answer_by d) (λ so.
          let o = last_own d here in
          false≢true (sym (emptied test never [] h o.0 (happening lines d) o.1 (tells_answer lines d so)) ∙ some))

  pub busy_start : (x : Happened) (xs : List Happened) → starts_since h ≡ x ∷ xs → is_idle_at spot ≡ false
  busy_start x xs some = busy is_start no_start (some_any is_start (since_command h) x xs some)

  pub busy_cancel : (x : Happened) (xs : List Happened) → cancels_since h ≡ x ∷ xs → is_idle_at spot ≡ false
  busy_cancel x xs some = busy is_cancelling no_cancelling (some_any is_cancelling (since_command h) x xs some)

  pub busy_claim : (line : ℕ) (ls : List ℕ) → claims_since h ≡ line ∷ ls → is_idle_at spot ≡ false
  busy_claim line ls some = busy is_claiming no_claiming (some_claims (since_command h) line ls some)
