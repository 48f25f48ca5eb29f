-- The answers of a history that went on.
use Rattle.std.proofs.Common.{◌≡◌, ◌⊎◌, ⊎_elim, inl, inr, ◌<◌, ◌+◌, ◌-◌, ℕ, suc, zero, Option, Some, None, List, [], ◌∷◌}
use Rattle.std.proofs.Common.{◌++◌, length, length-append, refl, sym, ap, ◌∙◌, subst, arith, append-nil}
use Rattle.std.specs.Prelude.{IfSome, IsSome, is_some, option_and_then, option_map, option_to_list}
use Rattle.std.specs.List.{cons_option, slice_get}
use Rattle.std.proofs.lemmas.Grind.{flat_map-append}
use Rattle.std.proofs.lemmas.List.Elements.{filter_map-append}
use Rattle.nm_types.specs.declared.answers.Answer.{Answer}
use Rattle.nm_history.specs.declared.events.Event.{Event}
use Rattle.nm_history.specs.declared.events.Happened.{Happened}
use Rattle.nm_history.specs.declared.events.Happened.TheVariants.{Arrive, Cancel, Claim, Match, Out, Post, Ran, Recall, Send}
use Rattle.nm_history.specs.declared.events.Happened.TheVariants.{Undone, Whole, Withdraw}
use Rattle.nm_history.specs.RankRun.{ran_lines, ran_of}
use Rattle.nm_history.specs.Totals.{answer_in, answers_given}
use Rattle.nm_process.specs.LastAnswer.{last_answer}

what_is : (w : Happened) →
    ((line : ℕ) × (x : Answer) × (w ≡ Ran line x)) ⊎ ((ran_of w ≡ None) × (answer_in w ≡ []))
what_is (Send to n tag ctx len how line) = inr (refl, refl)
what_is (Post p line) = inr (refl, refl)
what_is (Arrive a) = inr (refl, refl)
what_is (Whole from n) = inr (refl, refl)
what_is (Out to n) = inr (refl, refl)
what_is (Cancel number done) = inr (refl, refl)
what_is (Recall to n) = inr (refl, refl)
what_is (Withdraw from n done) = inr (refl, refl)
what_is (Undone to n done) = inr (refl, refl)
what_is (Claim from n line) = inr (refl, refl)
what_is (Match number from n cap line) = inr (refl, refl)
what_is (Ran line x) = inl (line, x, refl)

some_ran : (w : Happened) (line : ℕ) (x : Answer) (rest : List ℕ) → w ≡ Ran line x → cons_option (ran_of w) rest ≡ [] →
    ⊥
some_ran w line x rest is none = let never : line ∷ rest ≡ [] = subst
    (λ (v : Happened). cons_option (ran_of v) rest ≡ [])
    is none in cc

-- where no command ran, no answer was given
none_given : (h : List Event) → ran_lines h ≡ [] → answers_given h ≡ []
none_given [] none = refl
none_given (e ∷ h) none = ⊎_elim
    (λ r. absurd (some_ran e.what r.0 r.1 (ran_lines h) r.2 none))
    (λ o. ap (λ (xs : List Answer). xs ++ answers_given h) o.1
    ∙ none_given h (subst (λ (m : Option ℕ). cons_option m (ran_lines h) ≡ []) o.0 none)) (what_is e.what)

none_at : (h : List Event) (k : ℕ) → ran_lines h ≡ [] →
    IsSome (option_and_then (λ (e : Event). slice_get (answer_in e.what) 0) (slice_get h k)) → ⊥
none_at [] k none some = cc
none_at (e ∷ h) zero none some = ⊎_elim
    (λ r. some_ran e.what r.0 r.1 (ran_lines h) r.2 none)
    (λ o. let never = subst (λ (xs : List Answer). IsSome (slice_get xs 0)) o.1 some in cc) (what_is e.what)
none_at (e ∷ h) (suc k) none some = ⊎_elim
    (λ r. some_ran e.what r.0 r.1 (ran_lines h) r.2 none)
    (λ o. none_at h k (subst (λ (m : Option ℕ). cons_option m (ran_lines h) ≡ []) o.0 none) some) (what_is e.what)

-- the last answer is that of the last events
last_tail : (e : Event) (h : List Event) → 0 < length h → last_answer (e ∷ h) ≡ last_answer h
last_tail e h some =
    let place : length (e ∷ h) - 1 ≡ suc (length h - 1) = omega (arith, some) in
    ap (λ (k : ℕ). option_and_then (λ (x : Event). slice_get (answer_in x.what) 0) (slice_get (e ∷ h) k)) place

last_behind : (h more : List Event) → 0 < length more → last_answer (h ++ more) ≡ last_answer more
last_behind [] more some = refl
last_behind (e ∷ h) more some =
    let long = length-append h more in
    last_tail e (h ++ more) (omega (arith, long, some)) ∙ last_behind h more some

-- where one command ran, whose answer came last, that is the only answer
last_is : (h : List Event) (line : ℕ) → ran_lines h ≡ line ∷ [] → IsSome (last_answer h) →
    answers_given h ≡ option_to_list (last_answer h)
last_is [] line one some = cc
last_is (e ∷ []) line one some = by (what_is e.what) where
  by : ((l : ℕ) × (x : Answer) × (e.what ≡ Ran l x)) ⊎ ((ran_of e.what ≡ None) × (answer_in e.what ≡ [])) →
      answers_given (e ∷ []) ≡ option_to_list (last_answer (e ∷ []))
  by (inl r) = subst (λ (w : Happened). (answer_in w ++ []) ≡ option_to_list (slice_get (answer_in w) 0)) (sym r.2) refl
  by (inr o) = let never : [] ≡ line ∷ [] = subst (λ (m : Option ℕ). cons_option m [] ≡ line ∷ []) o.0 one in cc
last_is (e ∷ x ∷ h) line one some = by (λ sole last. last_is (x ∷ h) line sole last) (what_is e.what) where
  tail : last_answer (e ∷ x ∷ h) ≡ last_answer (x ∷ h)
  tail = last_tail e (x ∷ h) (omega arith)

  other : (l : ℕ) (xs : List ℕ) → l ∷ xs ≡ line ∷ [] → xs ≡ []
  other l xs is = cc

  by : (ran_lines (x ∷ h) ≡ line ∷ [] → IsSome (last_answer (x ∷ h)) →
      answers_given (x ∷ h) ≡ option_to_list (last_answer (x ∷ h))) →
      ((l : ℕ) × (a : Answer) × (e.what ≡ Ran l a)) ⊎ ((ran_of e.what ≡ None) × (answer_in e.what ≡ [])) →
      answers_given (e ∷ x ∷ h) ≡ option_to_list (last_answer (e ∷ x ∷ h))
  by later (inl r) = absurd (none_at (x ∷ h) (length (x ∷ h) - 1)
      (other r.0 (ran_lines (x ∷ h))
      (subst (λ (w : Happened). cons_option (ran_of w) (ran_lines (x ∷ h)) ≡ line ∷ []) r.2 one))
      (subst (λ (o : Option Answer). IsSome o) tail some))
  by later (inr o) = ap (λ (xs : List Answer). xs ++ answers_given (x ∷ h)) o.1
      ∙ later (subst (λ (m : Option ℕ). cons_option m (ran_lines (x ∷ h)) ≡ line ∷ []) o.0 one)
      (subst (λ (o : Option Answer). IsSome o) tail some)
      ∙ ap (λ (o : Option Answer). option_to_list o) (sym tail)

cancel : (xs ys zs : List ℕ) → xs ++ ys ≡ xs ++ zs → ys ≡ zs
cancel [] ys zs same = same
cancel (x ∷ xs) ys zs same = cancel xs ys zs (rest x same) where
  rest : {ks ls : List ℕ} (y : ℕ) → y ∷ ks ≡ y ∷ ls → ks ≡ ls
  rest y e = cc

-- a history with no command more
pub none_more : (h more : List Event) → ran_lines (h ++ more) ≡ ran_lines h →
    answers_given (h ++ more) ≡ answers_given h
none_more h more same =
    let none = cancel (ran_lines h) (ran_lines more) []
    (sym (filter_map-append (λ (e : Event). ran_of e.what) h more) ∙ same ∙ sym (append-nil (ran_lines h))) in
    flat_map-append (λ (e : Event). answer_in e.what) h more
    ∙ ap (λ (xs : List Answer). answers_given h ++ xs) (none_given more none) ∙ append-nil (answers_given h)

-- and with one more
pub one_more_given : (h more : List Event) (line : ℕ) → ran_lines (h ++ more) ≡ ran_lines h ++ line ∷ [] →
    IsSome (last_answer (h ++ more)) →
    answers_given (h ++ more) ≡ answers_given h ++ option_to_list (last_answer (h ++ more))
one_more_given h [] line one some =
    let none = cancel (ran_lines h) [] (line ∷ []) (append-nil (ran_lines h)
    ∙ ap (λ (k : List Event). ran_lines k) (sym (append-nil h)) ∙ one) in cc
one_more_given h (x ∷ more) line one some =
    let sole = cancel (ran_lines h) (ran_lines (x ∷ more)) (line ∷ [])
    (sym (filter_map-append (λ (e : Event). ran_of e.what) h (x ∷ more)) ∙ one) in
    let last = last_behind h (x ∷ more) (omega arith) in
    flat_map-append (λ (e : Event). answer_in e.what) h (x ∷ more)
    ∙ ap (λ (xs : List Answer). answers_given h ++ xs)
    (last_is (x ∷ more) line sole (subst (λ (o : Option Answer). IsSome o) last some)
    ∙ ap (λ (o : Option Answer). option_to_list o) (sym last))

-- a source that was told one more
pub told_more : (o p : Option (List Answer)) (x : Answer) (old new : List Answer) →
    p ≡ option_map (λ (xs : List Answer). xs ++ x ∷ []) o → IfSome o (λ xs. xs ≡ old) → new ≡ old ++ x ∷ [] →
    IfSome p (λ xs. xs ≡ new)
told_more None p x old new is told more = subst (λ (q : Option (List Answer)). IfSome q (λ xs. xs ≡ new)) (sym is) tt
told_more (Some as') p x old new is told more =
    subst (λ (q : Option (List Answer)). IfSome q (λ xs. xs ≡ new)) (sym is)
    (ap (λ (xs : List Answer). xs ++ x ∷ []) told ∙ sym more)

pub hears_more : (o p : Option (List Answer)) (x : Answer) → p ≡ option_map (λ (xs : List Answer). xs ++ x ∷ []) o →
    is_some p ≡ is_some o
hears_more None p x is = ap is_some is
hears_more (Some as') p x is = ap is_some is
