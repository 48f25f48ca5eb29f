-- What there is of the events so far, with one event more, and in the end.
use Rattle.std.proofs.Common.{◌≡◌, ℕ, ◌+◌, ◌-◌, ◌<◌, ◌^◌, Bool, Option, Some, None, List, [], ◌∷◌, ◌++◌, length}
use Rattle.std.proofs.Common.{take, refl, ◌∙◌, ap, subst, arith, length-append}
use Rattle.std.specs.List.{cons_option}
use Rattle.std.specs.Option.{option_map_or}
use Rattle.std.proofs.lemmas.List.{take_all}
use Rattle.nm_history.specs.declared.events.Event.{Event}
use Rattle.nm_history.specs.declared.events.Happened.{Happened}
use Rattle.nm_history.specs.RankRun.{ran_lines, ran_of}
use Rattle.nm_history.proofs.RankRunLemmas.{ran_lines-push}
use Rattle.nm_lookups.specs.Deciding.{Decides}
use Rattle.nm_lookups.specs.SinceAnswer.{of_kind}
use Rattle.nm_check_rank.specs.OwnBreaks.{KeepsInTheEnd}
use Rattle.nm_check_rank.specs.declared.clauses.OwnClause.{OwnClause}
use Rattle.nm_check_rank.specs.declared.clauses.OwnClause.TheVariants as own
use Rattle.nm_check_rank.proofs.CountLemmas.{few_given}

-- whether none is left
pub left_decided : (p : Happened → Bool) (h : List Event) (r : Bool) →
    Decides r (of_kind p (take (length h) h) ≡ []) → Decides r (of_kind p h ≡ [])
left_decided p h r right =
    subst (λ (g : List Event). Decides r (of_kind p g ≡ [])) (take_all (length h) h (omega arith)) right

-- how many commands ran
pub ran_next : (h : List Event) (e : Event) (ran r : ℕ) (o : Option ℕ) → o ≡ ran_of e.what →
    ran ≡ length (ran_lines h) → length h < 2 ^ 64 - 1 →
    (ran < 2 ^ 64 - 1 → r ≡ ran + option_map_or (λ l. 1) o 0) → r ≡ length (ran_lines (h ++ e ∷ []))
ran_next h e ran r o line are short given =
    let few = few_given (λ (x : Event). ran_of x.what) h in
    let more = given (omega (arith, few, are, short)) in
    let all : length (ran_lines (h ++ e ∷ [])) ≡ length (ran_lines h) + length (cons_option (ran_of e.what) []) =
    ap length (ran_lines-push h e) ∙ length-append (ran_lines h) (cons_option (ran_of e.what) []) in
    let one : option_map_or (λ (l : ℕ). 1) o 0 ≡ length (cons_option (ran_of e.what) []) =
    ap (λ (x : Option ℕ). option_map_or (λ (l : ℕ). 1) x 0) line ∙ counted (ran_of e.what) in
    omega (arith, more, all, one, are)
  where
    counted : (x : Option ℕ) → option_map_or (λ (l : ℕ). 1) x 0 ≡ length (cons_option x [])
    counted None = refl
    counted (Some l) = refl

-- the other rules ask nothing of the end
pub no_end_rule : (at : ℕ) (h : List Event) (c : OwnClause) → (c ≡ own.Answers → ⊥) → (c ≡ own.Starts → ⊥) →
    (c ≡ own.Cancels → ⊥) → (c ≡ own.Claims → ⊥) → KeepsInTheEnd at c h
no_end_rule at h own.Answers a s c l = absurd (a refl)
no_end_rule at h own.Starts a s c l = absurd (s refl)
no_end_rule at h own.Cancels a s c l = absurd (c refl)
no_end_rule at h own.Claims a s c l = absurd (l refl)
no_end_rule at h c' a s c l = tt
