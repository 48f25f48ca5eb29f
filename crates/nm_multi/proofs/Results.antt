-- What the answers of a rank say of its requests.
use Rattle.std.proofs.Common.{◌≡◌, Bool, false, Option, None, Some, refl, sym, ◌∙◌}
use Rattle.std.specs.Prelude.{◌↔◌, IfSome, IsSomeAnd, Ok, Err, Result}
use Rattle.nm_request.specs.declared.Kind.{Kind}
use Rattle.nm_request.specs.declared.NoSuch.{NoSuch}
use Rattle.nm_types.specs.declared.answers.Answer.{Answer}
use Rattle.nm_rank.specs.declared.answers.FinishFault.{FinishFault}
use Rattle.nm_rank.specs.declared.answers.FinishFault.TheVariants as fault
use Rattle.nm_rank.specs.declared.answers.State.{State}

-- a live request has this state
pub tested : (o : Option Kind) (r : Result State NoSuch) (s : State) (f : Kind → State) →
    (o ≡ None → r ≡ Err (record {})) → IfSome o (λ k. r ≡ Ok (f k)) → r ≡ Ok s →
    IsSomeAnd o (λ k. s ≡ f k)
tested None r s f none some is = absurd (clash (sym is ∙ none refl)) where
  clash : ◌≡◌ {A = Result State NoSuch} (Ok s) (Err (record {})) → ⊥
  clash e = cc
tested (Some k) r s f none some is = same (sym is ∙ some) where
  same : {t : State} → ◌≡◌ {A = Result State NoSuch} (Ok s) (Ok t) → s ≡ t
  same e = cc

-- a live request is not complete
pub unfinished : (o : Option Kind) (r : Result Answer FinishFault) (f : Kind → Bool) →
    (o ≡ None → r ≡ Err fault.NoSuch) → IfSome o (λ k. (f k ≡ false) ↔ (r ≡ Err fault.NotComplete)) →
    r ≡ Err fault.NotComplete → IsSomeAnd o (λ k. f k ≡ false)
unfinished None r f none some is = absurd (clash (sym is ∙ none refl)) where
  clash : ◌≡◌ {A = Result Answer FinishFault} (Err fault.NotComplete) (Err fault.NoSuch) → ⊥
  clash e = cc
unfinished (Some k) r f none some is = some.1 is
