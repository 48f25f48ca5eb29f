-- Why a run has no outcome, where it is passed on.
use Rattle.std.proofs.Common.{◌≡◌, subst, sym}
use Rattle.std.specs.Prelude.{Err, Ok, Result}
use Rattle.std.specs.Result.{IfErr, IsErrAnd}
use Rattle.nm_programs.specs.declared.stops.Stop.{Stop}

-- what holds of an error holds where it is passed on
pub passed_on : {A : Type 0} (r : Result A Stop) (why : Stop) (Q : Stop → Type 0) → IsErrAnd r (λ w. w ≡ why) → Q why →
    IfErr r Q
passed_on (Ok a) why Q is holds = tt
passed_on (Err w) why Q is holds = subst (λ (v : Stop). Q v) (sym is) holds
