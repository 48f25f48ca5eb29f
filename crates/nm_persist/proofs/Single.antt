-- There is one request at most at the other end of a request.
use Rattle.std.proofs.Common.{◌≡◌, ℕ, Option, List, sym, ◌∙◌, ap}
use Rattle.std.specs.Prelude.{option_map}
use Rattle.nm_plans.specs.declared.lines.PlanLine.{PlanLine}
use Rattle.nm_plans.specs.declared.requests.ends.End.{End}
use Rattle.nm_plans.specs.declared.requests.requests.Owner.{Owner}
use Rattle.nm_plans.specs.declared.requests.requests.Request.{Request}
use Rattle.nm_persist.specs.Plans.{IsPlan}
use Rattle.nm_persist.specs.Starts.{IsOther}
use Rattle.nm_persist.proofs.EndsMade.{alone, kind_by}

pub one_other : (ranks : ℕ) (lines : List PlanLine) (e : End) (a b : Owner) → IsPlan ranks lines → IsOther lines e a →
    IsOther lines e b → a ≡ b
one_other ranks lines e a b plan first second =
    alone ranks lines (record { range = plan.lines_in_range; sound = plan.sound }) a b (kind_by a.rank first.request)
    (kind_by b.rank second.request)
    (ap (λ (o : Option Request). option_map (kind_by a.rank) o) first.made)
    (ap (λ (o : Option Request). option_map (kind_by b.rank) o) second.made)
    (first.other ∙ sym second.other)
