-- The result of a request of which the kind is known.
use Rattle.std.proofs.Common.{◌≡◌, Option, Some, subst}
use Rattle.std.specs.Prelude.{IsSomeAnd}
use Rattle.nm_types.specs.declared.answers.Answer.{Answer}
use Rattle.nm_request.specs.declared.Kind.{Kind}
use Rattle.nm_request.specs.declared.Req.{Req}
use Rattle.nm_request.specs.Requests.{kind_of}
use Rattle.nm_rank.specs.Ranks.{RankView}
use Rattle.nm_rank.specs.Requests.{Finishes, IsResult}

-- what a request of this kind gave is its result
pub finished_as : (old new : RankView) (r : Req) (answer : Answer) (k : Kind) →
    kind_of old.requests r ≡ Some k → Finishes r answer old new → IsResult old answer k
finished_as old new r answer k is ends =
    subst (λ (o : Option Kind). IsSomeAnd o (IsResult old answer)) is ends.gives
