-- Whether two states are the same.
use Rattle.std.specs.Prelude.{◌==◌, ◌&&◌, Bool, List}
use Rattle.std.specs.Cmp.Lexicographic.{pointwise}
use Rattle.nm_lawful.specs.contracts.messages.ClaimPartialEq.TheImpl.{ghosts as claim_eq}
use Rattle.nm_lawful.specs.contracts.messages.MessagePartialEq.TheImpl.{ghosts as message_eq}
use Rattle.nm_lawful.specs.contracts.messages.RequestPartialEq.TheImpl.{ghosts as request_eq}
use Rattle.nm_lawful.specs.Ranks.{RankState}

-- all that two ranks have is the same
abbrev pub same_ranks : RankState → RankState → Bool
same_ranks a b =
    a.at == b.at
    && (pointwise request_eq.eq a.requests b.requests
    && (pointwise message_eq.eq a.outgoing b.outgoing && pointwise claim_eq.eq a.claims b.claims))

-- .. so are their states
abbrev pub same_states : List RankState → List RankState → Bool
same_states a b = pointwise same_ranks a b
