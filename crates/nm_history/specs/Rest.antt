-- What is over at a rank that has nothing left to send. MPI 3.1, 3.4 (a standard send leaves by itself,
-- a synchronous one once its receive has begun).
use Rattle.std.specs.Prelude.{◌==◌, ◌&&◌, not, IsTrue, List, filter_map}
use Rattle.std.specs.List.{AllByRecursion}
use Rattle.std.specs.Bool.{OnTrue}
use Rattle.nm_history.specs.declared.events.Event.{Event}
use Rattle.nm_history.specs.Sends.{sent_of, is_ask}
use Rattle.nm_history.specs.Happens.{happened, is_out, is_whole}
use Rattle.nm_history.specs.Matching.{matched_pairs}

-- each eager message of a history has left
abbrev pub EagerHaveLeft : List Event → Type 0
EagerHaveLeft h =
    AllByRecursion
    (λ s. OnTrue (not (is_ask s.how)) (IsTrue (happened (is_out s.to s.n) h)))
    (filter_map (λ e. sent_of e.stamp e.what) h)

-- each message of a pair that is empty and was asked for is here
abbrev pub EmptyAreHere : List Event → Type 0
EmptyAreHere h =
    AllByRecursion
    (λ pair. OnTrue (is_ask pair.arrival.env.how && pair.arrival.env.len == 0)
    (IsTrue (happened (is_whole pair.arrival.env.from pair.arrival.n) h)))
    (matched_pairs h)
