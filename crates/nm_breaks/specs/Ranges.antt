-- Numbers within their types.
use Rattle.std.specs.Prelude.{◌<◌, ◌^◌}
use Rattle.std.specs.List.{AllByRecursion}
use Rattle.nm_types.specs.declared.messages.Arrival.{Arrival}
use Rattle.nm_types.specs.declared.messages.Post.{Post}
use Rattle.nm_history.specs.Quiescence.{Ended}
use Rattle.nm_trace.specs.Traces.{EventIn, PeerIn, PickIn, WaitsIn}

-- a receive
abbrev pub PostIn : Post → Type 0
PostIn post =
    (post.number < 2 ^ 64) × PeerIn post.from × PickIn post.tag × (post.ctx < 2 ^ 8) × (post.cap < 2 ^ 32)

-- an arrival
abbrev pub ArrivalIn : Arrival → Type 0
ArrivalIn a =
    (a.env.from < 2 ^ 8) × (a.n < 2 ^ 64) × (a.env.tag < 2 ^ 16) × (a.env.ctx < 2 ^ 8) × (a.env.len < 2 ^ 32)

-- a rank's history, and where it waits
abbrev pub ReadIn : Ended → Type 0
ReadIn rank = AllByRecursion EventIn rank.events × WaitsIn rank.waits
