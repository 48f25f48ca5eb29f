-- The state of all ranks, and what deeds make of it.
use Rattle.std.specs.Prelude.{ℕ, List, replicate}
use Rattle.std.specs.List.{slice_get, slice_set}
use Rattle.std.specs.Option.{option_map_or}
use Rattle.nm_lawful.specs.declared.messages.Act.{Act}
use Rattle.nm_lawful.specs.declared.messages.Act.TheVariants as act
use Rattle.nm_lawful.specs.declared.messages.Standing.TheVariants as standing
use Rattle.nm_lawful.specs.declared.states.Deed.{Deed}
use Rattle.nm_lawful.specs.declared.states.Deed.TheVariants as deed
use Rattle.nm_lawful.specs.Ranks.{RankState, first_rank, ran_at, with_standing, without_message}

-- so many ranks, none of which did anything
abbrev pub first_state : ℕ → List RankState
first_state ranks = replicate ranks first_rank

-- one rank is changed
abbrev pub with_rank : (RankState → RankState) → ℕ → List RankState → List RankState
with_rank f rank state = option_map_or (λ a. slice_set state rank (f a)) (slice_get state rank) state

-- what an act changes of the rank whose message it receives
abbrev pub received_by : Act → List RankState → List RankState
received_by (act.Receive q m cap message) state = with_rank (without_message message.place) message.from state
received_by _ state = state

-- the state after a deed
abbrev pub after_lem : List RankState → Deed → List RankState
after_lem state (deed.Run rank place next a) = received_by a (with_rank (ran_at place next a) rank state)
after_lem state (deed.Pair message place cap) =
    with_rank (with_standing place (standing.Taken cap message)) message.to
    (with_rank (without_message message.place) message.from state)
after_lem state (deed.Withdraw message) =
    with_rank (with_standing message.place standing.Withdrawn) message.from
    (with_rank (without_message message.place) message.from state)
after_lem state (deed.Off rank place) = with_rank (with_standing place standing.Off) rank state
