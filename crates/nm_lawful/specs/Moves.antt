-- The moves of the machine. There are no arrivals: a message is pending from its send to its pair. MPI 3.1, 3.5.
use Rattle.std.specs.Prelude.{◌≡◌, ℕ, ◌+◌, ◌==◌, ◌&&◌, Bool, true, false, not, nat_lt}
use Rattle.std.specs.Prelude.{if◌then◌else◌, Option, Some, None, List, drop, option_and_then, option_map}
use Rattle.std.specs.List.{position, slice_get}
use Rattle.std.specs.Option.{option_map_or}
use Rattle.nm_types.specs.declared.answers.Answer.{Answer}
use Rattle.nm_types.specs.declared.scripts.Line.{Line}
use Rattle.nm_lawful.specs.declared.messages.Message.{Message}
use Rattle.nm_lawful.specs.declared.messages.Pattern.{Pattern}
use Rattle.nm_lawful.specs.declared.messages.Request.{Request}
use Rattle.nm_lawful.specs.declared.messages.Standing.{Standing}
use Rattle.nm_lawful.specs.declared.messages.Standing.TheVariants as standing
use Rattle.nm_lawful.specs.declared.moves.Move.{Move}
use Rattle.nm_lawful.specs.declared.moves.Move.TheVariants as move
use Rattle.nm_lawful.specs.declared.moves.Said.{Said}
use Rattle.nm_lawful.specs.declared.states.Deed.{Deed}
use Rattle.nm_lawful.specs.declared.states.Deed.TheVariants as deed
use Rattle.nm_lawful.specs.Ranks.{RankState, cap_of_lem, first_to_lem, is_claimed_lem, pattern_of_lem}
use Rattle.nm_lawful.specs.Ranks.{receiver_of_lem, request_at_lem}
use Rattle.nm_lawful.specs.Replies.{act_of_lem}
use Rattle.nm_lawful.specs.States.{after_lem}

-- What is told: at the place of each line its answer, with its number in the order of time; and of ranks, by
-- number, at which line each waits in the end, or that it is at its end.
pub record Report : Type 0 where
  pub said : List (Option Said)
  pub waits : List (Option ℕ)

-- .. these answers and waits
abbrev pub report_lem : List (Option Said) → List (Option ℕ) → Report
report_lem said waits = record { said = said; waits = waits }

-- the answer counts: of all, or of those before a moment
abbrev pub counts_lem : Option ℕ → ℕ → Bool
counts_lem None at = true
counts_lem (Some moment) at = nat_lt at moment

-- the answer, if it counts
abbrev pub counted_lem : Option ℕ → Said → Option Answer
counted_lem until said = if counts_lem until said.at then Some said.answer else None

-- what is told of the line at a place
abbrev pub told_at_lem : Report → Option ℕ → ℕ → Option Answer
told_at_lem told until place = option_and_then (λ o. option_and_then (counted_lem until) o) (slice_get told.said place)

-- the place of the first line of a rank from one on
abbrev pub next_of_lem : List Line → ℕ → ℕ → Option ℕ
next_of_lem lines rank at = option_map (λ k. at + k) (position (λ l. l.rank == rank) (drop at lines))

-- a rank runs its next line, with the answer that is told of it
abbrev pub run_by_lem : List Line → Report → Option ℕ → List RankState → ℕ → RankState → Option Deed
run_by_lem lines told until state i rank =
    option_and_then
    (λ place. option_and_then
    (λ l. option_map (λ a. deed.Run i place (place + 1) a)
    (act_of_lem lines state i rank place l.command (told_at_lem told until place)))
    (slice_get lines place))
    (next_of_lem lines i rank.at)

-- the message is the first of its sender that is pending and that the pattern selects (3.5)
abbrev pub is_first_lem : RankState → RankState → Message → Pattern → Bool
is_first_lem sender receiver m p =
    option_map_or (λ first. first.place == m.place) (first_to_lem sender m.to receiver p) false

-- a message and an open receive become a pair
abbrev pub pair_by_lem : RankState → RankState → Message → Request → Option Deed
pair_by_lem sender receiver m r =
    option_and_then
    (λ p. if is_first_lem sender receiver m p then Some (deed.Pair m r.place (cap_of_lem r.standing)) else None)
    (pattern_of_lem r.standing)

-- .. the oldest open receive of its receiver that selects it (3.5)
abbrev pub pair_of_lem : List RankState → RankState → Message → Option Deed
pair_of_lem state sender m =
    option_and_then
    (λ receiver. option_and_then (pair_by_lem sender receiver m) (receiver_of_lem receiver m))
    (slice_get state m.to)

-- a send stands so that it may be withdrawn
abbrev pub is_recalled_lem : Standing → Bool
is_recalled_lem (standing.Recalled sync) = true
is_recalled_lem _ = false

-- a message is withdrawn, if its sender wants that and no handle has it (3.8.4)
abbrev pub withdrawal_of_lem : List RankState → RankState → Message → Option Deed
withdrawal_of_lem state sender m =
    option_and_then
    (λ receiver. if not (is_claimed_lem receiver m)
    && option_map_or (λ r. is_recalled_lem r.standing) (request_at_lem sender m.place) false then Some (deed.Withdraw m) else None)
    (slice_get state m.to)

-- a receive is cancelled, if its rank wants that (3.8.4)
abbrev pub off_by_lem : ℕ → ℕ → Standing → Option Deed
off_by_lem i place (standing.Marked pattern cap) = Some (deed.Off i place)
off_by_lem i place _ = None

-- what is done with the message of a rank at a place
abbrev pub of_message_lem : (RankState → Message → Option Deed) → List RankState → ℕ → ℕ → Option Deed
of_message_lem does state i j =
    option_and_then (λ sender. option_and_then (does sender) (slice_get sender.outgoing j)) (slice_get state i)

-- what a move does, if it can be made
abbrev pub deed_of_lem : List Line → Report → Option ℕ → List RankState → Move → Option Deed
deed_of_lem lines told until state (move.Run i) =
    option_and_then (run_by_lem lines told until state i) (slice_get state i)
deed_of_lem lines told until state (move.Take i j) = of_message_lem (pair_of_lem state) state i j
deed_of_lem lines told until state (move.Withdraw i j) = of_message_lem (withdrawal_of_lem state) state i j
deed_of_lem lines told until state (move.Off i j) =
    option_and_then (λ rank. option_and_then (λ r. off_by_lem i r.place r.standing) (slice_get rank.requests j)) (slice_get state i)

-- the state behind a move
abbrev pub next_lem : List Line → Report → Option ℕ → List RankState → Move → Option (List RankState)
next_lem lines told until state m = option_map (after_lem state) (deed_of_lem lines told until state m)

-- a move leads from one state to another
abbrev pub Goes : List Line → Report → Option ℕ → List RankState → List RankState → Type 0
Goes lines told until s t = (m : Move) × (next_lem lines told until s m ≡ Some t)
