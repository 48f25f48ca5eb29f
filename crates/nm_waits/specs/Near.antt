-- What stands against a need: the messages that came and do not fit, or went elsewhere; the receives that are open and
-- do not fit.
use Rattle.std.specs.Prelude.{ℕ, ◌==◌, ◌&&◌, if◌then◌else◌, Option, Some, None, List, [], ◌∷◌, find}
use Rattle.std.specs.Prelude.{filter_map, map}
use Rattle.std.specs.List.{list_any}
use Rattle.std.specs.Option.{option_map_or}
use Rattle.nm_types.specs.declared.messages.Arrival.{Arrival}
use Rattle.nm_types.specs.declared.messages.Peer.{Peer}
use Rattle.nm_types.specs.declared.messages.TagPick.{TagPick}
use Rattle.nm_history.specs.declared.plain.Pair.{Pair}
use Rattle.nm_history.specs.Matching.{is_of_message}
use Rattle.nm_history.specs.Selection.{matches_source, matches_tag}
use Rattle.nm_outcomes.specs.declared.spots.deeds.Deed.{Deed}
use Rattle.nm_outcomes.specs.declared.spots.deeds.Deed.TheVariants as deed
use Rattle.nm_outcomes.specs.RankStates.{Spot, is_closed_at, is_that}
use Rattle.nm_waits.specs.declared.near.Fit.{Fit}
use Rattle.nm_waits.specs.declared.near.NearMessage.{NearMessage}
use Rattle.nm_waits.specs.declared.near.NearReceive.{NearReceive}
use Rattle.nm_waits.specs.declared.near.Standing.{Standing}
use Rattle.nm_waits.specs.declared.near.Standing.TheVariants.{Free, Taken, Claimed, Withdrawn}

-- which fields of a message's envelope a receive or a probe selects (MPI 3.1, 3.2.4)
abbrev pub fit_of : Peer → TagPick → ℕ → Arrival → Fit
fit_of from tag ctx a = record {
  source = matches_source from a.env.from;
  tag = matches_tag tag a.env.tag;
  context = ctx == a.env.ctx;
}

-- the line of a deed that starts the receive with a number
abbrev pub receive_line : ℕ → Deed → Option ℕ
receive_line number (deed.Post r line) = if r.number == number then Some line else None
receive_line number (deed.Match own from n cap line) = if own == number then Some line else None
receive_line number _ = None

-- the line of a deed that claims a message
abbrev pub claim_line : ℕ → ℕ → Deed → Option ℕ
claim_line from n (deed.Claim from' n' line) = if from' == from && n' == n then Some line else None
claim_line from n _ = None

-- the line of a deed that sends message n to a rank
abbrev pub send_line : ℕ → ℕ → Deed → Option ℕ
send_line to n (deed.Send to' n' tag ctx len how line) = if to' == to && n' == n then Some line else None
send_line to n _ = None

-- what the first of some deeds says of which this says something
abbrev pub first_said : (Deed → Option ℕ) → List Deed → Option ℕ
first_said f [] = None
first_said f (d ∷ deeds) = option_map_or (λ line. Some line) (f d) (first_said f deeds)

-- where a message stands that was not received: a matched probe claimed it, its sender withdrew it, or it is free
abbrev pub standing_unpaired : Spot → Arrival → Standing
standing_unpaired spot a =
    option_map_or (λ line. Claimed line)
    (first_said (claim_line a.env.from a.n) spot.deeds)
    (if list_any (is_that a.env.from a.n) spot.withdrawn then Withdrawn else Free)

-- where a message stands that came: a receive took it, or so
abbrev pub standing_of : Spot → Arrival → Standing
standing_of spot a =
    option_map_or (λ (p : Pair). Taken (first_said (receive_line p.number) spot.deeds))
    (find (is_of_message a.env.from a.n) spot.pairs) (standing_unpaired spot a)

-- a message that came, with the fields that are selected and where it stands
abbrev pub near_message : Spot → Peer → TagPick → ℕ → Arrival → NearMessage
near_message spot from tag ctx a = record { message = a; fit = fit_of from tag ctx a; standing = standing_of spot a }

-- all messages that came to a rank, as what is selected sees them
abbrev pub near_messages : Spot → Peer → TagPick → ℕ → List NearMessage
near_messages spot from tag ctx = map (near_message spot from tag ctx) spot.came

-- a receive that a deed posted and that is open: it took no message and was not cancelled; with the fields of a message
-- that it selects
abbrev pub near_receive : Spot → Arrival → Deed → Option NearReceive
near_receive spot a (deed.Post r line) =
    if is_closed_at spot r.number then None
    else Some (record { receive = r; line = line; fit = fit_of r.from r.tag r.ctx a })
near_receive spot a _ = None

-- all open receives of a rank, as a message sees them
abbrev pub near_receives : Spot → Arrival → List NearReceive
near_receives spot a = filter_map (near_receive spot a) spot.deeds
