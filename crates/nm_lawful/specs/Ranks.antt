-- The state of a rank, and what changes it. MPI 3.1, 3.5 (order), 3.7 (requests), 3.8 (probes and cancel).
use Rattle.std.specs.Prelude.{ℕ, ◌==◌, ◌&&◌, Bool, false, not, if◌then◌else◌, Option, Some, None, List, [], ◌∷◌, ◌++◌}
use Rattle.std.specs.Prelude.{filter, find, map}
use Rattle.std.specs.List.{list_any}
use Rattle.std.specs.Option.{option_map_or}
use Rattle.nm_history.specs.Selection.{matches_source, matches_tag}
use Rattle.nm_lawful.specs.declared.messages.Act.{Act}
use Rattle.nm_lawful.specs.declared.messages.Act.TheVariants as act
use Rattle.nm_lawful.specs.declared.messages.Claim.{Claim}
use Rattle.nm_lawful.specs.declared.messages.Message.{Message}
use Rattle.nm_lawful.specs.declared.messages.Pattern.{Pattern}
use Rattle.nm_lawful.specs.declared.messages.Request.{Request}
use Rattle.nm_lawful.specs.declared.messages.Standing.{Standing}
use Rattle.nm_lawful.specs.declared.messages.Standing.TheVariants as standing

-- A rank: the place in the script from which on its lines have still to run; its live requests, oldest
-- first; its messages that no receive has, oldest first; and its live handles.
pub record RankState : Type 0 where
  pub at : ℕ
  pub requests : List Request
  pub outgoing : List Message
  pub claims : List Claim

-- a rank that did nothing
abbrev pub first_rank : RankState
first_rank = record { at = 0; requests = []; outgoing = []; claims = [] }

-- the pattern selects the message (3.2.4)
abbrev pub selects_lem : Pattern → Message → Bool
selects_lem p m = p.ctx == m.ctx && matches_source p.from m.from && matches_tag p.tag m.tag

-- what an open receive selects
abbrev pub pattern_of_lem : Standing → Option Pattern
pattern_of_lem (standing.Open pattern cap) = Some pattern
pattern_of_lem (standing.Marked pattern cap) = Some pattern
pattern_of_lem _ = None

-- how many bytes fit into a receive
abbrev pub cap_of_lem : Standing → ℕ
cap_of_lem (standing.Open pattern cap) = cap
cap_of_lem (standing.Marked pattern cap) = cap
cap_of_lem _ = 0

-- an open receive that selects the message
abbrev pub is_receiver_lem : Message → Request → Bool
is_receiver_lem m r = option_map_or (λ p. selects_lem p m) (pattern_of_lem r.standing) false

-- the oldest open receive of the rank that selects the message
abbrev pub receiver_of_lem : RankState → Message → Option Request
receiver_of_lem rank m = find (λ r. is_receiver_lem m r) rank.requests

-- the live request of a name, and the one that a line started
abbrev pub live_lem : RankState → ℕ → Option Request
live_lem rank q = find (λ r. r.q == q) rank.requests

-- the one that a line started
abbrev pub request_at_lem : RankState → ℕ → Option Request
request_at_lem rank place = find (λ r. r.place == place) rank.requests

-- the live handle of a name
abbrev pub handle_lem : RankState → ℕ → Option Claim
handle_lem rank m = find (λ c. c.m == m) rank.claims

-- the message of a line is the rank's, and no receive has it
abbrev pub is_waiting_lem : RankState → ℕ → Bool
is_waiting_lem rank place = list_any (λ m. m.place == place) rank.outgoing

-- a handle of the rank has the message
abbrev pub is_claimed_lem : RankState → Message → Bool
is_claimed_lem rank m = list_any (λ c. c.message.place == m.place) rank.claims

-- the first message of a sender to the rank of this number that is pending and that the pattern selects (3.5)
abbrev pub first_to_lem : RankState → ℕ → RankState → Pattern → Option Message
first_to_lem sender to receiver p =
    find (λ m. m.to == to && not (is_claimed_lem receiver m) && selects_lem p m) sender.outgoing

-- .. if no open receive selects it: that is the one that a probe may show (3.8.1)
abbrev pub shown_to_lem : RankState → ℕ → RankState → Pattern → Option Message
shown_to_lem sender to receiver p =
    option_map_or (λ m. option_map_or (λ r. None) (receiver_of_lem receiver m) (Some m))
    (first_to_lem sender to receiver p) None

-- the request that a line started stands so
abbrev pub marked_lem : ℕ → Standing → Request → Request
marked_lem place s r = if r.place == place then record r { standing = s } else r

-- .. of a rank
abbrev pub with_standing : ℕ → Standing → RankState → RankState
with_standing place s rank = record rank { requests = map (λ r. marked_lem place s r) rank.requests }

-- a message has left the ones that wait
abbrev pub without_message : ℕ → RankState → RankState
without_message place rank = record rank { outgoing = filter (λ m. not (m.place == place)) rank.outgoing }

-- what an act changes of the rank that runs the line at a place
abbrev pub changed_by : ℕ → Act → RankState → RankState
changed_by place act.Pass rank = rank
changed_by place (act.Send q sync message) rank =
    record rank {
      requests = rank.requests ++ record { q = q; place = place; standing = standing.Send sync } ∷ [];
      outgoing = rank.outgoing ++ message ∷ [];
    }
changed_by place (act.Post q pattern cap) rank =
    record rank {
      requests = rank.requests ++ record { q = q; place = place; standing = standing.Open pattern cap } ∷ [];
    }
changed_by place (act.End q) rank = record rank { requests = filter (λ r. not (r.q == q)) rank.requests }
changed_by place (act.Mark of s) rank = with_standing of s rank
changed_by place (act.Claim m message) rank =
    record rank { claims = rank.claims ++ record { m = m; message = message } ∷ [] }
changed_by place (act.Receive q m cap message) rank =
    record rank {
      requests = rank.requests ++ record { q = q; place = place; standing = standing.Taken cap message } ∷ [];
      claims = filter (λ c. not (c.m == m)) rank.claims;
    }

-- .. and the next line is one of those from another place on
abbrev pub ran_at : ℕ → ℕ → Act → RankState → RankState
ran_at place next a rank = record (changed_by place a rank) { at = next }
