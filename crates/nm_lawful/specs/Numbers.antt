-- Numbers that tell states apart, mostly.
use Rattle.std.specs.Prelude.{ℕ, List, fold}
use Rattle.nm_search.specs.Numbers.{mixed_lem}
use Rattle.nm_lawful.specs.declared.messages.Request.{Request}
use Rattle.nm_lawful.specs.declared.messages.Standing.{Standing}
use Rattle.nm_lawful.specs.declared.messages.Standing.TheVariants as standing
use Rattle.nm_lawful.specs.Ranks.{RankState}

-- a number of how a request stands
abbrev pub standing_number : Standing → ℕ
standing_number (standing.Send sync) = 1
standing_number (standing.Recalled sync) = 2
standing_number standing.Withdrawn = 3
standing_number (standing.Open pattern cap) = 4
standing_number (standing.Marked pattern cap) = 5
standing_number standing.Off = 6
standing_number (standing.Taken cap message) = mixed_lem 7 message.place

-- a number of a request
abbrev pub request_number : Request → ℕ
request_number r = mixed_lem r.place (standing_number r.standing)

-- a number of a rank
abbrev pub rank_number : RankState → ℕ
rank_number a =
    mixed_lem (mixed_lem a.at (fold (λ sum r. mixed_lem sum (request_number r)) 1 a.requests))
    (fold (λ sum m. mixed_lem sum m.place) 2 a.outgoing)

-- a number of a state
abbrev pub state_number : List RankState → ℕ
state_number state = fold (λ sum a. mixed_lem sum (rank_number a)) 3 state
