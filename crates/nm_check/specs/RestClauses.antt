-- The rules of all ranks at rest, in the order in which they are judged.
use Rattle.std.specs.Prelude.{◌≡◌, ℕ, List, [], ◌∷◌, length}
use Rattle.nm_types.specs.declared.scripts.Line.{Line}
use Rattle.nm_types.specs.Commands.{commands_of}
use Rattle.nm_history.specs.Quiescence.{Ended, Packets, EachRank, EachPair, EagerOver}
use Rattle.nm_history.specs.Quiescence.{AskedOver, RecallsAnswered, IsStopped, packets_of as packets_due}
use Rattle.nm_history.specs.Sends.{sends, arrivals}
use Rattle.nm_check.specs.declared.rest.clauses.RestClause.{RestClause}
use Rattle.nm_check.specs.declared.rest.clauses.RestClause.TheVariants as rest

-- a rule of all ranks at rest
abbrev pub KeepsRest : List Line → List Ended → List Packets → RestClause → Type 0
KeepsRest lines ranks packets rest.Arrived =
    EachPair (λ i j hi hj. length (arrivals hj i) ≡ length (sends hi j)) ranks
KeepsRest lines ranks packets rest.Eager = EachPair EagerOver ranks
KeepsRest lines ranks packets rest.Asked = EachPair AskedOver ranks
KeepsRest lines ranks packets rest.Recalls =
    EachRank (λ i rank. RecallsAnswered rank.events) ranks
KeepsRest lines ranks packets rest.Waits =
    EachRank (λ i rank. IsStopped (commands_of i lines) rank) ranks
KeepsRest lines ranks packets rest.Counts = packets ≡ packets_due lines ranks

-- the order in which they are judged
abbrev pub rest_order : List RestClause
rest_order =
    rest.Arrived ∷ rest.Eager ∷ rest.Asked ∷ rest.Recalls ∷ rest.Waits ∷ rest.Counts ∷ []

-- the letter of a rule of rest
abbrev pub rest_letter : RestClause → ℕ
rest_letter rest.Arrived = 97
rest_letter rest.Eager = 98
rest_letter rest.Asked = 99
rest_letter rest.Recalls = 100
rest_letter rest.Waits = 101
rest_letter rest.Counts = 102
