-- The rules of the messages between two ranks, in the order in which they are judged.
use Rattle.std.specs.Prelude.{◌≡◌, ◌⊎◌, ℕ, ◌<◌, List, [], ◌∷◌}
use Rattle.nm_types.specs.declared.scripts.Line.{Line}
use Rattle.nm_types.specs.Commands.{Numbered, commands_of}
use Rattle.nm_history.specs.declared.events.Event.{Event}
use Rattle.nm_history.specs.AtEach.{AtEach}
use Rattle.nm_history.specs.Delivery.{AreDelivered, ArriveInOrder, BodyAt, OutAfterPair, Withdrawals}
use Rattle.nm_history.specs.RankRun.{Always}
use Rattle.nm_history.specs.Sends.{sends, arrivals}
use Rattle.nm_check.specs.declared.clauses.CarriedClause.{CarriedClause}
use Rattle.nm_check.specs.declared.clauses.CarriedClause.TheVariants as carried

-- a rule of the messages from rank i to rank j
abbrev pub KeepsCarried :
    ℕ → ℕ → List Numbered → List Numbered → List Event → List Event → CarriedClause → Type 0
KeepsCarried i j ci cj hi hj carried.Messages = ArriveInOrder i (sends hi j) (arrivals hj i)
KeepsCarried i j ci cj hi hj carried.Bodies = Always (BodyAt i ci (sends hi j) cj) hj
KeepsCarried i j ci cj hi hj carried.Outs =
    AtEach (λ before e. OutAfterPair i j hj before e.stamp e.what) hi
KeepsCarried i j ci cj hi hj carried.Withdrawals = Withdrawals i j hi hj

-- the order in which they are judged
abbrev pub carried_order : List CarriedClause
carried_order = carried.Messages ∷ carried.Bodies ∷ carried.Outs ∷ carried.Withdrawals ∷ []

-- the messages of this ordered pair of ranks are delivered
abbrev pub PairDelivered : List Line → ℕ → ℕ → List Event → List Event → Type 0
PairDelivered lines i j hi hj = AreDelivered i j (commands_of i lines) (commands_of j lines) hi hj

-- a pair of ranks stands before another one, by sender and then receiver
abbrev pub StandsBefore : ℕ → ℕ → ℕ → ℕ → Type 0
StandsBefore k l i j = (k < i) ⊎ ((k ≡ i) × (l < j))

-- the letter of a rule of the messages between two ranks
abbrev pub carried_letter : CarriedClause → ℕ
carried_letter carried.Messages = 97
carried_letter carried.Bodies = 98
carried_letter carried.Outs = 99
carried_letter carried.Withdrawals = 100
