-- Where a rule of the messages between two ranks breaks first, as a reader meets the events who reads the lines
-- of a trace: all events of rank 0, then all of rank 1, and so on.
use Rattle.std.specs.Prelude.{◌≡◌, ◌⊎◌, ℕ, ◌+◌, ◌<◌, ◌==◌, ◌&&◌, ◌||◌, nat_lt, Bool, if◌then◌else◌, Option, Some, None}
use Rattle.std.specs.Prelude.{List, [], length, take, MatchOption}
use Rattle.nm_types.specs.declared.scripts.Line.{Line}
use Rattle.nm_types.specs.Commands.{Numbered, commands_of}
use Rattle.nm_history.specs.declared.events.Event.{Event}
use Rattle.nm_history.specs.AtEach.{AtEach}
use Rattle.nm_history.specs.Delivery.{ArriveInOrder, BodyAt, EachEvent, OutAfterPair, UndoneAfterWithdraw}
use Rattle.nm_history.specs.Delivery.{WithdrawAfterRecall}
use Rattle.nm_history.specs.Growing.{ArrivesNext}
use Rattle.nm_history.specs.Quiescence.{Ended, history_of}
use Rattle.nm_history.specs.RankRun.{Always}
use Rattle.nm_history.specs.Sends.{arrivals, sends}
use Rattle.nm_check_rank.specs.Breaks.{BreaksFirstAt}
use Rattle.nm_check.specs.CarriedClauses.{KeepsCarried}
use Rattle.nm_check.specs.declared.clauses.CarriedClause.{CarriedClause}
use Rattle.nm_check.specs.declared.clauses.CarriedClause.TheVariants as carried
use Rattle.nm_check.specs.declared.firsts.Part.{Part}
use Rattle.nm_check.specs.declared.firsts.Part.TheVariants as part
use Rattle.nm_check.specs.declared.firsts.Spot.{Spot}

-- What an event of rank x keeps of the rules between it and rank y, by the events of x before it and all of y.
abbrev pub PartAt : Part → List Line → List Ended → ℕ → ℕ → List Event → Event → Type 0
PartAt part.Arrivals lines ranks x y before e = ArrivesNext y x (history_of ranks y) before e.stamp e.what
PartAt part.Bodies lines ranks x y before e =
    BodyAt y (commands_of y lines) (sends (history_of ranks y) x) (commands_of x lines) before e.what
PartAt part.Outs lines ranks x y before e = OutAfterPair x y (history_of ranks y) before e.stamp e.what
PartAt part.Withdrawals lines ranks x y before e = WithdrawAfterRecall y x (history_of ranks y) e.stamp e.what
PartAt part.Answers lines ranks x y before e = UndoneAfterWithdraw x y (history_of ranks y) e.stamp e.what

-- it is the first event of rank x that breaks this part of the rules with rank y, or there is none
abbrev pub FirstAt : List Line → List Ended → Part → ℕ → ℕ → Option Spot → Type 0
FirstAt lines ranks p x y found =
    MatchOption found (AtEach (PartAt p lines ranks x y) (history_of ranks x))
    (λ spot. (spot.rank ≡ x) × BreaksFirstAt (AtEach (PartAt p lines ranks x y)) (history_of ranks x) spot.at)

-- what is read of the history of rank x where all lines before event k of rank r are
abbrev pub read_of : ℕ → ℕ → ℕ → List Event → List Event
read_of r k x h = if nat_lt x r then h else if x == r then take k h else []

-- The rule of the messages from rank i to rank j as these first events of both keep it. Each is held against all
-- that the other rank did.
abbrev pub KeepsCarriedSoFar :
    ℕ → ℕ → List Numbered → List Numbered → List Event → List Event → CarriedClause → List Event → List Event → Type 0
KeepsCarriedSoFar i j ci cj hi hj carried.Messages ri rj = ArriveInOrder i (sends hi j) (arrivals rj i)
KeepsCarriedSoFar i j ci cj hi hj carried.Bodies ri rj = Always (BodyAt i ci (sends hi j) cj) rj
KeepsCarriedSoFar i j ci cj hi hj carried.Outs ri rj =
    AtEach (λ before e. OutAfterPair i j hj before e.stamp e.what) ri
KeepsCarriedSoFar i j ci cj hi hj carried.Withdrawals ri rj =
    EachEvent (WithdrawAfterRecall i j hi) rj × EachEvent (UndoneAfterWithdraw i j hj) ri

-- It is an event of one of the two ranks. The lines before it keep the rule, and with it they break it.
pub record BreaksCarriedAt (i j : ℕ) (ci cj : List Numbered) (hi hj : List Event) (c : CarriedClause) (spot : Spot)
    : Type 0 where
  pub inside : ((spot.rank ≡ i) × (spot.at < length hi)) ⊎ ((spot.rank ≡ j) × (spot.at < length hj))
  pub kept :
      KeepsCarriedSoFar i j ci cj hi hj c (read_of spot.rank spot.at i hi) (read_of spot.rank spot.at j hj)
  pub broken :
      ¬ KeepsCarriedSoFar i j ci cj hi hj c (read_of spot.rank (spot.at + 1) i hi)
      (read_of spot.rank (spot.at + 1) j hj)

-- .. of these ranks, by the lines of a script
abbrev pub BreaksBetweenAt : List Line → List Ended → ℕ → ℕ → CarriedClause → Spot → Type 0
BreaksBetweenAt lines ranks i j c spot =
    BreaksCarriedAt i j (commands_of i lines) (commands_of j lines) (history_of ranks i) (history_of ranks j) c spot

-- the line of one event is read before that of the other
abbrev pub is_read_before : Spot → Spot → Bool
is_read_before a b = nat_lt a.rank b.rank || (a.rank == b.rank && nat_lt a.at b.at)

-- the one of two events that is read first
abbrev pub first_read : Option Spot → Option Spot → Option Spot
first_read None b = b
first_read (Some a) None = Some a
first_read (Some a) (Some b) = if is_read_before a b then Some a else Some b

-- it is the event at which the rule breaks first, or the rule is kept
abbrev pub IsFirstBetween : List Line → List Ended → ℕ → ℕ → CarriedClause → Option Spot → Type 0
IsFirstBetween lines ranks i j c found =
    MatchOption found
    (KeepsCarried i j (commands_of i lines) (commands_of j lines) (history_of ranks i) (history_of ranks j) c)
    (BreaksBetweenAt lines ranks i j c)
