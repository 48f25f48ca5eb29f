-- Rules of the messages between a rank and each other one, along the rank's history.
use Rattle.std.specs.Prelude.{◌≡◌, ℕ, ◌<◌, ◌==◌, Bool, true, false, IsSomeAnd, MatchBool, MatchOption, Option, Some, None}
use Rattle.std.specs.Prelude.{List, length, slice_get, slice_index_or}
use Rattle.std.specs.Option.{option_map_or}
use Rattle.nm_types.specs.declared.scripts.Line.{Line}
use Rattle.nm_types.specs.Commands.{commands_of}
use Rattle.nm_history.specs.declared.events.Event.{Event}
use Rattle.nm_history.specs.AtEach.{AtEach}
use Rattle.nm_history.specs.Quiescence.{EachPair, EachRank, Ended, history_of}
use Rattle.nm_history.specs.RankRun.{Always, NumberAt, StampAt}
use Rattle.nm_history.specs.Sends.{Sent, sent_of}
use Rattle.nm_check_rank.specs.Breaks.{BreaksFirstAt}
use Rattle.nm_check_rank.specs.FirstBroken.{IsFirstBroken}
use Rattle.nm_check_rank.specs.Tabled.{AreRankTables}
use Rattle.nm_check_rank.specs.declared.paired.tables.Tables.{Tables}
use Rattle.nm_check.specs.CarriedBreaks.{BreaksBetweenAt, PartAt}
use Rattle.nm_check.specs.CarriedClauses.{KeepsCarried, PairDelivered, StandsBefore, carried_order}
use Rattle.nm_check.specs.declared.between.Break.{Break}
use Rattle.nm_check.specs.declared.firsts.Part.{Part}
use Rattle.nm_check.specs.declared.firsts.Part.TheVariants as part
use Rattle.nm_check.specs.declared.marks.Marks.{Marks}
use Rattle.nm_check.specs.Tabled.{EachTabled}

-- it is this rank
abbrev pub is_rank : Option ℕ → ℕ → Bool
is_rank named i = option_map_or (λ a. a == i) named false

-- the rank is named with which an event breaks a rule of each two ranks, if there is one
abbrev pub Names : (ℕ → Type 0) → Option ℕ → Type 0
Names Keeps named = (i : ℕ) → MatchBool (is_rank named i) (¬ Keeps i) (Keeps i)

-- the place at which a history first breaks a rule of each two ranks, with each rank, if it does
abbrev pub AreFirsts : (ℕ → List Event → Event → Type 0) → List Event → List (Option ℕ) → Type 0
AreFirsts R h firsts =
    (y : ℕ) → y < 256 →
    MatchOption (slice_index_or firsts y None) (AtEach (R y) h) (BreaksFirstAt (AtEach (R y)) h)

-- a first place, where an event at a later one breaks the rule or not
abbrev pub noted : Bool → ℕ → Option ℕ → Option ℕ
noted true at None = Some at
noted true at (Some k) = Some k
noted false at found = found

-- a rank's messages and receives are numbered in order, and its stamps rise
pub record KeepsLocal (i : ℕ) (rank : Ended) : Type 0 where
  pub ranks : ℕ
  pub numbers : Always (NumberAt ranks) rank.events
  pub stamps : AtEach (λ before e. StampAt before e.stamp) rank.events

-- .. of all ranks, of which these are the tables
pub record AreLooked (lines : List Line) (ranks : List Ended) (tables : List Tables) : Type 0 where
  pub lawful : EachRank KeepsLocal ranks
  pub tabled : EachTabled lines ranks tables

-- the history of rank i, and its tables
pub record IsOwn (lines : List Line) (ranks : List Ended) (i : ℕ) (h : List Event) (own : Tables) : Type 0 where
  pub inside : i < length ranks
  pub history : history_of ranks i ≡ h
  pub many : ℕ
  pub numbers : Always (NumberAt many) h
  pub stamps : AtEach (λ before e. StampAt before e.stamp) h
  pub tabled : AreRankTables i lines h own

-- the event with which message n was sent, if it was
abbrev pub IsSendIn : List Sent → ℕ → Option Event → Type 0
IsSendIn ss n found = MatchOption found (slice_get ss n ≡ None) (λ e. slice_get ss n ≡ sent_of e.stamp e.what)

-- the places for a part of the rules
abbrev pub places_of : Part → Marks → List (Option ℕ)
places_of part.Arrivals marks = marks.arrivals
places_of part.Bodies marks = marks.bodies
places_of part.Outs marks = marks.outs
places_of part.Withdrawals marks = marks.withdrawals
places_of part.Answers marks = marks.answers

-- where the history of rank x first breaks each part of the rules, with each other rank
abbrev pub AreMarks : List Line → List Ended → ℕ → Marks → Type 0
AreMarks lines ranks x marks = (p : Part) → AreFirsts (PartAt p lines ranks x) (history_of ranks x) (places_of p marks)

-- .. of each rank
pub record EachMarked (lines : List Line) (ranks : List Ended) (marks : List Marks) : Type 0 where
  pub as_many : length marks ≡ length ranks
  pub each :
      (x : ℕ) (mark : Marks) → x < length marks → mark ≡ slice_index_or marks x mark → AreMarks lines ranks x mark

-- of the rules of the messages from rank i to rank j it is the first that is broken, and it breaks there first
pub record IsBreak (lines : List Line) (ranks : List Ended) (i j : ℕ) (b : Break) : Type 0 where
  pub first :
      IsFirstBroken
      (KeepsCarried i j (commands_of i lines) (commands_of j lines) (history_of ranks i) (history_of ranks j))
      carried_order b.clause
  pub at : BreaksBetweenAt lines ranks i j b.clause b.spot

-- The messages of rank i to the ranks before this one are delivered, and of the rules of those to this
-- one it is the first that is broken.
pub record BreaksTo (lines : List Line) (ranks : List Ended) (i j : ℕ) (b : Break) : Type 0 where
  pub earlier : EachRank (λ l rank. l < j → PairDelivered lines i l (history_of ranks i) rank.events) ranks
  pub inside : j < length ranks
  pub its : IsBreak lines ranks i j b

-- The messages of the pairs of ranks before this one, by sender and then receiver, are delivered, and of
-- its rules it is the first that is broken, and it breaks there first.
pub record BreaksPair (lines : List Line) (ranks : List Ended) (i j : ℕ) (b : Break) : Type 0 where
  pub earlier :
      EachPair (λ k l hk hl. StandsBefore k l i j → PairDelivered lines k l hk hl) ranks
  pub first :
      IsSomeAnd (slice_get ranks i) (λ x. IsSomeAnd (slice_get ranks j)
      (λ y. IsFirstBroken
      (KeepsCarried i j (commands_of i lines) (commands_of j lines) x.events y.events)
      carried_order b.clause))
  pub at : BreaksBetweenAt lines ranks i j b.clause b.spot
