-- The first event at which a rule of rest breaks that is asked of each event: of each send and each recall.
use Rattle.std.specs.Prelude.{◌≡◌, ℕ, ◌<◌, ◌&&◌, not, None, IfSome, IsSomeAnd, IsTrue, List, slice_get}
use Rattle.std.specs.Bool.{OnTrue}
use Rattle.nm_types.specs.declared.messages.How.{How}
use Rattle.nm_history.specs.declared.events.Event.{Event}
use Rattle.nm_history.specs.declared.events.Happened.{Happened}
use Rattle.nm_history.specs.AtEach.{AtEach}
use Rattle.nm_types.specs.declared.scripts.Line.{Line}
use Rattle.nm_types.specs.Commands.{Numbered, commands_of}
use Rattle.nm_history.specs.Answers.{can_go_on}
use Rattle.nm_history.specs.Delivery.{ArriveInOrder}
use Rattle.nm_history.specs.Quiescence.{EachPair, EachRank, Ended, IsAnswered, IsStopped, Packets, is_kept_back, is_over}
use Rattle.nm_history.specs.Sends.{Sent, arrivals, is_ask, sends, sent_of}
use Rattle.nm_history.specs.Completion.{is_taken}
use Rattle.nm_history.specs.Happens.{happened, is_arrival}
use Rattle.nm_history.specs.Matching.{is_claimed, matched_pairs}
use Rattle.nm_check_rank.specs.Breaks.{BreaksFirstAt}
use Rattle.nm_check_rank.specs.FirstBroken.{IsFirstBroken}
use Rattle.nm_check.specs.declared.firsts.Spot.{Spot}
use Rattle.nm_check.specs.Marked.{KeepsLocal}
use Rattle.nm_check.specs.declared.rest.clauses.RestClause.{RestClause}
use Rattle.nm_check.specs.declared.rest.clauses.RestClause.TheVariants as rest
use Rattle.nm_check.specs.declared.rest.firsts.EventRule.{EventRule}
use Rattle.nm_check.specs.declared.rest.firsts.EventRule.TheVariants as rule
use Rattle.nm_check.specs.declared.rest.waits.Next.{Next}
use Rattle.nm_check.specs.declared.rest.waits.Next.TheVariants as next
use Rattle.nm_check.specs.declared.rest.resting.RestBreak.{RestBreak}
use Rattle.nm_check.specs.declared.rest.resting.RestBreak.TheVariants as kind
use Rattle.nm_check.specs.RestClauses.{KeepsRest, rest_order}

-- what happened is no send to one of the ranks, or one that keeps this rule with its receiver
abbrev pub SendKeeps : (ℕ → List Event → Sent → Type 0) → List Ended → ℕ → Happened → Type 0
SendKeeps P ranks stamp what =
    IfSome (sent_of stamp what) (λ s. IfSome (slice_get ranks s.to) (λ rank. P s.to rank.events s))

-- what the send of message n of rank i to rank j keeps of a rule of rest: it has come, it is over where it is eager,
-- and where it was sent by asking it is over if it is paired, and kept back if it is claimed and not received
abbrev pub KeepsSend : EventRule → ℕ → List Event → ℕ → List Event → ℕ → How → Type 0
KeepsSend rule.Arrived i hi j hj n how = IsTrue (happened (is_arrival i n) hj)
KeepsSend rule.Eager i hi j hj n how = OnTrue (not (is_ask how)) (IsTrue (is_over i j hi hj n))
KeepsSend rule.Asked i hi j hj n how =
    OnTrue (is_ask how && is_taken hj i n) (IsTrue (is_over i j hi hj n))
    × OnTrue (is_ask how && is_claimed hj (matched_pairs hj) i n) (IsTrue (is_kept_back i j hi hj n))
KeepsSend rule.Recalls i hi j hj n how = Unit {0}

-- what an event of rank x keeps of such a rule, by all that the rank did and all that the other ones did
abbrev pub RestAt : EventRule → List Ended → ℕ → List Event → ℕ → Happened → Type 0
RestAt rule.Recalls ranks x h stamp what = IsAnswered h what
RestAt r ranks x h stamp what = SendKeeps (λ j hj s. KeepsSend r x h j hj s.n s.how) ranks stamp what

-- the events of rank x keep the rule, of which these are the first ones
abbrev pub KeepRestAt : EventRule → List Ended → ℕ → List Event → List Event → Type 0
KeepRestAt r ranks x h = AtEach (λ before e. RestAt r ranks x h e.stamp e.what)

-- The events of all ranks before this one keep the rule, and of the rank itself it is the first that does not.
pub record BreaksRestAt (r : EventRule) (ranks : List Ended) (spot : Spot) : Type 0 where
  pub earlier : EachRank (λ x rank. x < spot.rank → KeepRestAt r ranks x rank.events rank.events) ranks
  pub first :
      IsSomeAnd (slice_get ranks spot.rank)
      (λ rank. BreaksFirstAt (KeepRestAt r ranks spot.rank rank.events) rank.events spot.at)

-- the messages of these ranks are numbered and come in order
abbrev pub AreInOrder : List Ended → Type 0
AreInOrder ranks =
    EachRank KeepsLocal ranks × EachPair (λ i j hi hj. ArriveInOrder i (sends hi j) (arrivals hj i)) ranks

-- the rule as one of those of rest
abbrev pub rest_clause : EventRule → RestClause
rest_clause rule.Arrived = rest.Arrived
rest_clause rule.Eager = rest.Eager
rest_clause rule.Asked = rest.Asked
rest_clause rule.Recalls = rest.Recalls

-- The ranks before this one are at their ends, or wait for what can't come, and this one is not.
pub record BreaksStanding (lines : List Line) (ranks : List Ended) (i : ℕ) : Type 0 where
  pub earlier : EachRank (λ x rank. x < i → IsStopped (commands_of x lines) rank) ranks
  pub first : IsSomeAnd (slice_get ranks i) (λ rank. ¬ IsStopped (commands_of i lines) rank)

-- the next command of a rank, and whether it can go on
abbrev pub IsNext : List Numbered → Ended → Next → Type 0
IsNext commands rank next.Nothing = slice_get commands rank.at ≡ None
IsNext commands rank (next.Command line goes_on) =
    IsSomeAnd (slice_get commands rank.at)
    (λ c. (c.line ≡ line) × (can_go_on commands rank.events c.command ≡ goes_on))

-- the rule of a break
abbrev pub clause_of : RestBreak → RestClause
clause_of (kind.Event r spot) = rest_clause r
clause_of (kind.Standing i) = rest.Waits
clause_of kind.Counts = rest.Counts

-- the place of a break is the first
abbrev pub BreaksThere : List Line → List Ended → RestBreak → Type 0
BreaksThere lines ranks (kind.Event r spot) = BreaksRestAt r ranks spot
BreaksThere lines ranks (kind.Standing i) = BreaksStanding lines ranks i
BreaksThere lines ranks kind.Counts = Unit {0}

-- of the rules of rest it is the first that is broken, and it breaks there first
pub record IsRestBreak (lines : List Line) (ranks : List Ended) (packets : List Packets) (b : RestBreak) : Type 0 where
  pub first : IsFirstBroken (KeepsRest lines ranks packets) rest_order (clause_of b)
  pub at : BreaksThere lines ranks b
