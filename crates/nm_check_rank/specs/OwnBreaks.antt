-- The rules of a rank's own run, as they are asked of each event, and in the end.
use Rattle.std.specs.Prelude.{◌≡◌, ℕ, MatchOption, Option, Some, None, IsSomeAnd, List, [], length, slice_get, take}
use Rattle.nm_types.specs.Commands.{Numbered}
use Rattle.nm_types.specs.Sizes.{Sizes}
use Rattle.nm_history.specs.declared.events.Event.{Event}
use Rattle.nm_history.specs.declared.events.Happened.{Happened}
use Rattle.nm_history.specs.declared.events.Happened.TheVariants.{Ran}
use Rattle.nm_history.specs.AtEach.{AtEach}
use Rattle.nm_history.specs.RankRun.{AnswerAt, CancelAt, ClaimAt, EndAt, NumberAt, StampAt}
use Rattle.nm_history.specs.RankRun.{StartAt, WholeAt, cancels_since, claims_since, ran_lines, starts_since}
use Rattle.nm_check_rank.specs.Dues.{IsOwnDue, next_line}
use Rattle.nm_check_rank.specs.FirstBroken.{IsFirstBroken}
use Rattle.nm_check_rank.specs.OwnClauses.{own_order}
use Rattle.nm_check_rank.specs.declared.breaks.Break.{Break}
use Rattle.nm_check_rank.specs.declared.breaks.Break.TheVariants.{At, Behind}
use Rattle.nm_check_rank.specs.declared.clauses.OwnClause.{OwnClause}
use Rattle.nm_check_rank.specs.declared.clauses.OwnClause.TheVariants as own
use Rattle.nm_check_rank.specs.declared.paired.breaches.Breach.{Breach}
use Rattle.nm_check_rank.specs.declared.paired.dues.Due.{Due}

-- an answer is to the rank's next command, and the one that the events before give it
abbrev pub NextAt : List Numbered → List Event → Happened → Type 0
NextAt commands before (Ran line answer) =
    (next_line commands before ≡ Some line) × AnswerAt commands before (Ran line answer)
NextAt commands before w = Unit {0}

-- the rule at an event, by the events before it
abbrev pub RuleAt : Sizes → List Numbered → OwnClause → List Event → Event → Type 0
RuleAt shape commands own.Answers before e = NextAt commands before e.what
RuleAt shape commands own.Starts before e = StartAt shape.eager commands before e.what
RuleAt shape commands own.Numbers before e = NumberAt shape.ranks before e.what
RuleAt shape commands own.Cancels before e = CancelAt commands before e.what
RuleAt shape commands own.Wholes before e = WholeAt before e.what
RuleAt shape commands own.Ends before e = EndAt before e.what
RuleAt shape commands own.Stamps before e = StampAt before e.stamp
RuleAt shape commands own.Claims before e = ClaimAt commands before e.what

-- The rule as events so far keep it. A command that is under way has its events, but not its answer yet.
abbrev pub KeepsSoFar : Sizes → List Numbered → OwnClause → List Event → Type 0
KeepsSoFar shape commands c h = AtEach (λ before e. RuleAt shape commands c before e) h

-- what the rule asks of all events besides: no event is left of a command that has no answer, and as many
-- commands ran as are said to have
abbrev pub KeepsInTheEnd : ℕ → OwnClause → List Event → Type 0
KeepsInTheEnd at own.Answers h = at ≡ length (ran_lines h)
KeepsInTheEnd at own.Starts h = starts_since h ≡ []
KeepsInTheEnd at own.Cancels h = cancels_since h ≡ []
KeepsInTheEnd at own.Claims h = claims_since h ≡ []
KeepsInTheEnd at _ h = Unit {0}

-- nothing stands against an event exactly where it keeps the rule, and else this does
abbrev pub IsAgainst : Sizes → List Numbered → OwnClause → List Event → Event → Option Due → Type 0
IsAgainst shape commands c before e found =
    MatchOption found (RuleAt shape commands c before e)
    (λ due. (¬ RuleAt shape commands c before e) × IsOwnDue shape commands c before e (Some due))

-- the events so far keep all rules
abbrev pub KeepsAll : Sizes → List Numbered → List Event → Type 0
KeepsAll shape commands h = (c : OwnClause) → KeepsSoFar shape commands c h

-- of these rules it is the first that an event breaks, and this stands against the event
abbrev pub BreaksOf : Sizes → List Numbered → List OwnClause → List Event → Event → OwnClause → Due → Type 0
BreaksOf shape commands rules before e c due =
    IsFirstBroken (λ d. RuleAt shape commands d before e) rules c × IsOwnDue shape commands c before e (Some due)

-- .. of all rules in order
abbrev pub BreaksAt : Sizes → List Numbered → List Event → Event → OwnClause → Due → Type 0
BreaksAt shape commands before e c due = BreaksOf shape commands own_order before e c due

-- A rank breaks a rule of its own run first there: the events before keep all rules, and of those that this event
-- breaks it is the first in order; or all events keep all rules, and it is the first that the end breaks.
abbrev pub IsBreachAt : Sizes → List Numbered → ℕ → List Event → OwnClause → Option Due → Break → Type 0
IsBreachAt shape commands at h c due (At k) =
    KeepsAll shape commands (take k h)
    × IsSomeAnd (slice_get h k) (λ e. IsSomeAnd due (BreaksAt shape commands (take k h) e c))
IsBreachAt shape commands at h c due Behind =
    KeepsAll shape commands h × IsFirstBroken (λ d. KeepsInTheEnd at d h) own_order c × (due ≡ None)

-- .. with this rule, this place and what stands against it
abbrev pub IsBreach : Sizes → List Numbered → ℕ → List Event → Breach → Type 0
IsBreach shape commands at h b = IsBreachAt shape commands at h b.clause b.due b.place
