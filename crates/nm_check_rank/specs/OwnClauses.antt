-- The rules of a rank's own run, and the order in which they are judged.
use Rattle.std.specs.Prelude.{ℕ, List, [], ◌∷◌}
use Rattle.nm_types.specs.Commands.{Numbered}
use Rattle.nm_types.specs.Sizes.{Sizes}
use Rattle.nm_history.specs.declared.events.Event.{Event}
use Rattle.nm_history.specs.AtEach.{AtEach}
use Rattle.nm_history.specs.RankRun.{Always, Answers, Starts, Cancels, Claims, NumberAt, WholeAt}
use Rattle.nm_history.specs.RankRun.{EndAt, StampAt}
use Rattle.nm_check_rank.specs.declared.clauses.OwnClause.{OwnClause}
use Rattle.nm_check_rank.specs.declared.clauses.OwnClause.TheVariants as own

-- a rule of a rank's run
abbrev pub KeepsOwn : Sizes → List Numbered → ℕ → List Event → OwnClause → Type 0
KeepsOwn shape commands at h own.Answers = Answers commands at h
KeepsOwn shape commands at h own.Starts = Starts shape.eager commands h
KeepsOwn shape commands at h own.Numbers = Always (NumberAt shape.ranks) h
KeepsOwn shape commands at h own.Cancels = Cancels commands h
KeepsOwn shape commands at h own.Wholes = Always WholeAt h
KeepsOwn shape commands at h own.Ends = Always EndAt h
KeepsOwn shape commands at h own.Stamps = AtEach (λ before e. StampAt before e.stamp) h
KeepsOwn shape commands at h own.Claims = Claims commands h

-- the order in which they are judged
abbrev pub own_order : List OwnClause
own_order =
    own.Stamps ∷ own.Numbers ∷ own.Claims ∷ own.Starts ∷ own.Cancels ∷ own.Wholes ∷ own.Ends
    ∷ own.Answers ∷ []

-- the letter of a rule of a rank's run
abbrev pub own_letter : OwnClause → ℕ
own_letter own.Answers = 97
own_letter own.Starts = 98
own_letter own.Numbers = 99
own_letter own.Cancels = 100
own_letter own.Wholes = 101
own_letter own.Ends = 102
own_letter own.Stamps = 103
own_letter own.Claims = 104
