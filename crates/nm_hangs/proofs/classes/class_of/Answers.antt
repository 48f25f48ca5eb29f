-- The class that was found.
use Rattle.std.proofs.Common.{◌⊎◌, ℕ, ◌≤◌, Some, List, Option, sym, subst}
use Rattle.std.specs.Prelude.{count_by}
use Rattle.std.specs.List.{slice_get}
use Rattle.nm_outcomes.specs.Looks.{is_receive_by}
use Rattle.nm_outcomes.specs.RankStates.{Spot}
use Rattle.nm_search.specs.Lists.{Has}
use Rattle.nm_hangs.specs.Alike.{IsAlikeOr, IsAsked}
use Rattle.nm_hangs.proofs.NotedLemmas.{of_some}
use Rattle.nm_hangs.proofs.classes.class_of.Goals as goal

pub returns-in-Some : goal.returns-in-Some
returns-in-Some c =
    subst (λ (o : Option Spot). IsAlikeOr c.args.lines.now c.args.i o (slice_get c.args.table.now c.in-Some.class))
    (sym c.requires.here)
    (of_some (λ class. IsAlikeOr c.args.lines.now c.args.i (Some c.args.rank.now) (slice_get c.args.table.now class))
    c.in-Some.class c.in_ok-found.found c.in-Some.is c.in_ok-found.ensures)

pub known-requires : goal.known-requires
known-requires c =
    subst (λ (numbers : List ℕ). (number : ℕ) → IsAsked c.args.lines.now c.args.i c.args.rank.now.deeds number →
    Has numbers number ⊎ (count_by is_receive_by c.args.rank.now.deeds ≤ number)) (sym c.as_slice-2.ensures.value)
    c.in_ok-numbers.ensures
