-- A state of the class.
use Rattle.std.proofs.Common.{Some, Option, sym, ◌∙◌, subst}
use Rattle.std.specs.List.{slice_get}
use Rattle.nm_outcomes.specs.RankStates.{Spot}
use Rattle.nm_hangs.specs.Alike.{IsAlikeOr}
use Rattle.nm_hangs.proofs.NotedLemmas.{if_some}
use Rattle.nm_hangs.proofs.classes.joined.Goals as goal

pub returns-in_ok-so-in-Some : goal.returns-in_ok-so-in-Some
returns-in_ok-so-in-Some c =
    if_some (λ class. IsAlikeOr c.args.lines.now c.args.i (Some c.args.rank.now) (slice_get c.args.table.now class))
    c.in_ok-so-in-Some.so c.args.class c.class_if.result c.class_if.ensures
    (λ so.
    subst (λ (o : Option Spot). IsAlikeOr c.args.lines.now c.args.i (Some c.args.rank.now) o)
    (sym (sym c.in_ok-first.ensures ∙ c.in-Some.is)) (c.in_ok-so-in-Some.ensures so))
