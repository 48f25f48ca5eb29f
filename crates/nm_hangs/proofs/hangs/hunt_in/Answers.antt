-- A search of a script in these sizes.
use Rattle.std.proofs.Common.{List, ℕ, subst, sym}
use Rattle.std.specs.Prelude.{OnOk, IfOk}
use Rattle.nm_types.specs.declared.scripts.Line.{Line}
use Rattle.nm_explored.specs.Ends.{AreShort}
use Rattle.nm_explored.specs.Met.{AreBack, IsMade}
use Rattle.nm_explored.specs.Stores.{IsFirst}
use Rattle.nm_explored.proofs.TellLemmas.{script_short}
use Rattle.nm_hangs.specs.Hunts.{IsHunted}
use Rattle.nm_hangs.proofs.HangLemmas.{of_equal}
use Rattle.nm_hangs.proofs.hangs.hunt_in.Goals as goal

pub hunt-requires-clause-short : goal.hunt-requires-clause-short
hunt-requires-clause-short c =
    subst (λ (ls : List Line). AreShort ls) (sym c.as_slice.ensures)
    (script_short c.args.script.now.ranks c.args.script.now.lines c.args.script.now.limits)

pub hunt-requires-clause-first : goal.hunt-requires-clause-first
hunt-requires-clause-first c =
    subst (λ (n : ℕ). IsFirst n c.args.search.now) (sym c.ranks.ensures.value) c.requires.first

pub hunt-requires-clause-made : goal.hunt-requires-clause-made
hunt-requires-clause-made c =
    of_equal (λ e r ls. IsMade e r ls c.args.search.now) c.args.shape.eager c.eager.result c.args.shape.ranks
    c.ranks.result c.args.script.now.lines c.as_slice.result.now (sym c.eager.ensures.value) (sym c.ranks.ensures.value)
    (sym c.as_slice.ensures) c.requires.made

pub hunt-requires-clause-back : goal.hunt-requires-clause-back
hunt-requires-clause-back c =
    of_equal (λ e r ls. AreBack e r ls c.args.search.now) c.args.shape.eager c.eager.result c.args.shape.ranks
    c.ranks.result c.args.script.now.lines c.as_slice.result.now (sym c.eager.ensures.value) (sym c.ranks.ensures.value)
    (sym c.as_slice.ensures) c.requires.back

pub returns-clause-made : goal.returns-clause-made
returns-clause-made c =
    of_equal (λ e r ls. OnOk c.hunt.result (IsMade e r ls c.hunt.new.search)) c.eager.result c.args.shape.eager
    c.ranks.result c.args.shape.ranks c.as_slice.result.now c.args.script.now.lines c.eager.ensures.value
    c.ranks.ensures.value c.as_slice.ensures c.hunt.ensures.made

pub returns-clause-back : goal.returns-clause-back
returns-clause-back c =
    of_equal (λ e r ls. OnOk c.hunt.result (AreBack e r ls c.hunt.new.search)) c.eager.result c.args.shape.eager
    c.ranks.result c.args.shape.ranks c.as_slice.result.now c.args.script.now.lines c.eager.ensures.value
    c.ranks.ensures.value c.as_slice.ensures c.hunt.ensures.back

pub returns-clause-hunted : goal.returns-clause-hunted
returns-clause-hunted c =
    of_equal (λ e r ls. IfOk c.hunt.result (IsHunted e r ls c.args.states c.hunt.new.search)) c.eager.result
    c.args.shape.eager c.ranks.result c.args.shape.ranks c.as_slice.result.now c.args.script.now.lines
    c.eager.ensures.value c.ranks.ensures.value c.as_slice.ensures c.hunt.ensures.hunted
