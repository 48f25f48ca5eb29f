-- A search of a script in these sizes.
use Rattle.std.proofs.Common.{List, sym, subst}
use Rattle.nm_types.specs.declared.scripts.Line.{Line}
use Rattle.nm_explored.specs.Ends.{AreShort}
use Rattle.nm_explored.proofs.TellLemmas.{script_short}
use Rattle.nm_why_top.proofs.seeking.seek_script.Goals as goal

pub seek_in-requires-clause-short : goal.seek_in-requires-clause-short
seek_in-requires-clause-short c =
    subst (λ (ls : List Line). AreShort ls) (sym c.as_slice.ensures)
    (script_short c.args.script.now.ranks c.args.script.now.lines c.args.script.now.limits)

pub seek_in-requires-clause-first : goal.seek_in-requires-clause-first
seek_in-requires-clause-first c = rw c.ranks.ensures.value c.requires.first

pub seek_in-requires-clause-made : goal.seek_in-requires-clause-made
seek_in-requires-clause-made c =
    rw (c.eager.ensures.value, c.ranks.ensures.value, c.as_slice.ensures) c.requires.made

pub seek_in-requires-clause-back : goal.seek_in-requires-clause-back
seek_in-requires-clause-back c =
    rw (c.eager.ensures.value, c.ranks.ensures.value, c.as_slice.ensures) c.requires.back

pub returns-clause-made : goal.returns-clause-made
returns-clause-made c =
    rw (c.eager.ensures.value, c.ranks.ensures.value, c.as_slice.ensures) at c.seek_in.ensures.made

pub returns-clause-back : goal.returns-clause-back
returns-clause-back c =
    rw (c.eager.ensures.value, c.ranks.ensures.value, c.as_slice.ensures) at c.seek_in.ensures.back

pub returns-clause-sight : goal.returns-clause-sight
returns-clause-sight c =
    rw (c.eager.ensures.value, c.ranks.ensures.value, c.as_slice.ensures) at c.seek_in.ensures.sight
