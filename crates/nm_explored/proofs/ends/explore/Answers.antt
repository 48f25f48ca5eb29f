-- The ends of a search that found all states tell all.
use Rattle.std.proofs.Common.{List, ℕ, sym, subst}
use Rattle.nm_types.specs.declared.scripts.Line.{Line}
use Rattle.nm_types.specs.Limits.{IsScript}
use Rattle.nm_explored.specs.Ends.{AreEndsAmong, AreEndsByWay, AreEnds, AreOnlyEnds, AreShort, IfAll, TellsAll, TellsOnly}
use Rattle.nm_explored.specs.Met.{AreTooMany, IfTooMany, IsAll}
use Rattle.nm_explored.proofs.MetLemmas.{all_not_many, too_many_of}
use Rattle.nm_explored.proofs.RestedLemmas.{ends_by_way, tells_only}
use Rattle.nm_explored.proofs.ExpandLemmas.{explored_by}
use Rattle.nm_explored.proofs.TellLemmas.{all_weaker, explore_tells, ok_weaker, script_short}
use Rattle.nm_explored.proofs.ends.explore.Goals as goal

pub run-requires : goal.run-requires
run-requires c =
    subst (λ (ls : List Line). AreShort ls) (sym c.as_slice.ensures)
    (script_short c.args.script.now.ranks c.args.script.now.lines c.args.script.now.limits)

pub all_ends-requires-clause-short : goal.all_ends-requires-clause-short
all_ends-requires-clause-short c =
    subst (λ (ls : List Line). AreShort ls) (sym c.as_slice.ensures)
    (script_short c.args.script.now.ranks c.args.script.now.lines c.args.script.now.limits)

pub all_ends-requires-clause-low : goal.all_ends-requires-clause-low
all_ends-requires-clause-low c k ids here =
    let short : AreShort c.as_slice.result.now =
    subst (λ (ls : List Line). AreShort ls) (sym c.as_slice.ensures)
    (script_short c.args.script.now.ranks c.args.script.now.lines c.args.script.now.limits) in
    ((c.in_ok-all.ensures.made short.count short.sends
    (c.in_ok-search.ensures.made c.eager.result c.as_slice.result.now)).sound k ids here).low

pub returns-then-all-clause-all : goal.returns-then-all-clause-all
returns-then-all-clause-all c =
    let short : AreShort c.as_slice.result.now =
    subst (λ (ls : List Line). AreShort ls) (sym c.as_slice.ensures)
    (script_short c.args.script.now.ranks c.args.script.now.lines c.args.script.now.limits) in
    let explored = explored_by c.eager.result c.ranks.result c.as_slice.result.now c.in_ok-search.search c.run.new.self
    c.in_ok-search.ensures.first c.in_ok-all.ensures.grows
    (c.in_ok-all.ensures.all short.count short.sends
    (c.in_ok-search.ensures.made c.eager.result c.as_slice.result.now) c.if-all.true) in
    ok_weaker (IfAll (AreEnds c.ranks.result c.as_slice.result.now c.run.new.self))
    (IfAll (TellsAll c.args.shape c.args.script.now.lines))
    (all_weaker (AreEnds c.ranks.result c.as_slice.result.now c.run.new.self)
    (TellsAll c.args.shape c.args.script.now.lines)
    (λ ends are. explore_tells c.commands_stand_at_their_lines.ensures.own c.args.shape c.args.script.now.lines
    (subst (λ (r : ℕ). IsScript r c.args.script.now.lines) (sym c.requires) c.args.script.now.limits)
    c.eager.result c.ranks.result c.as_slice.result.now c.run.new.self c.eager.ensures.value c.ranks.ensures.value
    c.as_slice.ensures explored ends are))
    c.all_ends.result c.all_ends.ensures.all

-- .. and nothing but what is told at rest
pub returns-then-all-clause-only : goal.returns-then-all-clause-only
returns-then-all-clause-only c =
    let short : AreShort c.as_slice.result.now =
    subst (λ (ls : List Line). AreShort ls) (sym c.as_slice.ensures)
    (script_short c.args.script.now.ranks c.args.script.now.lines c.args.script.now.limits) in
    ok_weaker (IfAll (AreOnlyEnds c.ranks.result c.as_slice.result.now c.run.new.self))
    (IfAll (TellsOnly c.args.shape c.args.script.now.lines))
    (all_weaker (AreOnlyEnds c.ranks.result c.as_slice.result.now c.run.new.self)
    (TellsOnly c.args.shape c.args.script.now.lines)
    (tells_only c.args.shape c.args.script.now.lines c.eager.result c.ranks.result c.as_slice.result.now c.run.new.self
    c.eager.ensures.value c.ranks.ensures.value c.as_slice.ensures
    (c.in_ok-all.ensures.made short.count short.sends
    (c.in_ok-search.ensures.made c.eager.result c.as_slice.result.now))))
    c.all_ends.result c.all_ends.ensures.only

-- .. and one that gave up met too many states
pub returns-clause-many : goal.returns-clause-many
returns-clause-many c =
    let short : AreShort c.as_slice.result.now =
    subst (λ (ls : List Line). AreShort ls) (sym c.as_slice.ensures)
    (script_short c.args.script.now.ranks c.args.script.now.lines c.args.script.now.limits) in
    too_many_of c.args.shape c.args.script.now.lines c.eager.result c.ranks.result c.as_slice.result.now
    c.run.new.self c.args.states c.eager.ensures.value c.ranks.ensures.value c.as_slice.ensures
    (c.in_ok-all.ensures.made short.count short.sends
    (c.in_ok-search.ensures.made c.eager.result c.as_slice.result.now))
    (c.in_ok-all.ensures.over c.if-all.false)

pub returns-then-all-clause-many : goal.returns-then-all-clause-many
returns-then-all-clause-many c =
    ok_weaker IsAll
    (IfTooMany (AreTooMany c.args.shape.eager c.args.shape.ranks c.args.script.now.lines c.args.states))
    (all_not_many (AreTooMany c.args.shape.eager c.args.shape.ranks c.args.script.now.lines c.args.states))
    c.all_ends.result c.all_ends.ensures.found

-- .. with the moves that lead to each
pub returns-then-all-clause-ways : goal.returns-then-all-clause-ways
returns-then-all-clause-ways c =
    let short : AreShort c.as_slice.result.now =
    subst (λ (ls : List Line). AreShort ls) (sym c.as_slice.ensures)
    (script_short c.args.script.now.ranks c.args.script.now.lines c.args.script.now.limits) in
    ok_weaker (IfAll (AreEndsAmong c.eager.result c.ranks.result c.as_slice.result.now c.run.new.self))
    (IfAll (AreEndsByWay c.args.shape c.args.script.now.lines))
    (all_weaker (AreEndsAmong c.eager.result c.ranks.result c.as_slice.result.now c.run.new.self)
    (AreEndsByWay c.args.shape c.args.script.now.lines)
    (ends_by_way c.args.shape c.args.script.now.lines c.eager.result c.ranks.result c.as_slice.result.now
    c.run.new.self c.eager.ensures.value c.ranks.ensures.value c.as_slice.ensures
    (c.in_ok-all.ensures.made short.count short.sends
    (c.in_ok-search.ensures.made c.eager.result c.as_slice.result.now))
    (c.in_ok-all.ensures.back short.count short.sends
    (c.in_ok-search.ensures.made c.eager.result c.as_slice.result.now)
    (c.in_ok-search.ensures.back c.eager.result c.as_slice.result.now))))
    c.all_ends.result c.all_ends.ensures.ways
