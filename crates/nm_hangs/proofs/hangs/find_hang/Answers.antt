-- What the search found is so of the script.
use Rattle.std.proofs.Common.{ℕ, subst, sym}
use Rattle.nm_types.specs.Limits.{IsScript}
use Rattle.nm_explored.specs.Met.{AreBack, IsMade}
use Rattle.nm_explored.specs.Stores.{IsFirst}
use Rattle.nm_explored.proofs.MetLemmas.{too_many}
use Rattle.nm_hangs.specs.Hunts.{IsHunted}
use Rattle.nm_hangs.specs.declared.hunts.Hunted.{Hunted}
use Rattle.nm_hangs.proofs.HangLemmas.{never_hangs}
use Rattle.nm_hangs.proofs.hangs.find_hang.Goals as goal

pub hunt_in-requires-clause-first : goal.hunt_in-requires-clause-first
hunt_in-requires-clause-first c =
    subst (λ (n : ℕ). IsFirst n c.in_ok-search.search) c.ranks.ensures.value c.in_ok-search.ensures.first

pub hunt_in-requires-clause-made : goal.hunt_in-requires-clause-made
hunt_in-requires-clause-made c =
    subst (λ (n : ℕ). IsMade c.args.shape.eager n c.args.script.now.lines c.in_ok-search.search)
    c.ranks.ensures.value (c.in_ok-search.ensures.made c.args.shape.eager c.args.script.now.lines)

pub hunt_in-requires-clause-back : goal.hunt_in-requires-clause-back
hunt_in-requires-clause-back c =
    subst (λ (n : ℕ). AreBack c.args.shape.eager n c.args.script.now.lines c.in_ok-search.search)
    c.ranks.ensures.value (c.in_ok-search.ensures.back c.args.shape.eager c.args.script.now.lines)

pub returns-in-Never : goal.returns-in-Never
returns-in-Never c =
    never_hangs c.commands_stand_at_their_lines.ensures.own c.args.shape c.args.script.now.lines
    (subst (λ (r : ℕ). IsScript r c.args.script.now.lines) (sym c.requires) c.args.script.now.limits)
    c.in_ok-search.search c.hunt_in.new.search
    (subst (λ (n : ℕ). IsFirst n c.in_ok-search.search) c.ranks.ensures.value c.in_ok-search.ensures.first)
    c.in_ok-state.ensures.grows c.in_ok-state.ensures.made
    (subst (λ (h : Hunted). IsHunted c.args.shape.eager c.args.shape.ranks c.args.script.now.lines c.args.states
    c.hunt_in.new.search h) c.in-Never.is c.in_ok-state.ensures.hunted)

pub returns : goal.returns
returns c =
    too_many c.args.shape.eager c.args.shape.ranks c.args.script.now.lines c.hunt_in.new.search c.args.states
    c.in_ok-state.ensures.made
    (subst (λ (h : Hunted). IsHunted c.args.shape.eager c.args.shape.ranks c.args.script.now.lines c.args.states
    c.hunt_in.new.search h) c.in-Open.is c.in_ok-state.ensures.hunted)
