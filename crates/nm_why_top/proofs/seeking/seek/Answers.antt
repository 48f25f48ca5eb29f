-- What the search found is so of the script.
use Rattle.std.proofs.Common.{ℕ, subst, sym}
use Rattle.nm_types.specs.Limits.{IsScript}
use Rattle.nm_explored.specs.Met.{AreBack, IsMade}
use Rattle.nm_explored.specs.Stores.{IsFirst}
use Rattle.nm_why_top.specs.declared.seeking.Sight.{Sight}
use Rattle.nm_why_top.specs.Seeking.{IsSight}
use Rattle.nm_why_top.proofs.SeekLemmas.{none_sought}
use Rattle.nm_why_top.proofs.seeking.seek.Goals as goal

pub seek_script-requires-clause-first : goal.seek_script-requires-clause-first
seek_script-requires-clause-first c =
    subst (λ (n : ℕ). IsFirst n c.in_ok-search.search) c.ranks.ensures.value c.in_ok-search.ensures.first

pub seek_script-requires-clause-made : goal.seek_script-requires-clause-made
seek_script-requires-clause-made c =
    subst (λ (n : ℕ). IsMade c.args.shape.eager n c.args.script.now.lines c.in_ok-search.search)
    c.ranks.ensures.value (c.in_ok-search.ensures.made c.args.shape.eager c.args.script.now.lines)

pub seek_script-requires-clause-back : goal.seek_script-requires-clause-back
seek_script-requires-clause-back c =
    subst (λ (n : ℕ). AreBack c.args.shape.eager n c.args.script.now.lines c.in_ok-search.search)
    c.ranks.ensures.value (c.in_ok-search.ensures.back c.args.shape.eager c.args.script.now.lines)

pub returns-in-At : goal.returns-in-At
returns-in-At c =
    c.way_to.ensures c.args.sought c.args.shape c.args.script.now.lines c.in_ok-state.ensures.made
    c.in_ok-state.ensures.back
    (subst (λ (s : Sight). IsSight c.args.sought c.args.shape.eager c.args.shape.ranks c.args.script.now.lines
    c.seek_script.new.search s) c.in-At.is c.in_ok-state.ensures.sight)

pub returns-in-Nowhere : goal.returns-in-Nowhere
returns-in-Nowhere c =
    none_sought c.commands_stand_at_their_lines.ensures.own c.args.sought c.args.shape c.args.script.now.lines
    (subst (λ (r : ℕ). IsScript r c.args.script.now.lines) (sym c.requires) c.args.script.now.limits)
    c.in_ok-search.search c.seek_script.new.search
    (subst (λ (n : ℕ). IsFirst n c.in_ok-search.search) c.ranks.ensures.value c.in_ok-search.ensures.first)
    c.in_ok-state.ensures.grows
    (subst (λ (s : Sight). IsSight c.args.sought c.args.shape.eager c.args.shape.ranks c.args.script.now.lines
    c.seek_script.new.search s) c.in-Nowhere.is c.in_ok-state.ensures.sight)
