-- The parts of a plan are what was put together.
use Rattle.std.proofs.Common.{◌≡◌, ℕ, List, length, map, subst, sym}
use Rattle.std.specs.List.{range_with_len}
use Rattle.nm_types.specs.declared.scripts.Line.{Line}
use Rattle.nm_types.specs.Limits.{IsScript}
use Rattle.nm_sure.specs.Held.{own_lines}
use Rattle.nm_sure.proofs.Before.{ranks_count}
use Rattle.nm_sure.proofs.runs.make_plan.Goals as goal

pub invariant_of-result : goal.invariant_of-result
invariant_of-result c =
    let count : length c.in_ok-ranks.ranks.items ≡ c.args.script.now.ranks =
    ranks_count (own_lines c.as_slice-lines.result.now) c.in_ok-ranks.ranks.items c.args.script.now.ranks
    c.in_ok-ranks.ensures in
    record {
      right = record {
        limits = subst (λ (n : ℕ). IsScript n c.as_slice-lines.result.now) (sym count)
            (subst (λ (ls : List Line). IsScript c.args.script.now.ranks ls) (sym c.as_slice-lines.ensures)
            c.args.script.now.limits);
        own = subst (λ (n : ℕ). map (λ own. own.items) c.in_ok-ranks.ranks.items
            ≡ map (own_lines c.as_slice-lines.result.now) (range_with_len 0 n)) (sym count) c.in_ok-ranks.ensures;
        names = c.in_ok-held.ensures;
        pairs = c.in_ok-partners.ensures;
      };
    }

pub returns-clause-ranks : goal.returns-clause-ranks
returns-clause-ranks c =
    ranks_count (own_lines c.as_slice-lines.result.now) c.in_ok-ranks.ranks.items c.args.script.now.ranks
    c.in_ok-ranks.ensures
