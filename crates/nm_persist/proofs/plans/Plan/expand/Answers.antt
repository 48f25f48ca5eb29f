-- The script of a plan keeps the limits of scripts.
use Rattle.std.proofs.Common.{sym, ap, ◌∙◌, subst, List}
use Rattle.nm_types.specs.declared.scripts.Line.{Line}
use Rattle.nm_types.specs.Limits.{IsScript}
use Rattle.nm_plans.specs.Expansion.{expand}
use Rattle.nm_persist.proofs.ReadyLemmas.{plan_script}
use Rattle.nm_persist.proofs.plans.Plan.expand.Goals as goal

pub invariant_of-result : goal.invariant_of-result
invariant_of-result c =
    let plan = c.args.self.now in record {
      limits = subst (λ (ls : List Line). IsScript plan.ranks ls)
          (sym (c.in_ok-lines.ensures ∙ ap expand c.as_slice.ensures))
          (plan_script plan.ranks plan.lines plan.limits);
    }
