-- What is known of a run that ends.
use Rattle.std.proofs.Common.{ℕ, subst, sym}
use Rattle.nm_types.specs.Limits.{IsScript}
use Rattle.nm_why_top.proofs.asking.aim_found.Goals as goal

pub returns : goal.returns
returns c =
    let lines = c.args.script.now.lines in
    c.aim_with.ensures c.args.shape lines
    (subst (λ (n : ℕ). IsScript n lines) (sym c.requires) c.args.script.now.limits) c.in_ok-end.ensures
