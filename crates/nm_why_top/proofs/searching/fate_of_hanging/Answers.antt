-- One run hangs, and what is known of one that ends.
use Rattle.std.proofs.Common.{ℕ, subst, sym}
use Rattle.nm_types.specs.Limits.{IsScript}
use Rattle.nm_why_top.proofs.searching.fate_of_hanging.Goals as goal

pub returns : goal.returns
returns c =
    let lines = c.args.script.now.lines in
    c.fate_with.ensures c.args.shape lines
    (subst (λ (n : ℕ). IsScript n lines) (sym c.requires.equal) c.args.script.now.limits) c.requires.hangs
    c.in_ok-end.ensures
