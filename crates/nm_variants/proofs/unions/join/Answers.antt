-- The texts of both, in order.
use Rattle.std.proofs.Common.{ℕ, List, ◌++◌, ap, ◌∙◌}
use Rattle.nm_variants.proofs.ReportLemmas.{joined}
use Rattle.nm_variants.proofs.unions.join.Goals as goal

pub returns-clause-joined : goal.returns-clause-joined
returns-clause-joined c =
    joined c.args.texts.now c.args.more.now c.push_all.new.texts c.put_in_order.new.self
    (c.in_ok-push_all.ensures ∙ ap (λ (more : List (List ℕ)). c.args.texts.now ++ more) c.as_slice.ensures)
    c.in_ok-put_in_order.ensures.same
