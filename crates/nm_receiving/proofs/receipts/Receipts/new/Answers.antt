use Rattle.std.proofs.Common.{◌≡◌, ℕ, List, [], ◌∙◌, ap, arith, replicate}
use Rattle.nm_receiving.specs.declared.receipts.Receipt.{Receipt}
use Rattle.nm_receiving.specs.Rows.{RowView}
use Rattle.nm_receiving.proofs.receipts.Receipts.new.Goals as goal
use Rattle.nm_types.proofs.RowLemmas.{rows-push}

pub loop-preserved : goal.loop-preserved
loop-preserved c = rw (c.in_ok-push.ensures.items)
    (rows-push (λ (row : RowView). row.messages) c.loop.rows.items c.loop.counter c.new.result []
    c.loop.invariant c.new.ensures)

pub returns : goal.returns
returns c =
    let all : c.loop.counter ≡ c.args.ranks = omega arith in
    c.loop.invariant ∙ ap (λ (n : ℕ). let ys : List (List Receipt) = replicate n [] in ys) all
