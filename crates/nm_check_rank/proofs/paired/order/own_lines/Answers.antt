use Rattle.std.proofs.Common.{List, ℕ, Vec, Global, map, ◌∙◌, ap}
use Rattle.std.proofs.lemmas.List.{take_all}
use Rattle.nm_types.specs.Commands.{commands_of}
use Rattle.nm_types.specs.declared.scripts.Line.{Line}
use Rattle.nm_check_rank.proofs.OrderLemmas.{other_line, own_line}
use Rattle.nm_check_rank.proofs.paired.order.own_lines.Goals as goal
use Rattle.nm_check_rank.proofs.paired.order.own_lines.Goals.{then-line-rank+in_ok-push, else-line-rank}

pub loop-k-preserved : goal.loop-k-preserved
loop-k-preserved c =
    elim c.if-line-rank.branch [
      | then-line-rank+in_ok-push w ↦
          ap (λ (v : Vec ℕ Global). v.items) w.own-is ∙ w.in_ok-push.ensures.items
          ∙ own_line c.args.rank c.args.lines.now c.loop-k.k c.index-lines-k.result c.loop-k-test.true
          c.index-lines-k.is
          c.loop-k.own.items w.if-line-rank.true c.loop-k.invariant
      | else-line-rank w ↦
          ap (λ (v : Vec ℕ Global). v.items) w.own-is
          ∙ other_line c.args.rank c.args.lines.now c.loop-k.k c.index-lines-k.result c.loop-k-test.true
          c.index-lines-k.is
          c.loop-k.own.items w.if-line-rank.false c.loop-k.invariant
    ]

pub returns : goal.returns
returns c =
    c.loop-k.invariant ∙ ap (λ (ls : List Line). map (λ c. c.line) (commands_of c.args.rank ls))
    (take_all c.loop-k.k c.args.lines.now c.loop-k-test.false)
