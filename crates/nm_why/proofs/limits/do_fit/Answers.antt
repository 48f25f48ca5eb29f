-- The text has its first line, and those of the commands.
use Rattle.std.proofs.Common.{arith}
use Rattle.nm_why.proofs.LimitLemmas.{are_short, text_len}
use Rattle.nm_why.proofs.limits.do_fit.Goals as goal

pub do_bodies_fit-requires : goal.do_bodies_fit-requires
do_bodies_fit-requires c = are_short c.args.ranks c.args.lines.now c.requires

pub does_text_fit-requires : goal.does_text_fit-requires
does_text_fit-requires c = are_short c.args.ranks c.args.lines.now c.requires

pub returns-then-do_bodies_fit : goal.returns-then-do_bodies_fit
returns-then-do_bodies_fit c =
    let text = text_len c.args.ranks c.args.lines.now in
    let head = c.head_len.ensures.exact in
    let bodies = c.do_bodies_fit.ensures.0 c.if-do_bodies_fit.true in (
      λ short.
          let lines = c.does_text_fit.ensures.0 short in
          (omega (arith, bodies, c.from-2.ensures), omega (arith, lines, text, head, c.from.ensures, c.head_len.ensures.few)),
      λ fit. c.does_text_fit.ensures.1 (omega (arith, fit.1, text, head, c.from.ensures)),
    )
