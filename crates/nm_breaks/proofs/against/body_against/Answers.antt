use Rattle.nm_breaks.proofs.AgainstLemmas.{not_got}
use Rattle.nm_breaks.proofs.against.body_against.Goals as goal

pub returns-in-Got : goal.returns-in-Got
returns-in-Got c =
    rw c.in-Got.is (rw c.as_slice.ensures at (c.shown_against.ensures c.in-Got.from c.in-Got.tag))

pub returns-in_default : goal.returns-in_default
returns-in_default c = not_got c.args.lines.now c.args.y c.args.answer.now c.args.other.now c.in_default.not-Got
