use Rattle.nm_breaks.proofs.AgainstLemmas.{no_send}
use Rattle.nm_breaks.proofs.against.shown_against.Goals as goal

pub returns-in-Send : goal.returns-in-Send
returns-in-Send c = λ from tag. rw c.in-Send.is c.bytes_against.ensures

pub returns-in_default : goal.returns-in_default
returns-in_default c = λ from tag.
    no_send c.args.lines.now c.args.y from tag c.args.bytes.now c.args.other.now c.in_default.not-Send
