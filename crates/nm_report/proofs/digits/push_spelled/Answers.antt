use Rattle.nm_report.proofs.DigitLemmas.{digits_are_text}
use Rattle.nm_report.proofs.digits.push_spelled.Goals as goal

pub from_utf8_unchecked-requires : goal.from_utf8_unchecked-requires
from_utf8_unchecked-requires c = rw c.spell.ensures (digits_are_text c.args.bytes.now)
