use Rattle.std.proofs.Common.{sym}
use Rattle.nm_report.proofs.DigitLemmas.{low_digit, high_digit}
use Rattle.nm_report.proofs.digits.digit_of.Goals as goal

pub returns-then-number-lt10 : goal.returns-then-number-lt10
returns-then-number-lt10 c = sym (low_digit c.args.number c.if-number-lt10.true)

pub returns-else-number-lt10 : goal.returns-else-number-lt10
returns-else-number-lt10 c = sym (high_digit c.args.number c.if-number-lt10.false c.requires)
