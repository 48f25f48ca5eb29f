use Rattle.nm_verdict.proofs.QuoteLemmas.{no_other}
use Rattle.nm_verdict.proofs.quotes.other_line.Goals as goal

pub returns-in_default : goal.returns-in_default
returns-in_default c = no_other c.args.judgement c.in_default.not-Carried
