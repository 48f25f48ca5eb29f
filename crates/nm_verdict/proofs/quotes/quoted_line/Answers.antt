use Rattle.std.proofs.Common.{◌∙◌}
use Rattle.nm_verdict.proofs.QuoteLemmas.{quotes_place}
use Rattle.nm_verdict.proofs.quotes.quoted_line.Goals as goal

pub returns-in_default : goal.returns-in_default
returns-in_default c = c.place_line.ensures ∙ quotes_place c.args.judgement c.in_default.not-Counted
