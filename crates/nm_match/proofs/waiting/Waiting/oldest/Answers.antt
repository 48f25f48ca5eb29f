-- Where both are named, one bucket has it, and else the first under a wildcard or the best of all.
use Rattle.std.proofs.Common.{◌∙◌, ap, not, sym}
use Rattle.nm_match.proofs.OldestLemmas.{own_found}
use Rattle.nm_match.proofs.waiting.Waiting.oldest.Goals as goal

pub returns-then-is_named : goal.returns-then-is_named
returns-then-is_named c = λ queue next are held.
    c.front.ensures ∙ own_found are c.args.wanted (sym c.is_named.ensures ∙ c.if-is_named.true)

pub returns-in-Some : goal.returns-in-Some
returns-in-Some c = λ queue next are held.
    c.front-in-Some.ensures queue (ap not (sym c.is_named.ensures ∙ c.if-is_named.false)) (rw c.in-Some.is at held)

pub returns-in-None : goal.returns-in-None
returns-in-None c = λ queue next are held. c.best.ensures queue next are
