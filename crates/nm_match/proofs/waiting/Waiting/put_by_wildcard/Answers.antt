-- It is last under each of them.
use Rattle.nm_match.proofs.waiting.Waiting.put_by_wildcard.Goals as goal

pub returns-in_default-put-clause-wildcards : goal.returns-in_default-put-clause-wildcards
returns-in_default-put-clause-wildcards c = λ queue bucket are held.
    c.in_default-put.ensures queue bucket are (rw c.in-Some.is at held)
