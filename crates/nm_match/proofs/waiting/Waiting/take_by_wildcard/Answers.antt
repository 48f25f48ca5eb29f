-- It leaves each of them.
use Rattle.nm_match.proofs.waiting.Waiting.take_by_wildcard.Goals as goal

pub returns-else-is_empty-clause-wildcards : goal.returns-else-is_empty-clause-wildcards
returns-else-is_empty-clause-wildcards c = λ queue next bucket test x are found of_order of_key held.
    c.take.ensures queue next bucket test x are found of_order of_key (rw c.in-Some.is at held)
