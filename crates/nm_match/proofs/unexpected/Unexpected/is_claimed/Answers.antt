-- What waits no more stands aside or nowhere, and what waits is not claimed.
use Rattle.std.proofs.Common.{◌∙◌, sym}
use Rattle.nm_match.specs.Names.{has_one}
use Rattle.nm_match.proofs.NameLemmas.{none_aside, some_aside, stands_aside, waits_not_aside}
use Rattle.nm_match.proofs.unexpected.Unexpected.is_claimed.Goals as goal

pub returns-in-Some-clause-none : goal.returns-in-Some-clause-none
returns-in-Some-clause-none c = λ arrivals claimed next is none.
    c.is_aside.ensures ∙ some_aside (has_one claimed c.args.id) c.in-Some.standing.now
    (c.in-Some.ensures.value ∙ stands_aside is.named c.args.id none)

pub returns-in-Some-clause-some : goal.returns-in-Some-clause-some
returns-in-Some-clause-some c = λ arrivals claimed next is some.
    c.is_aside.ensures ∙ waits_not_aside is.named c.args.id c.in-Some.standing.now (sym c.in-Some.ensures.value) some

pub returns-in-None-clause-none : goal.returns-in-None-clause-none
returns-in-None-clause-none c = λ arrivals claimed next is none.
    sym (none_aside (has_one claimed c.args.id)
    (c.in-None.ensures.value ∙ stands_aside is.named c.args.id none))
