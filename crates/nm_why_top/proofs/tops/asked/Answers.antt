-- What is asked is no more than the sizes.
use Rattle.std.proofs.Common.{◌≡◌, Option, None, Some, map, string_bytes, subst, sym, ◌∙◌}
use Rattle.std.specs.Option.{IfSome}
use Rattle.nm_outcomes_top.specs.OptionWords.{InRange, IsTaken}
use Rattle.nm_outcomes_top.specs.declared.words.Asked.{Asked}
use Rattle.nm_why_top.proofs.AskedLemmas.{asked_for, asked_only, asked_within}
use Rattle.nm_why_top.proofs.tops.asked.Goals as goal

pub returns-in-Some-clause-taken : goal.returns-in-Some-clause-taken
returns-in-Some-clause-taken c =
    let words = map string_bytes c.args.words.now in
    asked_for words c.in-Some.asked c.plain.result
    (subst (λ (f : Option Asked). IfSome f (IsTaken words)) c.in-Some.is c.in_ok-asked.ensures.taken)
    c.plain.ensures.same

pub returns-in-Some-clause-takes : goal.returns-in-Some-clause-takes
returns-in-Some-clause-takes c = λ line is.
    asked_only (map string_bytes c.args.words.now) c.in-Some.asked c.plain.result c.plain.ensures.takes line
    (sym c.in-Some.is ∙ c.in_ok-asked.ensures.takes line is.0) is

pub returns-in-Some-clause-within : goal.returns-in-Some-clause-within
returns-in-Some-clause-within c =
    asked_within c.in-Some.asked c.plain.result
    (subst (λ (f : Option Asked). IfSome f InRange) c.in-Some.is c.in_ok-asked.ensures.within) c.plain.ensures.same

pub returns-in-None-clause-takes : goal.returns-in-None-clause-takes
returns-in-None-clause-takes c = λ line is.
    let both : None ≡ Some line = sym c.in-None.is ∙ c.in_ok-asked.ensures.takes line is.0 in cc
