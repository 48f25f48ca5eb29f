-- A number that is spelled, and is none of 0.
use Rattle.std.proofs.Common.{◌≡◌, Some, arith, ◌∙◌}
use Rattle.nm_outcomes_top.proofs.WordLemmas.{again, spelled}
use Rattle.nm_outcomes_top.proofs.words.number_of_states.Goals as goal

pub returns-in-Some-clause-found : goal.returns-in-Some-clause-found
returns-in-Some-clause-found c =
    let p = spelled c.in-Some.n c.args.word.now c.in-Some.ensures.exact in
    (p.1, omega arith, p.0)

pub returns-in-Some-clause-finds : goal.returns-in-Some-clause-finds
returns-in-Some-clause-finds c n is some few = c.in-Some.ensures.exact ∙ again n c.args.word.now is few

pub returns-in_default-clause-finds : goal.returns-in_default-clause-finds
returns-in_default-clause-finds c n is some few =
    let both : Some c.in-Some.n ≡ Some n = c.in-Some.ensures.exact ∙ again n c.args.word.now is few in
    let same : c.in-Some.n ≡ n = cc in
    absurd (omega (arith, same, some, c.if-n-gt0.false))

pub returns-in_default-2-clause-finds : goal.returns-in_default-2-clause-finds
returns-in_default-2-clause-finds c n is some few = c.in_default.ensures.exact ∙ again n c.args.word.now is few
