-- What the words ask is read, and behind it the sizes.
use Rattle.std.proofs.Common.{map, string_bytes, sym}
use Rattle.nm_outcomes_top.proofs.WordLemmas.{read_behind, sized_continues}
use Rattle.nm_outcomes_top.proofs.words.read.Goals as goal

pub returns-in-Some-clause-takes : goal.returns-in-Some-clause-takes
returns-in-Some-clause-takes c =
    read_behind (map string_bytes c.args.words.now) (map string_bytes c.in-Some.others.now) c.in-Some.question
    c.read_sizes.result
    (λ line taken.
    let parts = c.in-Some.ensures.finds line.question taken.others taken.begins
    (sized_continues taken.others line taken.sized) in
    (sym parts.0, sym parts.1)) c.read_sizes.ensures.takes

pub returns-in-None-clause-takes : goal.returns-in-None-clause-takes
returns-in-None-clause-takes c line taken =
    absurd (c.in-None.ensures.finds line.question taken.others taken.begins
    (sized_continues taken.others line taken.sized))
