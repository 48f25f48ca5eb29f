-- Where there is one rank, all packets go to it.
use Rattle.std.proofs.Common.{ℕ, ◌<◌, ◌∙◌, subst, arith}
use Rattle.std.specs.List.{AllByRecursion}
use Rattle.nm_sending.proofs.LetterLemmas.{all_for_one}
use Rattle.nm_multi.proofs.moving.waiting.Goals as goal

pub waiting_for-requires : goal.waiting_for-requires
waiting_for-requires c = let one = c.requires.one in omega (arith, one)

pub returns : goal.returns
returns c =
    let letters = c.args.rank.now.sending.outbox.letters in
    c.waiting_for.ensures.many
    ∙ all_for_one letters (subst (λ (k : ℕ). AllByRecursion (λ l. l.to < k) letters) c.requires.one
    c.waiting_for.ensures.in_range)
