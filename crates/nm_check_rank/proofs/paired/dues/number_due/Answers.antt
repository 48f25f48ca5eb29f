use Rattle.std.proofs.Common.{ℕ, ◌∙◌, ap}
use Rattle.nm_check_rank.specs.Dues.{next_number, number_due, number_of, numbers_due, stranger}
use Rattle.nm_check_rank.proofs.paired.dues.number_due.Goals as goal

pub returns : goal.returns
returns c =
    let before = c.args.before.now in
    let w = c.args.what.now in
    let ranks = c.ranks-ranks.result in
    c.rank_or_number.ensures
    ∙ (λ i. number_due ranks (c.stranger.ensures i) (c.numbers_due-numbers.ensures i))
    ∙ (λ i. number_due ranks (stranger ranks w)
    (numbers_due (c.next_number.ensures before c.counted-counts.ensures i) (c.number_of.ensures i)))
    ∙ ap (λ (n : ℕ). number_due n (stranger n w) (numbers_due (next_number before w) (number_of w)))
    c.ranks-ranks.ensures.value
