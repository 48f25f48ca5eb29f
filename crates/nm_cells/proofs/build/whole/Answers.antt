use Rattle.std.proofs.Common.{List, ◌+◌, ◌*◌, None, replicate, sym, ◌∙◌, subst}
use Rattle.atomic_table.specs.Table.{opening}
use Rattle.nm_chain.specs.Rule.{Load, Rule, first_view}
use Rattle.nm_chain.proofs.OpeningLemmas.{starts}
use Rattle.nm_cells.proofs.BeginLemmas.{zeros_open}
use Rattle.nm_cells.proofs.build.whole.Goals as goal

pub new-requires : goal.new-requires
new-requires g c = let s = c.args.shape.now in let n = c.from-ranks.result in
    let m = c.from-each.result in
    subst (λ (l : List (Load _)). Rule g.I.Item.boxable s (opening c.as_slice.result.now l (first_view s)))
    (sym c.in_ok-empty.ensures)
    (subst (λ ws. Rule g.I.Item.boxable s (opening ws (replicate (n * m + 4 * (n * n)) None) (first_view s)))
    (sym c.as_slice.ensures.value)
    (starts s c.in_ok-words.words.items n m (c.from-ranks.ensures ∙ c.ranks.ensures.value)
    (c.from-each.ensures ∙ c.cells.ensures.value)
    (zeros_open n m c.in_ok-words.words.items c.in_ok-words.ensures)))
