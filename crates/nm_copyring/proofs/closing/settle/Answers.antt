use Rattle.std.proofs.Common.{◌*◌, sym, ap, ◌∙◌, subst}
use Rattle.std.specs.Prelude.{slice_index}
use Rattle.std.specs.Slots.{slots_items}
use mathlib.Core.Option as maybe
use Rattle.nm_chain.specs.Total.{total, sign}
use Rattle.nm_copyring.specs.AtClose.{Gathered, Prefixed, not_pulled}
use Rattle.nm_copyring.proofs.ClosingLemmas.{prefixes, left_over}
use Rattle.nm_copyring.proofs.closing.settle.Goals as goal

pub returns-clause-left : goal.returns-clause-left
returns-clause-left c = let f = c.close_with-closed.ensures.values in
    let key = c.args.board.shared.key in let t = c.requires.table in
    let es = c.args.seat.me.0.entries in
    let words = slots_items c.close_with-closed.result.words in
    let g : Gathered key es = subst (λ r. Gathered r es) (sym t.1) c.requires.all.0 in
    c.count_full-left.ensures
    ∙ ap (λ r. total (4 * (r * r)) (λ j. sign (slice_index words j))) (sym t.1)
    ∙ ap (λ ws. total (4 * (key * key)) (λ j. sign (slice_index ws j))) (sym f.2.2)
    ∙ left_over key f.2.0 f.2.1.0 c.args.seat.id es (f.2.1.1 ∙ ap maybe.some c.requires.all.1) g
    ∙ ap (λ n. not_pulled n es) t.1

pub returns-clause-prefix : goal.returns-clause-prefix
returns-clause-prefix c = let f = c.close_with-closed.ensures.values in
    let key = c.args.board.shared.key in let t = c.requires.table in
    let es = c.args.seat.me.0.entries in
    let g : Gathered key es = subst (λ r. Gathered r es) (sym t.1) c.requires.all.0 in
    subst (λ r. Prefixed r es) t.1 (prefixes key f.2.0 f.2.1.0 c.args.seat.id es
    (f.2.1.1 ∙ ap maybe.some c.requires.all.1) g)
