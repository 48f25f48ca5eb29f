use Rattle.std.proofs.Common.{◌≡◌, ◌*◌, ◌<◌, sym, ap, ◌∙◌, subst}
use mathlib.Core.Option as maybe
use Rattle.std.specs.Slots.{slots_items}
use Rattle.nm_cells.specs.AtClose.{Gathered, Prefixed, AllCame, vacant}
use Rattle.nm_cells.proofs.ClosingLemmas.{settled, whole, prefixes}
use Rattle.nm_cells.proofs.close.settle.Goals as goal

pub returns-clause-settled : goal.returns-clause-settled
returns-clause-settled g c =
    let f = c.close_with-closed.ensures.values in let key = c.args.board.shared.key in
    let t = c.requires.table in let es = c.args.seat.me.0.entries in
    let items = slots_items c.close_with-closed.result.slots in
    let g : Gathered key.ranks key.cells es = subst (λ r. Gathered r key.cells es) (sym t.1)
    (subst (λ m. Gathered c.args.ranks m es) (sym t.2) c.requires.all.0) in
    let some : 0 < key.cells = subst (λ m. 0 < m) (sym t.2) c.requires.sizes.2 in
    let home = c.count_vacant-home.result in
    let is : home ≡ vacant items (key.ranks * key.cells) =
    c.count_vacant-home.ensures.vacant ∙ (λ i. vacant items (sym t.1 i * sym t.2 i)) in
    settled key f.2.0 f.2.1.0 c.args.seat.id es (f.2.1.1 ∙ ap maybe.some c.requires.all.1) some g
    items f.2.4 home is

pub returns-clause-paths : goal.returns-clause-paths
returns-clause-paths g c =
    let f = c.close_with-closed.ensures.values in let key = c.args.board.shared.key in
    let t = c.requires.table in let es = c.args.seat.me.0.entries in
    let g : Gathered key.ranks key.cells es = subst (λ r. Gathered r key.cells es) (sym t.1)
    (subst (λ m. Gathered c.args.ranks m es) (sym t.2) c.requires.all.0) in
    let some : 0 < key.cells = subst (λ m. 0 < m) (sym t.2) c.requires.sizes.2 in
    subst (λ r. Prefixed r es) t.1
    (prefixes key f.2.0 f.2.1.0 c.args.seat.id es (f.2.1.1 ∙ ap maybe.some c.requires.all.1)
    some g)

pub returns-clause-home : goal.returns-clause-home
returns-clause-home g c all =
    let f = c.close_with-closed.ensures.values in let key = c.args.board.shared.key in
    let t = c.requires.table in let es = c.args.seat.me.0.entries in
    let items = slots_items c.close_with-closed.result.slots in
    let g : Gathered key.ranks key.cells es = subst (λ r. Gathered r key.cells es) (sym t.1)
    (subst (λ m. Gathered c.args.ranks m es) (sym t.2) c.requires.all.0) in
    let some : 0 < key.cells = subst (λ m. 0 < m) (sym t.2) c.requires.sizes.2 in
    let is : c.count_vacant-home.result ≡ vacant items (key.ranks * key.cells) =
    c.count_vacant-home.ensures.vacant ∙ (λ i. vacant items (sym t.1 i * sym t.2 i)) in
    is ∙ whole key f.2.0 f.2.1.0 c.args.seat.id es (f.2.1.1 ∙ ap maybe.some c.requires.all.1) some g
    items f.2.4 (subst (λ r. AllCame r es) (sym t.1) all) ∙ (λ i. t.1 i * t.2 i)
