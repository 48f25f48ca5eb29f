use Rattle.std.proofs.Common.{List, Bool, ap, arith, sym, ◌∙◌}
use Rattle.std.proofs.lemmas.Bool.{false≢true}
use Rattle.nm_kept.specs.Keeping.{Keeping}
use Rattle.nm_receiving.specs.Rows.{settled_before}
use Rattle.nm_receiving.proofs.RowLemmas.{gone-before, settled-again, settled-set}
use Rattle.nm_receiving.proofs.rows.settle.Goals as goal

pub returns-in-None-clause-items : goal.returns-in-None-clause-items
returns-in-None-clause-items c =
    settled-again c.args.settled.now.items c.args.n
    (gone-before c.args.settled.now c.args.n c.requires.first c.requires.within
    (λ held. false≢true (c.in-None.ensures.held.1 held)))

pub let_go-requires : goal.let_go-requires
let_go-requires c =
    rw c.set.ensures (omega (arith, c.requires.first, settled-set c.args.settled.now.items c.args.n))

pub returns-clause-items : goal.returns-clause-items
returns-clause-items c = c.let_go.ensures.items ∙ ap (λ (k : Keeping Bool). k.items) c.set.ensures

pub returns-clause-first : goal.returns-clause-first
returns-clause-first c =
    c.let_go.ensures.first ∙ ap (λ (bs : List Bool). settled_before bs) (sym c.let_go.ensures.items)
