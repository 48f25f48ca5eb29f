-- The second was taken out before the first.
use Rattle.std.proofs.Common.{◌≡◌, ◌∙◌, ap, arith, sym, get_or}
use Rattle.std.proofs.lemmas.Option.{slice_get_read}
use Rattle.nm_rows.proofs.PairLemmas.{first_kept}
use Rattle.nm_rows.proofs.world.tests.both.Goals as goal

pub returns-clause-first : goal.returns-clause-first
returns-clause-first g c =
    let xs = c.args.list.items in
    let x = c.remove-first.result in
    slice_get_read xs 2 0 x (sym c.requires) (omega arith)
    (c.remove-first.ensures.value ∙ ap (λ l. get_or l 0 x) c.remove-second.ensures.items ∙ first_kept xs x)

pub returns-clause-second : goal.returns-clause-second
returns-clause-second g c =
    slice_get_read c.args.list.items 2 1 c.remove-second.result (sym c.requires) (omega arith)
    c.remove-second.ensures.value
