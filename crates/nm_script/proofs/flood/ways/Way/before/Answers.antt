use Rattle.std.proofs.Common.{◌+◌, ◌/◌, ap, ◌∙◌, sym, arith}
use Rattle.nm_script.specs.declared.flood.ways.Way.{Way}
use Rattle.nm_script.specs.FloodScripts.{sender}
use Rattle.nm_script.proofs.WayLemmas.{goes_on, row_begins, same_way}
use Rattle.nm_script.proofs.flood.ways.Way.before.Goals as goal

pub returns-then-self-gt0 : goal.returns-then-self-gt0
returns-then-self-gt0 c key k is =
    let ranks = c.args.ranks in
    let is_from = ap (λ (w : Way). w.from) is in
    let later = c.if-self-gt0.true in
    let next = goes_on key ranks k c.requires (omega (arith, is_from, later)) in
    same_way _ _ _ _ (c.rank_before-from.ensures k is_from)
    (c.rank_before-to.ensures (sender ranks k + k / ranks + key) (ap (λ (w : Way). w.to) is ∙ sym next))

pub returns-else-self-gt0 : goal.returns-else-self-gt0
returns-else-self-gt0 c key k is =
    let ranks = c.args.ranks in
    let is_from = ap (λ (w : Way). w.from) is in
    let first = c.if-self-gt0.false in
    let next = row_begins key ranks k c.requires (omega (arith, is_from, first)) in
    let one = c.rank_before-to.ensures (sender ranks k + k / ranks + key + 1)
    (ap (λ (w : Way). w.to) is ∙ sym next) in
    same_way _ _ _ _ (c.rank_before-from.ensures k is_from)
    (c.rank_before-to-else-self-gt0.ensures (sender ranks k + k / ranks + key) one)
