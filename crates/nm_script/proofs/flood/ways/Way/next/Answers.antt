use Rattle.std.proofs.Common.{◌+◌, ◌/◌, ap, ◌∙◌, arith}
use Rattle.nm_script.specs.declared.flood.ways.Way.{Way}
use Rattle.nm_script.specs.FloodScripts.{sender}
use Rattle.nm_script.proofs.WayLemmas.{goes_on, row_begins, same_way}
use Rattle.nm_script.proofs.flood.ways.Way.next.Goals as goal

pub returns-then-from-gt0 : goal.returns-then-from-gt0
returns-then-from-gt0 c key k is =
    let ranks = c.args.ranks in
    let from = c.rank_behind-from.ensures k (ap (λ (w : Way). w.from) is) in
    let to = c.rank_behind-to.ensures (sender ranks k + k / ranks + key) (ap (λ (w : Way). w.to) is) in
    let later = c.if-from-gt0.true in
    same_way _ _ _ _ from (to ∙ goes_on key ranks k c.requires (omega (arith, from, later)))

pub returns-else-from-gt0 : goal.returns-else-from-gt0
returns-else-from-gt0 c key k is =
    let ranks = c.args.ranks in
    let from = c.rank_behind-from.ensures k (ap (λ (w : Way). w.from) is) in
    let one = c.rank_behind-to.ensures (sender ranks k + k / ranks + key) (ap (λ (w : Way). w.to) is) in
    let to = c.rank_behind-to-else-from-gt0.ensures (sender ranks k + k / ranks + key + 1) one in
    let first = c.if-from-gt0.false in
    same_way _ _ _ _ from (to ∙ row_begins key ranks k c.requires (omega (arith, from, first)))
