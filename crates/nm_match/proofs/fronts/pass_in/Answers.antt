-- Another one is the oldest, or the last one has left, or the one behind it is the oldest.
use Rattle.nm_match.proofs.PlaceLemmas.{passed_last, passed_not, passed_on}
use Rattle.nm_match.proofs.fronts.pass_in.Goals as goal

pub returns-then-index-number : goal.returns-then-index-number
returns-then-index-number c = λ key found.
    passed_not c.args.map.now key c.args.place found c.index.result.now c.index.ensures c.args.number c.args.next
    c.if-index-number.true

pub returns-then-next-number : goal.returns-then-next-number
returns-then-next-number c = λ key found.
    passed_last c.args.map.now key c.args.place found c.index.result.now c.index.ensures c.args.number c.args.next
    c.if-index-number.false c.if-next-number.true c.swap_remove_index.new.self
    c.swap_remove_index.result c.swap_remove_index.ensures.entry c.swap_remove_index.ensures.updates

pub returns : goal.returns
returns c = λ key found.
    passed_on c.args.map.now key c.args.place found c.index.result.now c.index.ensures c.args.number c.args.next
    c.pair_mut-first.ensures.unique c.if-index-number.false c.if-next-number.false
