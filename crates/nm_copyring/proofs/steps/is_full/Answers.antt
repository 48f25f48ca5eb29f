use Rattle.std.proofs.Common.{ℕ, ◌<◌, ap, arith}
use Rattle.nm_copyring.proofs.KeptLemmas.{peek_in_allowed}
use Rattle.nm_copyring.proofs.PortLemmas.{in_is}
use Rattle.nm_copyring.proofs.steps.is_full.Goals as goal

pub load-requires : goal.load-requires
load-requires g c = let r = c.args.r.now in let seat = c.args.seat.now in let z = r.sizes in
    let words = z.0 in let rests = c.requires.rests in let next = c.requires.next in
    let low = c.place-at.ensures.low in let word : ℕ = c.place-at.result in
    let few : word < r.board.shared.table_id.words = omega arith in (
      c.requires.table,
      few,
      peek_in_allowed r.board.shared.key r.ranks r.board.shared.table_id.slots seat.id r.shape z.1
          seat.me (ap (λ m. m.0) rests.0.0) rests.1 c.args.sender c.requires.sender word
          (in_is r.ranks 0 word c.args.sender seat.me rests.0 rests.1 c.requires.sender c.args.rank
          c.args.number c.place-at.ensures.at next.0 next.1),
    )
