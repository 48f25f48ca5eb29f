use Rattle.std.proofs.Common.{◌+◌, ap, ◌∙◌, subst, sym, arith}
use Rattle.std.proofs.Math.Logic.{∥∥₁_map}
use Rattle.nm_cells.specs.Ports.{knows}
use Rattle.nm_cells.specs.Counted.{CountsFor, peer_in, all_unpassed}
use Rattle.nm_cells.proofs.CountedLemmas.{packet_passed}
use Rattle.nm_cells.proofs.PortLemmas.{peer_low}
use Rattle.nm_cells.proofs.PassLemmas.{one_left, passed_taken, passed_unpassed}
use Rattle.nm_cells.proofs.port.Port.pass.Goals as goal

pub count_passed-requires-clause-sender : goal.count_passed-requires-clause-sender
count_passed-requires-clause-sender g c =
    peer_low c.args.self.now c.args.parcel.now.from c.requires.unpassed.0

pub count_passed-requires-clause-room : goal.count_passed-requires-clause-room
count_passed-requires-clause-room g c = let small = c.args.parcel.now.seq_in_range in
    let next = c.requires.next in omega arith

pub count_passed-requires-clause-some : goal.count_passed-requires-clause-some
count_passed-requires-clause-some g c =
    one_left c.args.self.now c.args.parcel.now c.requires.unpassed c.requires.next

pub invariant_of-self-clause-counts : goal.invariant_of-self-clause-counts
invariant_of-self-clause-counts g c = let p = c.args.self.now in let e = knows p in
    subst (λ l. ∥ CountsFor e l p.held ∥₁) (sym c.count_passed.ensures) (∥∥₁_map p.counts
    (λ n. packet_passed e.put e.got e.put_box e.got_box e.box_full e.box_miss e.filling e.emptying
    e.ranks p.peers.items p.held n c.args.parcel.now c.requires.unpassed c.requires.next
    c.requires.not_held))

pub returns-clause-taken : goal.returns-clause-taken
returns-clause-taken g c = λ i j. (ap (λ l. (peer_in l j).taken) c.count_passed.ensures
    ∙ passed_taken c.args.self.now c.args.parcel.now c.requires.unpassed c.requires.next j) i

pub returns-clause-unpassed : goal.returns-clause-unpassed
returns-clause-unpassed g c = ap (λ l. all_unpassed l + 1) c.count_passed.ensures
    ∙ passed_unpassed c.args.self.now c.args.parcel.now c.requires.unpassed c.requires.next
