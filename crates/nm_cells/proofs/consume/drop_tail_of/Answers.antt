use Rattle.std.proofs.Common.{◌∙◌, ◌≤◌, length}
use Rattle.nm_cells.specs.Carried.{held_in}
use Rattle.std.proofs.Common.{◌+◌, ◌-◌, ◌*◌, ◌<◌, sym, refl, ap, subst}
use Rattle.std.proofs.Common.{arith}
use Rattle.std.specs.Prelude.{vec_capacity}
use Rattle.nm_chain.proofs.ConsumerLemmas.{drain_allowed}
use Rattle.nm_cells.proofs.PortLemmas.{takes_room, takes_carries, takes_hands}
use Rattle.nm_cells.proofs.PortLemmas.{takes_boxes, takes_kept, takes_count, takes_counts, takes_made}
use Rattle.nm_cells.proofs.PortLemmas.{takes_own, takes_owner, takes_shadow}
use Rattle.nm_chain.specs.Plays.{Knowing, mine}
use Rattle.nm_cells.specs.AtWork.{HoldsBoxes}
use Rattle.nm_cells.specs.LooseCells.{AreKept}
use Rattle.nm_chain.specs.Plays.{Alone}
use Rattle.nm_chain.specs.OwnQueues.{own}
use Rattle.nm_cells.proofs.consume.drop_tail_of.Goals as goal

pub compare_exchange-found-requires : goal.compare_exchange-found-requires
compare_exchange-found-requires g c = let f = c.args.f.now in let p = c.args.port.now in
    let z = f.sizes.0 in let is = ap (λ e. e.shadow) c.heads-shadow.ensures in
    let w = c.own_queue.ensures in let fits = w.fits in
    let low : 2 * f.ranks + c.own_queue.result < f.board.shared.table_id.words = omega arith in
    rw c.tail_word-word.ensures (
      c.requires.owns.0,
      low,
      drain_allowed _ f.board.shared.key f.ranks f.board.shared.table_id.slots p.seat.id p.seat.me
          p.alone f.shape.0 p.rank p.named c.requires.owns.1 _
          (2 * f.ranks + c.own_queue.result) c.heads-shadow.result.shadow
          (ap (λ k. 2 * f.ranks + k) w.own) (sym is) (subst (λ k. 0 < k) (sym is) c.requires.first),
    )

pub first_taken-requires-clause-own : goal.first_taken-requires-clause-own
first_taken-requires-clause-own g c = let f = c.args.f.now in let p = c.args.port.now in
    let k = c.heads-shadow.result.shadow - 1 in let same = c.if-found-shadow.false in
    λ is. takes_own _ f p k k 0 c.compare_exchange-found.new.seat.me c.requires.owns
    (c.compare_exchange-found.ensures.2.3 same) refl (ap own is)

pub first_taken-requires-clause-count : goal.first_taken-requires-clause-count
first_taken-requires-clause-count g c = let f = c.args.f.now in let p = c.args.port.now in
    let k = c.heads-shadow.result.shadow - 1 in let same = c.if-found-shadow.false in
    λ _. takes_count _ f p k k 0 c.compare_exchange-found.new.seat.me c.requires.owns
    (c.compare_exchange-found.ensures.2.3 same) refl

pub first_taken-requires-clause-low : goal.first_taken-requires-clause-low
first_taken-requires-clause-low g c = let f = c.args.f.now in let p = c.args.port.now in
    let k = c.heads-shadow.result.shadow - 1 in let same = c.if-found-shadow.false in let some_each = f.small.1 in (
      some_each,
      takes_owner _ f p k k 0 c.compare_exchange-found.new.seat.me c.requires.owns
          (c.compare_exchange-found.ensures.2.3 same) refl,
    )

pub first_taken-requires-clause-room : goal.first_taken-requires-clause-room
first_taken-requires-clause-room g c = let f = c.args.f.now in let p = c.args.port.now in
    let k = c.heads-shadow.result.shadow - 1 in let same = c.if-found-shadow.false in
    takes_room _ f p k k 0 c.compare_exchange-found.new.seat.me c.requires.owns
    (c.compare_exchange-found.ensures.2.3 same) refl

pub first_taken-requires-clause-few : goal.first_taken-requires-clause-few
first_taken-requires-clause-few g c = let f = c.args.f.now in let p = c.args.port.now in
    let k = c.heads-shadow.result.shadow - 1 in let same = c.if-found-shadow.false in
    let most = takes_hands _ f p k k 0 c.compare_exchange-found.new.seat.me c.requires.owns
    (c.compare_exchange-found.ensures.2.3 same) refl in omega arith

pub invariant_of-port-clause-boxes : goal.invariant_of-port-clause-boxes
invariant_of-port-clause-boxes g c = let p = c.args.port.now in
    subst (λ (m : Knowing _). HoldsBoxes (mine m) m.1)
    (sym (c.compare_exchange-found.ensures.2.2 c.if-found-shadow.true)) p.boxes

pub invariant_of-port-2-clause-carries : goal.invariant_of-port-2-clause-carries
invariant_of-port-2-clause-carries g c = let f = c.args.f.now in let p = c.args.port.now in
    let k = c.heads-shadow.result.shadow - 1 in let same = c.if-found-shadow.false in
    takes_carries _ f p k k 0 c.compare_exchange-found.new.seat.me c.requires.owns
    (c.compare_exchange-found.ensures.2.3 same) refl c.first_taken.new.carried.items
    (vec_capacity c.first_taken.new.carried)
    c.first_taken.new.hands c.first_taken.ensures.items c.first_taken.ensures.capacity c.first_taken.ensures.hands

pub invariant_of-port-2-clause-boxes : goal.invariant_of-port-2-clause-boxes
invariant_of-port-2-clause-boxes g c = let f = c.args.f.now in let p = c.args.port.now in
    let k = c.heads-shadow.result.shadow - 1 in let same = c.if-found-shadow.false in
    takes_boxes _ f p k k 0 c.compare_exchange-found.new.seat.me c.requires.owns
    (c.compare_exchange-found.ensures.2.3 same) refl

pub invariant_of-port-2-clause-counts : goal.invariant_of-port-2-clause-counts
invariant_of-port-2-clause-counts g c = let f = c.args.f.now in let p = c.args.port.now in
    let k = c.heads-shadow.result.shadow - 1 in let same = c.if-found-shadow.false in
    takes_counts _ f p k k 0 c.compare_exchange-found.new.seat.me c.requires.owns
    (c.compare_exchange-found.ensures.2.3 same) refl c.first_taken.new.peers.items
    c.first_taken.ensures.peers

pub returns-clause-some : goal.returns-clause-some
returns-clause-some g c = let f = c.args.f.now in let p = c.args.port.now in
    let k = c.heads-shadow.result.shadow - 1 in let same = c.if-found-shadow.false in
    takes_made _ f p k k 0 c.compare_exchange-found.new.seat.me c.requires.owns
    (c.compare_exchange-found.ensures.2.3 same) refl _ _ refl c.first_taken.ensures.cell.0
    c.first_taken.ensures.cell.1 refl c.first_taken.ensures.peers c.first_taken.ensures.hands refl
    (let is = ap (λ e. e.shadow) c.heads-shadow.ensures in let some = c.requires.first in omega arith)

pub invariant_of-port-clause-kept : goal.invariant_of-port-clause-kept
invariant_of-port-clause-kept g c = let p = c.args.port.now in
    subst (λ (m : Knowing _). AreKept p.loose (mine m) m.1)
    (sym (c.compare_exchange-found.ensures.2.2 c.if-found-shadow.true)) p.kept

pub invariant_of-port-2-clause-kept : goal.invariant_of-port-2-clause-kept
invariant_of-port-2-clause-kept g c = let f = c.args.f.now in let p = c.args.port.now in
    let k = c.heads-shadow.result.shadow - 1 in let same = c.if-found-shadow.false in
    takes_kept _ f p k k 0 c.compare_exchange-found.new.seat.me c.requires.owns
    (c.compare_exchange-found.ensures.2.3 same) refl

pub returns-clause-next : goal.returns-clause-next
returns-clause-next g c = let f = c.args.f.now in let p = c.args.port.now in
    let k = c.heads-shadow.result.shadow - 1 in let same = c.if-found-shadow.false in
    takes_shadow _ f p k k 0 c.compare_exchange-found.new.seat.me c.requires.owns
    (c.compare_exchange-found.ensures.2.3 same) refl

pub returns-then-found-shadow-clause-owns : goal.returns-then-found-shadow-clause-owns
returns-then-found-shadow-clause-owns g c = let o = c.requires.owns in
    let is = c.compare_exchange-found.ensures.2.2 c.if-found-shadow.true in (
      (
        c.compare_exchange-found.ensures.0 ∙ o.0,
        o.1,
        ap (λ m. (mine m).ranks) is ∙ o.2,
        ap (λ m. (mine m).each) is ∙ o.3,
        ap (λ m. length (mine m).hands) is ∙ o.4,
        ap (λ m. length (mine m).filling) is ∙ o.5,
        ap (λ m. length (mine m).emptying) is ∙ o.6,
      ),
      refl,
    )

pub returns-then-found-shadow-clause-none : goal.returns-then-found-shadow-clause-none
returns-then-found-shadow-clause-none g c = let is = c.compare_exchange-found.ensures.2.2 c.if-found-shadow.true in (
  ap mine is,
  record {
    hands = refl;
    holding = ap (λ (m : Knowing _). held_in (length (mine m).hands) m.1) is;
    taken = (refl, refl, refl);
    loose = refl;
  },
)

pub invariant_of-port-clause-alone : goal.invariant_of-port-clause-alone
invariant_of-port-clause-alone g c =
    let p = c.args.port.now in
    let is = c.compare_exchange-found.ensures.2.2 c.if-found-shadow.true in
    subst Alone (sym is) refl

pub invariant_of-port-clause-named : goal.invariant_of-port-clause-named
invariant_of-port-clause-named g c =
    let p = c.args.port.now in
    let is = c.compare_exchange-found.ensures.2.2 c.if-found-shadow.true in
    ap (λ m. (mine m).rank) is ∙ p.named

pub invariant_of-port-clause-ends : goal.invariant_of-port-clause-ends
invariant_of-port-clause-ends g c =
    let p = c.args.port.now in
    let is = c.compare_exchange-found.ensures.2.2 c.if-found-shadow.true in
    (ap (λ m. (mine m).receive) is ∙ p.ends.0, ap (λ m. (mine m).free) is ∙ p.ends.1)

pub invariant_of-port-clause-missed : goal.invariant_of-port-clause-missed
invariant_of-port-clause-missed g c =
    let p = c.args.port.now in
    let is = c.compare_exchange-found.ensures.2.2 c.if-found-shadow.true in
    (ap (λ m. (mine m).receive_missed) is ∙ p.missed.0, ap (λ m. (mine m).free_missed) is ∙ p.missed.1)

pub invariant_of-port-clause-small : goal.invariant_of-port-clause-small
invariant_of-port-clause-small g c =
    let p = c.args.port.now in
    let is = c.compare_exchange-found.ensures.2.2 c.if-found-shadow.true in
    subst (λ n. (p.receive.shadow ≤ n) × (p.receive.seen ≤ n) × (p.free.shadow ≤ n) × (p.free.seen ≤ n)) (sym (ap (λ m. length (mine m).hands) is)) p.small
