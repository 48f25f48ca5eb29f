use Rattle.std.proofs.Common.{◌∙◌, ◌≤◌, length}
use Rattle.nm_cells.specs.Carried.{held_in}
use Rattle.std.proofs.Common.{sym, subst}
use Rattle.std.proofs.Common.{◌≡◌, ◌+◌, ◌-◌, ◌*◌, ◌<◌, refl, ap}
use Rattle.std.proofs.Common.{arith}
use Rattle.std.specs.Prelude.{vec_capacity}
use Rattle.nm_cells.specs.Ports.{knows}
use Rattle.nm_chain.proofs.ConsumerLemmas.{reload_allowed}
use Rattle.nm_cells.proofs.PortLemmas.{shadow_below, takes_shadow, takes_room, takes_carries, takes_hands}
use Rattle.nm_cells.proofs.PortLemmas.{takes_boxes, takes_kept, takes_count, takes_counts, takes_made}
use Rattle.nm_cells.proofs.PortLemmas.{takes_own, takes_owner}
use Rattle.nm_chain.specs.Plays.{Knowing, mine}
use Rattle.nm_cells.specs.AtWork.{HoldsBoxes}
use Rattle.nm_cells.specs.LooseCells.{AreKept}
use Rattle.nm_chain.specs.Plays.{Alone}
use Rattle.nm_chain.specs.OwnQueues.{own}
use Rattle.nm_cells.proofs.consume.reload_link_of.Goals as goal

pub load-found-requires : goal.load-found-requires
load-found-requires g c = let f = c.args.f.now in let p = c.args.port.now in let z = f.sizes.0 in
    let is = ap (λ e. e.shadow) c.heads-number.ensures in let some = c.requires.first in
    let fits = shadow_below _ p c.heads-number.result c.heads-number.ensures in
    let most = c.requires.owns.4 in
    let low : 4 * f.ranks + (c.heads-number.result.shadow - 1) < f.board.shared.table_id.words =
    omega arith in rw c.link_word-word.ensures (
      c.requires.owns.0,
      low,
      reload_allowed _ f.board.shared.key f.ranks f.board.shared.table_id.slots p.seat.id p.seat.me
          p.alone f.shape.0 p.rank p.named c.requires.owns.1 _ (c.heads-number.result.shadow - 1)
          (omega arith),
    )

pub first_taken-requires-clause-own : goal.first_taken-requires-clause-own
first_taken-requires-clause-own g c = let f = c.args.f.now in let p = c.args.port.now in
    let k = c.heads-number.result.shadow - 1 in let rs = c.requires.owns.2 in
    let is_word = c.link_word-word.ensures in
    let at : c.link_word-word.result - 4 * (knows p).ranks ≡ k = omega arith in
    let some = c.if-found-eq0.false in
    λ is. takes_own _ f p (c.link_word-word.result - 4 * (knows p).ranks) k c.load-found.result
    c.load-found.new.seat.me c.requires.owns (c.load-found.ensures.2.2 (omega arith)) at (ap own is)

pub first_taken-requires-clause-count : goal.first_taken-requires-clause-count
first_taken-requires-clause-count g c = let f = c.args.f.now in let p = c.args.port.now in
    let k = c.heads-number.result.shadow - 1 in let rs = c.requires.owns.2 in
    let is_word = c.link_word-word.ensures in
    let at : c.link_word-word.result - 4 * (knows p).ranks ≡ k = omega arith in
    let some = c.if-found-eq0.false in
    λ _. takes_count _ f p (c.link_word-word.result - 4 * (knows p).ranks) k c.load-found.result
    c.load-found.new.seat.me c.requires.owns (c.load-found.ensures.2.2 (omega arith)) at

pub first_taken-requires-clause-low : goal.first_taken-requires-clause-low
first_taken-requires-clause-low g c = let f = c.args.f.now in let p = c.args.port.now in
    let k = c.heads-number.result.shadow - 1 in let rs = c.requires.owns.2 in
    let is_word = c.link_word-word.ensures in
    let at : c.link_word-word.result - 4 * (knows p).ranks ≡ k = omega arith in
    let some = c.if-found-eq0.false in let some_each = f.small.1 in (
      some_each,
      takes_owner _ f p (c.link_word-word.result - 4 * (knows p).ranks) k c.load-found.result
          c.load-found.new.seat.me c.requires.owns (c.load-found.ensures.2.2 (omega arith)) at,
    )

pub first_taken-requires-clause-room : goal.first_taken-requires-clause-room
first_taken-requires-clause-room g c = let f = c.args.f.now in let p = c.args.port.now in
    let k = c.heads-number.result.shadow - 1 in let rs = c.requires.owns.2 in
    let is_word = c.link_word-word.ensures in
    let at : c.link_word-word.result - 4 * (knows p).ranks ≡ k = omega arith in
    let some = c.if-found-eq0.false in
    takes_room _ f p (c.link_word-word.result - 4 * (knows p).ranks) k c.load-found.result
    c.load-found.new.seat.me c.requires.owns (c.load-found.ensures.2.2 (omega arith)) at

pub first_taken-requires-clause-few : goal.first_taken-requires-clause-few
first_taken-requires-clause-few g c = let f = c.args.f.now in let p = c.args.port.now in
    let k = c.heads-number.result.shadow - 1 in let rs = c.requires.owns.2 in
    let is_word = c.link_word-word.ensures in
    let at : c.link_word-word.result - 4 * (knows p).ranks ≡ k = omega arith in
    let some = c.if-found-eq0.false in
    let most = takes_hands _ f p (c.link_word-word.result - 4 * (knows p).ranks) k c.load-found.result
    c.load-found.new.seat.me c.requires.owns (c.load-found.ensures.2.2 (omega arith)) at in
    omega arith

pub invariant_of-port-clause-boxes : goal.invariant_of-port-clause-boxes
invariant_of-port-clause-boxes g c = let p = c.args.port.now in
    subst (λ (m : Knowing _). HoldsBoxes (mine m) m.1)
    (sym (c.load-found.ensures.2.1 c.if-found-eq0.true)) p.boxes

pub invariant_of-port-else-this-ne0-clause-boxes : goal.invariant_of-port-else-this-ne0-clause-boxes
invariant_of-port-else-this-ne0-clause-boxes g c = let p = c.args.port.now in
    subst (λ (m : Knowing _). HoldsBoxes (mine m) m.1)
    (sym (c.load-found.ensures.2.1 c.if-found-eq0.true)) p.boxes

pub invariant_of-port-2-clause-carries : goal.invariant_of-port-2-clause-carries
invariant_of-port-2-clause-carries g c = let f = c.args.f.now in let p = c.args.port.now in
    let k = c.heads-number.result.shadow - 1 in let rs = c.requires.owns.2 in
    let is_word = c.link_word-word.ensures in
    let at : c.link_word-word.result - 4 * (knows p).ranks ≡ k = omega arith in
    let some = c.if-found-eq0.false in
    takes_carries _ f p (c.link_word-word.result - 4 * (knows p).ranks) k c.load-found.result
    c.load-found.new.seat.me c.requires.owns (c.load-found.ensures.2.2 (omega arith)) at
    c.first_taken.new.carried.items (vec_capacity c.first_taken.new.carried)
    c.first_taken.new.hands c.first_taken.ensures.items c.first_taken.ensures.capacity c.first_taken.ensures.hands

pub invariant_of-port-2-clause-boxes : goal.invariant_of-port-2-clause-boxes
invariant_of-port-2-clause-boxes g c = let f = c.args.f.now in let p = c.args.port.now in
    let k = c.heads-number.result.shadow - 1 in let rs = c.requires.owns.2 in
    let is_word = c.link_word-word.ensures in
    let at : c.link_word-word.result - 4 * (knows p).ranks ≡ k = omega arith in
    let some = c.if-found-eq0.false in
    takes_boxes _ f p (c.link_word-word.result - 4 * (knows p).ranks) k c.load-found.result
    c.load-found.new.seat.me c.requires.owns (c.load-found.ensures.2.2 (omega arith)) at

pub invariant_of-port-2-clause-counts : goal.invariant_of-port-2-clause-counts
invariant_of-port-2-clause-counts g c = let f = c.args.f.now in let p = c.args.port.now in
    let k = c.heads-number.result.shadow - 1 in let rs = c.requires.owns.2 in
    let is_word = c.link_word-word.ensures in
    let at : c.link_word-word.result - 4 * (knows p).ranks ≡ k = omega arith in
    let some = c.if-found-eq0.false in
    takes_counts _ f p (c.link_word-word.result - 4 * (knows p).ranks) k c.load-found.result
    c.load-found.new.seat.me c.requires.owns (c.load-found.ensures.2.2 (omega arith)) at
    c.first_taken.new.peers.items c.first_taken.ensures.peers

pub returns-clause-some : goal.returns-clause-some
returns-clause-some g c = let f = c.args.f.now in let p = c.args.port.now in
    let k = c.heads-number.result.shadow - 1 in let rs = c.requires.owns.2 in
    let is_word = c.link_word-word.ensures in
    let at : c.link_word-word.result - 4 * (knows p).ranks ≡ k = omega arith in
    let some = c.if-found-eq0.false in
    takes_made _ f p (c.link_word-word.result - 4 * (knows p).ranks) k c.load-found.result
    c.load-found.new.seat.me c.requires.owns (c.load-found.ensures.2.2 (omega arith)) at _ _
    refl c.first_taken.ensures.cell.0 c.first_taken.ensures.cell.1 refl
    c.first_taken.ensures.peers c.first_taken.ensures.hands refl
    (let is = ap (λ e. e.shadow) c.heads-number.ensures in let some = c.requires.first in omega arith)

pub invariant_of-port-clause-kept : goal.invariant_of-port-clause-kept
invariant_of-port-clause-kept g c = let p = c.args.port.now in
    subst (λ (m : Knowing _). AreKept p.loose (mine m) m.1)
    (sym (c.load-found.ensures.2.1 c.if-found-eq0.true)) p.kept

pub invariant_of-port-else-this-ne0-clause-kept : goal.invariant_of-port-else-this-ne0-clause-kept
invariant_of-port-else-this-ne0-clause-kept g c = let p = c.args.port.now in
    subst (λ (m : Knowing _). AreKept p.loose (mine m) m.1)
    (sym (c.load-found.ensures.2.1 c.if-found-eq0.true)) p.kept

pub invariant_of-port-2-clause-kept : goal.invariant_of-port-2-clause-kept
invariant_of-port-2-clause-kept g c = let f = c.args.f.now in let p = c.args.port.now in
    let k = c.heads-number.result.shadow - 1 in let rs = c.requires.owns.2 in
    let is_word = c.link_word-word.ensures in
    let at : c.link_word-word.result - 4 * (knows p).ranks ≡ k = omega arith in
    let some = c.if-found-eq0.false in
    takes_kept _ f p (c.link_word-word.result - 4 * (knows p).ranks) k c.load-found.result
    c.load-found.new.seat.me c.requires.owns (c.load-found.ensures.2.2 (omega arith)) at

pub returns-clause-next : goal.returns-clause-next
returns-clause-next g c = let f = c.args.f.now in let p = c.args.port.now in
    let k = c.heads-number.result.shadow - 1 in let rs = c.requires.owns.2 in
    let is_word = c.link_word-word.ensures in
    let at : c.link_word-word.result - 4 * (knows p).ranks ≡ k = omega arith in
    let some = c.if-found-eq0.false in
    subst (λ n. 0 < n)
    (sym (takes_shadow _ f p (c.link_word-word.result - 4 * (knows p).ranks) k c.load-found.result
    c.load-found.new.seat.me c.requires.owns (c.load-found.ensures.2.2 (omega arith)) at))
    (omega arith)

pub returns-then-this-ne0-clause-owns : goal.returns-then-this-ne0-clause-owns
returns-then-this-ne0-clause-owns g c = let o = c.requires.owns in
    let is = c.load-found.ensures.2.1 c.if-found-eq0.true in (
      (
        c.load-found.ensures.0 ∙ o.0,
        o.1,
        ap (λ m. (mine m).ranks) is ∙ o.2,
        ap (λ m. (mine m).each) is ∙ o.3,
        ap (λ m. length (mine m).hands) is ∙ o.4,
        ap (λ m. length (mine m).filling) is ∙ o.5,
        ap (λ m. length (mine m).emptying) is ∙ o.6,
      ),
      refl,
    )

pub returns-then-this-ne0-clause-none : goal.returns-then-this-ne0-clause-none
returns-then-this-ne0-clause-none g c = let is = c.load-found.ensures.2.1 c.if-found-eq0.true in (
  ap mine is,
  record {
    hands = refl;
    holding = ap (λ (m : Knowing _). held_in (length (mine m).hands) m.1) is;
    taken = (refl, refl, refl);
    loose = refl;
  },
)

pub returns-else-this-ne0-clause-owns : goal.returns-else-this-ne0-clause-owns
returns-else-this-ne0-clause-owns g c = let o = c.requires.owns in
    let is = c.load-found.ensures.2.1 c.if-found-eq0.true in (
      (
        c.load-found.ensures.0 ∙ o.0,
        o.1,
        ap (λ m. (mine m).ranks) is ∙ o.2,
        ap (λ m. (mine m).each) is ∙ o.3,
        ap (λ m. length (mine m).hands) is ∙ o.4,
        ap (λ m. length (mine m).filling) is ∙ o.5,
        ap (λ m. length (mine m).emptying) is ∙ o.6,
      ),
      refl,
    )

pub returns-else-this-ne0-clause-none : goal.returns-else-this-ne0-clause-none
returns-else-this-ne0-clause-none g c = let is = c.load-found.ensures.2.1 c.if-found-eq0.true in (
  ap mine is,
  record {
    hands = refl;
    holding = ap (λ (m : Knowing _). held_in (length (mine m).hands) m.1) is;
    taken = (refl, refl, refl);
    loose = refl;
  },
)

pub invariant_of-port-clause-alone : goal.invariant_of-port-clause-alone
invariant_of-port-clause-alone g c =
    let p = c.args.port.now in let is = c.load-found.ensures.2.1 c.if-found-eq0.true in
    subst Alone (sym is) refl

pub invariant_of-port-clause-named : goal.invariant_of-port-clause-named
invariant_of-port-clause-named g c =
    let p = c.args.port.now in let is = c.load-found.ensures.2.1 c.if-found-eq0.true in
    ap (λ m. (mine m).rank) is ∙ p.named

pub invariant_of-port-clause-ends : goal.invariant_of-port-clause-ends
invariant_of-port-clause-ends g c =
    let p = c.args.port.now in let is = c.load-found.ensures.2.1 c.if-found-eq0.true in
    (ap (λ m. (mine m).receive) is ∙ p.ends.0, ap (λ m. (mine m).free) is ∙ p.ends.1)

pub invariant_of-port-clause-small : goal.invariant_of-port-clause-small
invariant_of-port-clause-small g c =
    let p = c.args.port.now in let is = c.load-found.ensures.2.1 c.if-found-eq0.true in
    subst (λ n. (p.receive.shadow ≤ n) × (p.receive.seen ≤ n) × (p.free.shadow ≤ n) × (p.free.seen ≤ n)) (sym (ap (λ m. length (mine m).hands) is)) p.small

pub invariant_of-port-else-this-ne0-clause-alone : goal.invariant_of-port-else-this-ne0-clause-alone
invariant_of-port-else-this-ne0-clause-alone g c =
    let p = c.args.port.now in let is = c.load-found.ensures.2.1 c.if-found-eq0.true in
    subst Alone (sym is) refl

pub invariant_of-port-else-this-ne0-clause-named : goal.invariant_of-port-else-this-ne0-clause-named
invariant_of-port-else-this-ne0-clause-named g c =
    let p = c.args.port.now in let is = c.load-found.ensures.2.1 c.if-found-eq0.true in
    ap (λ m. (mine m).rank) is ∙ p.named

pub invariant_of-port-else-this-ne0-clause-ends : goal.invariant_of-port-else-this-ne0-clause-ends
invariant_of-port-else-this-ne0-clause-ends g c =
    let p = c.args.port.now in let is = c.load-found.ensures.2.1 c.if-found-eq0.true in
    (ap (λ m. (mine m).receive) is ∙ p.ends.0, ap (λ m. (mine m).free) is ∙ p.ends.1)

pub invariant_of-port-else-this-ne0-clause-small : goal.invariant_of-port-else-this-ne0-clause-small
invariant_of-port-else-this-ne0-clause-small g c =
    let p = c.args.port.now in let is = c.load-found.ensures.2.1 c.if-found-eq0.true in
    subst (λ n. (p.receive.shadow ≤ n) × (p.receive.seen ≤ n) × (p.free.shadow ≤ n) × (p.free.seen ≤ n)) (sym (ap (λ m. length (mine m).hands) is)) p.small
