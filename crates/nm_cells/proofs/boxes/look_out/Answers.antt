use Rattle.std.proofs.Common.{◌≡◌, ℕ, ◌+◌, ◌-◌, ◌*◌, ◌<◌, ◌≤◌, [], ◌∷◌, true, length, sym, refl, ap, ◌∙◌, subst}
use Rattle.std.proofs.Common.{arith, length-set}
use Rattle.std.specs.Prelude.{vec_capacity}
use Rattle.atomic_table.specs.Table.{Allows, step}
use mathlib.Core.Option as maybe
use Rattle.nm_chain.specs.Rule.{Rule, filling_of}
use Rattle.nm_chain.specs.Plays as plays
use Rattle.nm_chain.specs.Plays.{mine}
use Rattle.nm_cells.specs.Ports.{knows, opens}
use Rattle.nm_cells.specs.Carried.{held_in}
use Rattle.nm_cells.specs.Counted.{peer_in, all_unpassed, one_full, one_opened}
use Rattle.nm_cells.specs.declared.tallies.Tally.{Tally}
use Rattle.nm_cells.specs.AtWork.{HoldsBoxes}
use Rattle.nm_chain.specs.Spoken.{view}
use Rattle.nm_cells.proofs.PortLemmas.{CarriesFor}
use Rattle.nm_cells.proofs.PortLemmas.{peer_low, peer_box_put}
use Rattle.nm_chain.proofs.BoxStepLemmas.{look_out_allowed}
use Rattle.nm_cells.proofs.BoxCallLemmas as calls
use Rattle.nm_cells.specs.LooseCells.{AreKept}
use Rattle.nm_cells.proofs.LooseLemmas.{kept_opened}
use Rattle.nm_cells.proofs.boxes.look_out.Goals as goal

pub load-found-requires : goal.load-found-requires
load-found-requires g c = let f = c.args.f.now in let p = c.args.port.now in
    let id = f.board.shared.table_id in let z₀ = f.sizes.0 in let b = c.box_at-slot.ensures in
    let l = b.low in let few = c.requires.peer in let o = c.requires.owns in
    let is_word = c.flag_word-word.ensures in
    let word : ℕ = c.flag_word-word.result in let low : word < id.words = omega arith in
    let place = c.peer-peer.result.box_put in
    let at = ap (λ (u : Tally). u.box_put) c.peer-peer.ensures ∙ peer_box_put p c.args.to
    (calls.few f p o c.args.to few) in (
      o.0,
      low,
      subst (λ t. Allows (Rule g.I.Item.boxable f.board.shared.key) id.slots p.seat.id p.seat.me word (λ u. u)
          (plays.looked_out t (step id.slots word 0 0 maybe.none) p.seat.me)) c.requires.told
          (look_out_allowed _ f.board.shared.key f.ranks f.each id.slots p.seat.id p.seat.me p.alone
          f.shape.0 f.shape.1 p.rank p.named o.1 c.args.to few place word at
          (is_word ∙ ap (λ k. 4 * f.ranks + k) b.at)),
    )

pub invariant_of-port-clause-carries : goal.invariant_of-port-clause-carries
invariant_of-port-clause-carries g c =
    let f = c.args.f.now in let p = c.args.port.now in let o = c.requires.owns in
    let few = c.requires.peer in
    let then = subst (λ t. plays.told_out t (step f.board.shared.table_id.slots
    c.flag_word-word.result 0 0 maybe.none) p.seat.me c.load-found.result
    c.load-found.new.seat.me) (sym c.requires.told) c.load-found.ensures.2.1 in
    let some = c.if-found-ne0.true in let is = then.1 (omega arith) in
    subst (λ m. CarriesFor m p.carried.items (vec_capacity p.carried) p.hands) (sym is) p.carries

pub invariant_of-port-clause-boxes : goal.invariant_of-port-clause-boxes
invariant_of-port-clause-boxes g c =
    let f = c.args.f.now in let p = c.args.port.now in let o = c.requires.owns in
    let few = c.requires.peer in
    let then = subst (λ t. plays.told_out t (step f.board.shared.table_id.slots
    c.flag_word-word.result 0 0 maybe.none) p.seat.me c.load-found.result
    c.load-found.new.seat.me) (sym c.requires.told) c.load-found.ensures.2.1 in
    let some = c.if-found-ne0.true in let is = then.1 (omega arith) in
    subst (λ (m : plays.Knowing _). HoldsBoxes (mine m) m.1) (sym is) p.boxes

pub invariant_of-port-clause-counts : goal.invariant_of-port-clause-counts
invariant_of-port-clause-counts g c =
    let f = c.args.f.now in let p = c.args.port.now in let o = c.requires.owns in
    let few = c.requires.peer in
    let then = subst (λ t. plays.told_out t (step f.board.shared.table_id.slots
    c.flag_word-word.result 0 0 maybe.none) p.seat.me c.load-found.result
    c.load-found.new.seat.me) (sym c.requires.told) c.load-found.ensures.2.1 in
    let some = c.if-found-ne0.true in let is = then.1 (omega arith) in
    calls.full_counts f p o c.args.to few c.load-found.new.seat.me c.box_at-slot.result is
    c.count_full.new.peers.items c.count_full.ensures

pub returns-then-found-ne0-clause-stays : goal.returns-then-found-ne0-clause-stays
returns-then-found-ne0-clause-stays g c =
    let f = c.args.f.now in let p = c.args.port.now in let o = c.requires.owns in
    let few = c.requires.peer in
    let then = subst (λ t. plays.told_out t (step f.board.shared.table_id.slots
    c.flag_word-word.result 0 0 maybe.none) p.seat.me c.load-found.result
    c.load-found.new.seat.me) (sym c.requires.told) c.load-found.ensures.2.1 in
    let some = c.if-found-ne0.true in let is = then.1 (omega arith) in
    let t = calls.peers_stay one_full c.args.to p.peers.items
    (peer_low p c.args.to (calls.few f p o c.args.to few)) (λ u. refl) (λ u. refl) in (
      calls.owns_then f p o c.args.to few (c.load-found.ensures.0 ∙ o.0)
          c.load-found.new.seat.me
          (ap (λ m. (mine m).ranks) is) (ap (λ m. (mine m).each) is)
          (ap (λ m. length (mine m).hands) is) (ap (λ m. length (mine m).filling) is)
          (ap (λ m. length (mine m).emptying) is),
      refl,
      (
        (λ i k. (ap (λ l. (peer_in l k).taken) c.count_full.ensures ∙ t.0 k) i),
        refl,
        ap all_unpassed c.count_full.ensures ∙ t.1,
      ),
      refl,
    )

pub take_box-requires : goal.take_box-requires
take_box-requires g c =
    let f = c.args.f.now in let p = c.args.port.now in let o = c.requires.owns in
    let few = c.requires.peer in
    let then = subst (λ t. plays.told_out t (step f.board.shared.table_id.slots
    c.flag_word-word.result 0 0 maybe.none) p.seat.me c.load-found.result
    c.load-found.new.seat.me) (sym c.requires.told) c.load-found.ensures.2.1 in
    let none = c.if-found-ne0.false in let free = then.0 (omega arith) in
    let rs = o.2 in let is_word = c.flag_word-word.ensures in let word : ℕ = c.flag_word-word.result in
    let back : word - 4 * (knows p).ranks ≡ c.box_at-slot.result = omega arith in
    let place = ap (λ (u : Tally). u.box_put) c.peer-peer.ensures ∙ peer_box_put p c.args.to
    (calls.few f p o c.args.to few) in
    let at = c.box_at-slot.ensures.at ∙ calls.out_slot_is f p o c.args.to few
    c.peer-peer.result.box_put place in
    let is = free.1 ∙ ap (λ k. (
      view (plays.with_filling c.args.to true (knows p) ∷ []),
      plays.slots_to_fill (filling_of (knows p) c.args.to) k p.seat.me.1,
    )) back in
    let was = sym (calls.is_filling f p o c.args.to few)
    ∙ sym (ap (λ (u : Tally). u.filling) c.peer-peer.ensures) in
    record {
      room = calls.free_room f p o c.args.to few c.load-found.new.seat.me c.box_at-slot.result at is free.2
          c.peer-peer.result.filling was;
    }

pub note_filling-requires : goal.note_filling-requires
note_filling-requires g c = let p = c.args.port.now in record {
  to = peer_low p c.args.to (calls.few c.args.f.now p c.requires.owns c.args.to c.requires.peer);
}

pub invariant_of-port-2-clause-carries : goal.invariant_of-port-2-clause-carries
invariant_of-port-2-clause-carries g c =
    let f = c.args.f.now in let p = c.args.port.now in let o = c.requires.owns in
    let few = c.requires.peer in
    let then = subst (λ t. plays.told_out t (step f.board.shared.table_id.slots
    c.flag_word-word.result 0 0 maybe.none) p.seat.me c.load-found.result
    c.load-found.new.seat.me) (sym c.requires.told) c.load-found.ensures.2.1 in
    let none = c.if-found-ne0.false in let free = then.0 (omega arith) in
    let rs = o.2 in let is_word = c.flag_word-word.ensures in let word : ℕ = c.flag_word-word.result in
    let back : word - 4 * (knows p).ranks ≡ c.box_at-slot.result = omega arith in
    let place = ap (λ (u : Tally). u.box_put) c.peer-peer.ensures ∙ peer_box_put p c.args.to
    (calls.few f p o c.args.to few) in
    let at = c.box_at-slot.ensures.at ∙ calls.out_slot_is f p o c.args.to few
    c.peer-peer.result.box_put place in
    let is = free.1 ∙ ap (λ k. (
      view (plays.with_filling c.args.to true (knows p) ∷ []),
      plays.slots_to_fill (filling_of (knows p) c.args.to) k p.seat.me.1,
    )) back in
    let was = sym (calls.is_filling f p o c.args.to few)
    ∙ sym (ap (λ (u : Tally). u.filling) c.peer-peer.ensures) in
    calls.free_carries f p o c.args.to few c.load-found.new.seat.me c.box_at-slot.result at is free.2
    c.peer-peer.result.filling was
    c.take_box.new.carried.items (vec_capacity c.take_box.new.carried) c.take_box.new.hands
    c.take_box.ensures.items c.take_box.ensures.capacity c.take_box.ensures.hands

pub invariant_of-port-2-clause-boxes : goal.invariant_of-port-2-clause-boxes
invariant_of-port-2-clause-boxes g c =
    let f = c.args.f.now in let p = c.args.port.now in let o = c.requires.owns in
    let few = c.requires.peer in
    let then = subst (λ t. plays.told_out t (step f.board.shared.table_id.slots
    c.flag_word-word.result 0 0 maybe.none) p.seat.me c.load-found.result
    c.load-found.new.seat.me) (sym c.requires.told) c.load-found.ensures.2.1 in
    let none = c.if-found-ne0.false in let free = then.0 (omega arith) in
    let rs = o.2 in let is_word = c.flag_word-word.ensures in let word : ℕ = c.flag_word-word.result in
    let back : word - 4 * (knows p).ranks ≡ c.box_at-slot.result = omega arith in
    let place = ap (λ (u : Tally). u.box_put) c.peer-peer.ensures ∙ peer_box_put p c.args.to
    (calls.few f p o c.args.to few) in
    let at = c.box_at-slot.ensures.at ∙ calls.out_slot_is f p o c.args.to few
    c.peer-peer.result.box_put place in
    let is = free.1 ∙ ap (λ k. (
      view (plays.with_filling c.args.to true (knows p) ∷ []),
      plays.slots_to_fill (filling_of (knows p) c.args.to) k p.seat.me.1,
    )) back in
    let was = sym (calls.is_filling f p o c.args.to few)
    ∙ sym (ap (λ (u : Tally). u.filling) c.peer-peer.ensures) in
    calls.free_boxes f p o c.args.to few c.load-found.new.seat.me c.box_at-slot.result at is free.2
    c.peer-peer.result.filling was

pub invariant_of-port-2-clause-counts : goal.invariant_of-port-2-clause-counts
invariant_of-port-2-clause-counts g c =
    let f = c.args.f.now in let p = c.args.port.now in let o = c.requires.owns in
    let few = c.requires.peer in
    let then = subst (λ t. plays.told_out t (step f.board.shared.table_id.slots
    c.flag_word-word.result 0 0 maybe.none) p.seat.me c.load-found.result
    c.load-found.new.seat.me) (sym c.requires.told) c.load-found.ensures.2.1 in
    let none = c.if-found-ne0.false in let free = then.0 (omega arith) in
    let rs = o.2 in let is_word = c.flag_word-word.ensures in let word : ℕ = c.flag_word-word.result in
    let back : word - 4 * (knows p).ranks ≡ c.box_at-slot.result = omega arith in
    let place = ap (λ (u : Tally). u.box_put) c.peer-peer.ensures ∙ peer_box_put p c.args.to
    (calls.few f p o c.args.to few) in
    let at = c.box_at-slot.ensures.at ∙ calls.out_slot_is f p o c.args.to few
    c.peer-peer.result.box_put place in
    let is = free.1 ∙ ap (λ k. (
      view (plays.with_filling c.args.to true (knows p) ∷ []),
      plays.slots_to_fill (filling_of (knows p) c.args.to) k p.seat.me.1,
    )) back in
    let was = sym (calls.is_filling f p o c.args.to few)
    ∙ sym (ap (λ (u : Tally). u.filling) c.peer-peer.ensures) in
    calls.free_counts f p o c.args.to few c.load-found.new.seat.me c.box_at-slot.result at is free.2
    c.note_filling.new.peers.items c.note_filling.ensures

pub returns-clause-stays : goal.returns-clause-stays
returns-clause-stays g c =
    let f = c.args.f.now in let p = c.args.port.now in let o = c.requires.owns in
    let few = c.requires.peer in
    let then = subst (λ t. plays.told_out t (step f.board.shared.table_id.slots
    c.flag_word-word.result 0 0 maybe.none) p.seat.me c.load-found.result
    c.load-found.new.seat.me) (sym c.requires.told) c.load-found.ensures.2.1 in
    let none = c.if-found-ne0.false in let free = then.0 (omega arith) in
    let rs = o.2 in let is_word = c.flag_word-word.ensures in let word : ℕ = c.flag_word-word.result in
    let back : word - 4 * (knows p).ranks ≡ c.box_at-slot.result = omega arith in
    let place = ap (λ (u : Tally). u.box_put) c.peer-peer.ensures ∙ peer_box_put p c.args.to
    (calls.few f p o c.args.to few) in
    let at = c.box_at-slot.ensures.at ∙ calls.out_slot_is f p o c.args.to few
    c.peer-peer.result.box_put place in
    let is = free.1 ∙ ap (λ k. (
      view (plays.with_filling c.args.to true (knows p) ∷ []),
      plays.slots_to_fill (filling_of (knows p) c.args.to) k p.seat.me.1,
    )) back in
    let was = sym (calls.is_filling f p o c.args.to few)
    ∙ sym (ap (λ (u : Tally). u.filling) c.peer-peer.ensures) in
    let t = calls.peers_stay one_opened c.args.to p.peers.items
    (peer_low p c.args.to (calls.few f p o c.args.to few)) (λ u. refl) (λ u. refl) in (
      calls.owns_then f p o c.args.to few (c.load-found.ensures.0 ∙ o.0)
          c.load-found.new.seat.me
          (ap (λ m. (mine m).ranks) is) (ap (λ m. (mine m).each) is)
          (ap (λ m. length (mine m).hands) is)
          (ap (λ m. length (mine m).filling) is ∙ length-set (knows p).filling c.args.to true)
          (ap (λ m. length (mine m).emptying) is),
      refl,
      (
        (λ i k. (ap (λ l. (peer_in l k).taken) c.note_filling.ensures ∙ t.0 k) i),
        refl,
        ap all_unpassed c.note_filling.ensures ∙ t.1,
      ),
      refl,
    )

pub invariant_of-port-clause-kept : goal.invariant_of-port-clause-kept
invariant_of-port-clause-kept g c =
    let f = c.args.f.now in let p = c.args.port.now in let o = c.requires.owns in
    let few = c.requires.peer in
    let then = subst (λ t. plays.told_out t (step f.board.shared.table_id.slots
    c.flag_word-word.result 0 0 maybe.none) p.seat.me c.load-found.result
    c.load-found.new.seat.me) (sym c.requires.told) c.load-found.ensures.2.1 in
    let some = c.if-found-ne0.true in let is = then.1 (omega arith) in
    subst (λ (m : plays.Knowing _). AreKept p.loose (mine m) m.1) (sym is) p.kept

pub invariant_of-port-2-clause-kept : goal.invariant_of-port-2-clause-kept
invariant_of-port-2-clause-kept g c =
    let f = c.args.f.now in let p = c.args.port.now in let o = c.requires.owns in
    let few = c.requires.peer in
    let then = subst (λ t. plays.told_out t (step f.board.shared.table_id.slots
    c.flag_word-word.result 0 0 maybe.none) p.seat.me c.load-found.result
    c.load-found.new.seat.me) (sym c.requires.told) c.load-found.ensures.2.1 in
    let none = c.if-found-ne0.false in let free = then.0 (omega arith) in
    let rs = o.2 in let is_word = c.flag_word-word.ensures in let word : ℕ = c.flag_word-word.result in
    let back : word - 4 * (knows p).ranks ≡ c.box_at-slot.result = omega arith in
    let place = ap (λ (u : Tally). u.box_put) c.peer-peer.ensures ∙ peer_box_put p c.args.to
    (calls.few f p o c.args.to few) in
    let at = c.box_at-slot.ensures.at ∙ calls.out_slot_is f p o c.args.to few
    c.peer-peer.result.box_put place in
    let is = free.1 ∙ ap (λ k. (
      view (plays.with_filling c.args.to true (knows p) ∷ []),
      plays.slots_to_fill (filling_of (knows p) c.args.to) k p.seat.me.1,
    )) back in
    let was = sym (calls.is_filling f p o c.args.to few)
    ∙ sym (ap (λ (u : Tally). u.filling) c.peer-peer.ensures) in
    kept_opened p.loose p.seat.me c.load-found.new.seat.me p.kept c.args.to c.box_at-slot.result
    (filling_of (knows p) c.args.to)
    (subst (λ k. length (knows p).hands ≤ k) (sym at) (calls.far f p o c.args.to few true)) is

pub returns-then-found-ne0-clause-full : goal.returns-then-found-ne0-clause-full
returns-then-found-ne0-clause-full g c _ =
    let f = c.args.f.now in let p = c.args.port.now in let o = c.requires.owns in
    let few = c.requires.peer in
    let then = subst (λ t. plays.told_out t (step f.board.shared.table_id.slots
    c.flag_word-word.result 0 0 maybe.none) p.seat.me c.load-found.result
    c.load-found.new.seat.me) (sym c.requires.told) c.load-found.ensures.2.1 in
    let some = c.if-found-ne0.true in let is = then.1 (omega arith) in
    (ap mine is, refl)

pub returns-then-found-ne0-clause-holding : goal.returns-then-found-ne0-clause-holding
returns-then-found-ne0-clause-holding g c =
    let f = c.args.f.now in let p = c.args.port.now in let o = c.requires.owns in
    let few = c.requires.peer in
    let then = subst (λ t. plays.told_out t (step f.board.shared.table_id.slots
    c.flag_word-word.result 0 0 maybe.none) p.seat.me c.load-found.result
    c.load-found.new.seat.me) (sym c.requires.told) c.load-found.ensures.2.1 in
    let some = c.if-found-ne0.true in let is = then.1 (omega arith) in
    ap (λ (m : plays.Knowing _). held_in (length (mine m).hands) m.1) is

pub returns-clause-free : goal.returns-clause-free
returns-clause-free g c _ =
    let f = c.args.f.now in let p = c.args.port.now in let o = c.requires.owns in
    let few = c.requires.peer in
    let then = subst (λ t. plays.told_out t (step f.board.shared.table_id.slots
    c.flag_word-word.result 0 0 maybe.none) p.seat.me c.load-found.result
    c.load-found.new.seat.me) (sym c.requires.told) c.load-found.ensures.2.1 in
    let none = c.if-found-ne0.false in let free = then.0 (omega arith) in
    let was = calls.is_filling f p o c.args.to few in
    let counted = ap (λ (u : Tally). u.filling) c.peer-peer.ensures in (
      free.0,
      ap mine free.1,
      c.take_box.ensures.hands ∙ ap (λ b. p.hands + opens b) (counted ∙ was),
    )

pub returns-clause-holding : goal.returns-clause-holding
returns-clause-holding g c =
    let f = c.args.f.now in let p = c.args.port.now in let o = c.requires.owns in
    let few = c.requires.peer in
    let then = subst (λ t. plays.told_out t (step f.board.shared.table_id.slots
    c.flag_word-word.result 0 0 maybe.none) p.seat.me c.load-found.result
    c.load-found.new.seat.me) (sym c.requires.told) c.load-found.ensures.2.1 in
    let none = c.if-found-ne0.false in let free = then.0 (omega arith) in
    let rs = o.2 in let is_word = c.flag_word-word.ensures in let word : ℕ = c.flag_word-word.result in
    let back : word - 4 * (knows p).ranks ≡ c.box_at-slot.result = omega arith in
    let place = ap (λ (u : Tally). u.box_put) c.peer-peer.ensures ∙ peer_box_put p c.args.to
    (calls.few f p o c.args.to few) in
    let at = c.box_at-slot.ensures.at ∙ calls.out_slot_is f p o c.args.to few
    c.peer-peer.result.box_put place in
    let is = free.1 ∙ ap (λ k. (
      view (plays.with_filling c.args.to true (knows p) ∷ []),
      plays.slots_to_fill (filling_of (knows p) c.args.to) k p.seat.me.1,
    )) back in
    calls.free_holds f p o c.args.to few c.load-found.new.seat.me c.box_at-slot.result at is free.2
    (filling_of (knows p) c.args.to) refl

pub count_full-requires : goal.count_full-requires
count_full-requires g c = let p = c.args.port.now in record {
  to = peer_low p c.args.to (calls.few c.args.f.now p c.requires.owns c.args.to c.requires.peer);
}

pub invariant_of-port-clause-alone : goal.invariant_of-port-clause-alone
invariant_of-port-clause-alone g c =
    let p = c.args.port.now in
    let then = subst (λ t. plays.told_out t (step c.args.f.now.board.shared.table_id.slots
    c.flag_word-word.result 0 0 maybe.none) p.seat.me c.load-found.result
    c.load-found.new.seat.me) (sym c.requires.told) c.load-found.ensures.2.1 in
    let some = c.if-found-ne0.true in let is = then.1 (omega arith) in
    subst plays.Alone (sym is) refl

pub invariant_of-port-clause-named : goal.invariant_of-port-clause-named
invariant_of-port-clause-named g c =
    let p = c.args.port.now in
    let then = subst (λ t. plays.told_out t (step c.args.f.now.board.shared.table_id.slots
    c.flag_word-word.result 0 0 maybe.none) p.seat.me c.load-found.result
    c.load-found.new.seat.me) (sym c.requires.told) c.load-found.ensures.2.1 in
    let some = c.if-found-ne0.true in let is = then.1 (omega arith) in
    ap (λ m. (mine m).rank) is ∙ p.named

pub invariant_of-port-clause-ends : goal.invariant_of-port-clause-ends
invariant_of-port-clause-ends g c =
    let p = c.args.port.now in
    let then = subst (λ t. plays.told_out t (step c.args.f.now.board.shared.table_id.slots
    c.flag_word-word.result 0 0 maybe.none) p.seat.me c.load-found.result
    c.load-found.new.seat.me) (sym c.requires.told) c.load-found.ensures.2.1 in
    let some = c.if-found-ne0.true in let is = then.1 (omega arith) in
    (ap (λ m. (mine m).receive) is ∙ p.ends.0, ap (λ m. (mine m).free) is ∙ p.ends.1)

pub invariant_of-port-clause-missed : goal.invariant_of-port-clause-missed
invariant_of-port-clause-missed g c =
    let p = c.args.port.now in
    let then = subst (λ t. plays.told_out t (step c.args.f.now.board.shared.table_id.slots
    c.flag_word-word.result 0 0 maybe.none) p.seat.me c.load-found.result
    c.load-found.new.seat.me) (sym c.requires.told) c.load-found.ensures.2.1 in
    let some = c.if-found-ne0.true in let is = then.1 (omega arith) in (
      ap (λ m. (mine m).receive_missed) is ∙ p.missed.0,
      ap (λ m. (mine m).free_missed) is ∙ p.missed.1,
    )

pub invariant_of-port-clause-small : goal.invariant_of-port-clause-small
invariant_of-port-clause-small g c =
    let p = c.args.port.now in
    let then = subst (λ t. plays.told_out t (step c.args.f.now.board.shared.table_id.slots
    c.flag_word-word.result 0 0 maybe.none) p.seat.me c.load-found.result
    c.load-found.new.seat.me) (sym c.requires.told) c.load-found.ensures.2.1 in
    let some = c.if-found-ne0.true in let is = then.1 (omega arith) in
    subst (λ n. (p.receive.shadow ≤ n) × (p.receive.seen ≤ n) × (p.free.shadow ≤ n)
    × (p.free.seen ≤ n)) (sym (ap (λ m. length (mine m).hands) is)) p.small

pub invariant_of-port-2-clause-alone : goal.invariant_of-port-2-clause-alone
invariant_of-port-2-clause-alone g c =
    let p = c.args.port.now in
    let then = subst (λ t. plays.told_out t (step c.args.f.now.board.shared.table_id.slots
    c.flag_word-word.result 0 0 maybe.none) p.seat.me c.load-found.result
    c.load-found.new.seat.me) (sym c.requires.told) c.load-found.ensures.2.1 in
    let none = c.if-found-ne0.false in let is = (then.0 (omega arith)).1 in
    subst plays.Alone (sym is) refl

pub invariant_of-port-2-clause-named : goal.invariant_of-port-2-clause-named
invariant_of-port-2-clause-named g c =
    let p = c.args.port.now in
    let then = subst (λ t. plays.told_out t (step c.args.f.now.board.shared.table_id.slots
    c.flag_word-word.result 0 0 maybe.none) p.seat.me c.load-found.result
    c.load-found.new.seat.me) (sym c.requires.told) c.load-found.ensures.2.1 in
    let none = c.if-found-ne0.false in let is = (then.0 (omega arith)).1 in
    ap (λ m. (mine m).rank) is ∙ p.named

pub invariant_of-port-2-clause-ends : goal.invariant_of-port-2-clause-ends
invariant_of-port-2-clause-ends g c =
    let p = c.args.port.now in
    let then = subst (λ t. plays.told_out t (step c.args.f.now.board.shared.table_id.slots
    c.flag_word-word.result 0 0 maybe.none) p.seat.me c.load-found.result
    c.load-found.new.seat.me) (sym c.requires.told) c.load-found.ensures.2.1 in
    let none = c.if-found-ne0.false in let is = (then.0 (omega arith)).1 in
    (ap (λ m. (mine m).receive) is ∙ p.ends.0, ap (λ m. (mine m).free) is ∙ p.ends.1)

pub invariant_of-port-2-clause-missed : goal.invariant_of-port-2-clause-missed
invariant_of-port-2-clause-missed g c =
    let p = c.args.port.now in
    let then = subst (λ t. plays.told_out t (step c.args.f.now.board.shared.table_id.slots
    c.flag_word-word.result 0 0 maybe.none) p.seat.me c.load-found.result
    c.load-found.new.seat.me) (sym c.requires.told) c.load-found.ensures.2.1 in
    let none = c.if-found-ne0.false in let is = (then.0 (omega arith)).1 in (
      ap (λ m. (mine m).receive_missed) is ∙ p.missed.0,
      ap (λ m. (mine m).free_missed) is ∙ p.missed.1,
    )

pub invariant_of-port-2-clause-small : goal.invariant_of-port-2-clause-small
invariant_of-port-2-clause-small g c =
    let p = c.args.port.now in
    let then = subst (λ t. plays.told_out t (step c.args.f.now.board.shared.table_id.slots
    c.flag_word-word.result 0 0 maybe.none) p.seat.me c.load-found.result
    c.load-found.new.seat.me) (sym c.requires.told) c.load-found.ensures.2.1 in
    let none = c.if-found-ne0.false in let is = (then.0 (omega arith)).1 in
    subst (λ n. (p.receive.shadow ≤ n) × (p.receive.seen ≤ n) × (p.free.shadow ≤ n)
    × (p.free.seen ≤ n)) (sym (ap (λ m. length (mine m).hands) is)) p.small
