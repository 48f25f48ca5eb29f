use Rattle.std.proofs.Common.{rules, ◌≡◌, [], ◌∷◌, ◌++◌, map, length, Some, sym, ap, ◌∙◌}
use Rattle.std.proofs.Common.{subst, arith, append_assoc, option_to_list, length-append}
use Rattle.std.proofs.lemmas.List.{map-append}
use Rattle.std.specs.Prelude.{slice_get}
use Rattle.nm_chain.specs.Spoken.{view}
use Rattle.nm_cells.specs.Ports.{knows}
use Rattle.nm_cells.proofs.PortLemmas.{idle}
use Rattle.nm_cells.proofs.ClosingLemmas.{merged}
use Rattle.nm_cells.proofs.close.gather.Goals as goal
use Rattle.nm_types.proofs.ListLemmas.{get_before, get_last, no_items}

pub loop-port-init : goal.loop-port-init
loop-port-init g c = let p = c.in-Some.last in let left = c.pop.new.self.items in
    let is : c.args.ports.items ≡ left ++ p ∷ [] =
    c.pop.ensures.items ∙ ap (λ r. left ++ option_to_list r) c.in-Some.is in
    let ok = c.requires.ports (length left) p
    (subst (λ l. slice_get l (length left) ≡ Some p) (sym is) (get_last left p)) in
    let parts = c.into_parts-seat.ensures in let seat = parts.0 in let put = c.count_first.ensures in
    let long = ap length is ∙ length-append left (p ∷ []) in
    let more = ap length put.items in let none = ap length c.requires.room.0 in
    let room = c.requires.room.1 in let wide = put.capacity in (
      ap (λ s. s.table_id) seat ∙ ok.0,
      ap (λ s. s.me.1) seat ∙ (idle p ok.1).0,
      ap (λ s. map knows left ++ s.me.0.entries) seat
          ∙ ap (λ v. map knows left ++ v.entries) p.alone
          ∙ sym (ap (map knows) is ∙ map-append knows left (p ∷ [])),
      (λ k x at. subst (λ l. slice_get l k ≡ Some x) (sym is) (get_before left (p ∷ []) k x at)),
      ap (λ s. s.me.0) seat ∙ p.alone
          ∙ sym (ap (λ s. view s.me.0.entries) seat ∙ ap (λ v. view v.entries) p.alone),
      ap (λ l. map (λ q. q.peers) left ++ l) put.items
          ∙ (λ i. map (λ q. q.peers) left ++ (parts.1 i ∷ c.requires.room.0 i))
          ∙ sym (ap (map (λ q. q.peers)) is ∙ map-append (λ q. q.peers) left (p ∷ [])),
      (omega arith),
    )

pub join_seat-requires : goal.join_seat-requires
join_seat-requires g c = let h = c.loop-port.invariant in
    let p = c.in-Some-pop.port in let left = c.pop-in-loop-port.new.self.items in
    let is : c.loop-port.ports.items ≡ left ++ p ∷ [] = c.pop-in-loop-port.ensures.items
    ∙ ap (λ r. left ++ option_to_list r) c.in-Some-pop.is in
    let ok = c.requires.ports (length left) p
    (h.3 (length left) p (subst (λ l. slice_get l (length left) ≡ Some p) (sym is)
    (get_last left p))) in let seat = c.into_parts-other.ensures.0 in (
      h.0,
      ap (λ s. s.table_id) seat ∙ ok.0,
      ap (λ s. s.me.1) seat ∙ (idle p ok.1).0,
      c.requires.count.1,
      merged c.args.board.now.shared.key c.loop-port.seat.id c.into_parts-other.result.0.id
          c.loop-port.seat.me.0 c.into_parts-other.result.0.me.0,
    )

pub loop-port-preserved : goal.loop-port-preserved
loop-port-preserved g c = let h = c.loop-port.invariant in let p = c.in-Some-pop.port in
    let left = c.pop-in-loop-port.new.self.items in let old = c.loop-port.seat.me.0.entries in
    let is : c.loop-port.ports.items ≡ left ++ p ∷ [] = c.pop-in-loop-port.ensures.items
    ∙ ap (λ r. left ++ option_to_list r) c.in-Some-pop.is in let j = c.join_seat.ensures in
    let parts = c.into_parts-other.ensures in let seat = parts.0 in
    let put = c.count_first-in-Some-pop.ensures in let was = c.loop-port.counted.items in
    let long = ap length is ∙ length-append left (p ∷ []) in
    let more = ap length put.items in let room = h.6 in let wide = put.capacity in (
      j.0 ∙ h.0,
      ap (λ m. m.1) j.2 ∙ h.1,
      ap (λ m. map knows left ++ m.0.entries) j.2
          ∙ ap (λ s. map knows left ++ (s.me.0.entries ++ old)) seat
          ∙ ap (λ v. map knows left ++ (v.entries ++ old)) p.alone
          ∙ sym (append_assoc (map knows left) (knows p ∷ []) old) ∙ ap (λ u. u ++ old)
          (sym (ap (map knows) is ∙ map-append knows left (p ∷ []))) ∙ h.2,
      (λ k x at. h.3 k x (subst (λ l. slice_get l k ≡ Some x) (sym is)
          (get_before left (p ∷ []) k x at))),
      ap (λ m. m.0) j.2 ∙ sym (ap (λ m. view m.0.entries) j.2),
      ap (λ l. map (λ q. q.peers) left ++ l) put.items
          ∙ ap (λ v. map (λ q. q.peers) left ++ (v ∷ was)) parts.1
          ∙ sym (append_assoc (map (λ q. q.peers) left) (p.peers ∷ []) was) ∙ ap (λ u. u ++ was)
          (sym (ap (map (λ q. q.peers)) is ∙ map-append (λ q. q.peers) left (p ∷ []))) ∙ h.5,
      (omega arith),
    )

pub returns-clause-all : goal.returns-clause-all
returns-clause-all g c = let h = c.loop-port.invariant in
    let none : length c.loop-port.ports.items ≡ 0 = search rules in
    let empty = no_items c.loop-port.ports.items none in
    let all : c.loop-port.seat.me.0.entries ≡ map knows c.args.ports.items =
    sym (ap (λ l. map knows l ++ c.loop-port.seat.me.0.entries) empty) ∙ h.2 in
    λ i. ((h.4 ∙ ap view all) i, h.1 i)

pub returns-clause-counted : goal.returns-clause-counted
returns-clause-counted g c = let h = c.loop-port.invariant in
    let none : length c.loop-port.ports.items ≡ 0 = search rules in
    let empty = no_items c.loop-port.ports.items none in
    sym (ap (λ l. map (λ p. p.peers) l ++ c.loop-port.counted.items) empty) ∙ h.5
