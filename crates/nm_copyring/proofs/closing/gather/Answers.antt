use Rattle.std.proofs.Common.{rules, ◌≡◌, ◌<◌, [], ◌∷◌, ◌++◌, map, length, Some, sym, ap, ◌∙◌}
use Rattle.std.proofs.Common.{subst, arith, append_assoc, option_to_list}
use Rattle.std.proofs.lemmas.List.{map-append}
use Rattle.std.specs.Prelude.{slice_get}
use Rattle.nm_chain.specs.Spoken.{view}
use Rattle.nm_copyring.specs.Ports.{sees}
use Rattle.nm_copyring.proofs.ListLemmas.{place_low}
use Rattle.nm_copyring.proofs.ClosingLemmas.{merged}
use Rattle.nm_copyring.proofs.closing.gather.Goals as goal
use Rattle.nm_types.proofs.ListLemmas.{get_before, get_last, no_items}

pub loop-port-init : goal.loop-port-init
loop-port-init c = let p = c.in-Some.last in let left = c.pop.new.self.items in
    let is : c.args.ports.items ≡ left ++ p ∷ [] =
    c.pop.ensures.items ∙ ap (λ r. left ++ option_to_list r) c.in-Some.is in
    let ok = c.requires.ports (length left) p
    (subst (λ l. slice_get l (length left) ≡ Some p) (sym is) (get_last left p)) in
    let seat = c.into_seat-seat.ensures in let me = ap (λ s. s.me) seat ∙ p.rests.0 in (
      ap (λ s. s.table_id) seat ∙ ok.0.0,
      me ∙ ap (λ m. (view m.0.entries, [])) (sym me),
      ap (λ m. map sees left ++ m.0.entries) me
          ∙ sym (ap (map sees) is ∙ map-append sees left (p ∷ [])),
      λ k x at. subst (λ l. slice_get l k ≡ Some x) (sym is) (get_before left (p ∷ []) k x at),
    )

pub join_seat-requires : goal.join_seat-requires
join_seat-requires c = let h = c.loop-port.invariant in let r = c.args.r.now in
    let p = c.in-Some-pop.port in let left = c.pop-in-loop-port.new.self.items in
    let is : c.loop-port.ports.items ≡ left ++ p ∷ [] = c.pop-in-loop-port.ensures.items
    ∙ ap (λ r. left ++ option_to_list r) c.in-Some-pop.is in
    let ok = c.requires.ports (length left) p
    (h.3 (length left) p (subst (λ l. slice_get l (length left) ≡ Some p) (sym is)
    (get_last left p))) in let seat = c.into_seat.ensures in let z = r.sizes.0 in
    let low = place_low r.ranks 0 0 0 r.small.0 r.small.0 (omega arith) in
    let some : 0 < r.board.shared.table_id.words = omega arith in (
      h.0,
      ap (λ s. s.table_id) seat ∙ ok.0.0,
      ap (λ s. s.me.1) seat ∙ ap (λ m. m.1) p.rests.0,
      some,
      merged r.board.shared.key c.loop-port.seat.id c.into_seat.result.id c.loop-port.seat.me.0
          c.into_seat.result.me.0,
    )

pub loop-port-preserved : goal.loop-port-preserved
loop-port-preserved c = let h = c.loop-port.invariant in let p = c.in-Some-pop.port in
    let left = c.pop-in-loop-port.new.self.items in let old = c.loop-port.seat.me.0.entries in
    let is : c.loop-port.ports.items ≡ left ++ p ∷ [] = c.pop-in-loop-port.ensures.items
    ∙ ap (λ r. left ++ option_to_list r) c.in-Some-pop.is in let j = c.join_seat.ensures in
    let own = ap (λ s. s.me) c.into_seat.ensures ∙ p.rests.0 in
    let me = j.2 ∙ (λ i. (view ((own i).0.entries ++ old), (h.1 i).1)) in (
      j.0 ∙ h.0,
      me ∙ ap (λ m. (view m.0.entries, [])) (sym me),
      ap (λ m. map sees left ++ m.0.entries) me
          ∙ sym (append_assoc (map sees left) (sees p ∷ []) old) ∙ ap (λ u. u ++ old)
          (sym (ap (map sees) is ∙ map-append sees left (p ∷ []))) ∙ h.2,
      λ k x at. h.3 k x (subst (λ l. slice_get l k ≡ Some x) (sym is)
          (get_before left (p ∷ []) k x at)),
    )

pub returns-clause-all : goal.returns-clause-all
returns-clause-all c = let h = c.loop-port.invariant in
    let none : length c.loop-port.ports.items ≡ 0 = search rules in
    let empty = no_items c.loop-port.ports.items none in
    let all : c.loop-port.seat.me.0.entries ≡ map sees c.args.ports.items =
    sym (ap (λ l. map sees l ++ c.loop-port.seat.me.0.entries) empty) ∙ h.2 in
    h.1 ∙ ap (λ es. (view es, [])) all
