-- One more rank at its place.
use Rattle.std.proofs.Common.{◌≡◌, ℕ, suc, ◌+◌, List, [], ◌∷◌, length, sym, ap, subst, ◌∙◌, arith}
use Rattle.std.proofs.Common.{length-append}
use Rattle.std.specs.Prelude.{slice_get}
use Rattle.std.specs.Arc.{arc_value}
use Rattle.std.specs.Vec.Iter.{into_iter_items}
use Rattle.nm_types.specs.declared.packets.Packet.{Packet}
use Rattle.nm_cells.specs.declared.port.Port.{Port}
use Rattle.nm_cells.specs.Ports.{IsNew}
use Rattle.nm_copyring.specs.declared.port.RingPort.{RingPort}
use Rattle.nm_copyring.specs.Ports as ring_port
use Rattle.nm_handle.specs.declared.handles.Handle.{Handle}
use Rattle.nm_handle.specs.Standing.{AreNew, IsNewAt}
use Rattle.nm_handle.specs.Worlds.{AreRanksFrom, IsRankAt}
use Rattle.nm_handle.proofs.Beginning.{new_push, ranks_push}
use Rattle.nm_handle.proofs.worlds.handles_of.Goals as goal

pub loop-port-init : goal.loop-port-init
loop-port-init c =
    let ports = c.into_iter-port-iterator.ensures.into_iter_gives.0 in
    let rings = c.into_iter-rings.ensures.rest in
    let none = c.new-handles.ensures.items in
    let no_handles = ap length none in
    let so_many = ap length ports in
    let as_many = ap length rings in
    let many = c.requires.many.0 in
    let both = c.requires.many.1 in
    record {
      new = subst (λ (hs : List Handle). AreNew c.args.shape 0 hs) (sym none) tt;
      each = subst (λ (hs : List Handle). AreRanksFrom c.args.shape (arc_value c.args.shared.now.fabric)
          (arc_value c.args.shared.now.rings) 0 hs) (sym none) tt;
      cells = λ k p here.
          let sum : k ≡ 0 + k = omega arith in
          subst (λ (hs : List Handle). IsNew (arc_value c.args.shared.now.fabric) p (length hs + k)) (sym none)
          (subst (λ (n : ℕ). IsNew (arc_value c.args.shared.now.fabric) p n) sum
          (c.requires.cells k p (ap (λ (ps : List (Port Packet)). slice_get ps k) (sym ports) ∙ here)));
      places = λ k p here.
          let sum : k ≡ 0 + k = omega arith in
          subst (λ (hs : List Handle). ring_port.IsNew (arc_value c.args.shared.now.rings) p (length hs + k)) (sym none)
          (subst (λ (n : ℕ). ring_port.IsNew (arc_value c.args.shared.now.rings) p n) sum
          (c.requires.places k p (ap (λ (ps : List RingPort). slice_get ps k) (sym rings) ∙ here)));
      pairs = omega (arith, so_many, as_many, many, both);
      count = omega (arith, no_handles, so_many, many);
    }

pub handle_of-requires : goal.handle_of-requires
handle_of-requires c =
    let before = c.loop-port.invariant in
    let rest = into_iter_items c.next.new.self in
    let others = into_iter_items c.next-in-loop-port.new.self in
    let port = c.in-Some.port in
    let ring = c.in-Some-next.ring in
    let split : into_iter_items c.loop-port.port-iterator ≡ port ∷ rest = c.in-Some.ensures.steps.0 in
    let other : into_iter_items c.loop-port.rings ≡ ring ∷ others = c.in-Some-next.ensures.items in
    let own = before.cells 0 port (ap (λ (ps : List (Port Packet)). slice_get ps 0) split) in
    let pair = before.places 0 ring (ap (λ (ps : List RingPort). slice_get ps 0) other) in
    let one = ap length split in
    let count = before.count in
    let at = own.1 in
    record {
      rank = omega (arith, one, count, at);
      ranks = c.requires.ranks;
      cells = subst (λ (n : ℕ). IsNew (arc_value c.args.shared.now.fabric) port n) (sym own.1) own;
      places = subst (λ (n : ℕ). ring_port.IsNew (arc_value c.args.shared.now.rings) ring n) (sym own.1) pair;
    }

pub loop-port-preserved : goal.loop-port-preserved
loop-port-preserved c =
    let f = arc_value c.args.shared.now.fabric in
    let r = arc_value c.args.shared.now.rings in
    let before = c.loop-port.invariant in
    let handles = c.loop-port.handles.items in
    let rest = into_iter_items c.next.new.self in
    let others = into_iter_items c.next-in-loop-port.new.self in
    let port = c.in-Some.port in
    let ring = c.in-Some-next.ring in
    let handle = c.in_ok-handle.handle in
    let split : into_iter_items c.loop-port.port-iterator ≡ port ∷ rest = c.in-Some.ensures.steps.0 in
    let other : into_iter_items c.loop-port.rings ≡ ring ∷ others = c.in-Some-next.ensures.items in
    let own = before.cells 0 port (ap (λ (ps : List (Port Packet)). slice_get ps 0) split) in
    let place : port.rank ≡ 0 + length handles = own.1 ∙ omega arith in
    let grown = c.in_ok-add.ensures in
    let longer : length c.add.new.list.items ≡ length handles + 1 = ap length grown ∙ length-append handles (handle ∷
    []) in
    let one = ap length split in
    let two = ap length other in
    let pairs = before.pairs in
    let count = before.count in
    record {
      new = subst (λ (hs : List Handle). AreNew c.args.shape 0 hs) (sym grown)
          (new_push c.args.shape 0 handles handle before.new
          (subst (λ (n : ℕ). IsNewAt c.args.shape n handle) place c.in_ok-handle.ensures.new));
      each = subst (λ (hs : List Handle). AreRanksFrom c.args.shape f r 0 hs) (sym grown)
          (ranks_push c.args.shape f r 0 handles handle before.each
          (subst (λ (n : ℕ). IsRankAt c.args.shape f r n handle) place c.in_ok-handle.ensures.own));
      cells = λ k p here.
          let next : length handles + suc k ≡ length c.add.new.list.items + k = omega (arith, longer) in
          subst (λ (n : ℕ). IsNew (arc_value c.args.shared.now.fabric) p n) next
          (before.cells (suc k) p (ap (λ (ps : List (Port Packet)). slice_get ps (suc k)) split ∙ here));
      places = λ k p here.
          let next : length handles + suc k ≡ length c.add.new.list.items + k = omega (arith, longer) in
          subst (λ (n : ℕ). ring_port.IsNew (arc_value c.args.shared.now.rings) p n) next
          (before.places (suc k) p (ap (λ (ps : List RingPort). slice_get ps (suc k)) other ∙ here));
      pairs = omega (arith, one, two, pairs);
      count = omega (arith, longer, one, count);
    }

pub returns-clause-many : goal.returns-clause-many
returns-clause-many c =
    let count = c.loop-port.invariant.count in
    let past = c.in-None.ensures.steps.0 in
    let counted = c.loop-port.port-iterator.rest.ok.0 in
    omega (arith, count, past, counted)
