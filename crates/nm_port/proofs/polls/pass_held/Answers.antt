use Rattle.std.proofs.Common.{◌≡◌, ◌+◌, ◌≤◌, Some, inr, refl, sym, ap, ◌∙◌, subst, arith, append-nil}
use Rattle.std.specs.Coded.{coded_option}
use Rattle.std.specs.Prelude.{slice_index}
use base.Stored.{Coded-set}
use denote.Struct.Declared.{row}
use Rattle.nm_chain.specs.contracts.table.parcels.Parcel.{the_type}
use Rattle.nm_chain.specs.declared.table.parcels.Parcel.{Parcel}
use Rattle.nm_chain.specs.declared.table.table.Entry.{Entry}
use Rattle.nm_chain.specs.Rule.{from}
use Rattle.nm_chain.specs.Update.{update}
use Rattle.nm_cells.specs.Counted.{IsOneOf}
use Rattle.nm_cells.specs.Ports.{knows, taken_by, unpassed_by, IsUnpassed}
use Rattle.nm_port.specs.Polls.{count_held, was_held}
use Rattle.nm_port.proofs.HeldLemmas.{Once, held_unpassed}
use Rattle.nm_port.proofs.PollLemmas.{unpassed_there, peers_taken, peers_unpassed, passed_next, one_packet}
use Rattle.nm_port.proofs.PollLemmas.{polled_by, rest_none, seat_holding, seat_knows, seat_owns}
use Rattle.nm_port.proofs.SendLemmas.{keeps_all}
use Rattle.nm_port.proofs.polls.pass_held.Goals as goal

pub taken-requires : goal.taken-requires
taken-requires g c = let once : Once _ = λ y z. Coded-set (coded_option (row (the_type g.row.I)).coded) y z in
    (held_unpassed once c.args.port.now c.in-Some.held.now (sym c.in-Some.ensures)).0

pub pass-requires-clause-unpassed : goal.pass-requires-clause-unpassed
pass-requires-clause-unpassed g c = let p = c.args.port.now in let q = c.unhold.new.self in
    let once : Once _ = λ y z. Coded-set (coded_option (row (the_type g.row.I)).coded) y z in
    let s = c.unhold.ensures.same in let x = c.in-Ok.parcel.value in
    subst (λ z. IsUnpassed q z) (sym c.deref.ensures)
    (unpassed_there p q s.0 s.3 x (held_unpassed once p x c.in-Ok.ensures.value))

pub pass-requires-clause-next : goal.pass-requires-clause-next
pass-requires-clause-next g c = let p = c.args.port.now in let q = c.unhold.new.self in
    let s = c.unhold.ensures.same in let x = c.in-Ok.parcel.value in
    let same = one_packet c.in-Some.held.now x (c.in-Some.ensures ∙ c.in-Ok.ensures.value) in
    subst (λ (z : Parcel _). z.seq ≡ taken_by q z.from) (same ∙ sym c.deref.ensures)
    (c.if-held-taken.false ∙ c.taken.ensures
    ∙ sym (ap (λ t. t c.in-Some.held.now.from) (peers_taken p q s.0 s.3)))

pub returns-clause-polls : goal.returns-clause-polls
returns-clause-polls g c = let f = c.args.f.now in let p = c.args.port.now in
    let once : Once _ = λ y z. Coded-set (coded_option (row (the_type g.row.I)).coded) y z in
    let q = c.unhold.new.self in let r = c.pass.new.self in let s = c.unhold.ensures.same in
    let x = c.in-Ok.parcel.value in let is = c.in-Ok.ensures.value in
    let un = held_unpassed once p x is in let t = c.pass.ensures.same in
    let same = one_packet c.in-Some.held.now x (c.in-Some.ensures ∙ is) in
    let next = subst (λ (z : Parcel _). z.seq ≡ taken_by p z.from) same
    (c.if-held-taken.false ∙ c.taken.ensures) in
    let were = peers_taken p q s.0 s.3 in
    let taken = c.pass.ensures.taken
    ∙ (λ i. update (were i) (c.deref.ensures i).from (were i (c.deref.ensures i).from + 1)) in
    let known : knows r ≡ knows p = seat_knows p r (t.0 ∙ s.0) in record {
      next = passed_next f p r x un next taken c.requires.owns.2;
      got = inr (subst (λ (e : Entry _). IsOneOf (Some x) (from x.from e.got)) (sym known) un.1);
      way = was_held is (t.3 ∙ c.unhold.ensures.nothing) (
        ap (λ (e : Entry _). e.got_box) known ∙ sym (append-nil (knows p).got_box),
        ap (λ (e : Entry _). e.got) known ∙ sym (append-nil (knows p).got),
      );
      same = polled_by (knows p) (knows r) (knows p) known refl;
      later = λ i. subst (λ (e : Entry _). slice_index (knows p).box_miss i ≤ slice_index e.box_miss i) (sym known)
          (omega arith);
    }

pub returns-clause-rest : goal.returns-clause-rest
returns-clause-rest g c = let p = c.args.port.now in let q = c.unhold.new.self in let r = c.pass.new.self in
    let s = c.unhold.ensures.same in let is = c.in-Ok.ensures.value in
    let left = c.pass.ensures.unpassed ∙ peers_unpassed p q s.0 s.3 in
    let one : unpassed_by p ≡ 1 = c.requires.rest ∙ ap count_held is in
    rest_none r (omega (arith, left, one)) (c.pass.ensures.same.3 ∙ c.unhold.ensures.nothing)

pub returns-clause-keeps : goal.returns-clause-keeps
returns-clause-keeps g c = let f = c.args.f.now in let p = c.args.port.now in let r = c.pass.new.self in
    let s = c.unhold.ensures.same in let t = c.pass.ensures.same in let seat = t.0 ∙ s.0 in
    let rank = t.1 ∙ s.1 in
    keeps_all f _ p r (seat_owns p r seat f rank c.requires.owns) rank (t.4 ∙ s.4) (seat_holding p r seat) (t.2 ∙ s.2)

pub returns-in_default-clause-keeps : goal.returns-in_default-clause-keeps
returns-in_default-clause-keeps g c =
    keeps_all c.args.f.now _ c.args.port.now c.args.port.now c.requires.owns refl refl refl refl

pub returns-then-held-taken-clause-keeps : goal.returns-then-held-taken-clause-keeps
returns-then-held-taken-clause-keeps g c =
    keeps_all c.args.f.now _ c.args.port.now c.args.port.now c.requires.owns refl refl refl refl
