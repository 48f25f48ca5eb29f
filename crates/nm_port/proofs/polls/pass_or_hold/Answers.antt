use Rattle.std.proofs.Common.{rules, ◌≡◌, ◌+◌, ℕ, ◌<◌, inr, refl, sym, ap, ◌∙◌, subst, arith}
use Rattle.std.specs.Prelude.{Some, None, [], ◌∷◌, Result, Ok, Err, IfErr, IsOk}
use Rattle.nm_chain.specs.Update.{update}
use Rattle.nm_chain.specs.Plays.{mine, Overtaken, with_emptying, with_got_box}
use Rattle.nm_chain.specs.declared.table.parcels.Parcel.{Parcel}
use Rattle.nm_cells.specs.Ports.{knows, taken_by, unpassed_by, IsUnpassed}
use Rattle.nm_port.proofs.HeldLemmas.{is_overtaken}
use Rattle.nm_port.proofs.PollLemmas.{unpassed_there, peers_taken, peers_unpassed, passed_next}
use Rattle.nm_port.proofs.PollLemmas.{rest_none, rest_one, still_next, next_by, emptied_hands, keeps_cells}
use Rattle.nm_port.proofs.PollLemmas.{seat_holding, seat_knows, seat_owns}
use Rattle.nm_port.proofs.SendLemmas.{if_err, keeps_all, keeps_on}
use Rattle.nm_port.specs.Polls.{EmptiesNone}
use Rattle.nm_chain.specs.Rule.{emptying_of}
use Rattle.nm_chain.specs.declared.table.table.Entry.{Entry}
use Rattle.nm_port.proofs.polls.pass_or_hold.Goals as goal

pub pass-requires-clause-unpassed : goal.pass-requires-clause-unpassed
pass-requires-clause-unpassed g c = subst (λ (z : Parcel _). IsUnpassed c.args.port.now z)
    (sym c.deref-then-deref-taken.ensures) c.requires.parcel

pub pass-requires-clause-next : goal.pass-requires-clause-next
pass-requires-clause-next g c = let p = c.args.port.now in
    subst (λ (z : Parcel _). z.seq ≡ taken_by p z.from) (sym c.deref-then-deref-taken.ensures)
    (ap (λ (z : Parcel _). z.seq) (sym c.deref-2.ensures) ∙ c.if-deref-taken.true ∙ c.taken.ensures
    ∙ ap (λ (z : Parcel _). taken_by p z.from) c.deref.ensures)

pub returns-then-deref-taken-clause-rest : goal.returns-then-deref-taken-clause-rest
returns-then-deref-taken-clause-rest g c = let r = c.pass.new.self in
    let left = c.pass.ensures.unpassed in
    let one = c.requires.alone.0 in
    rest_none r (omega arith) (c.pass.ensures.same.3 ∙ c.requires.alone.1)

pub returns-then-deref-taken-clause-next : goal.returns-then-deref-taken-clause-next
returns-then-deref-taken-clause-next g c = let p = c.args.port.now in let d = c.deref-then-deref-taken.ensures in
    passed_next c.args.f.now p c.pass.new.self c.args.parcel.value c.requires.parcel
    (ap (λ (z : Parcel _). z.seq) (sym c.deref-2.ensures) ∙ c.if-deref-taken.true ∙ c.taken.ensures
    ∙ ap (λ (z : Parcel _). taken_by p z.from) c.deref.ensures)
    (c.pass.ensures.taken ∙ (λ i. update (taken_by p) (d i).from (taken_by p (d i).from + 1)))
    c.requires.owns.2

pub returns-then-deref-taken-clause-keeps : goal.returns-then-deref-taken-clause-keeps
returns-then-deref-taken-clause-keeps g c = let f = c.args.f.now in let p = c.args.port.now in
    let r = c.pass.new.self in let s = c.pass.ensures.same in
    keeps_all f _ p r (seat_owns p r s.0 f s.1 c.requires.owns) s.1 s.4 (seat_holding p r s.0) s.2

pub returns-clause-way : goal.returns-clause-way
returns-clause-way g c = let s = c.hold-spare.ensures.same in
    let t = c.in-Ok.ensures.took in let y = c.in-Ok.next.value in
    inr (
      t.sender ∙ ap (λ (z : Parcel _). z.from) c.deref.ensures,
      c.take.ensures.keeps.held ∙ c.hold-spare.ensures.held,
      t.got ∙ (λ i. with_got_box (Some y ∷ []) (with_emptying (sym t.sender i) None (mine (s.0 i).me))),
    )

pub returns-clause-next : goal.returns-clause-next
returns-clause-next g c = let f = c.args.f.now in let p = c.args.port.now in
    let q = c.hold-spare.new.self in let new = c.take.new.port in
    let s = c.hold-spare.ensures.same in
    let taken = peers_taken p q s.0 s.3 in
    let low = subst (λ n. c.deref.result.now.from < n) c.requires.owns.2
    (subst (λ (z : Parcel _). z.from < (knows p).ranks) (sym c.deref.ensures) c.requires.parcel.0) in
    let t = c.in-Ok.ensures.took in let y = c.in-Ok.next.value in
    still_next f p q new y taken (next_by f q new y c.deref.result.now.from low t.sender t.number t.taken)

pub returns-clause-rest : goal.returns-clause-rest
returns-clause-rest g c = let p = c.args.port.now in let q = c.hold-spare.new.self in let new = c.take.new.port in
    let s = c.hold-spare.ensures.same in let k = c.take.ensures.keeps in
    rest_one new c.args.parcel.value (k.unpassed ∙ peers_unpassed p q s.0 s.3 ∙ c.requires.alone.0)
    (k.held ∙ c.hold-spare.ensures.held)

pub returns-clause-keeps : goal.returns-clause-keeps
returns-clause-keeps g c = let f = c.args.f.now in let p = c.args.port.now in
    let q = c.hold-spare.new.self in let new = c.take.new.port in let s = c.hold-spare.ensures.same in
    let same = seat_knows p q s.0 in
    keeps_on f (EmptiesNone p) (EmptiesNone q) p q new (ap (λ (e : Entry _). e.hands) same)
    (λ none i. ap (λ e. emptying_of e i) same ∙ none i)
    (keeps_all f _ p q (seat_owns p q s.0 f s.1 c.requires.owns) s.1 s.4 (seat_holding p q s.0) s.2)
    (keeps_cells f q new c.take.ensures.keeps
    (emptied_hands q new c.deref.result.now.from c.in-Ok.ensures.took.hands))

-- an `Ok` where an `Err` would say otherwise
ok_unless : {B E O : Type 0} (r : Result B E) → O → IfErr r (λ _. ¬ O) → IsOk r
ok_unless (Ok y) o not = refl
ok_unless (Err x) o not = absurd (not o)

-- the awaited one is in the next box
pub unreachable-requires : goal.unreachable-requires
unreachable-requires g c = let p = c.args.port.now in
    let q = c.hold-spare.new.self in let x = c.args.parcel.value in
    let s = c.hold-spare.ensures.same in
    let one : unpassed_by q ≡ 1 = peers_unpassed p q s.0 s.3 ∙ c.requires.alone.0 in
    let taken = peers_taken p q s.0 s.3 in
    let over = is_overtaken q x (unpassed_there p q s.0 s.3 x c.requires.parcel) (omega arith)
    (λ e. c.if-deref-taken.false (ap (λ (z : Parcel _). z.seq) c.deref-2.ensures ∙ e
    ∙ ap (λ (t : ℕ → ℕ). t x.from) taken ∙ ap (λ (z : Parcel _). taken_by p z.from) (sym c.deref.ensures)
    ∙ sym c.taken.ensures)) in
    let there : IsOk c.take.result = ok_unless c.take.result
    (subst (λ (z : Parcel _). Overtaken (knows q) z.from (taken_by q z.from)) (sym c.deref.ensures) over)
    (if_err c.take.result (λ back h. h.1.in_turn) c.take.ensures.missed) in
    search rules
