-- What came of the rank 0 is put behind what came before.
use Rattle.std.proofs.Common.{◌++◌, ◌∷◌, [], subst, sym, ap, ◌∙◌}
use Rattle.nm_chain.specs.declared.table.parcels.Parcel.{Parcel}
use Rattle.uses.specs.declared.letters.Letter.{Letter}
use Rattle.uses.specs.Crossings.{Takes}
use Rattle.uses.proofs.Fronts.{takes_more, takes_none, takes_other}
use Rattle.uses.proofs.port.taking.take_next.Goals as goal

pub returns-in_default-clause-takes : goal.returns-in_default-clause-takes
returns-in_default-clause-takes g c =
    takes_none c.a_poll_carries.ensures.none c.args.port.now c.poll.new.port c.args.came.now.items
    c.in_default.ensures.none.1 c.requires.takes

pub returns-then-deref-ne0-clause-takes : goal.returns-then-deref-ne0-clause-takes
returns-then-deref-ne0-clause-takes g c =
    takes_other c.a_poll_carries.ensures.some c.args.f.now c.args.port.now c.poll.new.port c.in-Ok.parcel.value
    c.args.came.now.items c.in-Ok.ensures.polls
    (λ zero. c.if-deref-ne0.true (ap (λ (z : Parcel Letter). z.from) c.deref.ensures ∙ zero)) c.requires.takes

pub returns-clause-takes : goal.returns-clause-takes
returns-clause-takes g c = let x = c.in-Ok.parcel.value in
    let more = takes_more c.a_poll_carries.ensures.some c.args.f.now c.args.port.now c.poll.new.port x
    c.args.came.now.items c.in-Ok.ensures.polls
    (ap (λ (z : Parcel Letter). z.from) (sym c.deref.ensures) ∙ c.if-deref-ne0.false) c.requires.takes in
    subst (λ l. Takes c.poll.new.port 0 l) (sym (c.in_ok-push.ensures.items
    ∙ ap (λ (z : Parcel Letter). c.args.came.now.items ++ z.item.byte ∷ []) c.deref-2.ensures)) more
