-- The first packet goes, and an eager message leaves with its last one.
use Rattle.std.proofs.Common.{◌-◌, ℕ, Option, Some, None, not, length, refl, sym, ◌∙◌, ap, subst, arith}
use Rattle.std.proofs.lemmas.List.{length-set}
use Rattle.nm_sending.specs.Outboxes.{OutboxView, Pops}
use Rattle.nm_sending.specs.contracts.sendings.Sending.{the_view}
use Rattle.nm_sending.specs.declared.departures.Departure.{Departure}
use Rattle.nm_sending.specs.Calls.{PopsFirstPacket}
use Rattle.nm_sending.specs.Departures.{SendingView, passes}
use Rattle.nm_sending.specs.Rows.{stays}
use Rattle.nm_sending.proofs.FrontLemmas.{ended_is, gone-counted, gone-eager, gone-kept, gone-message, gone-tables}
use Rattle.nm_sending.proofs.FrontLemmas.{gone-stays, gone-there, last_is, popped_is, tables-stay}
use Rattle.nm_sending.proofs.SentLemmas.{keeps-none, sent-outbox}
use Rattle.nm_sending.proofs.TableLemmas.{row_there}
use Rattle.nm_sending.proofs.sendings.Sending.pop_front.Goals as goal

pub invariant_of-self : goal.invariant_of-self
invariant_of-self c =
    let a = c.self.inside in
    tables-stay a.me a.ranks (the_view a) c.pop_front.new.self c.self.invariant
    (subst (λ (r : Option (ℕ × ℕ)). Pops r a.outbox c.pop_front.new.self) c.in_err-to.was c.pop_front.ensures)

pub leave-requires-clause-to : goal.leave-requires-clause-to
leave-requires-clause-to c =
    let a = c.self.inside in let p = c.pop_front.ensures in
    let e = ended_is p.letter c.pop_front.result c.in_ok-to.to c.in_ok-to.n p.left c.in_ok-to.was in
    row_there a.departures.rows c.in_ok-to.to c.in_ok-to.n
    (gone-message a.me a.ranks (the_view a) c.self.invariant p.letter c.pop_front.new.self.letters p.letters
    c.in_ok-to.to c.in_ok-to.n e.0 e.1)
    (gone-there a.me a.ranks (the_view a) c.self.invariant p.letter c.pop_front.new.self.letters p.letters
    c.in_ok-to.to c.in_ok-to.n e.0 e.1)

pub leave-requires-clause-stays : goal.leave-requires-clause-stays
leave-requires-clause-stays c =
    let a = c.self.inside in let p = c.pop_front.ensures in let rest = c.pop_front.new.self.letters in
    let e = ended_is p.letter c.pop_front.result c.in_ok-to.to c.in_ok-to.n p.left c.in_ok-to.was in
    ap (λ (o : Option Departure). passes stays o)
    (gone-there a.me a.ranks (the_view a) c.self.invariant p.letter rest p.letters c.in_ok-to.to c.in_ok-to.n e.0 e.1)
    ∙ ap not (gone-stays a.me a.ranks (the_view a) c.self.invariant p.letter rest p.letters c.in_ok-to.to
    c.in_ok-to.n e.0 e.1)

pub overflow_sub-self : goal.overflow_sub-self
overflow_sub-self c =
    let a = c.self.inside in let p = c.pop_front.ensures in
    let e = ended_is p.letter c.pop_front.result c.in_ok-to.to c.in_ok-to.n p.left c.in_ok-to.was in
    omega (
      arith,
      gone-counted a.me a.ranks (the_view a) c.self.invariant p.letter c.pop_front.new.self.letters p.letters
          c.in_ok-to.to c.in_ok-to.n e.0 e.1 c.pop_front.new.self c.leave.new.self.rows (a.staying - 1)
          c.leave.ensures,
    )

pub invariant_of-self-2 : goal.invariant_of-self-2
invariant_of-self-2 c =
    let a = c.self.inside in let p = c.pop_front.ensures in
    let e = ended_is p.letter c.pop_front.result c.in_ok-to.to c.in_ok-to.n p.left c.in_ok-to.was in
    let more = gone-counted a.me a.ranks (the_view a) c.self.invariant p.letter c.pop_front.new.self.letters
    p.letters c.in_ok-to.to c.in_ok-to.n e.0 e.1 c.pop_front.new.self c.leave.new.self.rows (a.staying - 1)
    c.leave.ensures in
    gone-tables a.me a.ranks (the_view a) c.self.invariant p.letter c.pop_front.new.self.letters p.letters
    c.in_ok-to.to c.in_ok-to.n e.0 e.1 c.pop_front.new.self c.leave.new.self.rows (a.staying - 1)
    c.leave.ensures
    (ap (λ (o : OutboxView). o.me) p.outbox)
    (ap (λ (o : OutboxView). length o.popped) p.outbox ∙ length-set _ _ _)
    refl (omega (arith, more))

pub returns-in_err-to : goal.returns-in_err-to
returns-in_err-to c =
    let old = the_view c.self.inside in let p = c.pop_front.ensures in
    let new : SendingView = record old { outbox = c.pop_front.new.self } in
    rw c.from_residual.ensures
    (subst (λ (v : SendingView). PopsFirstPacket None v new) c.self.view_is
    (record {
      last = sym c.in_err-to.was ∙ last_is c.pop_front.result old.outbox c.pop_front.new.self p;
      eager = tt;
      popped = popped_is c.pop_front.result old.outbox c.pop_front.new.self p;
      room = p.room;
      kept = keeps-none old new (λ h was. sent-outbox old c.pop_front.new.self h was);
      counted = omega arith;
      offers = refl;
      same = refl;
    }))

pub returns : goal.returns
returns c =
    let a = c.self.inside in let old = the_view a in let p = c.pop_front.ensures in
    let to = c.in_ok-to.to in let n = c.in_ok-to.n in
    let e = ended_is p.letter c.pop_front.result to n p.left c.in_ok-to.was in
    let rest = c.pop_front.new.self.letters in
    let more = gone-counted a.me a.ranks old c.self.invariant p.letter rest p.letters to n e.0 e.1
    c.pop_front.new.self c.leave.new.self.rows (a.staying - 1) c.leave.ensures in
    let new : SendingView = record old {
      outbox = c.pop_front.new.self;
      departures = c.leave.new.self.rows;
      staying = a.staying - 1;
    } in
    subst (λ (v : SendingView). PopsFirstPacket (Some (to, n)) v new) c.self.view_is
    (record {
      last = sym c.in_ok-to.was ∙ last_is c.pop_front.result old.outbox c.pop_front.new.self p;
      eager = gone-eager a.me a.ranks old c.self.invariant p.letter rest p.letters to n e.0 e.1;
      popped = popped_is c.pop_front.result old.outbox c.pop_front.new.self p;
      room = p.room;
      kept = gone-kept a.me a.ranks old c.self.invariant p.letter rest p.letters to n e.0 e.1
          c.pop_front.new.self c.leave.new.self.rows (a.staying - 1) c.leave.ensures;
      counted = omega (arith, more);
      offers = refl;
      same = refl;
    })
