-- A message that was sent by asking is cleared.
use Rattle.std.proofs.Common.{◌-◌, ◌<◌, length, refl, sym, ◌∙◌, ap}
use Rattle.std.proofs.Common.{subst, arith}
use Rattle.std.proofs.Common.{true, false, not, Option}
use Rattle.std.specs.Option.{option_map_or}
use Rattle.nm_rndv.specs.declared.asked.State.{State}
use Rattle.nm_rndv.specs.Offers.{is_waiting}
use Rattle.nm_sending.specs.contracts.sendings.Sending.{the_view}
use Rattle.nm_sending.specs.Calls.{ClearsMessage}
use Rattle.nm_sending.specs.declared.departures.Departure.{Departure}
use Rattle.nm_sending.specs.Departures.{SendingView, passes}
use Rattle.nm_sending.specs.Rows.{stays}
use Rattle.nm_sending.specs.Sent.{MayBeCleared}
use Rattle.nm_sending.specs.Tables.{TablesAgree}
use Rattle.nm_sending.proofs.ClearLemmas.{asks, after-clear, at_once, clear_empty, cleared_view}
use Rattle.nm_sending.proofs.ClearLemmas.{full-tables, full-kept, empty-tables, empty-kept, empty-counted}
use Rattle.nm_sending.proofs.GoneLemmas.{unsettled}
use Rattle.nm_sending.proofs.sendings.Sending.clear.Goals as goal

pub cleared-is_out-requires-clause-in_range : goal.cleared-is_out-requires-clause-in_range
cleared-is_out-requires-clause-in_range c =
    let to = subst (λ (v : SendingView). c.args.to < length v.outbox.popped)
    (sym c.self.view_is) c.requires.to in
    omega (arith, to, c.self.invariant.letters, c.self.invariant.offers)

pub cleared-is_out-requires-clause-asked : goal.cleared-is_out-requires-clause-asked
cleared-is_out-requires-clause-asked c =
    let a = c.self.inside in
    let may = subst (λ (v : SendingView). MayBeCleared v c.args.to c.args.n)
    (sym c.self.view_is) c.requires.may in
    let ask = asks a.me a.ranks (the_view a) c.self.invariant c.args.to c.args.n may in
    ap (λ (o : Option State). option_map_or is_waiting o false) ask.state

pub leave-requires-clause-to : goal.leave-requires-clause-to
leave-requires-clause-to c =
    let to = subst (λ (v : SendingView). c.args.to < length v.outbox.popped)
    (sym c.self.view_is) c.requires.to in
    omega (arith, to, c.self.invariant.letters, c.self.invariant.rows)

pub leave-requires-clause-stays : goal.leave-requires-clause-stays
leave-requires-clause-stays c =
    let a = c.self.inside in
    let may = subst (λ (v : SendingView). MayBeCleared v c.args.to c.args.n)
    (sym c.self.view_is) c.requires.may in
    let ask = asks a.me a.ranks (the_view a) c.self.invariant c.args.to c.args.n may in
    ap (λ (o : Option Departure). passes stays o) ask.there
    ∙ ap not (unsettled ask.departure ask.offer.3 ask.offer.4)

pub overflow_sub-self : goal.overflow_sub-self
overflow_sub-self c =
    let a = c.self.inside in
    let to = subst (λ (v : SendingView). c.args.to < length v.outbox.popped)
    (sym c.self.view_is) c.requires.to in
    let may = subst (λ (v : SendingView). MayBeCleared v c.args.to c.args.n)
    (sym c.self.view_is) c.requires.may in
    let ask = asks a.me a.ranks (the_view a) c.self.invariant c.args.to c.args.n may in
    let empty = at_once (the_view a) c.args.to c.args.n ask c.cleared-is_out.result
    c.cleared-is_out.ensures.empty
    ∙ c.if-is_out.true in
    let rows = c.leave.ensures ask.departure ask.there in
    omega (
      arith,
      empty-counted a.me a.ranks (the_view a) c.self.invariant c.args.to c.args.n
          (omega (arith, to, c.self.invariant.letters)) ask c.leave.new.self.rows (a.staying - 1) empty rows,
    )

pub invariant_of-self : goal.invariant_of-self
invariant_of-self c =
    let a = c.self.inside in
    let to = subst (λ (v : SendingView). c.args.to < length v.outbox.popped)
    (sym c.self.view_is) c.requires.to in
    let may = subst (λ (v : SendingView). MayBeCleared v c.args.to c.args.n)
    (sym c.self.view_is) c.requires.may in
    let ask = asks a.me a.ranks (the_view a) c.self.invariant c.args.to c.args.n may in
    let empty = at_once (the_view a) c.args.to c.args.n ask c.cleared-is_out.result
    c.cleared-is_out.ensures.empty
    ∙ c.if-is_out.true in
    let rows = c.leave.ensures ask.departure ask.there in
    let more = empty-counted a.me a.ranks (the_view a) c.self.invariant c.args.to c.args.n
    (omega (arith, to, c.self.invariant.letters)) ask c.leave.new.self.rows (a.staying - 1) empty rows in
    cleared_view (λ (v : SendingView). TablesAgree a.me a.ranks v) (the_view a) c.args.to c.args.n
    c.leave.new.self.rows (a.staying - 1) c.cleared-is_out.new.self c.cleared-is_out.ensures.cleared
    (empty-tables a.me a.ranks (the_view a) c.self.invariant c.args.to c.args.n
    (omega (arith, to, c.self.invariant.letters)) ask c.leave.new.self.rows (a.staying - 1) empty rows
    (omega (arith, more)))

pub invariant_of-self-else-is_out : goal.invariant_of-self-else-is_out
invariant_of-self-else-is_out c =
    let a = c.self.inside in
    let to = subst (λ (v : SendingView). c.args.to < length v.outbox.popped)
    (sym c.self.view_is) c.requires.to in
    let may = subst (λ (v : SendingView). MayBeCleared v c.args.to c.args.n)
    (sym c.self.view_is) c.requires.may in
    let ask = asks a.me a.ranks (the_view a) c.self.invariant c.args.to c.args.n may in
    let full = at_once (the_view a) c.args.to c.args.n ask c.cleared-is_out.result
    c.cleared-is_out.ensures.empty
    ∙ c.if-is_out.false in
    cleared_view (λ (v : SendingView). TablesAgree a.me a.ranks v) (the_view a) c.args.to c.args.n
    a.departures.rows a.staying c.cleared-is_out.new.self c.cleared-is_out.ensures.cleared
    (full-tables a.me a.ranks (the_view a) c.self.invariant c.args.to c.args.n
    (omega (arith, to, c.self.invariant.letters)) ask a.departures.rows a.staying full refl refl)

pub returns-then-is_out : goal.returns-then-is_out
returns-then-is_out c =
    let a = c.self.inside in
    let to = subst (λ (v : SendingView). c.args.to < length v.outbox.popped)
    (sym c.self.view_is) c.requires.to in
    let within : c.args.to < a.ranks = omega (arith, to, c.self.invariant.letters) in
    let may = subst (λ (v : SendingView). MayBeCleared v c.args.to c.args.n)
    (sym c.self.view_is) c.requires.may in
    let ask = asks a.me a.ranks (the_view a) c.self.invariant c.args.to c.args.n may in
    let empty = at_once (the_view a) c.args.to c.args.n ask c.cleared-is_out.result
    c.cleared-is_out.ensures.empty
    ∙ c.if-is_out.true in
    let rows = c.leave.ensures ask.departure ask.there in
    let more = empty-counted a.me a.ranks (the_view a) c.self.invariant c.args.to c.args.n within ask
    c.leave.new.self.rows (a.staying - 1) empty rows in
    let new = after-clear a.me a.ranks (the_view a) c.self.invariant c.args.to c.args.n within ask
    c.leave.new.self.rows (a.staying - 1) in
    rw c.if-is_out.true
    (cleared_view (λ (v : SendingView). ClearsMessage c.args.to c.args.n true c.args.self.now v) (the_view a)
    c.args.to c.args.n c.leave.new.self.rows (a.staying - 1) c.cleared-is_out.new.self
    c.cleared-is_out.ensures.cleared
    (subst (λ (v : SendingView). ClearsMessage c.args.to c.args.n true v new) c.self.view_is
    (record {
      value = λ h was. sym empty
          ∙ clear_empty a.me a.ranks (the_view a) c.self.invariant c.args.to c.args.n within ask
          a.departures.rows a.staying h was;
      kept = empty-kept a.me a.ranks (the_view a) c.self.invariant c.args.to c.args.n within ask
          c.leave.new.self.rows (a.staying - 1) empty rows;
      cleared = refl;
      counted = omega (arith, more);
      outbox = refl;
      same = refl;
    })))

pub returns-else-is_out : goal.returns-else-is_out
returns-else-is_out c =
    let a = c.self.inside in
    let to = subst (λ (v : SendingView). c.args.to < length v.outbox.popped)
    (sym c.self.view_is) c.requires.to in
    let within : c.args.to < a.ranks = omega (arith, to, c.self.invariant.letters) in
    let may = subst (λ (v : SendingView). MayBeCleared v c.args.to c.args.n)
    (sym c.self.view_is) c.requires.may in
    let ask = asks a.me a.ranks (the_view a) c.self.invariant c.args.to c.args.n may in
    let full = at_once (the_view a) c.args.to c.args.n ask c.cleared-is_out.result
    c.cleared-is_out.ensures.empty
    ∙ c.if-is_out.false in
    let new = after-clear a.me a.ranks (the_view a) c.self.invariant c.args.to c.args.n within ask
    a.departures.rows a.staying in
    rw c.if-is_out.false
    (cleared_view (λ (v : SendingView). ClearsMessage c.args.to c.args.n false c.args.self.now v) (the_view a)
    c.args.to c.args.n a.departures.rows a.staying c.cleared-is_out.new.self c.cleared-is_out.ensures.cleared
    (subst (λ (v : SendingView). ClearsMessage c.args.to c.args.n false v new) c.self.view_is
    (record {
      value = λ h was. sym full
          ∙ clear_empty a.me a.ranks (the_view a) c.self.invariant c.args.to c.args.n within ask
          a.departures.rows a.staying h was;
      kept = full-kept a.me a.ranks (the_view a) c.self.invariant c.args.to c.args.n within ask
          a.departures.rows a.staying full refl;
      cleared = refl;
      counted = omega arith;
      outbox = refl;
      same = refl;
    })))
