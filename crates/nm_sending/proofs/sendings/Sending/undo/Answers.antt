-- The answer to a recall comes back.
use Rattle.std.proofs.Common.{◌<◌, ◌&&◌, Bool, true, false, not, Option, length, refl, sym, ◌∙◌, ap, subst, arith}
use Rattle.std.specs.Option.{option_map_or}
use Rattle.nm_history.specs.Happens.{is_same}
use Rattle.nm_rndv.specs.Offers.{Offering}
use Rattle.nm_sending.specs.contracts.sendings.Sending.{the_view}
use Rattle.nm_sending.specs.Calls.{AnswersRecall}
use Rattle.nm_sending.specs.declared.departures.Departure.{Departure}
use Rattle.nm_sending.specs.Departures.{SendingView, passes, was_undone}
use Rattle.nm_sending.specs.Sent.{MayBeAnswered}
use Rattle.nm_sending.specs.Tables.{TablesAgree}
use Rattle.nm_sending.proofs.UndoLemmas.{is_recall_open, is_open, not_cleared, after-undo}
use Rattle.nm_sending.proofs.UndoLemmas.{undo-tables, undo-kept}
use Rattle.nm_sending.proofs.sendings.Sending.undo.Goals as goal

pub withdrawn-requires-clause-in_range : goal.withdrawn-requires-clause-in_range
withdrawn-requires-clause-in_range c =
    let to = subst (λ (v : SendingView). c.args.to < length v.outbox.popped)
    (sym c.self.view_is) c.requires.to in
    omega (arith, to, c.self.invariant.letters, c.self.invariant.offers)

pub withdrawn-requires-clause-recalled : goal.withdrawn-requires-clause-recalled
withdrawn-requires-clause-recalled c =
    let a = c.self.inside in
    let to = subst (λ (v : SendingView). c.args.to < length v.outbox.popped)
    (sym c.self.view_is) c.requires.to in
    let may = subst (λ (v : SendingView). MayBeAnswered v c.args.to c.args.n c.args.done) (sym c.self.view_is)
    c.requires.may in
    is_open a.me a.ranks (the_view a) c.self.invariant c.args.to c.args.n
    (omega (arith, to, c.self.invariant.letters)) c.args.done
    (is_recall_open (the_view a) c.args.to c.args.n c.args.done may)

pub withdrawn-requires-clause-uncleared : goal.withdrawn-requires-clause-uncleared
withdrawn-requires-clause-uncleared c =
    let a = c.self.inside in
    let to = subst (λ (v : SendingView). c.args.to < length v.outbox.popped)
    (sym c.self.view_is) c.requires.to in
    let may = subst (λ (v : SendingView). MayBeAnswered v c.args.to c.args.n c.args.done) (sym c.self.view_is)
    c.requires.may in
    not_cleared a.me a.ranks (the_view a) c.self.invariant c.args.to c.args.n
    (omega (arith, to, c.self.invariant.letters)) c.args.done
    (is_recall_open (the_view a) c.args.to c.args.n c.args.done may)

pub answer-requires-clause-to : goal.answer-requires-clause-to
answer-requires-clause-to c =
    let to = subst (λ (v : SendingView). c.args.to < length v.outbox.popped)
    (sym c.self.view_is) c.requires.to in
    omega (arith, to, c.self.invariant.letters, c.self.invariant.rows)

pub answer-requires-clause-recalled : goal.answer-requires-clause-recalled
answer-requires-clause-recalled c =
    let may = subst (λ (v : SendingView). MayBeAnswered v c.args.to c.args.n c.args.done) (sym c.self.view_is)
    c.requires.may in
    let open' = is_recall_open (the_view c.self.inside) c.args.to c.args.n c.args.done may in
    ap (λ (o : Option Departure). passes (λ d. d.recalled && not (was_undone true d)) o) open'.there
    ∙ ap (λ (b : Bool). b && not (was_undone true open'.departure)) open'.recalled
    ∙ ap (λ (o : Option Bool). not (option_map_or (is_same true) o false)) open'.none

pub invariant_of-self : goal.invariant_of-self
invariant_of-self c =
    let a = c.self.inside in
    let to = subst (λ (v : SendingView). c.args.to < length v.outbox.popped)
    (sym c.self.view_is) c.requires.to in
    let may = subst (λ (v : SendingView). MayBeAnswered v c.args.to c.args.n c.args.done) (sym c.self.view_is)
    c.requires.may in
    let open' = is_recall_open (the_view a) c.args.to c.args.n c.args.done may in
    let rows = c.answer.ensures open'.departure open'.there in
    subst (λ (o : Offering). TablesAgree a.me a.ranks
    (record (the_view a) { offers = o; departures = c.answer.new.self.rows })) (sym c.withdrawn.ensures)
    (undo-tables a.me a.ranks (the_view a) c.self.invariant c.args.to c.args.n
    (omega (arith, to, c.self.invariant.letters)) c.args.done open' c.answer.new.self.rows rows)

pub returns : goal.returns
returns c =
    let a = c.self.inside in
    let to = subst (λ (v : SendingView). c.args.to < length v.outbox.popped)
    (sym c.self.view_is) c.requires.to in
    let may = subst (λ (v : SendingView). MayBeAnswered v c.args.to c.args.n c.args.done) (sym c.self.view_is)
    c.requires.may in
    let open' = is_recall_open (the_view a) c.args.to c.args.n c.args.done may in
    let rows = c.answer.ensures open'.departure open'.there in
    let within : c.args.to < a.ranks = omega (arith, to, c.self.invariant.letters) in
    let new = after-undo a.me a.ranks (the_view a) c.self.invariant c.args.to c.args.n within c.args.done open'
    c.answer.new.self.rows rows in
    subst (λ (o : Offering). AnswersRecall c.args.to c.args.n c.args.done c.args.self.now
    (record (the_view a) { offers = o; departures = c.answer.new.self.rows })) (sym c.withdrawn.ensures)
    (subst (λ (v : SendingView). AnswersRecall c.args.to c.args.n c.args.done v new) c.self.view_is
    (record {
      kept = undo-kept a.me a.ranks (the_view a) c.self.invariant c.args.to c.args.n within c.args.done open'
          c.answer.new.self.rows rows;
      counted = refl;
      answered = refl;
      outbox = refl;
      same = refl;
    }))
