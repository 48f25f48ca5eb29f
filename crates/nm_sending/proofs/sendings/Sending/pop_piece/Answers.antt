-- The next piece goes, and a message that was sent by asking leaves with its last one.
use Rattle.std.specs.Prelude.{IsSome}
use Rattle.std.proofs.Common.{◌≡◌, ℕ, ◌-◌, ◌<◌, Option, Some, None, not, refl, sym, ◌∙◌, ap, subst, arith}
use Rattle.nm_rndv.specs.Offers.{next_offered, with_popped}
use Rattle.nm_rndv.proofs.Results.{is_there}
use Rattle.nm_sending.specs.contracts.sendings.Sending.{the_view}
use Rattle.nm_sending.specs.Calls.{PopsNextPiece}
use Rattle.nm_sending.specs.declared.departures.Departure.{Departure}
use Rattle.nm_sending.specs.Departures.{SendingView, passes}
use Rattle.nm_sending.specs.Rows.{stays}
use Rattle.nm_sending.specs.Tables.{TablesAgree}
use Rattle.nm_sending.proofs.LeavingLemmas.{turn_next}
use Rattle.nm_sending.proofs.PopLemmas.{goes_on, last_of, message_to, count_raised, popped_view}
use Rattle.nm_sending.proofs.PopLemmas.{more-tables, more-kept, last-tables, last-kept, last-counted}
use Rattle.nm_sending.proofs.PopLemmas.{after, offers_popped, count_pushed}
use Rattle.nm_sending.proofs.PieceLemmas.{is_leading}
use Rattle.nm_sending.proofs.GoneLemmas.{unsettled}
use Rattle.nm_sending.proofs.sendings.Sending.pop_piece.Goals as goal

pub unwrap-to-requires : goal.unwrap-to-requires
unwrap-to-requires c =
    let there = subst (λ (v : SendingView). IsSome (next_offered v.offers)) (sym c.self.view_is) c.requires in
    rw (c.front.ensures.first, (is_leading c.self.inside.offers there).1) refl

pub invariant_of-self : goal.invariant_of-self
invariant_of-self c =
    let a = c.self.inside in
    let there = subst (λ (v : SendingView). IsSome (next_offered v.offers)) (sym c.self.view_is) c.requires in
    let goes = goes_on a.me a.ranks
    (the_view a) c.self.invariant there c.pop_piece.result c.pop_piece.ensures.last
    c.in_err-to.was in
    let to = message_to a.offers c.front.result c.unwrap-to.result goes.to goes.n c.unwrap-to.ensures
    c.front.ensures.first goes.first in
    popped_view (λ (v : SendingView). TablesAgree a.me a.ranks v) (the_view a) goes.to goes.n a.departures.rows
    a.staying c.pop_piece.new.self _ (is_there (λ m. c.pop_piece.new.self ≡ with_popped a.offers m) goes.first
    c.pop_piece.ensures.popped)
    (count_raised a.pushed.items c.unwrap-to.result.0 c.index_mut.result.now goes.to to
    (omega (arith, to, goes.within, c.self.invariant.counts)) c.index_mut.ensures.value)
    (more-tables a.me a.ranks (the_view a) c.self.invariant goes.to goes.n goes.first goes.lead goes.within
    a.departures.rows a.staying goes.rest goes.more refl refl)

pub leave-requires-clause-to : goal.leave-requires-clause-to
leave-requires-clause-to c =
    let a = c.self.inside in
    let there = subst (λ (v : SendingView). IsSome (next_offered v.offers)) (sym c.self.view_is) c.requires in
    let last = last_of a.me a.ranks
    (the_view a) c.self.invariant there c.pop_piece.result c.pop_piece.ensures.last
    c.in_ok-to.to c.in_ok-to.n c.in_ok-to.was in
    omega (arith, last.within, c.self.invariant.rows)

pub leave-requires-clause-stays : goal.leave-requires-clause-stays
leave-requires-clause-stays c =
    let a = c.self.inside in
    let there = subst (λ (v : SendingView). IsSome (next_offered v.offers)) (sym c.self.view_is) c.requires in
    let last = last_of a.me a.ranks
    (the_view a) c.self.invariant there c.pop_piece.result c.pop_piece.ensures.last
    c.in_ok-to.to c.in_ok-to.n c.in_ok-to.was in
    ap (λ (o : Option Departure). passes stays o) last.lead.there
    ∙ ap not (unsettled last.lead.departure last.lead.offer.3 last.lead.offer.5)

pub overflow_sub-self : goal.overflow_sub-self
overflow_sub-self c =
    let a = c.self.inside in
    let there = subst (λ (v : SendingView). IsSome (next_offered v.offers)) (sym c.self.view_is) c.requires in
    let last = last_of a.me a.ranks
    (the_view a) c.self.invariant there c.pop_piece.result c.pop_piece.ensures.last
    c.in_ok-to.to c.in_ok-to.n c.in_ok-to.was in
    let rows = c.leave.ensures last.lead.departure last.lead.there in
    omega (
      arith,
      last-counted a.me a.ranks (the_view a) c.self.invariant c.in_ok-to.to c.in_ok-to.n last.first
          last.lead last.within c.leave.new.self.rows (a.staying - 1) last.none rows,
    )

pub invariant_of-self-2 : goal.invariant_of-self-2
invariant_of-self-2 c =
    let a = c.self.inside in
    let there = subst (λ (v : SendingView). IsSome (next_offered v.offers)) (sym c.self.view_is) c.requires in
    let last = last_of a.me a.ranks
    (the_view a) c.self.invariant there c.pop_piece.result c.pop_piece.ensures.last
    c.in_ok-to.to c.in_ok-to.n c.in_ok-to.was in
    let rows = c.leave.ensures last.lead.departure last.lead.there in
    let more = last-counted a.me a.ranks (the_view a) c.self.invariant c.in_ok-to.to c.in_ok-to.n last.first
    last.lead last.within c.leave.new.self.rows (a.staying - 1) last.none rows in
    let to = message_to a.offers c.front.result c.unwrap-to.result c.in_ok-to.to c.in_ok-to.n
    c.unwrap-to.ensures c.front.ensures.first last.first in
    popped_view (λ (v : SendingView). TablesAgree a.me a.ranks v) (the_view a) c.in_ok-to.to c.in_ok-to.n
    c.leave.new.self.rows (a.staying - 1) c.pop_piece.new.self _
    (is_there (λ m. c.pop_piece.new.self ≡ with_popped a.offers m) last.first c.pop_piece.ensures.popped)
    (count_raised a.pushed.items c.unwrap-to.result.0 c.index_mut.result.now c.in_ok-to.to to
    (omega (arith, to, last.within, c.self.invariant.counts)) c.index_mut.ensures.value)
    (last-tables a.me a.ranks (the_view a) c.self.invariant c.in_ok-to.to c.in_ok-to.n last.first last.lead
    last.within c.leave.new.self.rows (a.staying - 1) last.none rows (omega (arith, more)))

pub returns-in_err-to : goal.returns-in_err-to
returns-in_err-to c =
    let a = c.self.inside in
    let there = subst (λ (v : SendingView). IsSome (next_offered v.offers)) (sym c.self.view_is) c.requires in
    let goes = goes_on a.me a.ranks
    (the_view a) c.self.invariant there c.pop_piece.result c.pop_piece.ensures.last
    c.in_err-to.was in
    let to = message_to a.offers c.front.result c.unwrap-to.result goes.to goes.n c.unwrap-to.ensures
    c.front.ensures.first goes.first in
    let new = after a.me a.ranks (the_view a) c.self.invariant goes.to goes.n goes.first goes.lead goes.within
    a.departures.rows a.staying in
    rw c.from_residual.ensures
    (popped_view (λ (v : SendingView). PopsNextPiece None c.args.self.now v)
    (the_view a) goes.to goes.n a.departures.rows
    a.staying c.pop_piece.new.self _ (is_there (λ m. c.pop_piece.new.self ≡ with_popped a.offers m) goes.first
    c.pop_piece.ensures.popped)
    (count_raised a.pushed.items c.unwrap-to.result.0 c.index_mut.result.now goes.to to
    (omega (arith, to, goes.within, c.self.invariant.counts)) c.index_mut.ensures.value)
    (subst (λ (v : SendingView). PopsNextPiece None v new) c.self.view_is
    (record {
      popped = offers_popped (the_view a) goes.to goes.n goes.first;
      pushed = count_pushed (the_view a) goes.to goes.n goes.first;
      last = sym c.in_err-to.was ∙ c.pop_piece.ensures.last;
      to = tt;
      kept = more-kept a.me a.ranks (the_view a) c.self.invariant goes.to goes.n goes.first goes.lead goes.within
          a.departures.rows a.staying goes.rest goes.more refl;
      in_turn = tt;
      counted = omega arith;
      outbox = refl;
    })))

pub returns : goal.returns
returns c =
    let a = c.self.inside in
    let there = subst (λ (v : SendingView). IsSome (next_offered v.offers)) (sym c.self.view_is) c.requires in
    let last = last_of a.me a.ranks
    (the_view a) c.self.invariant there c.pop_piece.result c.pop_piece.ensures.last
    c.in_ok-to.to c.in_ok-to.n c.in_ok-to.was in
    let rows = c.leave.ensures last.lead.departure last.lead.there in
    let more = last-counted a.me a.ranks (the_view a) c.self.invariant c.in_ok-to.to c.in_ok-to.n last.first
    last.lead last.within c.leave.new.self.rows (a.staying - 1) last.none rows in
    let to = message_to a.offers c.front.result c.unwrap-to.result c.in_ok-to.to c.in_ok-to.n
    c.unwrap-to.ensures c.front.ensures.first last.first in
    let new = after a.me a.ranks (the_view a) c.self.invariant c.in_ok-to.to c.in_ok-to.n last.first last.lead
    last.within c.leave.new.self.rows (a.staying - 1) in
    let out : Option (ℕ × ℕ) = Some (c.in_ok-to.to, c.in_ok-to.n) in
    popped_view (λ (v : SendingView). PopsNextPiece out c.args.self.now v) (the_view a)
    c.in_ok-to.to c.in_ok-to.n c.leave.new.self.rows (a.staying - 1) c.pop_piece.new.self _
    (is_there (λ m. c.pop_piece.new.self ≡ with_popped a.offers m) last.first c.pop_piece.ensures.popped)
    (count_raised a.pushed.items c.unwrap-to.result.0 c.index_mut.result.now c.in_ok-to.to to
    (omega (arith, to, last.within, c.self.invariant.counts)) c.index_mut.ensures.value)
    (subst (λ (v : SendingView). PopsNextPiece out v new) c.self.view_is
    (record {
      popped = offers_popped (the_view a) c.in_ok-to.to c.in_ok-to.n last.first;
      pushed = count_pushed (the_view a) c.in_ok-to.to c.in_ok-to.n last.first;
      last = sym c.in_ok-to.was ∙ c.pop_piece.ensures.last;
      to = subst (λ (k : ℕ). c.in_ok-to.to < k) (sym c.self.invariant.letters) last.within;
      kept = last-kept a.me a.ranks (the_view a) c.self.invariant c.in_ok-to.to c.in_ok-to.n last.first last.lead
          last.within c.leave.new.self.rows (a.staying - 1) last.none rows;
      in_turn = λ h was. turn_next (the_view a) (the_view a) h h (λ t. refl) was.in_turn c.in_ok-to.to
          c.in_ok-to.n last.first;
      counted = omega (arith, more);
      outbox = refl;
    }))
