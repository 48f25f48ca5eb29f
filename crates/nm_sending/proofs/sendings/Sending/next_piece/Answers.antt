-- The count of pieces is below its limit.
use Rattle.std.proofs.Common.{◌≡◌, ◌<◌, ◌∙◌, Some, length, sym, ap, subst, arith}
use Rattle.std.specs.Prelude.{option_map}
use Rattle.std.proofs.lemmas.List.{get_or_read}
use Rattle.nm_rndv.specs.Offers.{next_offered, offered}
use Rattle.nm_sending.specs.contracts.sendings.Sending.{the_view}
use Rattle.nm_sending.specs.Departures.{SendingView}
use Rattle.nm_sending.proofs.PopLemmas.{next_pushes}
use Rattle.nm_sending.proofs.sendings.Sending.next_piece.Goals as goal

pub index-requires : goal.index-requires
index-requires c =
    let a = c.self.inside in
    let next : Some (offered (c.in_ok-to.to, c.next_piece.new.into)) ≡ next_offered a.offers =
    sym (ap (option_map (λ to. offered (to, c.next_piece.new.into))) c.in_ok-to.was) ∙ c.next_piece.ensures.next in
    let pushes = next_pushes a.me a.ranks (the_view a) c.self.invariant _ next in
    omega (arith, pushes.0, c.self.invariant.counts, a.pushed.ok.0)

pub invariant_of-into : goal.invariant_of-into
invariant_of-into c =
    let a = c.self.inside in
    let next : Some (offered (c.in_ok-to.to, c.next_piece.new.into)) ≡ next_offered a.offers =
    sym (ap (option_map (λ to. offered (to, c.next_piece.new.into))) c.in_ok-to.was) ∙ c.next_piece.ensures.next in
    let pushes = next_pushes a.me a.ranks (the_view a) c.self.invariant _ next in
    let is = get_or_read a.pushed.items c.in_ok-to.to c.index.result.now
    (omega (arith, pushes.0, c.self.invariant.counts)) c.index.ensures 0 in
    record { number_in_range = omega (arith, pushes.1, is) }

pub returns-clause-to : goal.returns-clause-to
returns-clause-to c =
    let a = c.self.inside in
    let next : Some (offered (c.in_ok-to.to, c.next_piece.new.into)) ≡ next_offered a.offers =
    sym (ap (option_map (λ to. offered (to, c.next_piece.new.into))) c.in_ok-to.was) ∙ c.next_piece.ensures.next in
    let pushes = next_pushes a.me a.ranks (the_view a) c.self.invariant _ next in
    subst (λ (v : SendingView). c.in_ok-to.to < length v.outbox.popped) c.self.view_is
    (omega (arith, pushes.0, c.self.invariant.letters))
