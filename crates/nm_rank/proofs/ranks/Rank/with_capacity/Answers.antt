use Rattle.std.proofs.Common.{refl, ap, ◌∙◌}
use Rattle.std.specs.Prelude.{map}
use Rattle.nm_rank.proofs.NewLemmas.{fields-new}
use Rattle.nm_rank.proofs.ranks.Rank.with_capacity.Goals as goal

pub invariant_of-result : goal.invariant_of-result
invariant_of-result g c =
    let n = c.ranks-ranks.ensures.value in
    let s = c.in_ok-sending.ensures.nothing in
    let r = c.in_ok-receiving.ensures in
    let events = ap (λ j. j.events) c.reserve.ensures.same ∙ c.new-journal.ensures.events in
    fields-new c.args.me c.args.shape c.reserve.new.self c.in_ok-sending.sending c.in_ok-receiving.receiving
    (map (λ s. s.known) c.in_ok-streams.streams.items) c.in_ok-with_capacity.field-0 c.in_ok-took.took.items
    c.in_ok-pulled.pulled.items c.requires events s.none s.me (rw n at s.popped)
    (rw n at s.offers) s.staying r.none r.sizes (λ from. (r.streams from, r.pieces from))
    (rw n at c.in_ok-streams.ensures) c.in_ok-with_capacity.ensures.none
    (rw n at c.in_ok-took.ensures) (rw n at c.in_ok-pulled.ensures)

pub returns : goal.returns
returns g c =
    let n = c.ranks-ranks.ensures.value in
    let s = c.in_ok-sending.ensures.nothing in
    let r = c.in_ok-receiving.ensures in
    record {
      me = refl;
      sizes = refl;
      events = ap (λ j. j.events) c.reserve.ensures.same ∙ c.new-journal.ensures.events;
      clock = ap (λ j. j.clock) c.reserve.ensures.same ∙ c.new-journal.ensures.clock;
      own = s.me;
      letters = s.letters;
      popped = rw n at s.popped;
      offers = rw n at s.offers;
      pushed = rw n at s.pushed;
      came = r.pieces;
      drawn = r.drawn;
      bytes = r.bytes;
      requests = c.in_ok-with_capacity.ensures.none;
      took = rw n at c.in_ok-took.ensures;
      pulled = rw n at c.in_ok-pulled.ensures;
      strays = refl;
      known = rw n at c.in_ok-streams.ensures;
    }
