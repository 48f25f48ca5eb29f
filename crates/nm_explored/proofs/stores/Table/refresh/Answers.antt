-- One rank more.
use Rattle.std.proofs.Common.{◌≡◌, ℕ, ◌<◌, length, sym, arith}
use Rattle.nm_types.proofs.ListLemmas.{get_some}
use Rattle.nm_explored.proofs.PackLemmas.{fresh_all, fresh_next}
use Rattle.nm_explored.proofs.stores.Table.refresh.Goals as goal

pub loop-place-init : goal.loop-place-init
loop-place-init c = record {
  fresh = λ low many are. record {
    are = are;
    many = sym many;
    same = λ j less. absurd (omega (arith, less));
  };
  low = omega arith;
}

pub loop-place-preserved : goal.loop-place-preserved
loop-place-preserved c =
    let test = c.loop-place-test.true in
    let inside : c.loop-place.place < length c.args.ids.now = omega (arith, test) in
    let id = get_some c.args.ids.now c.loop-place.place inside in
    record {
      fresh = λ low many are.
          let fresh = c.loop-place.invariant.fresh low many are in
          let long = fresh.many in
          fresh_next c.args.self.now c.args.ids.now c.loop-place.all c.refresh_at.new.all c.loop-place.place id.0 inside
          id.1 fresh
          (c.in_ok-refresh_at.ensures id.0 id.1 (low c.loop-place.place id.0 id.1) (omega (arith, inside, long))
          fresh.are);
      low = omega (arith, test);
    }

pub returns : goal.returns
returns c low many are =
    let end = c.loop-place-test.false in
    fresh_all c.args.self.now c.args.ids.now c.loop-place.all c.loop-place.place (omega (arith, end))
    (c.loop-place.invariant.fresh low many are)
