use Rattle.std.proofs.Common.{refl}
use Rattle.nm_sending.proofs.NothingLemmas.{none_sent, nothing_agrees}
use Rattle.nm_sending.proofs.sendings.Sending.with_capacity.Goals as goal

pub returns-clause-nothing : goal.returns-clause-nothing
returns-clause-nothing c =
    let o = c.in_ok-with_capacity.ensures in record {
      me = o.me;
      letters = o.letters;
      popped = o.popped;
      none = none_sent c.args.ranks _ c.in_ok-new-2.ensures c.in_ok-new.ensures;
      offers = c.in_ok-new.ensures;
      pushed = c.in_ok-vec.ensures.items_if_clones_equal (λ y is. is);
      staying = refl;
    }

pub invariant_of-result : goal.invariant_of-result
invariant_of-result c =
    nothing_agrees c.args.ranks _ c.in_ok-new-2.ensures c.in_ok-new.ensures c.args.me (returns-clause-nothing c)
