use Rattle.std.proofs.Common.{◌≡◌, length, refl, sym, arith, rules}
use Rattle.std.proofs.lemmas.Bool.{ltb-true}
use Rattle.std.proofs.lemmas.Grind.{common_steps}
use Rattle.std.proofs.lemmas.Option.{slice_get_read}
use Rattle.nm_check.specs.Counting.{at_most, counted_pair}
use Rattle.nm_check.proofs.MiscountLemmas.{none_there, there_decided}
use Rattle.nm_check.proofs.rest.counts.is_due_at.Goals as goal

pub returns-in-Some : goal.returns-in-Some
returns-in-Some c =
    let count : c.from.result ≡ at_most c.args.pair.now.packets =
    first_of (omega (arith, c.from.ensures), search rules, grind (arith, common_steps)) in
    there_decided c.args.due.now c.args.at c.in-Some.other.now (counted_pair c.args.pair.now) c.is_pair.result
    (slice_get_read c.args.due.now (length c.args.due.now) c.args.at c.in-Some.other.now refl
    (ltb-true c.args.at (length c.args.due.now) (sym c.in-Some.ensures.lookup.0)) c.in-Some.ensures.lookup.1)
    (c.is_pair.ensures c.args.pair.now.packets count)

pub returns-in-None : goal.returns-in-None
returns-in-None c = none_there c.args.due.now c.args.at (counted_pair c.args.pair.now)
    (omega (arith, c.in-None.ensures.lookup))
