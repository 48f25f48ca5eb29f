-- One command more.
use Rattle.std.proofs.Common.{◌≡◌, ℕ, List, [], ◌∷◌, ap, arith, length, refl, subst}
use Rattle.nm_types.specs.declared.scripts.Command.{Command}
use Rattle.nm_types.specs.declared.scripts.Line.{Line}
use Rattle.nm_transcript.specs.Orders.{HasNext, calls_of}
use Rattle.nm_transcript.proofs.OrderLemmas.{all_given, counts_after, given_one, next_low, none_given, too_many}
use Rattle.nm_transcript.proofs.orders.in_one_list.Goals as goal

pub loop-placed-init : goal.loop-placed-init
loop-placed-init c = record {
  first = none_given c.new-lines.result c.args.given.items c.new-lines.ensures;
  ranks = refl;
  many = ap (λ (ls : List Line). length ls) c.new-lines.ensures;
}

pub give_line-requires-clause-few : goal.give_line-requires-clause-few
give_line-requires-clause-few c =
    let has = subst (λ (r : List (List Command)). HasNext r c.in-Some.rank) c.deref.ensures.value c.in-Some.ensures.some in
    let low = next_low c.loop-placed.rest.items c.in-Some.rank (has.call ∷ has.others) has.is in
    let ranks = c.loop-placed.invariant.ranks in
    let few = c.requires.few in omega (arith, low, ranks, few)

pub loop-placed-preserved : goal.loop-placed-preserved
loop-placed-preserved c =
    let given = c.args.given.items in
    let one = c.in_ok-give_line.ensures in
    let counts = counts_after c.in-Some.rank c.loop-placed.rest.items given c.give_line.new.rest.items
    c.loop-placed.lines c.give_line.new.lines c.loop-placed._placed one c.loop-placed.invariant.ranks
    c.loop-placed.invariant.many in
    record {
      first = given_one c.in-Some.rank c.loop-placed.rest.items given c.give_line.new.rest.items c.loop-placed.lines
          c.give_line.new.lines one c.loop-placed.invariant.first;
      ranks = counts.0;
      many = counts.1;
    }

pub returns-in_default-clause-ok : goal.returns-in_default-clause-ok
returns-in_default-clause-ok c =
    all_given c.loop-placed.lines c.loop-placed.rest.items c.args.given.items c.loop-placed.invariant.first
    (subst (λ (r : List (List Command)). (rank : ℕ) → calls_of r rank ≡ []) c.deref.ensures.value
    (c.in_default.ensures.none refl))

pub returns-clause-err : goal.returns-clause-err
returns-clause-err c =
    let many = c.loop-placed.invariant.many in
    let high = c.loop-placed-test.false in
    λ ranks. too_many ranks c.loop-placed.lines c.loop-placed.rest.items c.args.given.items
    c.loop-placed.invariant.first (omega (arith, many, high))
