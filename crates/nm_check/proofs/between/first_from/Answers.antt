use Rattle.std.proofs.Common.{◌≡◌, ◌≤◌, arith, get_or, length, refl}
use Rattle.std.proofs.lemmas.List.{get_or_default}
use Rattle.nm_history.specs.Quiescence.{history_of}
use Rattle.nm_check.specs.CarriedClauses.{PairDelivered}
use Rattle.nm_check.proofs.RankLemmas.{all, below, next, none_yet}
use Rattle.nm_check.proofs.TableLemmas.{blank, some_history}
use Rattle.nm_check.proofs.between.first_from.Goals as goal

pub loop-j-init : goal.loop-j-init
loop-j-init c = λ lines ranks its marked.
    none_yet (λ j rank. PairDelivered lines c.args.i j (history_of ranks c.args.i) rank.events) ranks

pub loop-j-preserved : goal.loop-j-preserved
loop-j-preserved c = λ lines ranks its marked.
    next (λ j rank. PairDelivered lines c.args.i j (history_of ranks c.args.i) rank.events) ranks c.loop-j.j
    (c.loop-j.invariant lines ranks its marked)
    (some_history ranks c.loop-j.j (PairDelivered lines c.args.i c.loop-j.j (history_of ranks c.args.i))
    (c.in_default.ensures lines ranks its
    (marked.each c.loop-j.j (get_or c.args.marks.now c.loop-j.j blank) c.loop-j-test.true
    (get_or_default c.args.marks.now c.loop-j.j blank (get_or c.args.marks.now c.loop-j.j blank) c.loop-j-test.true))))

pub returns-in-Some : goal.returns-in-Some
returns-in-Some c = λ lines ranks its marked.
    let many : length c.args.marks.now ≡ length ranks = marked.as_many in (
      refl,
      record {
        earlier = below (λ j rank. PairDelivered lines c.args.i j (history_of ranks c.args.i) rank.events) ranks
            c.loop-j.j (c.loop-j.invariant lines ranks its marked);
        inside = omega (arith, many, c.loop-j-test.true);
        its = c.in-Some.ensures lines ranks its
            (marked.each c.loop-j.j (get_or c.args.marks.now c.loop-j.j blank) c.loop-j-test.true
            (get_or_default c.args.marks.now c.loop-j.j blank (get_or c.args.marks.now c.loop-j.j blank)
            c.loop-j-test.true));
      },
    )

pub returns : goal.returns
returns c = λ lines ranks its marked.
    let many : length c.args.marks.now ≡ length ranks = marked.as_many in
    let over : length c.args.marks.now ≤ c.loop-j.j = c.loop-j-test.false in
    all (λ j rank. PairDelivered lines c.args.i j (history_of ranks c.args.i) rank.events) ranks c.loop-j.j
    (omega (arith, many, over)) (c.loop-j.invariant lines ranks its marked)
