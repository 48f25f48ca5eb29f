-- The first of the six rules that breaks.
use Rattle.std.proofs.Common.{[], ◌∷◌, refl}
use Rattle.nm_report.specs.Ends.{ends_of, packets_of}
use Rattle.nm_check.specs.declared.rest.clauses.RestClause.TheVariants.{Arrived, Eager, Asked, Recalls, Waits, Counts}
use Rattle.nm_check.specs.declared.rest.firsts.EventRule.TheVariants as rule
use Rattle.nm_check.proofs.RestFirstLemmas.{counts_break, event_break, waits_break}
use Rattle.nm_check.proofs.rest.resting.first_of_rest.Goals as goal

pub returns-in-Some : goal.returns-in-Some
returns-in-Some c =
    let lines = c.args.lines.now in
    let packets = packets_of c.args.pairs.now in
    event_break lines (ends_of c.args.ranks.now) packets c.requires.ordered [] rule.Arrived
    (Eager ∷ Asked ∷ Recalls ∷ Waits ∷ Counts ∷ []) c.in-Some.spot refl tt (c.in-Some.ensures lines packets)

pub returns-in-Some-first_rest_at : goal.returns-in-Some-first_rest_at
returns-in-Some-first_rest_at c =
    let lines = c.args.lines.now in
    let packets = packets_of c.args.pairs.now in
    event_break lines (ends_of c.args.ranks.now) packets c.requires.ordered (Arrived ∷ []) rule.Eager
    (Asked ∷ Recalls ∷ Waits ∷ Counts ∷ []) c.in-Some-first_rest_at.spot refl
    (c.in_default.ensures lines packets, tt) (c.in-Some-first_rest_at.ensures lines packets)

pub returns-in-Some-first_rest_at-2 : goal.returns-in-Some-first_rest_at-2
returns-in-Some-first_rest_at-2 c =
    let lines = c.args.lines.now in
    let packets = packets_of c.args.pairs.now in
    let eager = c.in_default-first_rest_at.ensures lines packets in
    event_break lines (ends_of c.args.ranks.now) packets c.requires.ordered (Arrived ∷ Eager ∷ []) rule.Asked
    (Recalls ∷ Waits ∷ Counts ∷ []) c.in-Some-first_rest_at-2.spot refl
    (c.in_default.ensures lines packets, (eager, tt)) (c.in-Some-first_rest_at-2.ensures lines packets)

pub returns-in-Some-first_rest_at-3 : goal.returns-in-Some-first_rest_at-3
returns-in-Some-first_rest_at-3 c =
    let lines = c.args.lines.now in
    let packets = packets_of c.args.pairs.now in
    let eager = c.in_default-first_rest_at.ensures lines packets in
    let asked = c.in_default-first_rest_at-2.ensures lines packets in
    event_break lines (ends_of c.args.ranks.now) packets c.requires.ordered (Arrived ∷ Eager ∷ Asked ∷ [])
    rule.Recalls (Waits ∷ Counts ∷ []) c.in-Some-first_rest_at-3.spot refl
    (c.in_default.ensures lines packets, (eager, (asked, tt))) (c.in-Some-first_rest_at-3.ensures lines packets)

pub returns-in-Some-first_not_standing : goal.returns-in-Some-first_not_standing
returns-in-Some-first_not_standing c =
    let lines = c.args.lines.now in
    let packets = packets_of c.args.pairs.now in
    waits_break lines (ends_of c.args.ranks.now) packets c.requires.ordered c.in-Some-first_not_standing.rank
    (c.in_default.ensures lines packets) (c.in_default-first_rest_at.ensures lines packets)
    (c.in_default-first_rest_at-2.ensures lines packets) (c.in_default-first_rest_at-3.ensures lines packets)
    c.in-Some-first_not_standing.ensures

pub returns-then-not-are_counted : goal.returns-then-not-are_counted
returns-then-not-are_counted c =
    let lines = c.args.lines.now in
    let packets = packets_of c.args.pairs.now in
    counts_break lines (ends_of c.args.ranks.now) packets c.requires.ordered
    (c.in_default.ensures lines packets) (c.in_default-first_rest_at.ensures lines packets)
    (c.in_default-first_rest_at-2.ensures lines packets) (c.in_default-first_rest_at-3.ensures lines packets)
    c.in_default-first_not_standing.ensures
    (rw c.if-not-are_counted.true at (c.are_counted.ensures lines))

pub returns : goal.returns
returns c =
    let lines = c.args.lines.now in
    let packets = packets_of c.args.pairs.now in
    record {
      arrived = c.in_default.ensures lines packets;
      eager = c.in_default-first_rest_at.ensures lines packets;
      asked = c.in_default-first_rest_at-2.ensures lines packets;
      recalls = c.in_default-first_rest_at-3.ensures lines packets;
      waits = c.in_default-first_not_standing.ensures;
      counts = rw c.if-not-are_counted.false at (c.are_counted.ensures lines);
    }
