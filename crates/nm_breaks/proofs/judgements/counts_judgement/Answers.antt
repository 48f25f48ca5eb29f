use Rattle.std.proofs.Common.{◌≡◌, ◌≤◌, ◌+◌, length, arith}
use Rattle.std.proofs.lemmas.List.{length-map}
use Rattle.nm_report.specs.Ends.{ends_of, packets_of}
use Rattle.nm_check_rank.proofs.DifferLemmas.{differ_inside}
use Rattle.nm_check.specs.Counting.{counted_pair}
use Rattle.nm_check.specs.declared.rest.clauses.RestClause.TheVariants as rest
use Rattle.nm_history.specs.Quiescence.{packets_of as packets_due}
use Rattle.nm_breaks.specs.Miscounts.{AreCounted, IsFirstCounted}
use Rattle.nm_breaks.specs.Places.{events_in}
use Rattle.nm_check.specs.Verdicts.{BreaksRest}
use Rattle.nm_breaks.proofs.judgements.counts_judgement.Goals as goal
use Rattle.nm_breaks.proofs.judgements.counts_judgement.Goals.{In-Some}

pub first_counted-requires : goal.first_counted-requires
first_counted-requires c =
    rw c.as_slice-ranks.ensures (record {
      few = c.requires.few;
      short = omega (arith, c.requires.short);
      tabled = (c.args.lines.now, c.requires.tabled);
    })

-- the first wrong count
first : (c : In-Some) →
    IsFirstCounted c.args.lines.now (ends_of c.args.run.now.ranks) c.args.run.now.pairs c.in-Some.miscount
first c =
    rw (c.as_slice-ranks.ensures, c.as_slice.ensures) at (rw c.in-Some.is at
    (c.in_ok-miscount.ensures c.args.lines.now))

pub count_line-line-requires : goal.count_line-line-requires
count_line-line-requires c =
    let inside = differ_inside (packets_of c.args.run.now.pairs)
    (packets_due c.args.lines.now (ends_of c.args.run.now.ranks)) c.in-Some.miscount.at (first c).differ in
    let many : length (packets_of c.args.run.now.pairs) ≡ length c.args.run.now.pairs =
    length-map c.args.run.now.pairs counted_pair in
    let short : events_in (ends_of c.args.run.now.ranks) + length c.args.run.now.pairs ≤ 67108864 = c.requires.short in
    rw c.as_slice-ranks.ensures (omega (arith, inside, many, short))

pub returns-in-Some : goal.returns-in-Some
returns-in-Some c = λ count. record {
  right = c.requires.judged;
  rests = (
    rw (c.as_slice-ranks.ensures, c.as_slice.ensures) at
        (rw c.in-Some.is at (c.in_ok-miscount.ensures c.args.lines.now)),
    rw c.as_slice-ranks.ensures at c.count_line-line.ensures,
  );
}

pub returns-in-None : goal.returns-in-None
returns-in-None c = λ count.
    let judged : BreaksRest c.args.run.now.shape c.args.lines.now (ends_of c.args.run.now.ranks)
    (packets_of c.args.run.now.pairs) rest.Counts = c.requires.judged in
    let counted : AreCounted c.args.lines.now (ends_of c.args.run.now.ranks) c.args.run.now.pairs =
    rw (c.as_slice-ranks.ensures, c.as_slice.ensures) at (rw c.in-None.is at
    (c.in_ok-miscount.ensures c.args.lines.now)) in
    absurd (judged.first.broken counted)
