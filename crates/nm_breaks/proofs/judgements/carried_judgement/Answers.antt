use Rattle.std.proofs.Common.{◌<◌, length, arith}
use Rattle.nm_report.specs.Ends.{ends_of}
use Rattle.nm_breaks.proofs.SpotLemmas.{carried_ranks, many_ends, spot_inside}
use Rattle.nm_breaks.proofs.judgements.carried_judgement.Goals as goal

pub told_at-event-requires : goal.told_at-event-requires
told_at-event-requires c =
    let pair = c.args.pair in
    rw c.as_slice-ranks.ensures (record {
      short = c.requires.short;
      inside = spot_inside c.args.lines.now (ends_of c.args.run.now.ranks) pair.from pair.to
          pair.first.clause pair.first.spot c.requires.found.at;
    })

pub other_event-other-requires : goal.other_event-other-requires
other_event-other-requires c =
    let pair = c.args.pair in
    let known = carried_ranks c.args.run.now.shape c.args.lines.now (ends_of c.args.run.now.ranks)
    pair.first.clause pair.from pair.to c.requires.found.judged in
    let many = many_ends c.args.run.now.ranks in
    let from : pair.from < length c.args.run.now.ranks = let low = known.0 in omega (arith, many, low) in
    let to : pair.to < length c.args.run.now.ranks = let low = known.1 in omega (arith, many, low) in
    rw c.as_slice-ranks.ensures (record {
      sender = from;
      receiver = to;
      short = c.requires.short;
      tabled = c.requires.tabled;
    })

pub returns : goal.returns
returns c = λ count. record {
  right = c.requires.found.judged;
  rests = (
    (c.args.pair.first.spot, c.requires.found.at, rw c.as_slice-ranks.ensures at c.told_at-event.ensures),
    rw c.as_slice-ranks.ensures at c.other_event-other.ensures,
    rw c.as_slice-ranks.ensures at c.against_of-against.ensures,
  );
}
