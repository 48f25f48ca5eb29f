use Rattle.nm_report.specs.Ends.{ends_of}
use Rattle.nm_breaks.proofs.SpotLemmas.{rest_inside}
use Rattle.nm_breaks.proofs.judgements.left_judgement.Goals as goal

pub told_at-event-requires : goal.told_at-event-requires
told_at-event-requires c =
    rw c.as_slice.ensures (record {
      short = c.requires.short;
      inside = rest_inside c.args.rule (ends_of c.args.run.now.ranks) c.args.spot c.requires.found.at;
    })

pub returns : goal.returns
returns c = λ count. record {
  right = c.requires.found.judged;
  rests = (c.args.spot, c.requires.found.at, rw c.as_slice.ensures at c.told_at-event.ensures);
}
