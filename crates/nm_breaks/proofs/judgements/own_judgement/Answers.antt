use Rattle.nm_report.specs.Ends.{ends_of}
use Rattle.nm_breaks.proofs.RankLemmas.{breach_in}
use Rattle.nm_breaks.proofs.judgements.own_judgement.Goals as goal

pub told_of-event-requires : goal.told_of-event-requires
told_of-event-requires c =
    rw c.as_slice.ensures (record {
      short = c.requires.short;
      inside = breach_in c.args.run.now.shape c.args.lines.now (ends_of c.args.run.now.ranks) c.args.rank c.args.first
          c.requires.first;
    })

pub returns : goal.returns
returns c = λ count. record {
  right = c.requires.judged;
  rests = (c.requires.first, rw c.as_slice.ensures at c.told_of-event.ensures);
}
