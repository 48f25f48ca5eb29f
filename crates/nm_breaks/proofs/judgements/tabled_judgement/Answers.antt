use Rattle.std.proofs.Common.{refl, arith}
use Rattle.std.proofs.lemmas.Result.{IfOk-weaker}
use Rattle.nm_breaks.proofs.judgements.tabled_judgement.Goals as goal

pub carried_judgement-requires : goal.carried_judgement-requires
carried_judgement-requires c = record {
  found = rw c.in-Carried.is at c.requires.found;
  short = omega (arith, c.requires.short);
  tabled = c.requires.tabled;
}

pub left_judgement-requires : goal.left_judgement-requires
left_judgement-requires c = record {
  found = rw c.in-Event.is at (rw c.in-Rest.is at c.requires.found);
  short = omega (arith, c.requires.short);
}

pub standing_judgement-requires : goal.standing_judgement-requires
standing_judgement-requires c = record {
  found = rw c.in-Standing.is at (rw c.in-Rest.is at c.requires.found);
  tabled = c.requires.tabled;
}

pub counts_judgement-requires : goal.counts_judgement-requires
counts_judgement-requires c = record {
  judged = (rw c.in-Counts.is at (rw c.in-Rest.is at c.requires.found)).judged;
  few = c.requires.few;
  short = c.requires.short;
  tabled = c.requires.tabled;
}

pub returns-in-Carried : goal.returns-in-Carried
returns-in-Carried c = c.carried_judgement.ensures c.args.count

pub returns-in-Event : goal.returns-in-Event
returns-in-Event c = c.left_judgement.ensures c.args.count

pub returns-in-Standing : goal.returns-in-Standing
returns-in-Standing c = c.standing_judgement.ensures c.args.count

pub returns-in-Counts : goal.returns-in-Counts
returns-in-Counts c =
    IfOk-weaker c.counts_judgement.result _ _ (λ judgement each. each c.args.count) c.counts_judgement.ensures

pub returns-in-Home : goal.returns-in-Home
returns-in-Home c =
    rw c.home_judgement.ensures (record {
      right = (rw c.in-Home.is at c.requires.found).judged;
      rests = (refl, refl);
    })

pub returns-in-Done : goal.returns-in-Done
returns-in-Done c = record { right = (rw c.in-Done.is at c.requires.found).judged; rests = refl }

pub returns-in-Holds : goal.returns-in-Holds
returns-in-Holds c = record { right = (rw c.in-Holds.is at c.requires.found).judged; rests = tt }
