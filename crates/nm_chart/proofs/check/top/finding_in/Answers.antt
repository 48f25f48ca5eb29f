-- What is found is what there is to say.
use Rattle.nm_chart.proofs.FindingLemmas.{found_few}
use Rattle.nm_chart.proofs.check.top.finding_in.Goals as goal

pub finding_of-requires : goal.finding_of-requires
finding_of-requires c =
    found_few c.args.line.cells c.args.line.eager c.args.bytes.now c.in_ok-found.found c.in_ok-found.ensures.found

pub returns-clause-finding : goal.returns-clause-finding
returns-clause-finding c = record {
  what = c.in_ok-found.found;
  right = c.in_ok-found.ensures.found;
  said = c.finding_of.ensures.finding;
}
