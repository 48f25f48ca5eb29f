-- The record's ends are those of the sums.
use Rattle.std.proofs.Common.{◌≡◌}
use Rattle.std.proofs.lemmas.Result.{IfOk-weaker}
use Rattle.nm_report.specs.Ends.{ends_of}
use Rattle.nm_programs.specs.HasRun.{HasRun}
use Rattle.programs.specs.Sums.{AreSums, sum_with}
use Rattle.programs.proofs.Sums.{all_sums}
use Rattle.programs.proofs.ring.run_ring.Goals as goal

pub returns : goal.returns
returns g c =
    let links = c.args.links.items in
    IfOk-weaker c.run_programs.result
    (λ x. HasRun (λ p a c q. q.sum ≡ sum_with p.sum a) c.args.shape links x.ranks.items x.record x.ways.cells
    x.ways.rings)
    (λ x. AreSums links (ends_of x.record.ranks) x.ranks.items)
    (λ x run. all_sums links run.given (ends_of x.record.ranks) x.ranks.items run.each) c.run_programs.ensures.run
