-- The histories of the run are those of the sums.
use Rattle.std.proofs.Common.{◌≡◌}
use Rattle.std.proofs.lemmas.Result.{IfOk-weaker}
use Rattle.nm_programs.specs.HasRun.{HasRunUnrecorded}
use Rattle.programs.specs.Sums.{HaveSummed, sum_with}
use Rattle.programs.proofs.Sums.{all_sums}
use Rattle.programs.proofs.ring.run_ring_unrecorded.Goals as goal

pub returns : goal.returns
returns g c =
    let links = c.args.links.items in
    IfOk-weaker c.run_unrecorded.result
    (λ x. HasRunUnrecorded (λ p a c q. q.sum ≡ sum_with p.sum a) c.args.shape links x.ranks.items x.done x.cells
    x.ways.cells x.ways.rings)
    (λ x. HaveSummed c.args.shape links x)
    (λ x run. record { run = run; sums = all_sums links run.ran.given run.ends x.ranks.items run.ran.each })
    c.run_unrecorded.ensures.run
