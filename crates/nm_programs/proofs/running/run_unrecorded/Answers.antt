-- A run whose histories are in proofs alone.
use Rattle.nm_rank.specs.declared.journal.erased.Erased.{Erased}
use Rattle.nm_report.specs.Ends.{packets_of}
use Rattle.nm_world.specs.Records.{ends_by}
use Rattle.nm_programs.specs.HasRun.{IsStopped}
use Rattle.nm_programs.proofs.StopLemmas.{passed_on}
use Rattle.nm_programs.proofs.running.run_unrecorded.Goals as goal

pub returns-clause-run : goal.returns-clause-run
returns-clause-run g c =
    let kept = c.in_ok-kept.kept in
    record {
      ends = ends_by (λ (h : Erased). h.all) kept.ends.items;
      packets = packets_of kept.pairs;
      ran = c.in_ok-kept.ensures.run;
      done_is = c.in_ok-kept.ensures.done;
    }

pub returns-in_err-kept-clause-stopped : goal.returns-in_err-kept-clause-stopped
returns-in_err-kept-clause-stopped g c =
    passed_on c.from_residual.result (c.in_err-kept.field-0).0
    (IsStopped g.P.Program.says c.args.shape.ranks c.args.programs.items) c.from_residual.ensures.1
    c.in_err-kept.ensures.stopped
