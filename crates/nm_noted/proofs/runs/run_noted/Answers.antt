-- The run is one of the programs.
use Rattle.std.proofs.Common.{◌∙◌, sym}
use Rattle.std.proofs.lemmas.Slice.Zip.{AllZip-long}
use Rattle.nm_report.specs.Ends.{ends_of, packets_of}
use Rattle.nm_programs.specs.HasRun.{IsStopped}
use Rattle.nm_programs.proofs.StopLemmas.{passed_on}
use Rattle.nm_noted.specs.Noted.{IsFresh}
use Rattle.nm_noted.proofs.RunLemmas.{all_calls, ran_of, record_of, stopped_so}
use Rattle.nm_noted.proofs.runs.run_noted.Goals as goal

pub run_programs-requires-clause-many : goal.run_programs-requires-clause-many
run_programs-requires-clause-many g c lifetimes outlive =
    AllZip-long (IsFresh all_calls) c.args.programs.items c.in_ok-noted.noted.items c.in_ok-noted.ensures ∙ c.requires.many

pub returns-clause-run : goal.returns-clause-run
returns-clause-run g c =
    let says = g.P.Program.says in
    let outcome = c.in_ok-outcome.outcome in
    let parted = c.in_ok-parted.parted in
    let ends = ends_of outcome.record.ranks in
    let packets = packets_of outcome.record.pairs in
    let on =
    ran_of says all_calls c.args.shape c.args.programs.items c.in_ok-noted.noted.items outcome.ranks.items
    parted.ranks.items ends packets outcome.record.cells outcome.ways.cells outcome.ways.rings c.in_ok-noted.ensures
    c.in_ok-parted.ensures.ranks c.in_ok-outcome.ensures.run in
    record { ran = on.0; are = on.1 ∙ sym c.in_ok-parted.ensures.calls }

pub returns-clause-told : goal.returns-clause-told
returns-clause-told g c =
    let outcome = c.in_ok-outcome.outcome in
    let parted = c.in_ok-parted.parted in
    record_of g.P.Program.says c.args.shape c.args.programs.items parted.ranks.items parted.calls.items outcome.record
    outcome.ways.cells outcome.ways.rings (returns-clause-run g c)
    c.in_ok-outcome.ensures.shaped c.in_ok-outcome.ensures.home c.in_ok-outcome.ensures.done

pub returns-in_err-outcome-clause-stopped : goal.returns-in_err-outcome-clause-stopped
returns-in_err-outcome-clause-stopped g c =
    let says = g.P.Program.says in
    let why = (c.in_err-outcome.field-0).0 in
    passed_on c.from_residual-in_err-outcome.result why (IsStopped says c.args.shape.ranks c.args.programs.items)
    c.from_residual-in_err-outcome.ensures.1
    (stopped_so says all_calls c.args.shape.ranks c.args.programs.items c.in_ok-noted.noted.items why
    c.in_ok-noted.ensures c.in_err-outcome.ensures.stopped)
