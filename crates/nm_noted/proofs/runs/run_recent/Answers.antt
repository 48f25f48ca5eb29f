-- The run is one of the programs, of which the last calls and events are kept.
use Rattle.std.proofs.Common.{◌∙◌, ap, length, map, sym}
use Rattle.std.proofs.lemmas.Slice.Zip.{AllZip-long}
use Rattle.nm_report.specs.Ends.{packets_of}
use Rattle.nm_programs.specs.HasRun.{IsStopped}
use Rattle.nm_programs.proofs.StopLemmas.{passed_on}
use Rattle.nm_noted.specs.Noted.{IsFresh}
use Rattle.nm_noted.specs.Recent.{IsKeptOf, recent_end}
use Rattle.nm_noted.proofs.RunLemmas.{all_calls, as_many, ran_of, stopped_so, zip_mapped}
use Rattle.nm_noted.proofs.runs.run_recent.Goals as goal

pub run_kept-requires-clause-many : goal.run_kept-requires-clause-many
run_kept-requires-clause-many g c lifetimes outlive =
    AllZip-long (IsFresh all_calls) c.args.programs.items c.in_ok-noted.noted.items c.in_ok-noted.ensures
    ∙ c.requires.many

pub returns-clause-run : goal.returns-clause-run
returns-clause-run g c =
    let says = g.P.Program.says in
    let kept = c.in_ok-kept.kept in
    let parted = c.in_ok-parted.parted in
    let ends = map recent_end kept.ends.items in
    let packets = packets_of kept.pairs in
    let on =
    ran_of says all_calls c.args.shape c.args.programs.items c.in_ok-noted.noted.items kept.ranks.items
    parted.ranks.items ends packets kept.cells kept.ways.cells kept.ways.rings c.in_ok-noted.ensures
    c.in_ok-parted.ensures.ranks c.in_ok-kept.ensures.run in
    record {
      ends = ends;
      ran = on.0;
      are = on.1 ∙ sym c.in_ok-parted.ensures.calls;
      done_is = c.in_ok-kept.ensures.done;
      kept = zip_mapped recent_end IsKeptOf kept.ends.items c.in_ok-accounts.accounts c.in_ok-accounts.ensures;
    }

pub returns-clause-calls : goal.returns-clause-calls
returns-clause-calls g c =
    let says = g.P.Program.says in
    let kept = c.in_ok-kept.kept in
    let parted = c.in_ok-parted.parted in
    let run = returns-clause-run g c in
    ap length (sym run.are)
    ∙ as_many says c.args.programs.items run.ran.given run.ends parted.ranks.items run.ran.each
    ∙ run.ran.whole.lawful.one_each

pub returns-clause-ranks : goal.returns-clause-ranks
returns-clause-ranks g c =
    let run = returns-clause-run g c in
    AllZip-long IsKeptOf run.ends c.in_ok-accounts.accounts run.kept ∙ run.ran.whole.lawful.one_each

pub returns-in_err-kept-clause-stopped : goal.returns-in_err-kept-clause-stopped
returns-in_err-kept-clause-stopped g c =
    let says = g.P.Program.says in
    let why = (c.in_err-kept.field-0).0 in
    passed_on c.from_residual-in_err-kept.result why (IsStopped says c.args.shape.ranks c.args.programs.items)
    c.from_residual-in_err-kept.ensures.1
    (stopped_so says all_calls c.args.shape.ranks c.args.programs.items c.in_ok-noted.noted.items why
    c.in_ok-noted.ensures c.in_err-kept.ensures.stopped)
