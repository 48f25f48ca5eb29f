-- The run is one of the script, in the sizes that the words say.
use Rattle.std.proofs.Common.{◌≡◌, rules}
use Rattle.nm_cli.specs.Scripts.{sizes_for}
use Rattle.nm_cli.proofs.RunLemmas.{ran}
use Rattle.nm_cli.proofs.runs.run.Goals as goal

pub returns-clause-run : goal.returns-clause-run
returns-clause-run g c =
    let line = c.args.line.now in
    let script = c.args.script.now in
    let sized : c.unwrap-shape.result ≡ sizes_for line script.ranks = search rules in
    let run = c.in_ok-run.ensures in
    let both = ran line script.ranks script.lines c.in_ok-run.run' c.in_ok-run.ways c.unwrap-shape.result sized
    run.shaped run.run run.home run.done script.limits c.summaries_fit.ensures in
    both.0

pub returns-clause-fits : goal.returns-clause-fits
returns-clause-fits g c =
    let line = c.args.line.now in
    let script = c.args.script.now in
    let sized : c.unwrap-shape.result ≡ sizes_for line script.ranks = search rules in
    let run = c.in_ok-run.ensures in
    let both = ran line script.ranks script.lines c.in_ok-run.run' c.in_ok-run.ways c.unwrap-shape.result sized
    run.shaped run.run run.home run.done script.limits c.summaries_fit.ensures in
    both.1
