-- A line sends no more than a body may have.
use Rattle.std.proofs.Common.{◌≤◌, arith}
use Rattle.nm_types.specs.declared.limits.TheConstants.{MAX_BODY}
use Rattle.nm_types.specs.Limits.{sent_len}
use Rattle.nm_script.proofs.CommandTakenLemmas.{line_taken, sent_fits}
use Rattle.nm_script.proofs.reading.line_in.Goals as goal

pub sent_len-requires : goal.sent_len-requires
sent_len-requires c =
    let line = c.in_ok-line.line in
    let taken = line_taken c.args.ranks _ line (omega arith) c.in_ok-line.ensures in
    let short : sent_len line.command ≤ MAX_BODY = sent_fits c.args.ranks line.command
    taken.fits.range in
    omega arith

pub overflow_add-total : goal.overflow_add-total
overflow_add-total c =
    let line = c.in_ok-line.line in
    let taken = line_taken c.args.ranks _ line (omega arith) c.in_ok-line.ensures in
    let short : sent_len line.command ≤ MAX_BODY = sent_fits c.args.ranks line.command
    taken.fits.range in
    omega (arith, c.sent_len.ensures)
