use Rattle.std.proofs.Common.{◌+◌, ◌≤◌, length, arith}
use Rattle.std.proofs.lemmas.Grind.{common_steps}
use Rattle.nm_outside.proofs.ReadingLemmas.{loses_read, loses_piece}
use Rattle.nm_outside.proofs.reading.read_up_to.Goals as goal

pub returns-in_err-count-clause-taken : goal.returns-in_err-count-clause-taken
returns-in_err-count-clause-taken g c =
    let read = c.loop-buffer.read in
    let fits : length read.items ≤ c.args.limit = omega (arith, read.ok.0) in
    loses_read _ _ _ _ read.items c.loop-buffer.invariant.read c.in_err-count.ensures.failed fits

pub returns-then-count-eq0-clause-taken : goal.returns-then-count-eq0-clause-taken
returns-then-count-eq0-clause-taken g c =
    let read = c.loop-buffer.read in
    let fits : length read.items + c.in_ok-count.count ≤ c.args.limit = omega (arith, read.ok.0) in
    loses_piece _ _ _ _ _ read.items _ c.loop-buffer.invariant.read c.in_ok-count.ensures.moved fits

pub returns-in_err-extend_from_slice-clause-taken :
    goal.returns-in_err-extend_from_slice-clause-taken
returns-in_err-extend_from_slice-clause-taken g c =
    let read = c.loop-buffer.read in
    let within = c.in_ok-count.ensures.within in
    let fits : length read.items + c.in_ok-count.count ≤ c.args.limit =
    grind (arith, common_steps, read.ok.0, within) in
    loses_piece _ _ _ _ _ read.items _ c.loop-buffer.invariant.read c.in_ok-count.ensures.moved fits
