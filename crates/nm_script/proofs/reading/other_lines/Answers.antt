-- Each line goes on from those before it, and the first fault ends them all.
use Rattle.std.proofs.Common.{◌≡◌, [], ◌∷◌, length, length-append, arith, sym, ap, ◌∙◌}
use Rattle.std.proofs.lemmas.List.{nil_from_length}
use Rattle.std.proofs.lemmas.List.Sums.{sum_by-append, sum_by-cons}
use Rattle.std.proofs.lemmas.Result.{err_from_is_err_and}
use Rattle.std.proofs.lemmas.Bool.Decides.{nat_tests}
use Rattle.nm_types.specs.declared.scripts.Line.{Line}
use Rattle.nm_types.specs.Limits.{sent_len}
use Rattle.nm_script.specs.Lines.{lines_of}
use Rattle.nm_script.specs.Reading.{script_reader}
use Rattle.nm_script.specs.TextReading.{lines_from}
use Rattle.nm_script.proofs.TextLemmas.{ends, goes_on}
use Rattle.nm_script.proofs.reading.other_lines.Goals as goal

pub returns-in_err-line : goal.returns-in_err-line
returns-in_err-line c =
    let p = err_from_is_err_and c.from_residual.result c.from_residual.ensures.1 in
    let so_far = ap (lines_from script_reader c.args.ranks c.loop-rest.lines) (sym c.split_line.ensures.lines)
    ∙ c.loop-rest.invariant.read in
    rw (p.1, p.2) (ends script_reader c.args.ranks c.loop-rest.lines c.split_line.result.0.now
    (lines_of c.split_line.result.1.now) c.in_err-line.field-0.0 _ so_far
    (rw (c.loop-rest.invariant.number, c.loop-rest.invariant.total) at c.in_err-line.ensures.exact))

pub loop-rest-preserved : goal.loop-rest-preserved
loop-rest-preserved c =
    let lines = c.loop-rest.lines in
    let line = c.in_ok-line.line in
    let sent = c.sent_len-total.ensures in
    let is = c.in_ok-push.ensures.ok in
    let sum = sum_by-append (λ (l : Line). sent_len l.command) lines (line ∷ []) in
    let one = sum_by-cons (λ (l : Line). sent_len l.command) line [] in
    let count = length-append lines (line ∷ []) in
    let so_far = ap (lines_from script_reader c.args.ranks lines) (sym c.split_line.ensures.lines)
    ∙ c.loop-rest.invariant.read in
    record {
      read = rw is (goes_on script_reader c.args.ranks lines c.split_line.result.0.now
          (lines_of c.split_line.result.1.now) line _ so_far
          (rw (c.loop-rest.invariant.number, c.loop-rest.invariant.total) at c.in_ok-line.ensures.exact));
      number = rw is (omega (arith, c.loop-rest.invariant.number, count));
      few = rw is (omega (arith, c.loop-rest.invariant.number, count, c.in_ok-line.ensures.in_lines));
      total = rw is (omega (arith, c.loop-rest.invariant.total, sent, sum, one));
      fits = omega (arith, sent, c.in_ok-line.ensures.in_bodies);
    }

pub returns : goal.returns
returns c =
    let none : length c.loop-rest.rest.now ≡ 0 = grind
    (arith, nat_tests, c.is_empty.ensures, c.loop-rest-test.false) in
    sym (rw (nil_from_length c.loop-rest.rest.now none) at c.loop-rest.invariant.read)
