-- Each line goes on from those before it, and the first fault ends them all.
use Rattle.std.proofs.Common.{◌≡◌, ◌+◌, length, arith, sym, ap, ◌∙◌, [], ◌∷◌, Ok}
use Rattle.std.proofs.lemmas.List.{nil_from_length}
use Rattle.std.proofs.lemmas.Result.{err_from_is_err_and}
use Rattle.std.proofs.lemmas.Bool.Decides.{nat_tests}
use Rattle.nm_script.specs.Lines.{lines_of}
use Rattle.nm_script.specs.Faults.{at_line}
use Rattle.nm_script.specs.TextReading.{lines_from}
use Rattle.nm_script.proofs.TextLemmas.{ends, goes_on}
use Rattle.nm_persist.specs.Reading.{line_at, plan_reader}
use Rattle.nm_persist.proofs.reading.other_lines.Goals as goal

pub loop-rest-preserved : goal.loop-rest-preserved
loop-rest-preserved c =
    let ranks = c.args.ranks in
    let old = c.loop-rest.draft.lines in
    let text = c.split_line.result.0.now in
    let texts = lines_of c.split_line.result.1.now in
    let total = lines_from plan_reader ranks [] (lines_of c.args.bytes.now) in
    let adds = c.in_ok-other_line.ensures.adds in
    let at : line_at ranks old text ≡ Ok adds.0 =
    ap (λ r. line_at r old text) (sym c.loop-rest.invariant.ranks) ∙ adds.1 in
    let so_far : lines_from plan_reader ranks old (text ∷ texts) ≡ total =
    ap (lines_from plan_reader ranks old) (sym c.split_line.ensures.lines) ∙ c.loop-rest.invariant.read in
    record {
      read = ap (λ ls. lines_from plan_reader ranks ls texts) adds.2 ∙
          goes_on plan_reader ranks old text texts adds.0 total so_far
          (ap (at_line (length old + 2)) at);
      draft = c.in_ok-other_line.ensures.draft;
      ranks = c.in_ok-other_line.ensures.ranks ∙ c.loop-rest.invariant.ranks;
      few = c.in_ok-other_line.ensures.few;
    }

pub returns-clause-exact : goal.returns-clause-exact
returns-clause-exact c =
    let none : length c.loop-rest.rest.now ≡ 0 = grind
    (arith, nat_tests, c.is_empty.ensures, c.loop-rest-test.false) in
    sym (rw (nil_from_length c.loop-rest.rest.now none) at c.loop-rest.invariant.read)

pub returns-in_err-other_line-clause-exact : goal.returns-in_err-other_line-clause-exact
returns-in_err-other_line-clause-exact c =
    let ranks = c.args.ranks in
    let old = c.loop-rest.draft.lines in
    let text = c.split_line.result.0.now in
    let texts = lines_of c.split_line.result.1.now in
    let total = lines_from plan_reader ranks [] (lines_of c.args.bytes.now) in
    let so_far : lines_from plan_reader ranks old (text ∷ texts) ≡ total =
    ap (lines_from plan_reader ranks old) (sym c.split_line.ensures.lines) ∙ c.loop-rest.invariant.read in
    let p = err_from_is_err_and c.from_residual.result c.from_residual.ensures.1 in
    let adds = rw c.loop-rest.invariant.ranks at c.in_err-other_line.ensures.adds in
    rw (p.1, p.2) (ends plan_reader ranks old text texts c.in_err-other_line.field-0.0 total so_far adds)
