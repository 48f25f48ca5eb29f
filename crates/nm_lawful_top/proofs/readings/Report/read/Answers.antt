-- Each line goes on from those before it, and the first that tells nothing ends them all.
use Rattle.std.proofs.Common.{◌≡◌, length, arith, ◌∙◌}
use Rattle.std.proofs.lemmas.List.{nil_from_length}
use Rattle.std.proofs.lemmas.Bool.Decides.{nat_tests}
use Rattle.nm_lawful.specs.Moves.{report_lem}
use Rattle.nm_lawful_top.proofs.ReadingLemmas.{read_all, read_bad, read_on}
use Rattle.nm_lawful_top.proofs.readings.Report.read.Goals as goal

pub loop-rest-preserved : goal.loop-rest-preserved
loop-rest-preserved c =
    let shorter = c.split_line.ensures.shorter in
    record {
      read = read_on c.args.form.cuts c.args.form.lines.now c.loop-rest.rest.now c.split_line.result.0.now
          c.split_line.result.1.now c.loop-rest.number
          (report_lem c.loop-rest.self.said.items c.loop-rest.self.waits.items)
          (report_lem c.add_line.new.self.said.items c.add_line.new.self.waits.items) c.in_ok-added.added
          c.split_line.ensures.lines c.in-Yes.is c.in_ok-added.ensures
          ∙ c.loop-rest.invariant.read;
      fits = omega (arith, c.loop-rest.invariant.fits, shorter);
    }

pub returns-in-No : goal.returns-in-No
returns-in-No c =
    read_bad c.args.form.cuts c.args.form.lines.now c.loop-rest.rest.now c.split_line.result.0.now
    c.split_line.result.1.now c.loop-rest.number
    (report_lem c.loop-rest.self.said.items c.loop-rest.self.waits.items)
    (report_lem c.add_line.new.self.said.items c.add_line.new.self.waits.items) c.in_ok-added.added
    c.split_line.ensures.lines c.in-No.is c.in_ok-added.ensures
    ∙ c.loop-rest.invariant.read

pub returns : goal.returns
returns c =
    let none : length c.loop-rest.rest.now ≡ 0 = grind
    (arith, nat_tests, c.is_empty.ensures, c.loop-rest-test.false) in
    read_all c.args.form.cuts c.args.form.lines.now c.loop-rest.rest.now c.loop-rest.number
    (report_lem c.loop-rest.self.said.items c.loop-rest.self.waits.items) (nil_from_length c.loop-rest.rest.now none)
    ∙ c.loop-rest.invariant.read
