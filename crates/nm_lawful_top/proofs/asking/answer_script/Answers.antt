-- What was read is what the text tells.
use Rattle.std.proofs.Common.{length, refl}
use Rattle.nm_lawful.specs.Moves.{report_lem}
use Rattle.nm_lawful_top.proofs.ReadingLemmas.{read_whole}
use Rattle.nm_lawful_top.proofs.asking.answer_script.Goals as goal

pub verdict-requires : goal.verdict-requires
verdict-requires c =
    read_whole c.args.asked.cuts c.args.script.now.ranks (length c.as_slice-lines.result.now) c.args.script.now.lines
    c.as_slice-lines.result.now c.args.text.now c.in_ok-report.report.said.items c.in_ok-report.report.waits.items
    c.in_ok-read.read _ (report_lem c.read.new.self.said.items c.read.new.self.waits.items)
    c.as_slice-lines.ensures refl c.in_ok-report.ensures.said c.in_ok-report.ensures.waits
    c.in-Read.is c.in_ok-read.ensures

pub returns : goal.returns
returns c =
    read_whole c.args.asked.cuts c.args.script.now.ranks (length c.as_slice-lines.result.now) c.args.script.now.lines
    c.as_slice-lines.result.now c.args.text.now c.in_ok-report.report.said.items c.in_ok-report.report.waits.items
    c.in_ok-read.read _ (report_lem c.read.new.self.said.items c.read.new.self.waits.items)
    c.as_slice-lines.ensures refl c.in_ok-report.ensures.said c.in_ok-report.ensures.waits
    c.in-Bad.is c.in_ok-read.ensures
