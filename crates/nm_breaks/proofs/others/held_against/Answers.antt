use Rattle.std.proofs.Common.{◌∙◌, take}
use Rattle.nm_report.specs.Ends.{ends_of}
use Rattle.nm_history.specs.Quiescence.{history_of}
use Rattle.nm_breaks.proofs.OtherLemmas.{against_mate}
use Rattle.nm_breaks.proofs.others.held_against.Goals as goal

pub taken_by-requires : goal.taken_by-requires
taken_by-requires c = record {
  known = c.requires.other;
  short = c.requires.short;
  tabled = (c.args.lines.now, c.requires.tabled);
}

pub returns-in-Out : goal.returns-in-Out
returns-in-Out c = λ e here same. rw c.in-Out.is c.taken_by.ensures

pub returns-in-Ran : goal.returns-in-Ran
returns-in-Ran c = λ e here same. rw c.in-Ran.is (c.shown_by.ensures e c.in-Ran.answer here (same ∙ c.in-Ran.is))

pub returns-in_default : goal.returns-in_default
returns-in_default c = λ e here same.
    let ends = ends_of c.args.ranks.now in
    against_mate c.args.lines.now ends c.args.x (take c.args.at (history_of ends c.args.x)) c.args.what.now c.args.y
    c.mate_of.result c.in_default.not-Out c.in_default.not-Ran c.mate_of.ensures
