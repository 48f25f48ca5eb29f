use Rattle.std.proofs.Common.{◌≡◌, length, ◌∙◌}
use Rattle.std.proofs.lemmas.List.{length-map}
use Rattle.nm_history.specs.Quiescence.{AreQuiescent, EachPair}
use Rattle.nm_report.specs.Ends.{end_of_account, ends_of, packets_of}
use Rattle.nm_check.specs.CarriedClauses.{PairDelivered}
use Rattle.nm_check.specs.Marked.{BreaksPair, EachMarked}
use Rattle.nm_check.specs.RestBreaks.{IsRestBreak}
use Rattle.nm_check.proofs.LocalLemmas.{are_local, are_ordered}
use Rattle.nm_check.proofs.judging.judge_tabled.Goals as goal

pub marks_of-requires : goal.marks_of-requires
marks_of-requires c =
    rw (c.as_slice-lines.ensures, c.as_slice-ranks.ensures) (record {
      few = c.requires.few;
      lawful = are_local c.args.run.now.shape c.args.script.now.lines (ends_of c.args.run.now.ranks) c.requires.runs;
      tabled = c.requires.tabled;
    })

pub returns-in-Some : goal.returns-in-Some
returns-in-Some c =
    let marked : EachMarked c.args.script.now.lines (ends_of c.args.run.now.ranks) c.deref.result.now =
    rw c.deref.ensures.value (rw (c.as_slice-lines.ensures, c.as_slice-ranks.ensures) at c.in_ok-marks.ensures) in
    let pair : BreaksPair c.args.script.now.lines (ends_of c.args.run.now.ranks) c.in-Some.pair.from c.in-Some.pair.to
    c.in-Some.pair.first =
    c.in-Some.ensures c.args.script.now.lines (ends_of c.args.run.now.ranks) marked in
    record { judged = record { runs = c.requires.runs; earlier = pair.earlier; first = pair.first }; at = pair.at }

pub first_of_rest-requires : goal.first_of_rest-requires
first_of_rest-requires c =
    let marked : EachMarked c.args.script.now.lines (ends_of c.args.run.now.ranks) c.deref.result.now =
    rw c.deref.ensures.value (rw (c.as_slice-lines.ensures, c.as_slice-ranks.ensures) at c.in_ok-marks.ensures) in
    let delivered : EachPair (PairDelivered c.args.script.now.lines) (ends_of c.args.run.now.ranks) =
    c.in_default.ensures c.args.script.now.lines (ends_of c.args.run.now.ranks) marked in
    rw (c.as_slice-lines.ensures, c.as_slice-ranks.ensures) (record {
      few = c.requires.few;
      ordered = (
        are_local c.args.run.now.shape c.args.script.now.lines (ends_of c.args.run.now.ranks) c.requires.runs,
        are_ordered c.args.script.now.lines (ends_of c.args.run.now.ranks) delivered,
      );
      tabled = c.requires.tabled;
    })

pub returns-in-Some-first_of_rest : goal.returns-in-Some-first_of_rest
returns-in-Some-first_of_rest c =
    let marked : EachMarked c.args.script.now.lines (ends_of c.args.run.now.ranks) c.deref.result.now =
    rw c.deref.ensures.value (rw (c.as_slice-lines.ensures, c.as_slice-ranks.ensures) at c.in_ok-marks.ensures) in
    let delivered : EachPair (PairDelivered c.args.script.now.lines) (ends_of c.args.run.now.ranks) =
    c.in_default.ensures c.args.script.now.lines (ends_of c.args.run.now.ranks) marked in
    let rest : IsRestBreak c.args.script.now.lines (ends_of c.args.run.now.ranks) (packets_of c.args.run.now.pairs)
    c.in-Some-first_of_rest.first =
    rw (c.as_slice-lines.ensures, c.as_slice-ranks.ensures, c.as_slice.ensures) at c.in-Some-first_of_rest.ensures in
    record { judged = record { runs = c.requires.runs; delivered = delivered; first = rest.first }; at = rest.at }

pub returns : goal.returns
returns c =
    let marked : EachMarked c.args.script.now.lines (ends_of c.args.run.now.ranks) c.deref.result.now =
    rw c.deref.ensures.value (rw (c.as_slice-lines.ensures, c.as_slice-ranks.ensures) at c.in_ok-marks.ensures) in
    let many : length (ends_of c.args.run.now.ranks) ≡ c.args.run.now.shape.ranks =
    length-map c.args.run.now.ranks end_of_account ∙ c.requires.whole in
    let delivered : EachPair (PairDelivered c.args.script.now.lines) (ends_of c.args.run.now.ranks) =
    c.in_default.ensures c.args.script.now.lines (ends_of c.args.run.now.ranks) marked in
    let quiescent : AreQuiescent c.args.script.now.lines (ends_of c.args.run.now.ranks)
    (packets_of c.args.run.now.pairs) =
    rw (c.as_slice-lines.ensures, c.as_slice-ranks.ensures, c.as_slice.ensures) at
    c.in_default-first_of_rest.ensures in
    c.judge_ends.ensures c.args.script.now.lines
    (record { one_each = many; rank_runs = c.requires.runs; delivered = delivered; quiescent = quiescent })
