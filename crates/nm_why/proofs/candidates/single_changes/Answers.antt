-- The changes of one line more.
use Rattle.std.proofs.Common.{List, arith, refl, subst}
use Rattle.std.proofs.lemmas.Option.{slice_get_read}
use Rattle.nm_why.specs.declared.changes.Edit.{Edit}
use Rattle.nm_why.proofs.CandidateLemmas.{HasEdits, single_within, singles_more}
use Rattle.nm_why.proofs.candidates.single_changes.Goals as goal

pub loop-place-init : goal.loop-place-init
loop-place-init c = λ change low single. absurd (omega (arith, low))

pub loop-place-preserved : goal.loop-place-preserved
loop-place-preserved c =
    let line = c.index-lines-place.result in
    singles_more c.args.ranks c.args.lines.now _ c.loop-place.place line c.loop-place.changes.items
    c.push_edits.new.changes.items c.push_others.new.changes.items
    (slice_get_read c.args.lines.now _ c.loop-place.place line refl c.loop-place-test.true c.index-lines-place.is)
    c.in_ok-edits.ensures c.loop-place.invariant c.in_ok-push_edits.ensures.kept
    (subst (λ (es : List Edit). HasEdits c.loop-place.place line.command es c.push_edits.new.changes.items)
    c.as_slice.ensures.value c.in_ok-push_edits.ensures.added)
    c.in_ok-push_others.ensures.kept c.in_ok-push_others.ensures.swapped c.in_ok-push_others.ensures.left_out

pub returns : goal.returns
returns c = λ change single.
    let within = single_within c.args.ranks c.args.lines.now change single in
    c.loop-place.invariant change (omega (arith, within, c.loop-place-test.false)) single
