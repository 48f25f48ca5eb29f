use Rattle.std.proofs.Common.{◌≢◌, get_or, subst, sym, take}
use Rattle.std.proofs.lemmas.List.{get_or_default, take_all}
use Rattle.nm_types.proofs.ListLemmas.{all_push, take_next}
use Rattle.nm_shell.proofs.CutLemmas.{HasNoFeed}
use Rattle.nm_shell.proofs.inputs.first_line.Goals as goal

pub loop-at-preserved : goal.loop-at-preserved
loop-at-preserved c =
    let byte = get_or c.args.bytes.now c.loop-at.at 0 in
    let there = get_or_default c.args.bytes.now c.loop-at.at 0 byte c.loop-at-test.true in
    subst HasNoFeed (sym (take_next c.args.bytes.now c.loop-at.at byte c.loop-at-test.true there))
    (all_push (λ b. b ≢ 10) (take c.loop-at.at c.args.bytes.now) byte c.loop-at.invariant c.if-byte-eq10.false)

pub returns-clause-one : goal.returns-clause-one
returns-clause-one c =
    subst HasNoFeed (take_all c.loop-at.at c.args.bytes.now c.loop-at-test.false) c.loop-at.invariant
