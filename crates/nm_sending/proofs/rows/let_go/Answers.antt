use Rattle.std.proofs.Common.{◌≡◌, ◌∙◌, sym, arith, true, false}
use Rattle.std.specs.List.{slice_get}
use Rattle.nm_sending.specs.Departures.{passes}
use Rattle.nm_sending.specs.Rows.{all_recalled, is_settled}
use Rattle.nm_sending.proofs.GoneLemmas.{gone-few, goes-on, stops-there}
use Rattle.nm_sending.proofs.RecalledLemmas.{length-all, passing}
use Rattle.nm_sending.proofs.rows.let_go.Goals as goal

pub is_first_settled-requires : goal.is_first_settled-requires
is_first_settled-requires c = rw c.loop-gone.invariant.0 (record { few = c.requires.few })

pub returns-then-not-is_first_settled-clause-first : goal.returns-then-not-is_first_settled-clause-first
returns-then-not-is_first_settled-clause-first c =
    let l = c.loop-gone in
    let ds = all_recalled c.args.recalls.now.entries 0 c.args.sent.now.items in
    let test : passes is_settled (slice_get ds l.sent.forgotten) ≡ false =
    rw l.invariant.0 at (sym c.is_first_settled.ensures ∙ c.if-not-is_first_settled.true) in
    let behind = stops-there ds l.sent.forgotten test in
    omega (arith, behind, l.invariant.2)

pub forget_first-requires : goal.forget_first-requires
forget_first-requires c =
    let l = c.loop-gone in
    rw l.invariant.0 (omega (arith, l.invariant.1, c.held-gone-end.ensures))

pub loop-gone-preserved : goal.loop-gone-preserved
loop-gone-preserved c =
    let l = c.loop-gone in
    let ds = all_recalled c.args.recalls.now.entries 0 c.args.sent.now.items in
    let test : passes is_settled (slice_get ds l.sent.forgotten) ≡ true =
    rw l.invariant.0 at (sym c.is_first_settled.ensures ∙ c.if-not-is_first_settled.false) in
    let p = passing is_settled (slice_get ds l.sent.forgotten) test in
    let later = goes-on ds l.sent.forgotten p.0 p.1 p.2 l.invariant.2 in
    rw c.forget_first.ensures (l.invariant.0, omega (arith, l.invariant.1), later)

pub returns-clause-first : goal.returns-clause-first
returns-clause-first c =
    let l = c.loop-gone in
    let ds = all_recalled c.args.recalls.now.entries 0 c.args.sent.now.items in
    omega (
      arith,
      l.invariant.1,
      l.invariant.2,
      c.held-gone-end.ensures,
      gone-few ds,
      length-all c.args.recalls.now.entries 0 c.args.sent.now.items,
    )
