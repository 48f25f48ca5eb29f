-- One rank more.
use Rattle.std.proofs.Common.{◌≡◌, ◌≤◌, ◌==◌, false, ◌∙◌, arith}
use Rattle.std.proofs.lemmas.Bool.Decides.{nat_tests}
use Rattle.nm_report.specs.Ends.{ends_of}
use Rattle.nm_listed.proofs.RecordLemmas.{accounts_next}
use Rattle.nm_listed.proofs.retold.records.push_accounts.Goals as goal

pub loop-i-preserved : goal.loop-i-preserved
loop-i-preserved c = record {
  made = accounts_next c.args.lines.now (ends_of c.args.accounts.now.items) c.args.entries.now.items
      c.args.states.now c.loop-i.i c.loop-i.entries.items (ends_of c.loop-i.accounts.items)
      (ends_of c.push_account.new.accounts.items) _ c.state_of-rank.ensures
      (c.loop-i.invariant.left c.loop-i.i (omega arith)) c.loop-i.invariant.made c.in_ok-push_account.ensures.ended;
  left = λ j low.
      let apart : (c.loop-i.i == j) ≡ false = grind (arith, nat_tests) in
      let below : c.loop-i.i ≤ j = omega (arith, low) in
      c.in_ok-push_account.ensures.others j apart ∙ c.loop-i.invariant.left j below;
}
