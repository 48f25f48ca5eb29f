-- One rank more.
use Rattle.std.proofs.Common.{◌≡◌, ◌∙◌, length, arith}
use Rattle.std.specs.Vec.Iter.{into_iter_items}
use Rattle.nm_report.specs.Ends.{ends_of}
use Rattle.nm_transcript.specs.Renumbered.{number_in, renumbered_ends}
use Rattle.nm_transcript.specs.Transcripts.{numbers_of}
use Rattle.nm_transcript.proofs.NumberLemmas.{account_step, own_here, own_step}
use Rattle.nm_transcript.proofs.renumbered.renumber_accounts.Goals as goal

pub renumber_account-requires : goal.renumber_account-requires
renumber_account-requires c =
    let len = c.len.ensures in
    let ok = c.loop-account.later.ok.0 in
    let place : c.len.result ≡ length c.loop-account.later.items = omega (arith, len, ok) in
    let are : c.as_slice.result.now ≡ numbers_of c.args.lines.now c.len.result =
    c.as_slice.ensures.value ∙ c.in_ok-numbers.ensures in
    own_here c.args.lines.now (into_iter_items c.loop-account.account-iterator) (into_iter_items c.next.new.self)
    c.loop-account.later.items c.in-Some.account c.len.result c.as_slice.result.now c.in-Some.ensures.steps.0 place are
    c.loop-account.invariant.own

pub loop-account-preserved : goal.loop-account-preserved
loop-account-preserved c =
    let lines = c.args.lines.now in
    let len = c.len.ensures in
    let ok = c.loop-account.later.ok.0 in
    let place : c.len.result ≡ length c.loop-account.later.items = omega (arith, len, ok) in
    let are : c.as_slice.result.now ≡ numbers_of lines c.len.result =
    c.as_slice.ensures.value ∙ c.in_ok-numbers.ensures in
    record {
      all = account_step lines (into_iter_items c.loop-account.account-iterator) (into_iter_items c.next.new.self)
          c.loop-account.later.items c.push.new.self.items c.in-Some.account c.in_ok-told.told c.len.result
          c.as_slice.result.now
          (renumbered_ends (λ i. number_in (numbers_of lines i)) 0 (ends_of c.args.accounts.items)) place are
          c.in-Some.ensures.steps.0 c.in_ok-push.ensures.items c.in_ok-told.ensures c.loop-account.invariant.all;
      own = (own_step lines (into_iter_items c.loop-account.account-iterator) (into_iter_items c.next.new.self)
          c.loop-account.later.items c.push.new.self.items c.in-Some.account c.in_ok-told.told
          c.in-Some.ensures.steps.0 c.in_ok-push.ensures.items c.loop-account.invariant.own).1;
    }
