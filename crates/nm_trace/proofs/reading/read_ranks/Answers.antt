use Rattle.std.proofs.Common.{◌≡◌, ◌<◌, [], arith, length, sym, ◌∙◌}
use Rattle.std.proofs.lemmas.List.{length-map, length_push}
use Rattle.std.proofs.lemmas.Result.{err_from_is_err_and}
use Rattle.nm_report.specs.Ends.{end_of_account, ends_of}
use Rattle.nm_trace.specs.Outcome.{AnswerPlace}
use Rattle.nm_trace.proofs.StageLemmas.{ends_more, ranks_end}
use Rattle.nm_trace.proofs.reading.read_ranks.Goals as goal

pub returns-in_err-account-clause-stops : goal.returns-in_err-account-clause-stops
returns-in_err-account-clause-stops c =
    let e = err_from_is_err_and c.from_residual.result c.from_residual.ensures.1 in
    rw (e.1, e.2) (λ pairs.
    let ends = ends_of c.loop-rank.accounts in
    let long = length-map c.loop-rank.accounts end_of_account in
    let same : c.loop-rank.rank ≡ length ends = sym (long ∙ c.loop-rank.invariant.whole) in
    let fewer : length ends < c.args.ranks = omega (arith, same, c.loop-rank-test.true) in
    let p : AnswerPlace = record { ranks = c.args.ranks; pairs = pairs; ends = ends; fewer = fewer } in
    rw (c.loop-rank.invariant.told pairs) (c.in_err-account.ensures.stops p same))

pub loop-rank-preserved : goal.loop-rank-preserved
loop-rank-preserved c =
    let ends = ends_of c.loop-rank.accounts in
    let long = length-map c.loop-rank.accounts end_of_account in
    let same : c.loop-rank.rank ≡ length ends = sym (long ∙ c.loop-rank.invariant.whole) in
    let fewer : length ends < c.args.ranks = omega (arith, same, c.loop-rank-test.true) in
    let account = c.in_ok-account.account in
    let longer = length_push c.loop-rank.accounts account in
    record {
      told = λ pairs. (
          let p : AnswerPlace = record { ranks = c.args.ranks; pairs = pairs; ends = ends; fewer = fewer } in
          rw (c.in_ok-push.ensures.ok, ends_more c.loop-rank.accounts account)
          (c.loop-rank.invariant.told pairs ∙ c.in_ok-account.ensures.told p same)
          );
      whole = rw c.in_ok-push.ensures.ok (omega (arith, longer, c.loop-rank.invariant.whole));
      few = omega (arith, c.in_ok-account.ensures.fewer, c.loop-rank.invariant.few);
    }

pub returns-clause-told : goal.returns-clause-told
returns-clause-told c = λ pairs.
    let ends = ends_of c.loop-rank.accounts in
    let long = length-map c.loop-rank.accounts end_of_account in
    let all : length ends ≡ c.args.ranks = omega
    (arith, long, c.loop-rank.invariant.whole, c.loop-rank.auto.rank-end, c.loop-rank-test.false) in
    let text = c.loop-rank.text in
    c.loop-rank.invariant.told pairs
    ∙ ranks_end c.args.ranks pairs ends all text.rest.now text.number [] c.loop-rank.notes.items
