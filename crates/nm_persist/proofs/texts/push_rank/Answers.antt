-- The lines of a rank, one by one.
use Rattle.std.proofs.Common.{Bor, ◌≡◌, ◌≤◌, ◌++◌, ◌-◌, ap, map, take, drop, length, length-drop, get_or, arith}
use Rattle.std.proofs.lemmas.List.{length-take-le, take_rest}
use Rattle.nm_types.specs.declared.answers.Answer.{Answer}
use Rattle.nm_persist.specs.declared.asked.Asked.{Asked}
use Rattle.nm_persist.specs.declared.asked.Show.TheVariants.{Nothing}
use Rattle.nm_persist.specs.Report.{named_from}
use Rattle.nm_persist.proofs.ResultLemmas.{rank_goes, results_more}
use Rattle.nm_persist.proofs.texts.push_rank.Goals as goal

pub note_all-requires : goal.note_all-requires
note_all-requires c =
    omega (
      arith,
      c.answer_count-count.ensures.few,
      length-take-le c.answer_count-count.result
          (take (length c.args.answers.now - c.loop-line.next) (drop c.loop-line.next c.args.answers.now))
          c.if-rest-count.false,
    )

pub loop-line-preserved : goal.loop-line-preserved
loop-line-preserved c =
    let inv = c.loop-line.invariant in
    let answers = c.args.answers.now in
    let next = c.loop-line.next in
    let i = c.loop-line.line-index in
    let count = c.answer_count-count.result in
    let d : Asked = record { rank = 0; line = 0; name = 0; count = 0; show = Nothing } in
    let now : Bor Answer → Answer = λ a. a.now in
    let own = take count (take (length answers - next) (drop next answers)) in
    let rest : take (length answers - next) (drop next answers) ≡ drop next answers = take_rest answers next in
    let few : count ≤ length (drop next answers) = rw rest at c.if-rest-count.false in
    let more = named_from (get_or c.args.asked.now i d).name (map now own) in
    let are = results_more inv.before more c.loop-line.results.map c.note_all.new.self.map inv.results
    c.in_ok-note_all.ensures in
    record {
      before = inv.before ++ more;
      results = are;
      next = omega (arith, length-drop next answers, few, inv.next);
      written = rank_goes c.args.rank i next count c.args.asked.now d answers own inv.before c.args.waits _ _ _
          c.loop-line-test.true c.answer_count-count.ensures.exact few (ap (take count) rest)
          (c.in_ok-push_shown.ensures (inv.before ++ more) are) inv.written;
    }
