-- What was read is answered.
use Rattle.std.proofs.Common.{refl}
use Rattle.std.proofs.lemmas.Result.{IfOk-weaker}
use Rattle.nm_outside.proofs.ReadingLemmas.{left_at}
use Rattle.nm_chart.proofs.charts.find_answer.Goals as goal

pub returns-in-Ok-clause-read : goal.returns-in-Ok-clause-read
returns-in-Ok-clause-read g c =
    let input = g.S.Source.left c.args.source.now in
    let left = g.S.Source.left c.read_up_to.new.source in
    let rest = left_at 67108865 input left c.in-Ok.bytes.items c.in-Ok.ensures.bytes c.in-Ok.ensures.rest in
    IfOk-weaker c.read_bytes.result _ _
    (λ a h. record { quiet = λ was. c.in-Ok.ensures.quiet (λ failed. cc); whole = λ was. rest })
    c.read_bytes.ensures.answer

pub returns-then-not-is_empty-clause-read : goal.returns-then-not-is_empty-clause-read
returns-then-not-is_empty-clause-read g c = record { quiet = λ was. refl; whole = λ was. absurd was }
