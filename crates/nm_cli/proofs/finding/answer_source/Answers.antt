-- What was read is answered.
use Rattle.std.proofs.Common.{◌≡◌, subst}
use Rattle.std.specs.Prelude.{IfOk, IfSome, take}
use Rattle.std.proofs.lemmas.Result.{IfOk-weaker}
use Rattle.nm_outside.specs.Told.{LosesAtMost}
use Rattle.nm_outside.proofs.ReadingLemmas.{left_at}
use Rattle.nm_cli.specs.Answers.{IsAnswerForBytes}
use Rattle.nm_cli.specs.Scripts.{limit_of}
use Rattle.nm_cli.proofs.RunLemmas.{bytes_answered, bytes_told}
use Rattle.nm_cli.proofs.finding.answer_source.Goals as goal

pub returns-in-Ok-clause-answer : goal.returns-in-Ok-clause-answer
returns-in-Ok-clause-answer g c =
    let line = c.args.line.now in
    let input = g.S.Source.left c.args.source.now in
    let read = c.in-Ok.bytes.items in
    let is = subst (λ n. IfSome input (λ bytes. read ≡ take n bytes)) c.limit.ensures c.in-Ok.ensures.bytes in
    let said = subst (λ read. IfOk c.answer_bytes.result (IsAnswerForBytes line read)) c.deref.ensures.value
    c.answer_bytes.ensures in
    IfOk-weaker c.answer_bytes.result _ _ (bytes_answered line input _ _ read is) said

pub returns-in-Ok-clause-told : goal.returns-in-Ok-clause-told
returns-in-Ok-clause-told g c =
    IfOk-weaker c.answer_bytes.result _ _ (bytes_told c.args.line.now c.deref.result.now) c.answer_bytes.ensures

pub returns-in-Ok-clause-taken : goal.returns-in-Ok-clause-taken
returns-in-Ok-clause-taken g c =
    subst (λ n. LosesAtMost n (g.S.Source.left c.args.source.now) (g.S.Source.left c.read_up_to.new.source))
    c.limit.ensures c.in-Ok.ensures.taken

pub returns-in-Ok-clause-read : goal.returns-in-Ok-clause-read
returns-in-Ok-clause-read g c =
    let line = c.args.line.now in
    let input = g.S.Source.left c.args.source.now in
    let read = c.in-Ok.bytes.items in
    let is = subst (λ n. IfSome input (λ bytes. read ≡ take n bytes)) c.limit.ensures c.in-Ok.ensures.bytes in
    let rest = left_at (limit_of line.mode) input _ read is c.in-Ok.ensures.rest in
    IfOk-weaker c.answer_bytes.result _ _
    (λ a h. record { quiet = λ was. c.in-Ok.ensures.quiet (λ failed. cc); whole = λ was reads. rest })
    c.answer_bytes.ensures
