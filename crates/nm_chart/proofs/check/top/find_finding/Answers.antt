-- What was read is answered.
use Rattle.std.proofs.Common.{map, refl, string_bytes, subst}
use Rattle.std.proofs.lemmas.Result.{IfOk-weaker}
use Rattle.nm_outside.proofs.ReadingLemmas.{left_at}
use Rattle.nm_chart.specs.Findings.{IsAnswerIn}
use Rattle.nm_chart.proofs.FindingLemmas.{answer_of}
use Rattle.nm_chart.proofs.check.top.find_finding.Goals as goal

pub returns-in-Ok-clause-answer : goal.returns-in-Ok-clause-answer
returns-in-Ok-clause-answer g c =
    let line = c.in-Some.line in
    IfOk-weaker c.finding_in.result _ _
    (λ finding h. answer_of (map string_bytes c.args.words.now) line (g.S.Source.left c.args.source.now)
    (g.S.Source.faults c.args.source.now) (g.S.Source.faults c.read_up_to.new.source) c.in-Ok.bytes.items
    c.in-Some.ensures.asked c.in-Ok.ensures.bytes finding
    (subst (λ b. IsAnswerIn line finding b) c.deref.ensures.value h))
    c.finding_in.ensures.finding

pub returns-in-Ok-clause-read : goal.returns-in-Ok-clause-read
returns-in-Ok-clause-read g c =
    let input = g.S.Source.left c.args.source.now in
    let left = g.S.Source.left c.read_up_to.new.source in
    let rest = left_at 67108865 input left c.in-Ok.bytes.items c.in-Ok.ensures.bytes c.in-Ok.ensures.rest in
    IfOk-weaker c.finding_in.result _ _
    (λ finding h. record { quiet = λ was. c.in-Ok.ensures.quiet (λ failed. cc); whole = λ was. rest })
    c.finding_in.ensures.finding

pub returns-in_default-clause-read : goal.returns-in_default-clause-read
returns-in_default-clause-read g c = record { quiet = λ was. refl; whole = λ was. absurd was }
