-- What was read is answered.
use Rattle.std.proofs.Common.{map, string_bytes, subst, sym, ◌∙◌}
use Rattle.std.proofs.lemmas.Result.{IfOk-weaker}
use Rattle.nm_outside.proofs.ReadingLemmas.{left_at}
use Rattle.nm_chart.specs.Parts.{IsFoundIn}
use Rattle.nm_chart.proofs.PartLemmas.{found_of}
use Rattle.nm_chart.proofs.parts.find_outcome.Goals as goal

pub returns-in-Ok-clause-outcome : goal.returns-in-Ok-clause-outcome
returns-in-Ok-clause-outcome g c =
    let part = c.in-Some.part in
    IfOk-weaker c.read_part.result _ _
    (λ outcome h. found_of (map string_bytes c.args.words.now) part (g.S.Source.left c.args.source.now)
    (g.S.Source.faults c.args.source.now) (g.S.Source.faults c.read_up_to.new.source) c.in-Ok.bytes.items
    (sym c.in_ok-asked.ensures.asked ∙ c.in-Some.is) c.in-Ok.ensures.bytes outcome
    (subst (λ b. IsFoundIn part b outcome) c.deref.ensures.value h)) c.read_part.ensures.outcome

pub returns-in-Ok-clause-read : goal.returns-in-Ok-clause-read
returns-in-Ok-clause-read g c =
    let input = g.S.Source.left c.args.source.now in
    let left = g.S.Source.left c.read_up_to.new.source in
    let rest = left_at 67108865 input left c.in-Ok.bytes.items c.in-Ok.ensures.bytes c.in-Ok.ensures.rest in
    IfOk-weaker c.read_part.result _ _
    (λ outcome h. record { quiet = λ was. c.in-Ok.ensures.quiet (λ failed. cc); whole = λ was. rest })
    c.read_part.ensures.outcome
