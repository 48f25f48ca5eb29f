-- What there is to say of a part.
use Rattle.std.proofs.Common.{◌≡◌, ℕ, List, Option, Some, None, refl, subst, arith, take}
use Rattle.std.specs.Option.{IfSome}
use Rattle.nm_diagram.specs.declared.frames.Part.{Part}
use Rattle.nm_report.specs.declared.records.RunRecord.{RunRecord}
use Rattle.nm_chart.specs.PartWords.{InRange, asked_of}
use Rattle.nm_chart.specs.Endings.{IsTraceOfOne}
use Rattle.nm_shell.specs.Inputs.{read_of}
use Rattle.nm_chart.specs.Parts.{AreKept, CanBeShown, IsFoundIn, IsOutcome}
use Rattle.nm_chart.specs.declared.outcomes.Outcome.{Outcome}
use Rattle.nm_chart.specs.declared.outcomes.Outcome.TheVariants.{Usage, Unread, Refused, Drawn}

found_in : (part : Part) (input : Option (List ℕ)) (bytes : List ℕ) (outcome : Outcome) →
    IfSome input (λ all. bytes ≡ take 67108865 all) → IsFoundIn part bytes outcome →
    IfSome input (λ all. IsFoundIn part (read_of all) outcome)
found_in part None bytes outcome read h = tt
found_in part (Some all) bytes outcome read h = subst (λ b. IsFoundIn part b outcome) read h

-- an outcome of the bytes that were read is one of the source
pub found_of : (words : List (List ℕ)) (part : Part) (input : Option (List ℕ)) (old new : ℕ) (bytes : List ℕ) →
    asked_of words ≡ Some part → IfSome input (λ all. bytes ≡ take 67108865 all) → (outcome : Outcome) →
    IsFoundIn part bytes outcome → IsOutcome words input old new outcome
found_of words part input old new bytes asked read Usage h = absurd h
found_of words part input old new bytes asked read Unread h = absurd h
found_of words part input old new bytes asked read (Refused line) h =
    (part, asked, found_in part input bytes (Refused line) read h)
found_of words part input old new bytes asked read (Drawn run drawn) h =
    (part, asked, found_in part input bytes (Drawn run drawn) read h)

-- what is left of a record whose trace the bytes are is one that can be drawn
pub left_of : (part : Part) (bytes : List ℕ) (run kept : RunRecord) → IsTraceOfOne bytes run →
    AreKept part.chosen run.ranks kept.ranks → IsFoundIn part bytes (Drawn kept part)
left_of part bytes run kept trace of_chosen = (refl, run, trace, of_chosen)

pub shown_of : (part : Part) (bytes : List ℕ) (run kept : RunRecord) → IsTraceOfOne bytes run →
    AreKept part.chosen run.ranks kept.ranks → InRange part → CanBeShown (Drawn kept part)
shown_of part bytes run kept trace of_chosen in_range =
    let many = of_chosen.many in
    let all = trace.of_run.1.whole in
    (omega (arith, many, all), in_range)
