use Rattle.std.proofs.Common.{map, arith, sym}
use Rattle.std.proofs.lemmas.Bool.Decides.{nat_tests}
use Rattle.std.proofs.lemmas.List.{length-map}
use Rattle.nm_trace.proofs.CountLemmas.{other_answer}
use Rattle.nm_trace.proofs.events.answer_from.Goals as goal
use Rattle.nm_trace.proofs.events.answer_from.Goals.{in_default-via-then-words-lt1}
use Rattle.nm_trace.proofs.events.answer_from.Goals.{in_default-via-else-words-lt1+else-words-lt2+then-words-lt4}
use Rattle.nm_trace.proofs.events.answer_from.Goals.{in_default-via-else-words-lt1+else-words-lt2+else-words-lt4+else-words-lt5}

pub returns-in_default : goal.returns-in_default
returns-in_default c =
    let same = length-map c.args.words.now (λ word. word.now) in
    sym (other_answer (map (λ word. word.now) c.args.words.now) (λ e.
    elim c.in_default.branch [
      | in_default-via-then-words-lt1 w ↦ grind (arith, nat_tests, same, e)
      | in_default-via-else-words-lt1+else-words-lt2+then-words-lt4 w ↦ grind (arith, nat_tests, same, e)
      | in_default-via-else-words-lt1+else-words-lt2+else-words-lt4+else-words-lt5 w ↦ grind (arith, nat_tests, same, e)
    ]) (λ e.
    elim c.in_default.branch [
      | in_default-via-then-words-lt1 w ↦ grind (arith, nat_tests, same, e)
      | in_default-via-else-words-lt1+else-words-lt2+then-words-lt4 w ↦ grind (arith, nat_tests, same, e)
      | in_default-via-else-words-lt1+else-words-lt2+else-words-lt4+else-words-lt5 w ↦ grind (arith, nat_tests, same, e)
    ]))
