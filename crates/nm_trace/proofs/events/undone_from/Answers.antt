use Rattle.std.proofs.Common.{map, arith, sym}
use Rattle.std.proofs.lemmas.Bool.Decides.{nat_tests}
use Rattle.std.proofs.lemmas.List.{length-map}
use Rattle.nm_trace.proofs.CountLemmas.{other_undone}
use Rattle.nm_trace.proofs.events.undone_from.Goals as goal
use Rattle.nm_trace.proofs.events.undone_from.Goals.{in_default-via-then-words-lt3}
use Rattle.nm_trace.proofs.events.undone_from.Goals.{in_default-via-else-words-lt3+else-words-lt4}

pub returns-in_default : goal.returns-in_default
returns-in_default c = sym (other_undone (map (λ word. word.now) c.args.words.now) (λ e.
    let same = length-map c.args.words.now (λ word. word.now) in
    elim c.in_default.branch [
      | in_default-via-then-words-lt3 w ↦ grind (arith, nat_tests, same, e)
      | in_default-via-else-words-lt3+else-words-lt4 w ↦ grind (arith, nat_tests, same, e)
    ]))
