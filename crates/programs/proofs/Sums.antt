-- The sums of all ranks.
use Rattle.std.proofs.Common.{◌≡◌, List, [], ◌∷◌}
use Rattle.nm_types.specs.declared.scripts.Command.{Command}
use Rattle.nm_history.specs.Quiescence.{Ended}
use Rattle.nm_history.specs.Totals.{answers_given}
use Rattle.nm_programs.specs.declared.running.Finished.{Finished}
use Rattle.nm_programs.specs.HasRun.{AreProgramsOf}
use Rattle.nm_programs.proofs.CountLemmas.{counted_in_all}
use Rattle.programs.specs.declared.ring.Link.{Link}
use Rattle.programs.specs.Sums.{AreSums, sum_with}

pub all_sums : (links : List Link) (given : List (List Command)) (ranks : List Ended) (left : List (Finished Link)) →
    AreProgramsOf (λ p a c q. q.sum ≡ sum_with p.sum a) links given ranks left → AreSums links ranks left
all_sums [] [] [] [] are = tt
all_sums [] [] [] (f ∷ left) are = absurd are
all_sums [] [] (e ∷ ranks) left are = absurd are
all_sums [] (xs ∷ given) ranks left are = absurd are
all_sums (p ∷ links) [] ranks left are = absurd are
all_sums (p ∷ links) (xs ∷ given) [] left are = absurd are
all_sums (p ∷ links) (xs ∷ given) (e ∷ ranks) [] are = absurd are
all_sums (p ∷ links) (xs ∷ given) (e ∷ ranks) (f ∷ left) are = (
  counted_in_all (λ p a c q. q.sum ≡ sum_with p.sum a) (λ p. p.sum) sum_with (λ p a c q said. said) p
      (answers_given e.events) f.program f.waits xs are.0.played,
  all_sums links given ranks left are.1,
)
