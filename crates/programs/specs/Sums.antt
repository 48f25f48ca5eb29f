-- The sums of a ring.
use Rattle.std.specs.Prelude.{◌≡◌, ℕ, ◌+◌, ◌%◌, ◌^◌, Option, option_and_then, List, [], ◌∷◌}
use Rattle.std.specs.Option.{option_map_or}
use Rattle.nm_types.specs.declared.answers.Answer.{Answer}
use Rattle.nm_history.specs.Quiescence.{Ended}
use Rattle.nm_history.specs.Totals.{answers_given}
use Rattle.nm_types.specs.Sizes.{Sizes}
use Rattle.nm_programs.specs.declared.running.Finished.{Finished}
use Rattle.nm_programs.specs.declared.running.Unrecorded.{Unrecorded}
use Rattle.nm_programs.specs.HasRun.{HasRunUnrecorded}
use Rattle.nm_programs.specs.Calls.{number_in}
use Rattle.nm_programs.specs.Counts.{count_after}
use Rattle.programs.specs.declared.ring.Link.{Link}

-- a sum, and the number that a receive got, if it got one, modulo 2^64
abbrev pub sum_with : ℕ → Option Answer → ℕ
sum_with sum answer = option_map_or (λ x. (sum + x) % 2 ^ 64) (option_and_then number_in answer) sum

-- each rank's sum is its own number and all numbers that came in its history
abbrev pub AreSums : List Link → List Ended → List (Finished Link) → Type 0
AreSums [] [] [] = Unit {0}
AreSums (link ∷ links) (rank ∷ ranks) (left ∷ rest) =
    (left.program.sum ≡ count_after sum_with link.sum (answers_given rank.events)) × AreSums links ranks rest
AreSums _ _ _ = ⊥

-- a ring ran, and so it is with histories that no memory keeps
pub record HaveSummed (shape : Sizes) (links : List Link) (x : Unrecorded Link) : Type 0 where
  pub run :
      HasRunUnrecorded (λ p answer command q. q.sum ≡ sum_with p.sum answer) shape links x.ranks.items x.done x.cells
      x.ways.cells x.ways.rings
  pub sums : AreSums links run.ends x.ranks.items
