-- What a program keeps count of.
use Rattle.std.specs.Prelude.{Option, Some, List, [], ◌∷◌}
use Rattle.nm_types.specs.declared.answers.Answer.{Answer}

-- what a count is after these answers, one after another
abbrev pub count_after : {S : Type 0} → (S → Option Answer → S) → S → List Answer → S
count_after step s [] = s
count_after step s (a ∷ answers) = count_after step (step s (Some a)) answers
