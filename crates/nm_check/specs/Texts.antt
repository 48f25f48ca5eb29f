-- What is said of a verdict, and of bytes that are no trace.
use Rattle.std.specs.Prelude.{ℕ, List, ◌∷◌, ◌++◌, codes, decimal}
use Rattle.nm_check_rank.specs.OwnClauses.{own_letter}
use Rattle.nm_check.specs.CarriedClauses.{carried_letter}
use Rattle.nm_check.specs.RestClauses.{rest_letter}
use Rattle.nm_check.specs.declared.verdicts.Verdict.{Verdict}
use Rattle.nm_check.specs.declared.verdicts.Verdict.TheVariants.{Holds, Own, Carried, Rest, Home, Done}

-- what is said of a verdict
abbrev pub verdict_text : Verdict → List ℕ
verdict_text Holds = codes "holds\n"
verdict_text (Own clause rank) =
    codes "broken D7 " ++ (own_letter clause ∷ codes " " ++ (decimal rank ++ codes "\n"))
verdict_text (Carried clause from to) =
    codes "broken D8 "
    ++ (carried_letter clause ∷ codes " " ++ (decimal from ++ (codes " " ++ (decimal to ++ codes "\n"))))
verdict_text (Rest clause) = codes "broken D9 " ++ (rest_letter clause ∷ codes "\n")
verdict_text Home = codes "broken D17\n"
verdict_text Done = codes "broken done\n"

-- what is said of the first line that begins no trace; 0 where there is none, or no room for it
abbrev pub trace_fault_text : ℕ → List ℕ
trace_fault_text line = codes "fault trace " ++ (decimal line ++ codes "\n")
