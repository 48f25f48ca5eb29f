use Rattle.std.proofs.Common.{◌≡◌, Option, Some, None, refl, ◌∙◌, ap}
use Rattle.std.specs.Prelude.{option_map, unwrap_or}
use Rattle.nm_types.specs.declared.answers.Answer.{Answer}
use Rattle.nm_types.specs.declared.answers.Answer.TheVariants as answer
use Rattle.nm_check_rank.specs.Told.{untold}
use Rattle.nm_check_rank.specs.declared.paired.told.Told.{Told}
use Rattle.nm_check_rank.specs.declared.paired.told.Told.TheVariants as told
use Rattle.nm_check_rank.proofs.paired.results.test_answer.Goals as goal

-- a result, or that there is none
or_no : (o : Option Told) → untold (unwrap_or o told.No) ≡ unwrap_or (option_map untold o) answer.No
or_no None = refl
or_no (Some t) = refl

pub returns-in-Some : goal.returns-in-Some
returns-in-Some c = λ rank lines h tables. rw c.in-Some.is
    (ap (λ (t : Told). untold t) c.unwrap_or.ensures ∙ or_no c.request_result.result
    ∙ ap (λ (o : Option Answer). unwrap_or o answer.No) (c.request_result.ensures rank lines h tables))
