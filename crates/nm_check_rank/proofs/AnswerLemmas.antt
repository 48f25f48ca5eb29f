-- The rule on answers, by what the command asks for and what was found.
use Rattle.std.proofs.Common.{◌≡◌, ℕ, Option, Some, None, List, refl, ◌∙◌, ap}
use Rattle.std.specs.Prelude.{IsSomeAnd, option_and_then, option_map}
use Rattle.std.proofs.lemmas.Option.{none-some}
use Rattle.nm_types.specs.declared.answers.Answer.{Answer}
use Rattle.nm_types.specs.declared.messages.Arrival.{Arrival}
use Rattle.nm_types.specs.declared.scripts.Command.{Command}
use Rattle.nm_types.specs.Commands.{Numbered, command_at}
use Rattle.nm_history.specs.declared.events.Event.{Event}
use Rattle.nm_history.specs.declared.events.Happened.TheVariants as happening
use Rattle.nm_history.specs.declared.events.Happened.{Happened}
use Rattle.nm_history.specs.Answers.{answer_of, live}
use Rattle.nm_lookups.specs.Looks.{found_by, look_of}
use Rattle.nm_lookups.specs.AskedFor.{asked_request, meant_by, name_of}
use Rattle.nm_lookups.specs.declared.asked.requests.Request.{Request}
use Rattle.nm_check_rank.specs.Handles.{IsOfName}
use Rattle.nm_check_rank.specs.OwnBreaks.{NextAt}

-- the request of the name of the command of a line
pub of_name : (commands : List Numbered) (before : List Event) (line : ℕ) (answer : Answer) (c : Command)
    (request : Option Request) →
    command_at commands line ≡ Some c →
    option_map meant_by request ≡ asked_request commands before (happening.Ran line answer) →
    IsOfName commands before c request
of_name commands before line answer c request at asked = λ q name.
    asked ∙ ap (λ (o : Option Command). option_and_then (live commands before) (option_and_then name_of o)) at
    ∙ ap (λ (o : Option ℕ). option_and_then (live commands before) o) name

-- what the command of a line found
pub found_of : (commands : List Numbered) (before : List Event) (line : ℕ) (answer : Answer) (c : Command)
    (found : Option Arrival) →
    command_at commands line ≡ Some c → found ≡ look_of commands before (happening.Ran line answer) →
    found ≡ found_by before c
found_of commands before line answer c found at is =
    is ∙ ap (λ (o : Option Command). option_and_then (found_by before) o) at

-- an answer is right, by the one that is told
module _ (commands : List Numbered) (before : List Event) (line : ℕ) (given : Answer) where
  abbrev Given : Option Command → Option Answer
  Given o = option_and_then (λ c. answer_of commands before line c) o

  pub answer_of_told : (o : Option Command) → Given o ≡ Some given →
      IsSomeAnd o (λ c. answer_of commands before line c ≡ Some given)
  answer_of_told None is = absurd (none-some given is)
  answer_of_told (Some c) is = is

  pub told_of_answer : (o : Option Command) → IsSomeAnd o (λ c. answer_of commands before line c ≡ Some given) →
      Given o ≡ Some given
  told_of_answer None is = absurd is
  told_of_answer (Some c) is = is

-- any other event than an answer keeps the rule on answers
pub other_next : (commands : List Numbered) (before : List Event) (w : Happened) →
    ((line : ℕ) (answer : Answer) → w ≡ happening.Ran line answer → ⊥) → NextAt commands before w
other_next commands before (happening.Ran line answer) not = absurd (not line answer refl)
other_next commands before w not = tt
