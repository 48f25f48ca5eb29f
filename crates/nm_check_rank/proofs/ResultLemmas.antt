-- The results of requests, by the tables.
use Rattle.std.proofs.Common.{◌≡◌, ℕ, Bool, false, Option, Some, None, List, ◌∙◌, ap}
use Rattle.std.specs.Prelude.{if◌then◌else◌, option_and_then}
use Rattle.nm_types.specs.declared.answers.Answer.{Answer}
use Rattle.nm_types.specs.declared.answers.Answer.TheVariants as answer
use Rattle.nm_history.specs.declared.events.Event.{Event}
use Rattle.nm_history.specs.declared.plain.Pair.{Pair}
use Rattle.nm_history.specs.Completion.{is_here, pair_of_receive, result_of, shown}
use Rattle.nm_history.specs.Completion.Request.{Receiving}
use Rattle.nm_history.specs.Happens.{happened, is_cancel}

-- the result of a receive that was not cancelled
pub receive_result : (h : List Event) (number : ℕ) (o : Option Pair) (r : Option Answer) →
    false ≡ happened (is_cancel number) h →
    o ≡ pair_of_receive h number →
    r ≡ option_and_then (λ pair. if is_here h pair then Some (shown pair) else None) o →
    r ≡ result_of h (Receiving number)
receive_result h number o r kept pairs is =
    is ∙ ap (λ (o : Option Pair). option_and_then (λ pair. if is_here h pair then Some (shown pair) else None) o) pairs
    ∙ ap (λ (b : Bool). if b then Some answer.Cancelled
    else option_and_then (λ pair. if is_here h pair then Some (shown pair) else None) (pair_of_receive h number)) kept
