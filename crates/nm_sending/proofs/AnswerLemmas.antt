-- What a send ended with, by what became of its message.
use Rattle.std.proofs.Common.{◌≡◌, ℕ, Bool, true, false, ◌&&◌, ◌||◌, cond, Option, Some, None, List}
use Rattle.std.proofs.Common.{refl, sym, ◌∙◌}
use Rattle.std.proofs.Common.{ap}
use Rattle.std.specs.Prelude.{option_and_then, option_map}
use Rattle.nm_types.specs.declared.answers.Answer.{Answer}
use Rattle.nm_types.specs.declared.answers.Answer.TheVariants as answer
use Rattle.nm_history.specs.declared.events.Event.{Event}
use Rattle.nm_history.specs.Completion.{is_complete, result_of}
use Rattle.nm_history.specs.Completion.Request.{Sending}
use Rattle.nm_history.specs.Happens.{happened, is_recall, is_undone}
use Rattle.nm_sending.specs.declared.departures.Departure.{Departure}
use Rattle.nm_sending.specs.Departures.{SendingView, departure_of, passes, was_undone, is_over, ending_of}
use Rattle.nm_sending.specs.Rows.{fate}
use Rattle.nm_sending.specs.Sent.{AreSent}

-- complete, by what happened
abbrev over : Bool → Bool → Bool → Bool → Bool
over recalled done late out = cond recalled (done || (late && out)) out

over_is : (o : Option Departure) → over (passes (λ x. x.recalled) o) (passes (was_undone true) o)
    (passes (was_undone false) o) (passes (λ x. x.out) o) ≡ passes is_over o
over_is None = refl
over_is (Some d) = refl

abbrev ended : Bool → Bool → Option Answer
ended complete cancelled = cond complete (Some (cond cancelled answer.Cancelled answer.Sent)) None

module _ (v : SendingView) (h : List Event) (was : AreSent v h) (to n : ℕ) where
  pub complete_is : passes is_over (departure_of v to n) ≡ is_complete h (Sending to n)
  complete_is =
      sym (over_is (departure_of v to n))
      ∙ ap (λ (b : Bool). over b (passes (was_undone true) (departure_of v to n))
      (passes (was_undone false) (departure_of v to n)) (passes (λ x. x.out) (departure_of v to n)))
      (was.recalled to n)
      ∙ ap (λ (b : Bool). over (happened (is_recall to n) h) b
      (passes (was_undone false) (departure_of v to n)) (passes (λ x. x.out) (departure_of v to n)))
      (was.undone to n true)
      ∙ ap (λ (b : Bool). over (happened (is_recall to n) h) (happened (is_undone to n true) h) b
      (passes (λ x. x.out) (departure_of v to n))) (was.undone to n false)
      ∙ ap (λ (b : Bool). over (happened (is_recall to n) h) (happened (is_undone to n true) h)
      (happened (is_undone to n false) h) b) (was.out to n)

  pub ending_is : option_and_then ending_of (departure_of v to n) ≡ result_of h (Sending to n)
  ending_is =
      by_there (departure_of v to n)
      ∙ ap (λ (b : Bool). ended b (passes (was_undone true) (departure_of v to n))) complete_is
      ∙ ap (λ (b : Bool). ended (is_complete h (Sending to n)) b) (was.undone to n true)
    where
      by_there : (o : Option Departure)
          → option_and_then ending_of o ≡ ended (passes is_over o) (passes (was_undone true) o)
      by_there None = refl
      by_there (Some d) = refl

-- whether it is over, also where it is not said whether one that was withdrawn has left
pub over-told : (d : Departure) → is_over (fate d) ≡ is_over d
over-told d = by d.recalled d.out (was_undone true d) (was_undone false d) where
  by : (r o u l : Bool) → cond r (u || (l && (o || (r && u)))) (o || (r && u)) ≡ cond r (u || (l && o)) o
  by true o true l = refl
  by true true false l = refl
  by true false false l = refl
  by false true u l = refl
  by false false u l = refl

-- what is said of a message is the same, whether or not its length is known
module _ (o p : Option Departure) (same : option_map fate o ≡ option_map fate p) where
  pub passes-told : (test : Departure → Bool) → ((d : Departure) → test (fate d) ≡ test d)
      → passes test o ≡ passes test p
  passes-told test blind = sym (bare o) ∙ ap (passes test) same ∙ bare p where
    bare : (q : Option Departure) → passes test (option_map fate q) ≡ passes test q
    bare None = refl
    bare (Some d) = blind d

  pub ending-told : option_and_then ending_of o ≡ option_and_then ending_of p
  ending-told = sym (bare o) ∙ ap (λ (q : Option Departure). option_and_then ending_of q) same ∙ bare p where
    bare : (q : Option Departure)
        → option_and_then ending_of (option_map fate q) ≡ option_and_then ending_of q
    bare None = refl
    bare (Some d) = ap (λ (b : Bool). ended b (was_undone true d)) (over-told d)
