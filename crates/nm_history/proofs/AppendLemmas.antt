-- What is said of a history that goes on: by one event more, or by many.
use Rattle.std.proofs.Common.{◌≡◌, ℕ, ◌+◌, ◌==◌, Bool, false, ◌||◌, Option, Some, None, List, [], ◌∷◌, ◌++◌, length}
use Rattle.std.proofs.Common.{refl, ◌∙◌, ap}
use Rattle.std.proofs.Common.{append-nil, length-append}
use Rattle.std.specs.List.{cons_option, filter, filter_map}
use Rattle.std.proofs.Math.Bool.{or-false}
use Rattle.std.proofs.lemmas.List.Elements.{filter-append, filter_map-append}
use Rattle.std.proofs.lemmas.List.Folds.{list_any-append}
use Rattle.nm_history.specs.declared.events.Event.{Event}
use Rattle.nm_history.specs.declared.events.Happened.{Happened}
use Rattle.nm_history.specs.declared.events.Happened.TheVariants.{Ran}
use Rattle.nm_history.specs.Happens.{happened}
use Rattle.nm_history.specs.RankRun.{since_after}
use Rattle.nm_history.specs.Sends.{Arrived, Sent, arrivals, arrived_of, receive_of, receives, sends, sent_of}
use Rattle.nm_history.specs.Underway.{is_answer}
use Rattle.nm_history.proofs.OnceLemmas.{receives-push}

pub happened-push : (test : Happened → Bool) (h : List Event) (e : Event) →
    happened test (h ++ e ∷ []) ≡ (happened test h || test e.what)
happened-push test h e =
    list_any-append (λ (e : Event). test e.what) h (e ∷ [])
    ∙ ap (λ (b : Bool). happened test h || b) (or-false (test e.what))

-- messages that were sent and that came
pub sends-append : (h more : List Event) (to : ℕ) → sends (h ++ more) to ≡ sends h to ++ sends more to
sends-append h more to =
    ap (λ (xs : List Sent). filter (λ s. s.to == to) xs)
    (filter_map-append (λ (e : Event). sent_of e.stamp e.what) h more)
    ∙ filter-append (λ (s : Sent). s.to == to) (filter_map (λ (e : Event). sent_of e.stamp e.what) h)
    (filter_map (λ (e : Event). sent_of e.stamp e.what) more)

pub arrivals-append : (h more : List Event) (from : ℕ) →
    arrivals (h ++ more) from ≡ arrivals h from ++ arrivals more from
arrivals-append h more from =
    ap (λ (xs : List Arrived). filter (λ a. a.arrival.env.from == from) xs)
    (filter_map-append (λ (e : Event). arrived_of e.stamp e.what) h more)
    ∙ filter-append (λ (a : Arrived). a.arrival.env.from == from)
    (filter_map (λ (e : Event). arrived_of e.stamp e.what) h)
    (filter_map (λ (e : Event). arrived_of e.stamp e.what) more)

-- receives, by their count
pub receives_still : (h : List Event) (e : Event) → receive_of e.what ≡ None →
    length (receives (h ++ e ∷ [])) ≡ length (receives h)
receives_still h e none =
    ap length (receives-push h e ∙ ap (λ (o : Option ℕ). receives h ++ cons_option o []) none
    ∙ append-nil (receives h))

pub receives_more : (h : List Event) (e : Event) (number : ℕ) → receive_of e.what ≡ Some number →
    length (receives (h ++ e ∷ [])) ≡ length (receives h) + 1
receives_more h e number some =
    ap length (receives-push h e ∙ ap (λ (o : Option ℕ). receives h ++ cons_option o []) some)
    ∙ length-append (receives h) (number ∷ [])

-- what happened since the last answer
pub since_grows : (since : List Happened) (what : Happened) → is_answer what ≡ false →
    since_after since what ≡ since ++ what ∷ []
since_grows since (Ran line answer) none = cc
since_grows since what none = refl
