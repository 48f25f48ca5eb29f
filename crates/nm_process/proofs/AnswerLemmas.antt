-- The last event of a command that ran is its answer.
use Rattle.std.proofs.Common.{◌≡◌, ◌⊎◌, ⊎_elim, ℕ, ◌+◌, ◌-◌, suc, zero, Some, List, [], ◌∷◌, ◌++◌, length, length-append}
use Rattle.std.proofs.Common.{refl, ap, ◌∙◌, sym, subst, arith}
use Rattle.std.specs.Prelude.{IsSome, option_and_then}
use Rattle.std.specs.List.{slice_get}
use Rattle.nm_types.specs.declared.answers.Answer.{Answer}
use Rattle.nm_types.specs.declared.answers.Answer.TheVariants as answer
use Rattle.nm_types.specs.declared.scripts.Command.{Command}
use Rattle.nm_types.specs.declared.scripts.Command.TheVariants as command
use Rattle.nm_history.specs.Answers.{seen}
use Rattle.nm_history.specs.Totals.{answer_in}
use Rattle.nm_history.specs.declared.events.Event.{Event}
use Rattle.nm_history.specs.declared.events.Happened.TheVariants.{Ran}
use Rattle.nm_process.specs.declared.steps.Step.TheVariants.{Ran as Took}
use Rattle.nm_process.specs.LastAnswer.{last_answer}
use Rattle.nm_process.specs.Processes.{ProcessView}
use Rattle.nm_process.specs.Starts.{HasAnswered, HasTried}

-- the last of a list with one more
get_last : (h : List Event) (e : Event) → slice_get (h ++ e ∷ []) (length h) ≡ Some e
get_last [] e = refl
get_last (x ∷ h) e = get_last h e

answered_last : (a b : ProcessView) (line : ℕ) (x : Answer) → HasAnswered a b line x →
    IsSome (last_answer b.rank.events)
answered_last a b line x has =
    let e : Event = record { stamp = a.rank.clock + 1; what = Ran line x } in
    let h = a.rank.events in
    let is : b.rank.events ≡ h ++ e ∷ [] = has.records.noted.events in
    let long = length-append h (e ∷ []) in
    let place : length h ≡ length (h ++ e ∷ []) - 1 = omega (arith, long) in
    subst (λ (k : List Event). IsSome (last_answer k)) (sym is)
    (subst (λ (n : ℕ). IsSome (option_and_then (λ (e : Event). slice_get (answer_in e.what) 0)
    (slice_get (h ++ e ∷ []) n))) place
    (subst (λ o. IsSome (option_and_then (λ (e : Event). slice_get (answer_in e.what) 0) o)) (sym (get_last h e)) refl))

pub tried_answers : (a b : ProcessView) (c : Command) (line : ℕ) → HasTried a b c line Took →
    IsSome (last_answer b.rank.events)
tried_answers a b (command.Send to q tag ctx sync body) line t =
    ⊎_elim (λ p. answered_last a b line answer.Busy p.answered)
    (λ p. answered_last p.0.mid b line answer.Started p.0.answered) t.1
tried_answers a b (command.Recv q from tag ctx room) line t =
    ⊎_elim (λ p. answered_last a b line answer.Busy p.answered)
    (λ p. answered_last p.0.mid b line answer.Started p.0.answered) t.1
tried_answers a b (command.Wait q) line t = ⊎_elim (λ p. answered_last a b line answer.Null p.answered)
    (λ p. answered_last p.mid b line p.answer p.answered) t
tried_answers a b (command.Test q) line t = ⊎_elim (λ p. answered_last a b line answer.Null p.answered)
    (λ rest. ⊎_elim (λ p. answered_last p.mid b line p.answer p.answered)
    (λ p. answered_last a b line answer.No p.answered) rest) t.1
tried_answers a b (command.Probe from tag ctx) line t = answered_last a b line _ t.1
tried_answers a b (command.Await from tag ctx) line t = answered_last a b line (seen t.message) t.answered
tried_answers a b (command.Cancel q) line t = ⊎_elim (λ p. answered_last a b line answer.Null p.answered)
    (λ p. answered_last p.mid b line _ p.answered) t.1
tried_answers a b (command.Mprobe m from tag ctx) line t =
    ⊎_elim (λ p. answered_last a b line answer.Busy p.answered)
    (λ rest. ⊎_elim (λ p. answered_last a b line answer.Nothing p.answered)
    (λ p. answered_last p.mid b line (seen p.message) p.answered) rest) t.1
tried_answers a b (command.Mrecv q m room) line t = ⊎_elim (λ p. answered_last a b line answer.Busy p.answered)
    (λ rest. ⊎_elim (λ p. answered_last a b line answer.Null p.answered)
    (λ p. answered_last p.started.mid b line answer.Started p.started.answered) rest) t.1
