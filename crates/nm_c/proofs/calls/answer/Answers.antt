-- Its state decides.
use Rattle.std.proofs.Common.{ap, sym, ◌∙◌}
use Rattle.std.specs.Prelude.{is_some}
use Rattle.nm_process.specs.LastAnswer.{last_answer}
use Rattle.nm_handle.specs.declared.states.State.{State}
use Rattle.nm_handle.specs.Standing.{calls_of, process_of}
use Rattle.nm_c.specs.Asked.{asked_at, told_at}
use Rattle.nm_c.specs.Told.{body_said, status_said}
use Rattle.nm_c.proofs.calls.answer.Goals as goal

pub returns-in-Failed-clause-came : goal.returns-in-Failed-clause-came
returns-in-Failed-clause-came c =
    let h = c.args.handle.now in
    ap (λ (s : State). asked_at s (is_some (calls_of h).next) (last_answer (process_of h).rank.events))
    (sym (sym c.state.ensures ∙ c.in-Failed.is))

pub returns-in-Failed-clause-status : goal.returns-in-Failed-clause-status
returns-in-Failed-clause-status c =
    let h = c.args.handle.now in
    ap (λ (s : State). status_said (told_at s (is_some (calls_of h).next) (last_answer
    (process_of h).rank.events)) c.args.status.now)
    (sym (sym c.state.ensures ∙ c.in-Failed.is))

pub returns-in-Failed-clause-body : goal.returns-in-Failed-clause-body
returns-in-Failed-clause-body c =
    let h = c.args.handle.now in
    ap (λ (s : State). body_said (told_at s (is_some (calls_of h).next) (last_answer
    (process_of h).rank.events)) c.args.body.now)
    (sym (sym c.state.ensures ∙ c.in-Failed.is))

pub returns-in-Open-clause-came : goal.returns-in-Open-clause-came
returns-in-Open-clause-came c =
    let h = c.args.handle.now in
    c.ended.ensures.came
    ∙ ap (λ (s : State). asked_at s (is_some (calls_of h).next) (last_answer (process_of h).rank.events))
    (sym (sym c.state.ensures ∙ c.in-Open.is))

pub returns-in-Open-clause-status : goal.returns-in-Open-clause-status
returns-in-Open-clause-status c =
    let h = c.args.handle.now in
    c.ended.ensures.status
    ∙ ap (λ (s : State). status_said (told_at s (is_some (calls_of h).next) (last_answer
    (process_of h).rank.events)) c.args.status.now)
    (sym (sym c.state.ensures ∙ c.in-Open.is))

pub returns-in-Open-clause-body : goal.returns-in-Open-clause-body
returns-in-Open-clause-body c =
    let h = c.args.handle.now in
    c.ended.ensures.body
    ∙ ap (λ (s : State). body_said (told_at s (is_some (calls_of h).next) (last_answer
    (process_of h).rank.events)) c.args.body.now)
    (sym (sym c.state.ensures ∙ c.in-Open.is))

pub returns-in-Closed-clause-came : goal.returns-in-Closed-clause-came
returns-in-Closed-clause-came c =
    let h = c.args.handle.now in
    c.ended-in-Closed.ensures.came
    ∙ ap (λ (s : State). asked_at s (is_some (calls_of h).next) (last_answer (process_of h).rank.events))
    (sym (sym c.state.ensures ∙ c.in-Closed.is))

pub returns-in-Closed-clause-status : goal.returns-in-Closed-clause-status
returns-in-Closed-clause-status c =
    let h = c.args.handle.now in
    c.ended-in-Closed.ensures.status
    ∙ ap (λ (s : State). status_said (told_at s (is_some (calls_of h).next) (last_answer
    (process_of h).rank.events)) c.args.status.now)
    (sym (sym c.state.ensures ∙ c.in-Closed.is))

pub returns-in-Closed-clause-body : goal.returns-in-Closed-clause-body
returns-in-Closed-clause-body c =
    let h = c.args.handle.now in
    c.ended-in-Closed.ensures.body
    ∙ ap (λ (s : State). body_said (told_at s (is_some (calls_of h).next) (last_answer
    (process_of h).rank.events)) c.args.body.now)
    (sym (sym c.state.ensures ∙ c.in-Closed.is))
