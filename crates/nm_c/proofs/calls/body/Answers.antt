-- Its state decides.
use Rattle.std.proofs.Common.{Option, ap, sym, ◌∙◌}
use Rattle.nm_types.specs.declared.answers.Answer.{Answer}
use Rattle.nm_process.specs.LastAnswer.{last_answer}
use Rattle.nm_handle.specs.declared.states.State.{State}
use Rattle.nm_handle.specs.Standing.{process_of}
use Rattle.nm_c.specs.Asked.{after_at, after_whole, bytes_in, whole_at, whole_of}
use Rattle.nm_c.proofs.calls.body.Goals as goal

pub returns-in-Failed-clause-came : goal.returns-in-Failed-clause-came
returns-in-Failed-clause-came c =
    let h = c.args.handle.now in
    ap (λ (s : State). whole_at s (bytes_in (last_answer (process_of h).rank.events)) c.args.into.now) (sym
    (sym c.state.ensures ∙ c.in-Failed.is))

pub returns-in-Failed-clause-body : goal.returns-in-Failed-clause-body
returns-in-Failed-clause-body c =
    let h = c.args.handle.now in
    ap (λ (s : State). after_at s (bytes_in (last_answer (process_of h).rank.events)) c.args.into.now) (sym
    (sym c.state.ensures ∙ c.in-Failed.is))

pub returns-in-Open-clause-came : goal.returns-in-Open-clause-came
returns-in-Open-clause-came c =
    let h = c.args.handle.now in
    c.whole.ensures.came
    ∙ ap (λ (o : Option Answer). whole_of (bytes_in o) c.args.into.now) c.answer.ensures
    ∙ ap (λ (s : State). whole_at s (bytes_in (last_answer (process_of h).rank.events)) c.args.into.now) (sym
    (sym c.state.ensures ∙ c.in-Open.is))

pub returns-in-Open-clause-body : goal.returns-in-Open-clause-body
returns-in-Open-clause-body c =
    let h = c.args.handle.now in
    c.whole.ensures.body
    ∙ ap (λ (o : Option Answer). after_whole (bytes_in o) c.args.into.now) c.answer.ensures
    ∙ ap (λ (s : State). after_at s (bytes_in (last_answer (process_of h).rank.events)) c.args.into.now) (sym
    (sym c.state.ensures ∙ c.in-Open.is))

pub returns-in-Closed-clause-came : goal.returns-in-Closed-clause-came
returns-in-Closed-clause-came c =
    let h = c.args.handle.now in
    c.whole-in-Closed.ensures.came
    ∙ ap (λ (o : Option Answer). whole_of (bytes_in o) c.args.into.now) c.answer-in-Closed.ensures
    ∙ ap (λ (s : State). whole_at s (bytes_in (last_answer (process_of h).rank.events)) c.args.into.now) (sym
    (sym c.state.ensures ∙ c.in-Closed.is))

pub returns-in-Closed-clause-body : goal.returns-in-Closed-clause-body
returns-in-Closed-clause-body c =
    let h = c.args.handle.now in
    c.whole-in-Closed.ensures.body
    ∙ ap (λ (o : Option Answer). after_whole (bytes_in o) c.args.into.now) c.answer-in-Closed.ensures
    ∙ ap (λ (s : State). after_at s (bytes_in (last_answer (process_of h).rank.events)) c.args.into.now) (sym
    (sym c.state.ensures ∙ c.in-Closed.is))
