-- A process claims a message.
use Rattle.std.proofs.Common.{◌≡◌, ℕ, Option, List, sym, subst, ◌∙◌}
use Rattle.std.specs.Prelude.{MatchOption}
use Rattle.nm_types.specs.declared.messages.Arrival.{Arrival}
use Rattle.nm_history.specs.declared.events.Event.{Event}
use Rattle.nm_request.specs.Requests.{Live}
use Rattle.nm_rank.specs.Steps.{Claims}
use Rattle.nm_process.specs.declared.steps.Handle.{Handle}
use Rattle.nm_process.specs.Names.{AreHeld, AreGiven, IsHeld}
use Rattle.nm_process.proofs.HeldLemmas.{all_held, claimed_held, first_unheld, held_after, held_set}
use Rattle.nm_process.proofs.processes.Process.claim.Goals as goal

pub invariant_of-self-in_err-insert : goal.invariant_of-self-in_err-insert
invariant_of-self-in_err-insert h c =
    let p = c.self.inside in
    let i = c.self.invariant in
    let v = p.rank in
    let w = c.improbe.new.self in
    let g = c.args in
    let a = c.in-Some.message in
    let claims : Claims a g.line v w =
    subst (λ (o : Option Arrival). MatchOption o (w ≡ v) (λ a. Claims a g.line v w)) c.in-Some.is
    c.in_ok-message.ensures.claims in
    let held : AreHeld w.events p.handles.entries = all_held v.events w.events p.handles.entries
    (λ x held. subst (λ (h : List Event). IsHeld h x) (sym claims.claimed.events)
    (held_after x v.events _ (tt, tt) held)) i.1 in (
      subst (λ (r : Live). AreGiven r p.requests) (sym claims.requests) i.0,
      subst (λ (es : List (ℕ × Handle)). AreHeld w.events es) (sym c.in_err-insert.ensures.err) held,
      i.2 ∙ sym claims.takes.me,
    )

pub invariant_of-self-2 : goal.invariant_of-self-2
invariant_of-self-2 h c =
    let p = c.self.inside in
    let i = c.self.invariant in
    let v = p.rank in
    let w = c.improbe.new.self in
    let g = c.args in
    let a = c.in-Some.message in
    let claims : Claims a g.line v w =
    subst (λ (o : Option Arrival). MatchOption o (w ≡ v) (λ a. Claims a g.line v w)) c.in-Some.is
    c.in_ok-message.ensures.claims in
    let first = sym c.in_ok-message.ensures.oldest ∙ c.in-Some.is in
    let held : AreHeld w.events p.handles.entries = all_held v.events w.events p.handles.entries
    (λ x held. subst (λ (h : List Event). IsHeld h x) (sym claims.claimed.events)
    (held_after x v.events _ (tt, tt) held)) i.1 in (
      subst (λ (r : Live). AreGiven r p.requests) (sym claims.requests) i.0,
      held_set w.events p.handles.entries c.insert.new.self.entries g.m
          (record { from = a.env.from; n = a.n }) held
          (subst (λ (h : List Event). IsHeld h (record { from = a.env.from; n = a.n })) (sym claims.claimed.events)
          (claimed_held v.events g.from g.tag g.ctx _ g.line a first))
          (first_unheld v.events g.from g.tag g.ctx a p.handles.entries first i.1)
          c.in_ok-insert.ensures.updates.0,
      i.2 ∙ sym claims.takes.me,
    )
