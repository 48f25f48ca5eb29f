-- The answer of a command leaves names and handles alone.
use Rattle.std.proofs.Common.{sym, subst, ◌∙◌, List}
use Rattle.nm_history.specs.declared.events.Event.{Event}
use Rattle.nm_request.specs.Requests.{Live}
use Rattle.nm_process.specs.Names.{AreGiven, IsHeld}
use Rattle.nm_process.proofs.HeldLemmas.{all_held, held_after}
use Rattle.nm_process.proofs.processes.Process.answer.Goals as goal

pub invariant_of-self-2 : goal.invariant_of-self-2
invariant_of-self-2 g c =
    let p = c.self.inside in
    let i = c.self.invariant in
    let records = c.in_ok-ran.ensures.records in (
      subst (λ (r : Live). AreGiven r p.requests) (sym records.requests) i.0,
      all_held p.rank.events c.ran.new.self.events p.handles.entries
          (λ x held. subst (λ (h : List Event). IsHeld h x) (sym records.noted.events)
          (held_after x p.rank.events _ (tt, tt) held)) i.1,
      i.2 ∙ sym records.takes.me,
    )
