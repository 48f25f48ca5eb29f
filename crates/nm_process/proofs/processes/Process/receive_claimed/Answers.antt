-- A process starts the receive of a claimed message.
use Rattle.std.proofs.Common.{◌≡◌, inr, ℕ, Option, Some, None, List, [], length, refl, sym, ◌∙◌, ap}
use Rattle.std.proofs.Common.{subst, arith}
use Rattle.std.specs.Prelude.{IfSome, nat_eq, option_map}
use Rattle.std.specs.Map.{lookup}
use Rattle.nm_history.specs.declared.events.Event.{Event}
use Rattle.nm_history.specs.Sends.{Sent, message_of, receives}
use Rattle.nm_request.specs.declared.Kind.TheVariants as kind
use Rattle.nm_rank.specs.Steps.{StartsMatched}
use Rattle.nm_process.specs.declared.steps.Handle.{Handle}
use Rattle.nm_process.specs.Names.{IsHeld, message_with, named}
use Rattle.nm_process.specs.Processes.{ProcessView}
use Rattle.nm_process.specs.Starts.{HasTriedMrecv}
use Rattle.nm_process.proofs.HeldLemmas.{handled_others, handled_own, held_after, held_unset, other_held}
use Rattle.nm_process.proofs.NameLemmas.{given_more, new_older, new_unnamed}
use Rattle.nm_process.proofs.StartLemmas.{keeps_handles, none_found, on_ok, start_answered, one_leaves}
use Rattle.nm_process.proofs.processes.Process.receive_claimed.Goals as goal
use Rattle.nm_rank.proofs.ReceiveLemmas.{taken-few}

pub invariant_of-self-2 : goal.invariant_of-self-2
invariant_of-self-2 h c =
    let p = c.self.inside in
    let i = c.self.invariant in
    let x = c.in-Some.handle in
    let bodies : Sent → List ℕ = λ s. [] in
    let starts = c.in_ok-request.ensures.starts.started bodies in
    let named : lookup (nat_eq c.args.m) p.handles.entries ≡ Some x = sym c.message_of_handle.ensures
    ∙ c.in-Some.is in (
      given_more p.rank.requests c.imrecv.new.self.requests c.in_ok-request.request _ starts.request
          p.requests i.0,
      held_unset p.rank.events c.imrecv.new.self.events p.handles.entries c.swap_remove.new.self.entries
          c.args.m x i.1 named
          (λ y other held. subst (λ (h : List Event). IsHeld h y) (sym starts.happened.events)
          (held_after y p.rank.events _ (one_leaves y p.rank.events p.rank.clock _
          (message_of p.rank.events x.from x.n) (other_held x y other)) held))
          c.swap_remove.ensures.updates.0,
      i.2 ∙ sym starts.takes.me,
    )

pub name-requires-clause-older : goal.name-requires-clause-older
name-requires-clause-older h c =
    let starts = c.in_ok-request.ensures.starts.started (λ s. []) in
    new_older c.self.inside.rank.requests c.imrecv.new.self.requests c.in_ok-request.request _
    starts.request c.self.inside.requests c.self.invariant.0

pub name-requires-clause-unnamed : goal.name-requires-clause-unnamed
name-requires-clause-unnamed h c =
    let starts = c.in_ok-request.ensures.starts.started (λ s. []) in
    new_unnamed c.self.inside.rank.requests c.imrecv.new.self.requests c.in_ok-request.request _
    starts.request c.self.inside.requests c.self.invariant.0

pub answer-requires-2 : goal.answer-requires-2
answer-requires-2 h c =
    let starts = c.in_ok-request.ensures.starts.started (λ s. []) in
    let same = ap (λ (v : ProcessView). v.rank.clock) c.self.view_is in
    let clock = ap (λ v. v.clock) c.in_ok-name.ensures.same.0 in
    let short = taken-few (message_of c.self.inside.rank.events c.in-Some.handle.from
    c.in-Some.handle.n) in
    record { in_time = omega (arith, short, starts.happened.clock, c.requires.fresh.clock, same, clock) }

pub returns-clause-tried : goal.returns-clause-tried
returns-clause-tried h c =
    let p = c.self.inside in
    let g = c.args in
    let x = c.in-Some.handle in
    let a : ProcessView = record {
      rank = p.rank;
      at = p.at;
      names =
          p.requests;
      handles = p.handles.entries;
    } in
    let mid = c.name.new.self in
    let b = c.answer-2.new.self in
    let places = c.in_ok-name.ensures.places in
    let free : named a g.q ≡ None = subst (λ (v : ProcessView). named v g.q ≡ None) (sym c.self.view_is)
    (none_found c.is_taken.result (named c.args.self.now g.q) c.if-is_taken.false c.is_taken.ensures) in
    let named : lookup (nat_eq g.m) p.handles.entries ≡ Some x = sym c.message_of_handle.ensures
    ∙ c.in-Some.is in
    let held : IsHeld p.rank.events x = subst (λ (o : Option Handle). IfSome o (IsHeld p.rank.events))
    named (c.self.invariant.1.held g.m) in
    on_ok c.answer-2.result (λ answered.
    subst (λ (v : ProcessView). HasTriedMrecv v b g.q g.m g.cap g.line) c.self.view_is (inr (inr (
    let handles : b.handles ≡ c.swap_remove.new.self.entries =
    (keeps_handles mid mid b g.line _ refl refl answered).handles
    ∙ c.in_ok-name.ensures.same.1 in
    record {
      message = message_with x;
      held = ap (λ (o : Option Handle). option_map message_with o) named;
      claimed = held.claimed;
      started = start_answered (StartsMatched x.from x.n g.cap g.line)
          (kind.Receive (length (receives p.rank.events))) a mid b
          c.imrecv.new.self c.in_ok-request.request g.q g.line
          (c.in_ok-request.ensures.starts.started (λ s. [])).request c.self.invariant.0 free
          c.in_ok-request.ensures.starts
          c.in_ok-name.ensures.same.0 c.in_ok-name.ensures.named places answered;
      handles = record {
        own = ap (λ (es : List (ℕ × Handle)). option_map message_with (lookup (nat_eq g.m) es)) handles
            ∙ handled_own p.handles.entries c.swap_remove.new.self.entries g.m None
            c.swap_remove.ensures.updates.0;
        others = λ k isnt. ap (λ (es : List (ℕ × Handle)). option_map message_with (lookup (nat_eq k) es))
            handles
            ∙ handled_others p.handles.entries c.swap_remove.new.self.entries g.m None
            c.swap_remove.ensures.updates.0 k isnt;
      };
    })))) c.answer-2.ensures.answered
