-- A process starts a receive.
use Rattle.std.proofs.Common.{◌≡◌, None, inr, ℕ, List, [], length, sym, ◌∙◌, ap, subst, arith}
use Rattle.nm_history.specs.Matching.{first_message, matched_pairs}
use Rattle.nm_history.specs.Sends.{Sent, receives}
use Rattle.nm_request.specs.declared.Kind.TheVariants as kind
use Rattle.nm_rank.specs.Steps.{StartsReceive}
use Rattle.nm_process.specs.Names.{named}
use Rattle.nm_process.specs.Processes.{ProcessView}
use Rattle.nm_process.specs.Starts.{HasTriedReceive}
use Rattle.nm_process.proofs.NameLemmas.{given_more, new_older, new_unnamed}
use Rattle.nm_process.proofs.StartLemmas.{keeps_handles, none_found, on_ok, start_answered, start_keeps}
use Rattle.nm_process.proofs.StartLemmas.{one_leaves}
use Rattle.nm_process.proofs.processes.Process.receive.Goals as goal
use Rattle.nm_rank.proofs.ReceiveLemmas.{taken-few}

pub invariant_of-self-2 : goal.invariant_of-self-2
invariant_of-self-2 h c =
    let p = c.self.inside in
    let i = c.self.invariant in
    let bodies : Sent → List ℕ = λ s. [] in
    let starts = c.in_ok-request.ensures.starts.started bodies in (
      given_more p.rank.requests c.irecv.new.self.requests c.in_ok-request.request _ starts.request
          p.requests i.0,
      start_keeps bodies _ _ p.rank c.irecv.new.self c.in_ok-request.request p.handles.entries starts
          (λ x. one_leaves x p.rank.events p.rank.clock _
          (first_message p.rank.events (matched_pairs p.rank.events) c.args.from c.args.tag c.args.ctx)
          tt) i.1,
      i.2 ∙ sym starts.takes.me,
    )

pub name-requires-clause-older : goal.name-requires-clause-older
name-requires-clause-older h c =
    let starts = c.in_ok-request.ensures.starts.started (λ s. []) in
    new_older c.self.inside.rank.requests c.irecv.new.self.requests c.in_ok-request.request _
    starts.request c.self.inside.requests c.self.invariant.0

pub name-requires-clause-unnamed : goal.name-requires-clause-unnamed
name-requires-clause-unnamed h c =
    let starts = c.in_ok-request.ensures.starts.started (λ s. []) in
    new_unnamed c.self.inside.rank.requests c.irecv.new.self.requests c.in_ok-request.request _
    starts.request c.self.inside.requests c.self.invariant.0

pub answer-requires-2 : goal.answer-requires-2
answer-requires-2 h c =
    let starts = c.in_ok-request.ensures.starts.started (λ s. []) in
    let same = ap (λ (v : ProcessView). v.rank.clock) c.self.view_is in
    let clock = ap (λ v. v.clock) c.in_ok-name.ensures.same.0 in
    let short = taken-few (first_message c.self.inside.rank.events
    (matched_pairs c.self.inside.rank.events) c.args.from c.args.tag c.args.ctx) in
    record { in_time = omega (arith, short, starts.happened.clock, c.requires.fresh.clock, same, clock) }

pub returns-clause-tried : goal.returns-clause-tried
returns-clause-tried h c =
    let p = c.self.inside in
    let g = c.args in
    let a : ProcessView = record {
      rank = p.rank;
      at = p.at;
      names =
          p.requests;
      handles = p.handles.entries;
    } in
    let b = c.answer-2.new.self in
    let places = c.in_ok-name.ensures.places in
    let free : named a g.q ≡ None = subst (λ (v : ProcessView). named v g.q ≡ None) (sym c.self.view_is)
    (none_found c.is_taken.result (named c.args.self.now g.q) c.if-is_taken.false c.is_taken.ensures) in
    on_ok c.answer-2.result (λ answered.
    subst (λ (v : ProcessView). HasTriedReceive v b g.q g.from g.tag g.ctx g.cap g.line) c.self.view_is
    (inr (
      start_answered (StartsReceive g.from g.tag g.ctx g.cap g.line)
          (kind.Receive (length (receives p.rank.events))) a c.name.new.self b
          c.irecv.new.self c.in_ok-request.request g.q g.line
          (c.in_ok-request.ensures.starts.started (λ s. [])).request c.self.invariant.0 free
          c.in_ok-request.ensures.starts
          c.in_ok-name.ensures.same.0 c.in_ok-name.ensures.named places answered,
      keeps_handles a c.name.new.self b g.line _ places c.in_ok-name.ensures.same.1 answered,
    ))) c.answer-2.ensures.answered
