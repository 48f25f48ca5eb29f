-- A process cancels a request.
use Rattle.std.proofs.Common.{◌≡◌, ◌⊎◌, inl, inr, Err, Option, Some, List, [], refl, sym, subst, ap, ◌∙◌, arith}
use Rattle.std.specs.Prelude.{option_map, option_and_then, nat_eq}
use Rattle.std.specs.Map.{lookup}
use Rattle.nm_types.specs.declared.answers.Answer.{Answer}
use Rattle.nm_types.specs.declared.answers.Answer.TheVariants as answer
use Rattle.nm_history.specs.declared.events.Event.{Event}
use Rattle.nm_request.specs.declared.Kind.{Kind}
use Rattle.nm_request.specs.declared.Req.{Req}
use Rattle.nm_request.specs.Requests.{Live, kind_of}
use Rattle.nm_rank.specs.Ranks.{RankView, request_of}
use Rattle.nm_process.specs.Names.{AreGiven, IsHeld}
use Rattle.nm_process.specs.Processes.{ProcessView}
use Rattle.nm_process.specs.Starts.{HasAnswered, HasCancelled, IsNull}
use Rattle.nm_process.proofs.HeldLemmas.{all_held, held_after}
use Rattle.nm_process.proofs.NameLemmas.{named_none}
use Rattle.nm_process.proofs.StartLemmas.{cancel_leaves, cancel_short, on_ok}
use Rattle.nm_process.proofs.processes.Process.cancel.Goals as goal

pub invariant_of-self : goal.invariant_of-self
invariant_of-self g c =
    let p = c.self.inside in
    let i = c.self.invariant in
    let v = p.rank in
    let w = c.cancel.new.self in
    let is = c.in-Ok.ensures.cancels in (
      subst (λ (r : Live). AreGiven r p.requests) (sym is.requests) i.0,
      all_held v.events w.events p.handles.entries
          (λ x held. subst (λ (h : List Event). IsHeld h x) (sym (is.happened (λ s. [])).events)
          (held_after x v.events _ (cancel_leaves x v.events v.clock is.kind) held)) i.1,
      i.2 ∙ sym is.takes.me,
    )

pub answer-requires-in-Ok : goal.answer-requires-in-Ok
answer-requires-in-Ok g c =
    let v = c.self.inside.rank in
    let is = c.in-Ok.ensures.cancels in
    let happened = is.happened (λ s. []) in
    let same = ap (λ (v : ProcessView). v.rank.clock) c.self.view_is in
    record {
      in_time = omega (
        arith,
        happened.clock,
        cancel_short v.events is.kind,
        c.requires.fresh.clock,
        same,
      );
    }

pub returns-in-Ok-clause-tried : goal.returns-in-Ok-clause-tried
returns-in-Ok-clause-tried g c =
    let p = c.self.inside in
    let v = p.rank in
    let w = c.cancel.new.self in
    let q = c.args.q in
    let b = c.answer-in-Ok.new.self in
    let is = c.in-Ok.ensures.cancels in
    let a : ProcessView = record {
      rank = v;
      at = p.at;
      names =
          p.requests;
      handles = p.handles.entries;
    } in
    let mid : ProcessView = record a { rank = w } in
    let named : lookup (nat_eq q) p.requests ≡ Some c.in-Some.request = sym c.get.ensures
    ∙ c.in-Some.is in
    on_ok c.answer-in-Ok.result (λ answered.
    subst (λ (v : ProcessView). IsNull v b q c.args.line ⊎ HasCancelled v b q c.args.line) c.self.view_is
    (inr (record {
      mid = mid;
      request = c.in-Some.request;
      answer = c.in-Ok.cancelled;
      cancels = is;
      live = ap (λ (o : Option Req). option_map request_of (option_and_then (kind_of v.requests) o)) named
          ∙ ap (λ (k : Option Kind). option_map request_of k) is.live;
      others = refl;
      answered = subst (λ (x : Answer). HasAnswered mid b c.args.line x) c.answer_for.ensures answered;
    }))) c.answer-in-Ok.ensures.answered

pub returns-in-Err-NoSuch-clause-tried : goal.returns-in-Err-NoSuch-clause-tried
returns-in-Err-NoSuch-clause-tried g c =
    let p = c.self.inside in
    let q = c.args.q in
    let b = c.answer-in-Err-NoSuch.new.self in
    let a : ProcessView = record {
      rank = p.rank;
      at = p.at;
      names = p.requests;
      handles = p.handles.entries;
    } in
    let is : lookup (nat_eq q) p.requests ≡ Some c.in-Some.request = sym c.get.ensures
    ∙ c.in-Some.is in
    let free = named_none p.rank.requests p.requests q c.in-Some.request is
    (c.cancel.ensures.no_such.1 (c.in-Err-NoSuch.is ∙ ap (λ f. Err f) c.in-Err-NoSuch.field-0-is)) in
    on_ok c.answer-in-Err-NoSuch.result (λ answered.
    subst (λ (v : ProcessView). IsNull v b q c.args.line ⊎ HasCancelled v b q c.args.line) c.self.view_is
    (inl (record {
      free = free;
      answered = subst (λ (w : RankView). HasAnswered (record a { rank = w }) b c.args.line answer.Null)
          c.in-Err-NoSuch.ensures.err answered;
    }))) c.answer-in-Err-NoSuch.ensures.answered
