-- A request gives its result, and ends.
use Rattle.std.proofs.Common.{◌≡◌, ◌↔◌, ℕ, false, Option, Some, None, Result, Ok, Err, List, refl, sym, subst}
use Rattle.std.proofs.Common.{ap, ◌∙◌}
use Rattle.std.specs.Prelude.{IfOk, IfSome, OnErr, nat_eq}
use Rattle.std.specs.Map.{lookup}
use Rattle.nm_types.specs.declared.answers.Answer.{Answer}
use Rattle.nm_history.specs.declared.events.Event.{Event}
use Rattle.nm_history.specs.Completion.{is_complete}
use Rattle.nm_request.specs.declared.Kind.{Kind}
use Rattle.nm_request.specs.declared.Req.{Req}
use Rattle.nm_request.specs.Requests.{kind_of}
use Rattle.nm_rank.specs.declared.answers.FinishFault.{FinishFault}
use Rattle.nm_rank.specs.declared.answers.FinishFault.TheVariants.{NoSuch, NotComplete}
use Rattle.nm_rank.specs.Ranks.{RankView, request_of}
use Rattle.nm_rank.specs.Requests.{Finishes, IsResult}
use Rattle.nm_process.specs.Names.{AreGiven, AreHeld, named}
use Rattle.nm_process.specs.Processes.{ProcessView}
use Rattle.nm_process.specs.Starts.{Ends, IsPending}
use Rattle.nm_process.proofs.NameLemmas.{ended_others, ended_own, given_ended, named_none, named_some}
use Rattle.nm_process.proofs.processes.Process.end.Goals as goal
use Rattle.nm_types.proofs.OptionLemmas.{some_and}

-- what stands where a request was asked for its result, whether it gave that or not
asked : (v w : RankView) (request : Req) (names : List (ℕ × Req)) (q : ℕ) (r : Result Answer FinishFault) →
    AreGiven v.requests names → lookup (nat_eq q) names ≡ Some request →
    IfOk r (λ x. Finishes request x v w) → OnErr r (w ≡ v) →
    AreGiven w.requests names × (v.events ≡ w.events) × (v.me ≡ w.me)
asked v w request names q (Ok x) given is finished still = (
  given_ended v.requests w.requests request finished.freed names q given is,
  sym (ap (λ (u : RankView). u.events) finished.same),
  sym (ap (λ (u : RankView). u.me) finished.same),
)
asked v w request names q (Err e) given is finished still = (
  subst (λ (u : RankView). AreGiven u.requests names) (sym still) given,
  sym (ap (λ (u : RankView). u.events) still),
  sym (ap (λ (u : RankView). u.me) still),
)

if_ok : {T E : Type 0} {P Q : T → Type 0} (r : Result T E) → ((x : T) → P x → Q x) → IfOk r P → IfOk r Q
if_ok (Ok x) f holds = f x holds
if_ok (Err e) f holds = tt

on_err : {T E P Q : Type 0} (r : Result T E) → (P → Q) → OnErr r P → OnErr r Q
on_err (Ok x) f holds = tt
on_err (Err e) f holds = f holds

pub invariant_of-self : goal.invariant_of-self
invariant_of-self g c =
    let p = c.self.inside in
    let i = c.self.invariant in
    let is : lookup (nat_eq c.args.q) p.requests ≡ Some c.in-Some.request =
    sym c.get.ensures ∙ c.in-Some.is in
    let stands = asked p.rank c.finish.new.self c.in-Some.request p.requests c.args.q
    c.finish.result i.0 is c.finish.ensures.finishes c.finish.ensures.err in (
      stands.0,
      subst (λ (h : List Event). AreHeld h p.handles.entries) stands.1 i.1,
      i.2 ∙ stands.2,
    )

pub returns-clause-ends : goal.returns-clause-ends
returns-clause-ends g c =
    let p = c.self.inside in
    let w = c.finish.new.self in
    let q = c.args.q in
    let i = c.self.invariant in
    let request = c.in-Some.request in
    let is : lookup (nat_eq q) p.requests ≡ Some request = sym c.get.ensures ∙ c.in-Some.is in
    let a : ProcessView = record {
      rank = p.rank;
      at = p.at;
      names = p.requests;
      handles = p.handles.entries;
    } in
    let b : ProcessView = record a { rank = w } in
    if_ok c.finish.result (λ (x : Answer) (finished : Finishes request x p.rank w).
    subst (λ (v : ProcessView). Ends v b q x) c.self.view_is (
    let result = some_and (IsResult p.rank x) (kind_of p.rank.requests request) finished.gives in
    record {
      request = request;
      kind = result.0;
      is = result.1;
      live = named_some p.rank.requests p.requests q request result.0 is result.1;
      finished = finished;
      names = record {
        own = ended_own p.rank.requests w.requests request finished.freed p.requests q i.0 is;
        others = ended_others p.rank.requests w.requests request finished.freed p.requests q i.0 is;
      };
      handles = record { at = refl; handles = refl };
    })) c.finish.ensures.finishes

pub returns-clause-null : goal.returns-clause-null
returns-clause-null g c none =
    let p = c.self.inside in
    let is : lookup (nat_eq c.args.q) p.requests ≡ Some c.in-Some.request =
    sym c.get.ensures ∙ c.in-Some.is in
    subst (λ (v : ProcessView). named v c.args.q ≡ None) c.self.view_is
    (named_none p.rank.requests p.requests c.args.q c.in-Some.request is
    (c.finish.ensures.no_such.1 none))

-- a request that isn't complete is live
pending : (v : RankView) (request : Req) (r : Result Answer FinishFault) (o : Option Kind) →
    kind_of v.requests request ≡ o → r ≡ Err NotComplete → (o ≡ None → r ≡ Err NoSuch) →
    IfSome o (λ k. (is_complete v.events (request_of k) ≡ false) ↔ (r ≡ Err NotComplete)) →
    (k : Kind) × (kind_of v.requests request ≡ Some k) × (is_complete v.events (request_of k) ≡ false)
pending v request r None is late gone complete = let other = gone refl in cc
pending v request r (Some k) is late gone complete = (k, is, complete.1 late)

pub returns-clause-pending : goal.returns-clause-pending
returns-clause-pending g c late =
    let p = c.self.inside in
    let q = c.args.q in
    let request = c.in-Some.request in
    let is : lookup (nat_eq q) p.requests ≡ Some request = sym c.get.ensures ∙ c.in-Some.is in
    let a : ProcessView = record {
      rank = p.rank;
      at = p.at;
      names = p.requests;
      handles = p.handles.entries;
    } in
    let kind = pending p.rank request c.finish.result (kind_of p.rank.requests request) refl late
    c.finish.ensures.no_such.0 c.finish.ensures.not_complete in
    subst (λ (v : ProcessView). IsPending v q) c.self.view_is (record {
      request = request_of kind.0;
      live = named_some p.rank.requests p.requests q request kind.0 is kind.1;
      pending = kind.2;
    })

pub returns-clause-still : goal.returns-clause-still
returns-clause-still g c =
    let p = c.self.inside in
    let a : ProcessView = record {
      rank = p.rank;
      at = p.at;
      names = p.requests;
      handles = p.handles.entries;
    } in
    on_err c.finish.result (λ same. ap (λ (w : RankView). record a { rank = w }) same ∙ c.self.view_is)
    c.finish.ensures.err
