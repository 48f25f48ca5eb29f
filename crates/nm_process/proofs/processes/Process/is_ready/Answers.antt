-- Whether a name stands for no request that is under way.
use Rattle.std.proofs.Common.{◌≡◌, ℕ, Bool, true, false, Option, Some, None, List, Result, Ok, Err, refl, sym}
use Rattle.std.proofs.Common.{ap, subst, ◌∙◌}
use Rattle.std.specs.Prelude.{IfSome, if◌then◌else◌, nat_eq, option_map}
use Rattle.std.specs.Map.{lookup}
use Rattle.std.specs.Option.{option_map_or}
use Rattle.nm_history.specs.declared.events.Event.{Event}
use Rattle.nm_history.specs.Completion.{Request, is_complete}
use Rattle.nm_request.specs.declared.Kind.{Kind}
use Rattle.nm_request.specs.declared.Req.{Req}
use Rattle.nm_request.specs.Requests.{kind_of}
use Rattle.nm_rank.specs.declared.answers.State.{State}
use Rattle.nm_rank.specs.declared.answers.State.TheVariants as state
use Rattle.nm_rank.specs.Ranks.{request_of}
use Rattle.nm_process.specs.Processes.{ProcessView}
use Rattle.nm_process.specs.Names.{named}
use Rattle.nm_process.proofs.NameLemmas.{named_by}
use Rattle.nm_process.proofs.processes.Process.is_ready.Goals as goal

-- what a test shows of a request that is complete, or not
abbrev pub shows : Bool → State
shows b = if b then state.Ready else state.Pending

-- what a test of a request of this kind, if it is live, tells of it
abbrev pub Tells : {E : Type 0} → List Event → E → Option Kind → Result State E → Type 0
Tells h e o r = (o ≡ None → r ≡ Err e) × IfSome o (λ k. r ≡ Ok (shows (is_complete h (request_of k))))

abbrev pub ready : List Event → Option Kind → Bool
ready h o = option_map_or (is_complete h) (option_map request_of o) true

shown : {E : Type 0} (r : Result State E) (b d : Bool) → r ≡ Ok (shows b) → r ≡ Ok (shows d) → b ≡ d
shown r true true one two = refl
shown r false false one two = refl
shown r true false one two = cc
shown r false true one two = cc

tested : {E : Type 0} (h : List Event) (e : E) (o : Option Kind) (r : Result State E) (b : Bool) →
    Tells h e o r → r ≡ Ok (shows b) → ready h o ≡ b
tested h e None r b tells is = let other = tells.0 refl in cc
tested h e (Some k) r b tells is = shown r (is_complete h (request_of k)) b tells.1 is

ended : {E : Type 0} (h : List Event) (e x : E) (o : Option Kind) (r : Result State E) → Tells h e o r →
    r ≡ Err x → ready h o ≡ true
ended h e x None r tells is = refl
ended h e x (Some k) r tells is = let other = tells.1 in cc

-- the same of the name that was given the request
of_name : (v : ProcessView) (q : ℕ) (r : Req) (b : Bool) → lookup (nat_eq q) v.names ≡ Some r →
    ready v.rank.events (kind_of v.rank.requests r) ≡ b →
    b ≡ option_map_or (is_complete v.rank.events) (named v q) true
of_name v q r b is so = sym (ap (λ (o : Option Request). option_map_or (is_complete v.rank.events) o true)
    (named_by v.rank.requests v.names q (Some r) is) ∙ so)

pub returns-in-Ok-Ready : goal.returns-in-Ok-Ready
returns-in-Ok-Ready g c =
    let p = c.self.inside in
    let request = c.in-Some.request in
    let a : ProcessView = record {
      rank = p.rank;
      at = p.at;
      names = p.requests;
      handles = p.handles.entries;
    } in
    subst (λ (v : ProcessView). true ≡ option_map_or (is_complete v.rank.events) (named v c.args.q) true)
    c.self.view_is (of_name a c.args.q request true (sym c.get.ensures ∙ c.in-Some.is)
    (tested a.rank.events _ (kind_of a.rank.requests request) c.test.result true
    (c.test.ensures.no_such.0, c.test.ensures.state)
    (c.in-Ok-Ready.is ∙ ap (λ f. Ok f) c.in-Ok-Ready.field-0-is)))

pub returns-in-Ok-Pending : goal.returns-in-Ok-Pending
returns-in-Ok-Pending g c =
    let p = c.self.inside in
    let request = c.in-Some.request in
    let a : ProcessView = record {
      rank = p.rank;
      at = p.at;
      names = p.requests;
      handles = p.handles.entries;
    } in
    subst (λ (v : ProcessView). false ≡ option_map_or (is_complete v.rank.events) (named v c.args.q) true)
    c.self.view_is (of_name a c.args.q request false (sym c.get.ensures ∙ c.in-Some.is)
    (tested a.rank.events _ (kind_of a.rank.requests request) c.test.result false
    (c.test.ensures.no_such.0, c.test.ensures.state)
    (c.in-Ok-Pending.is ∙ ap (λ f. Ok f) c.in-Ok-Pending.field-0-is)))

pub returns-in-Err : goal.returns-in-Err
returns-in-Err g c =
    let p = c.self.inside in
    let request = c.in-Some.request in
    let a : ProcessView = record {
      rank = p.rank;
      at = p.at;
      names = p.requests;
      handles = p.handles.entries;
    } in
    subst (λ (v : ProcessView). true ≡ option_map_or (is_complete v.rank.events) (named v c.args.q) true)
    c.self.view_is (of_name a c.args.q request true (sym c.get.ensures ∙ c.in-Some.is)
    (ended a.rank.events _ _ (kind_of a.rank.requests request) c.test.result
    (c.test.ensures.no_such.0, c.test.ensures.state) c.in-Err.is))
