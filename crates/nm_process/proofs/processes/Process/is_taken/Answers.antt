-- Whether a name stands for a request that has not ended.
use Rattle.std.proofs.Common.{◌≡◌, Option, Some, None, Result, Ok, Err, refl, sym, subst, ap, ◌∙◌}
use Rattle.std.specs.Prelude.{IfSome, is_ok, is_some, option_map, nat_eq}
use Rattle.std.specs.Map.{lookup}
use Rattle.nm_history.specs.Completion.{Request}
use Rattle.nm_request.specs.declared.Kind.{Kind}
use Rattle.nm_request.specs.Requests.{kind_of}
use Rattle.nm_rank.specs.Ranks.{request_of}
use Rattle.nm_process.specs.Names.{named}
use Rattle.nm_process.specs.Processes.{ProcessView}
use Rattle.nm_process.proofs.NameLemmas.{named_by}
use Rattle.nm_process.proofs.processes.Process.is_taken.Goals as goal

-- a request of which a test tells something is live
live : {T E : Type 0} (r : Result T E) (e : E) (o : Option Kind) (say : Kind → T) → (o ≡ None → r ≡ Err e) →
    IfSome o (λ k. r ≡ Ok (say k)) → is_ok r ≡ is_some (option_map request_of o)
live r e None say gone told = ap is_ok (gone refl)
live r e (Some k) say gone told = ap is_ok told

pub returns-in-Some : goal.returns-in-Some
returns-in-Some g c =
    let p = c.self.inside in
    let a : ProcessView = record {
      rank = p.rank;
      at = p.at;
      names = p.requests;
      handles = p.handles.entries;
    } in
    let is : lookup (nat_eq c.args.q) p.requests ≡ Some c.in-Some.request =
    sym c.get.ensures ∙ c.in-Some.is in
    subst (λ (v : ProcessView). c.is_ok.result ≡ is_some (named v c.args.q)) c.self.view_is (
    c.is_ok.ensures.value
    ∙ live c.test.result _ (kind_of p.rank.requests c.in-Some.request) _
    c.test.ensures.no_such.0 c.test.ensures.state
    ∙ sym (ap (λ (o : Option Request). is_some o) (named_by a.rank.requests a.names c.args.q
    (Some c.in-Some.request) is)))
