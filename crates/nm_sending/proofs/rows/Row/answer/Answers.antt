use Rattle.std.proofs.Common.{◌≡◌, ◌<◌, ◌^◌, true, not, Some, ◌∙◌, ap, nat_eq, cond, ℕ, List, length}
use Rattle.std.proofs.Common.{subst, sym, arith}
use Rattle.std.specs.List.{slice_get}
use Rattle.std.specs.Map.{lookup}
use Rattle.nm_kept.proofs.EntryLemmas.{lookup-set}
use Rattle.nm_sending.specs.declared.departures.Departure.{Departure}
use Rattle.nm_sending.specs.Departures.{was_undone}
use Rattle.nm_sending.specs.Rows.{all_recalled, gone}
use Rattle.nm_sending.proofs.GoneLemmas.{gone-answered}
use Rattle.nm_sending.proofs.RecalledLemmas.{answered-all, known-more, passes-first, recalled-at}
use Rattle.nm_sending.proofs.rows.Row.answer.Goals as goal

pub answer-requires : goal.answer-requires
answer-requires c =
    let a = c.self.inside in
    recalled-at a.recalls.entries a.sent.items c.args.n
    (passes-first (λ d. d.recalled) (λ d. not (was_undone true d))
    (slice_get (all_recalled a.recalls.entries 0 a.sent.items) c.args.n) (rw (← c.self.view_is) at c.requires))

pub let_go-requires-clause-low : goal.let_go-requires-clause-low
let_go-requires-clause-low c =
    let a = c.self.inside in
    let open' = rw (← c.self.view_is) at c.requires in
    let is = recalled-at a.recalls.entries a.sent.items c.args.n
    (passes-first (λ d. d.recalled) (λ d. not (was_undone true d))
    (slice_get (all_recalled a.recalls.entries 0 a.sent.items) c.args.n) open') in
    let step : (q : ℕ) → lookup (nat_eq q) c.answer.new.self.entries
    ≡ cond (nat_eq c.args.n q) (Some (Some c.args.done)) (lookup (nat_eq q) a.recalls.entries) =
    λ q. ap (lookup (nat_eq q)) c.answer.ensures
    ∙ lookup-set a.recalls.entries c.args.n (Some c.args.done) is q in
    let more = gone-answered a.recalls.entries c.answer.new.self.entries a.sent.items c.args.n c.args.done step
    open' in
    omega (arith, c.self.invariant.first, more)

pub invariant_of-self : goal.invariant_of-self
invariant_of-self c =
    let a = c.self.inside in
    let is = recalled-at a.recalls.entries a.sent.items c.args.n
    (passes-first (λ d. d.recalled) (λ d. not (was_undone true d))
    (slice_get (all_recalled a.recalls.entries 0 a.sent.items) c.args.n) (rw (← c.self.view_is) at c.requires)) in
    let step : (q : ℕ) → lookup (nat_eq q) c.answer.new.self.entries
    ≡ cond (nat_eq c.args.n q) (Some (Some c.args.done)) (lookup (nat_eq q) a.recalls.entries) =
    λ q. ap (lookup (nat_eq q)) c.answer.ensures
    ∙ lookup-set a.recalls.entries c.args.n (Some c.args.done) is q in
    record {
      first = c.let_go.ensures.first
          ∙ ap (λ (l : List Departure). gone (all_recalled c.answer.new.self.entries 0 l))
          (sym c.let_go.ensures.same);
      few = subst (λ (l : List Departure). length l < 2 ^ 64) (sym c.let_go.ensures.same) c.self.invariant.few;
      known = λ q h. subst (λ (l : List Departure). q < length l) (sym c.let_go.ensures.same)
          (known-more a.recalls.entries a.sent.items c.args.n c.answer.new.self.entries
          (Some c.args.done) step (c.self.invariant.known c.args.n is) c.self.invariant.known q h);
    }

pub returns : goal.returns
returns c =
    let a = c.self.inside in
    let is = recalled-at a.recalls.entries a.sent.items c.args.n
    (passes-first (λ d. d.recalled) (λ d. not (was_undone true d))
    (slice_get (all_recalled a.recalls.entries 0 a.sent.items) c.args.n) (rw (← c.self.view_is) at c.requires)) in
    let step : (q : ℕ) → lookup (nat_eq q) c.answer.new.self.entries
    ≡ cond (nat_eq c.args.n q) (Some (Some c.args.done)) (lookup (nat_eq q) a.recalls.entries) =
    λ q. ap (lookup (nat_eq q)) c.answer.ensures
    ∙ lookup-set a.recalls.entries c.args.n (Some c.args.done) is q in
    rw (← c.self.view_is)
    (λ d there. ap (λ (l : List Departure). all_recalled c.answer.new.self.entries 0 l) c.let_go.ensures.same
    ∙ answered-all a.recalls.entries a.sent.items c.args.n c.answer.new.self.entries (Some c.args.done) step is d
    there)
