-- A name that came is given another request.
use Rattle.std.proofs.Common.{◌≡◌, ℕ, ◌∙◌, ap, Some, slice_get}
use Rattle.nm_types.proofs.OptionLemmas.{mapped_some}
use Rattle.nm_request.specs.declared.Req.{Req}
use Rattle.nm_process.specs.Sparse.{place_of_name}
use Rattle.nm_process.proofs.SparseLemmas.{set_found}
use Rattle.nm_process.proofs.names.RequestNames.insert.Goals as goal

pub returns-in-Some-clause-ok : goal.returns-in-Some-clause-ok
returns-in-Some-clause-ok c p =
    let names = c.self.inside.entries.items in
    let w = mapped_some (λ (e : ℕ × Req). e.0) (slice_get names c.in-Some.place) c.args.q
    (rw (c.self.view_is) c.in-Some.ensures.some) in
    let here : slice_get names c.in-Some.place ≡ Some (c.args.q, w.0.1) =
    w.1 ∙ ap (λ (q : ℕ). Some (q, w.0.1)) w.2 in
    rw (← c.self.view_is) (set_found (place_of_name c.self.inside.places) names c.self.invariant c.in-Some.place
    c.args.q w.0.1 c.args.request here p)
