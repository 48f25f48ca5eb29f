-- A name that stands at its place was last given what stands there.
use Rattle.std.proofs.Common.{ℕ, ◌∙◌, sym, ap, Some, nat_eq, slice_get}
use Rattle.std.specs.Map.{lookup}
use Rattle.std.proofs.lemmas.Option.{get_or_from_slice_get}
use Rattle.nm_types.proofs.OptionLemmas.{mapped_some}
use Rattle.nm_request.specs.declared.Req.{Req}
use Rattle.nm_process.specs.Sparse.{place_of_name}
use Rattle.nm_process.proofs.SparseLemmas.{here_found}
use Rattle.nm_process.proofs.names.RequestNames.get.Goals as goal

pub returns : goal.returns
returns c =
    let names = c.self.inside.entries.items in
    let w = mapped_some (λ (e : ℕ × Req). e.0) (slice_get names c.in_ok-place.place) c.args.q
    (rw (c.self.view_is) c.in_ok-place.ensures.some) in
    let read = get_or_from_slice_get names c.in_ok-place.place w.0 c.index.result.now w.1 in
    rw (← c.self.view_is) (ap (λ (e : ℕ × Req). Some e.1) (c.index.ensures ∙ read)
    ∙ sym (here_found (place_of_name c.self.inside.places) names c.self.invariant c.in_ok-place.place w.0.0 w.0.1 w.1)
    ∙ ap (λ (q : ℕ). lookup (nat_eq q) names) w.2)
