-- A name that does not stand at its place never came.
use Rattle.std.proofs.Common.{arith}
use Rattle.std.proofs.lemmas.Option.{gets, get_or_from_slice_get}
use Rattle.nm_process.specs.Sparse.{place_of_name}
use Rattle.nm_process.proofs.SparseLemmas.{none_at}
use Rattle.nm_process.proofs.names.RequestNames.find.Goals as goal

pub returns-in_default-clause-none : goal.returns-in_default-clause-none
returns-in_default-clause-none c =
    let names = c.self.inside.entries.items in
    rw (← c.self.view_is) (none_at (place_of_name c.self.inside.places) names c.self.invariant c.args.q
    (λ r here. let read = get_or_from_slice_get names (place_of_name c.self.inside.places c.args.q) (c.args.q, r)
    c.in-Some.field-0.now here in
    c.if-name-q.false (grind (arith, read))))

pub returns-in_default-2-clause-none : goal.returns-in_default-2-clause-none
returns-in_default-2-clause-none c =
    let names = c.self.inside.entries.items in
    rw (← c.self.view_is) (none_at (place_of_name c.self.inside.places) names c.self.invariant c.args.q
    (λ r here. grind (arith, gets)))
