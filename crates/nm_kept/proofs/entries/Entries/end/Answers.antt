use Rattle.std.proofs.Common.{◌∙◌, IsSome, ap, nat_eq, subst, sym}
use Rattle.std.specs.Map.{lookup, set_value}
use Rattle.nm_kept.specs.Entering.{Entering, noted}
use Rattle.nm_kept.proofs.EntryLemmas.{noted_set}
use Rattle.nm_kept.proofs.entries.Entries.end.Goals as goal

pub returns-clause-entries : goal.returns-clause-entries
returns-clause-entries g c =
    let there = subst (λ (e : Entering _). IsSome (lookup (nat_eq c.args.n) e.entries)) (sym c.self.view_is)
    c.requires in
    ap noted c.then-self-inside.ensures ∙ noted_set c.args.n c.args.item c.self.inside.log.items there
    ∙ ap (λ (e : Entering _). set_value (nat_eq c.args.n) e.entries c.args.item) c.self.view_is
