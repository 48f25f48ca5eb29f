use Rattle.std.proofs.Common.{◌++◌, ◌∷◌, [], ◌∙◌, ap, nat_eq}
use Rattle.std.specs.Map.{lookup}
use Rattle.nm_kept.specs.Entering.{Entering, noted}
use Rattle.nm_kept.proofs.EntryLemmas.{insert_new, noted_new}
use Rattle.nm_kept.proofs.entries.Entries.put.Goals as goal

pub returns-clause-entries : goal.returns-clause-entries
returns-clause-entries g c =
    let none = ap (λ (e : Entering _). lookup (nat_eq c.args.n) e.entries) c.self.view_is ∙ c.requires.is_new in
    ap noted c.then-log.ensures ∙ noted_new c.args.n c.args.item c.self.inside.log.items none
    ∙ ap (λ (e : Entering _). e.entries ++ (c.args.n, c.args.item) ∷ []) c.self.view_is

pub returns-clause-live : goal.returns-clause-live
returns-clause-live g c =
    let none = ap (λ (e : Entering _). lookup (nat_eq c.args.n) e.live) c.self.view_is ∙ c.requires.is_absent in
    c.in_ok-insert.ensures.entries ∙ insert_new c.args.n c.args.item c.self.inside.live.entries none
    ∙ ap (λ (e : Entering _). e.live ++ (c.args.n, c.args.item) ∷ []) c.self.view_is
