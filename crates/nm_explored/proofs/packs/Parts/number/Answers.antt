-- A set of parts keeps what it has.
use Rattle.std.proofs.Common.{List, ◌∙◌, ap, Some, ℕ}
use Rattle.std.specs.List.{slice_get}
use Rattle.nm_outcomes.specs.declared.spots.deeds.Part.{Part}
use Rattle.nm_explored.proofs.PackLemmas.{part_there, parts_keep}
use Rattle.nm_explored.proofs.TellLemmas.{ok_weaker}
use Rattle.nm_explored.proofs.packs.Parts.number.Goals as goal

pub returns-clause-there : goal.returns-clause-there
returns-clause-there c =
    ok_weaker _ _
    (λ short is.
    ap (λ (n : ℕ). slice_get c.insert_full.new.self.keys n) is
    ∙ part_there c.insert_full.new.self.keys c.in_ok-number.number c.args.part c.in_ok-number.ensures.stored)
    c.short.result c.short.ensures

pub returns-clause-kept : goal.returns-clause-kept
returns-clause-kept c k x here =
    parts_keep c.self.inside.items.keys c.insert_full.new.self.keys c.args.part c.in_ok-number.ensures.keys k x
    (ap (λ (xs : List Part). slice_get xs k) c.self.view_is ∙ here)
