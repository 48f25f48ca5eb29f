-- The number at the place.
use Rattle.std.proofs.Common.{◌≡◌, ℕ, ◌<◌, length, sym, ◌∙◌, subst}
use Rattle.std.specs.Prelude.{OnOk}
use Rattle.std.specs.List.{slice_set}
use Rattle.nm_types.proofs.OptionLemmas.{no_some, same_some}
use Rattle.nm_explored.specs.Stores.{AreOf}
use Rattle.nm_explored.proofs.stores.Table.refresh_at.Goals as goal

pub returns-in-Some : goal.returns-in-Some
returns-in-Some c id here =
    subst (λ (n : ℕ). n < length c.args.self.now → c.args.place < length c.args.all.now.ids.items →
    AreOf c.args.self.now c.args.all.now → OnOk c.refresh_by.result (AreOf c.args.self.now c.refresh_by.new.all
    × (c.refresh_by.new.all.ids.items ≡ slice_set c.args.all.now.ids.items c.args.place n)))
    (same_some c.in-Some.id id (sym c.in-Some.is ∙ c.id_at.ensures ∙ here)) c.refresh_by.ensures

pub returns-in-None : goal.returns-in-None
returns-in-None c id here = absurd (no_some id (sym c.in-None.is ∙ c.id_at.ensures ∙ here))
