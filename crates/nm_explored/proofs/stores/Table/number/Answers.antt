-- The row of a state, and the states of the rows before.
use Rattle.std.proofs.Common.{◌≡◌, ◌⊎◌, inl, ℕ, Some, List, map, refl, sym, ◌∙◌, ap, subst}
use Rattle.std.specs.Prelude.{OnOk, Ok, Err, Result}
use Rattle.std.specs.List.{slice_get}
use Rattle.nm_outcomes.specs.RankStates.{Spot}
use Rattle.nm_search.specs.Lists.{Extends, StandOnce}
use Rattle.nm_search.proofs.SetLemmas.{kept_in}
use Rattle.nm_explored.specs.Packs.{AreWhole, spot_by}
use Rattle.nm_explored.proofs.PackLemmas.{row_there, rows_keep, rows_once, whole_kept, whole_next}
use Rattle.nm_explored.proofs.TellLemmas.{ok_weaker}
use Rattle.nm_explored.proofs.stores.Table.number.Goals as goal

either : {X E P : Type 0} → P → (r : Result X E) → OnOk r P
either right (Ok x) = right
either right (Err e) = tt

pub invariant_of-self : goal.invariant_of-self
invariant_of-self c =
    whole_kept c.self.inside.parts c.row_of.new.parts c.self.inside.rows c.in_err-row.ensures.kept c.self.invariant

pub invariant_of-self-in_err-id : goal.invariant_of-self-in_err-id
invariant_of-self-in_err-id c =
    whole_next c.self.inside.parts c.row_of.new.parts c.self.inside.rows c.number.new.self c.in_ok-row.row.items
    c.args.rank.now c.in_ok-row.ensures.kept c.self.invariant c.in_ok-row.ensures.row c.in_err-id.ensures.added

pub invariant_of-self-2 : goal.invariant_of-self-2
invariant_of-self-2 c =
    whole_next c.self.inside.parts c.row_of.new.parts c.self.inside.rows c.number.new.self c.in_ok-row.row.items
    c.args.rank.now c.in_ok-row.ensures.kept c.self.invariant c.in_ok-row.ensures.row c.in_ok-id.ensures.added

pub returns-clause-there : goal.returns-clause-there
returns-clause-there c =
    ok_weaker _ _
    (λ short is.
    ap (λ (n : ℕ). slice_get (map (spot_by c.row_of.new.parts) c.number.new.self) n) is
    ∙ row_there c.row_of.new.parts c.number.new.self c.in_ok-id.id c.in_ok-row.row.items c.args.rank.now
    c.in_ok-id.ensures.there c.in_ok-row.ensures.row)
    c.short.result c.short.ensures

pub returns-clause-kept : goal.returns-clause-kept
returns-clause-kept c =
    either
    (subst (λ (old : List Spot). Extends old (map (spot_by c.row_of.new.parts) c.number.new.self)) c.self.view_is
    (rows_keep c.self.inside.parts c.row_of.new.parts c.self.inside.rows c.number.new.self c.in_ok-row.ensures.kept
    (kept_in c.self.inside.rows c.number.new.self c.in_ok-row.row.items c.in_ok-id.ensures.added) c.self.invariant))
    c.short.result

pub returns-clause-once : goal.returns-clause-once
returns-clause-once c =
    either
    (rows_once c.row_of.new.parts c.number.new.self c.are_once.ensures c.in_ok-id.ensures.once
    (whole_next c.self.inside.parts c.row_of.new.parts c.self.inside.rows c.number.new.self c.in_ok-row.row.items
    c.args.rank.now c.in_ok-row.ensures.kept c.self.invariant c.in_ok-row.ensures.row c.in_ok-id.ensures.added))
    c.short.result
