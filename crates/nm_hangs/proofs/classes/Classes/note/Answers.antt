-- The classes, and whether they are new.
use Rattle.std.proofs.Common.{ℕ, [], ◌∷◌, ◌++◌, List, ◌∙◌, ap, subst, sym}
use Rattle.std.specs.Prelude.{if◌then◌else◌}
use Rattle.std.specs.List.{slice_get}
use Rattle.nm_types.proofs.ListLemmas.{no_item}
use Rattle.nm_hangs.specs.Hunts.{AreNear}
use Rattle.nm_hangs.proofs.NotedLemmas.{unwrapped}
use Rattle.nm_hangs.proofs.classes.Classes.note.Goals as goal

pub classes_of-requires-clause-near : goal.classes_of-requires-clause-near
classes_of-requires-clause-near c =
    subst (λ (y : List ℕ). AreNear c.args.lines.now c.args.table.now c.args.near.now y)
    (sym (c.as_slice.ensures.value ∙ c.in_ok-nearby.ensures))
    (unwrapped (λ (y : List ℕ). AreNear c.args.lines.now c.args.table.now c.args.near.now y)
    (slice_get c.self.inside.met c.args.number) (λ j id class here there. absurd (no_item j class there))
    (λ classes here. c.requires.near classes
    (ap (λ (met : List (List ℕ)). slice_get met c.args.number) (sym c.self.view_is) ∙ here)))

pub returns : goal.returns
returns c = (
  c.in_ok-classes.classes.items,
  c.in_ok-classes.ensures,
  c.in_ok-new.ensures.there,
  c.in_ok-new.ensures.added
      ∙ ap (λ (met : List (List ℕ)). if c.in_ok-new.new then met ++ c.in_ok-classes.classes.items ∷ [] else met)
      c.self.view_is,
)
