use Rattle.std.proofs.Common.{◌≡◌, Some, take}
use Rattle.std.specs.Prelude.{◌≢◌, Contains}
use Rattle.nm_types.specs.declared.scripts.Command.{Command}
use Rattle.nm_why.specs.declared.changes.Change.TheVariants.{Edited}
use Rattle.nm_why.specs.declared.changes.Edit.{Edit}
use Rattle.nm_why.specs.Changes.{edited}
use Rattle.nm_why.specs.Lists.{Keeps}
use Rattle.nm_why.proofs.candidates.push_edits.Given as goal

abbrev pub invariant-loop-edit : goal.invariant-loop-edit
invariant-loop-edit l =
    record {
      kept : Keeps l.fn.changes.items l.changes.items;
      added : (edit : Edit) (other : Command) → Contains (take l.edit-index l.edits) edit →
          edited l.command edit ≡ Some other → other ≢ l.command →
          Contains l.changes.items (Edited l.place edit);
    }
