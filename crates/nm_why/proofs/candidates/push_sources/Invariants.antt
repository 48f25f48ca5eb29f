use Rattle.std.proofs.Common.{ℕ, ◌<◌}
use Rattle.std.specs.Prelude.{Contains}
use Rattle.nm_types.specs.declared.messages.Peer.TheVariants.{One}
use Rattle.nm_why.specs.declared.changes.Edit.TheVariants.{Source}
use Rattle.nm_why.specs.Lists.{Keeps}
use Rattle.nm_why.proofs.candidates.push_sources.Given as goal

abbrev pub invariant-loop-rank : goal.invariant-loop-rank
invariant-loop-rank l =
    record {
      kept : Keeps l.fn.edits.items l.edits.items;
      sources : (rank : ℕ) → rank < l.rank → Contains l.edits.items (Source (One rank));
    }
