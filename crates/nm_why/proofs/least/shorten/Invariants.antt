-- The part still does it. It gets shorter, or the next turn begins at its first command.
use Rattle.std.proofs.Common.{◌+◌, ◌*◌, length}
use Rattle.std.specs.Prelude.{min}
use Rattle.nm_why.specs.Hangs.{Does}
use Rattle.nm_why.specs.Least.{AreRising}
use Rattle.nm_why.specs.Parts.{lines_at}
use Rattle.nm_why.proofs.least.shorten.Given as goal

abbrev pub invariant-turns : goal.invariant-turns
invariant-turns g l =
    record {
      rising : AreRising l.places.items;
      does : Does l.of.aim l.of.shape (lines_at l.of.lines.now l.places.items);
    }

abbrev pub decreases-turns : goal.decreases-turns
decreases-turns g l = 2 * length l.places.items + min l.from 1
