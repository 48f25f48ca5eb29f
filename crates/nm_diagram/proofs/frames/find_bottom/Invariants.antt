use Rattle.std.proofs.Common.{◌≡◌, ◌≤◌, drop}
use Rattle.nm_diagram.specs.Frames.{latest_of_all}
use Rattle.nm_diagram.proofs.frames.find_bottom.Given as goal

abbrev pub invariant-loop-account : goal.invariant-loop-account
invariant-loop-account l =
    record {
      so_far : latest_of_all l.span l.bottom (drop l.account-index l.ranks)
          ≡ latest_of_all l.span l.span.first l.ranks;
      within : l.bottom ≤ 1000000;
    }
