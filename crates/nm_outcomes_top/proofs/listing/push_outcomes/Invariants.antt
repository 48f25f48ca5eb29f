use Rattle.std.proofs.Common.{◌≡◌, ◌++◌, map, take}
use Rattle.nm_listed.specs.Texts.{bytes_of}
use Rattle.nm_outcomes_top.specs.Texts.{outcomes_from}
use Rattle.nm_outcomes_top.proofs.listing.push_outcomes.Given as goal

abbrev pub invariant-loop-place : goal.invariant-loop-place
invariant-loop-place l =
    l.out.items ≡ l.initial.out.items ++ outcomes_from 1 (map bytes_of (take l.place l.texts))
