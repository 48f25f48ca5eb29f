use Rattle.std.proofs.Common.{◌+◌, ◌≤◌, length, map, take}
use Rattle.nm_listed.specs.Places.{IsFirstNew}
use Rattle.nm_listed.specs.Texts.{bytes_of}
use Rattle.nm_listed.proofs.places.most_shared.Given as goal

abbrev pub invariant-loop-other : goal.invariant-loop-other
invariant-loop-other l =
    IsFirstNew (map bytes_of (take l.other-index l.texts)) l.text (l.most + 1) × (l.most ≤ length l.text)
