use Rattle.std.proofs.Common.{map, take}
use Rattle.std.specs.Prelude.{Contains}
use Rattle.nm_listed.specs.Texts.{bytes_of}
use Rattle.nm_listed.proofs.texts.number_among.Given as goal

abbrev pub invariant-loop-at : goal.invariant-loop-at
invariant-loop-at l = ¬ (Contains (map bytes_of (take l.at l.texts)) l.text)
