use Rattle.std.proofs.Common.{◌≡◌, map, take}
use Rattle.nm_listed.specs.Texts.{bytes_of}
use Rattle.nm_listed.proofs.texts.copied.Given as goal

abbrev pub invariant-loop-text : goal.invariant-loop-text
invariant-loop-text l = l.copy ≡ map bytes_of (take l.text-index l.texts)
