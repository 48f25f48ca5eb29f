use Rattle.std.proofs.Common.{◌≡◌, ◌++◌, map, take}
use Rattle.nm_listed.specs.Texts.{bytes_of}
use Rattle.nm_variants.proofs.unions.push_all.Given as goal

abbrev pub invariant-loop-text : goal.invariant-loop-text
invariant-loop-text l = l.texts ≡ l.fn.texts ++ map bytes_of (take l.text-index l.more)
