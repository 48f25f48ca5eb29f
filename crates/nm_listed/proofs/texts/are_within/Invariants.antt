use Rattle.std.proofs.Common.{◌≡◌, ◌+◌, length, sum_by, take}
use Rattle.nm_listed.specs.Texts.{bytes_of}
use Rattle.nm_listed.proofs.texts.are_within.Given as goal

abbrev pub invariant-loop-text : goal.invariant-loop-text
invariant-loop-text l =
    sum_by (λ text. length (bytes_of text)) (take l.text-index l.texts) + l.room ≡ l.most
