-- What a sink has taken while a text was written.
use Rattle.std.proofs.Common.{◌≡◌, ℕ, ◌+◌, ◌-◌, ◌≤◌, List, ◌++◌, length, take, drop, Option, Some, None}
use Rattle.std.proofs.Common.{ap, ◌∙◌, arith, length-drop, append_assoc}
use Rattle.std.proofs.Math.Seq.{take-add}
use Rattle.std.proofs.lemmas.List.{take_all, drop-drop}
use Rattle.nm_outside.specs.Told.{Appends, WrittenSoFar}

-- what is left of the rest behind a piece
rest_is :
    (n count : ℕ) (bytes rest : List ℕ) → rest ≡ drop n bytes
    → take (length rest - count) (drop count rest) ≡ drop (n + count) bytes
rest_is n count bytes rest h =
    take_all _ _ (omega (arith, length-drop count rest)) ∙ ap (drop count) h
    ∙ drop-drop count n bytes

-- a further piece is written
pub more_written :
    (old mid new : Option (List ℕ)) (bytes rest : List ℕ) (count : ℕ)
    → WrittenSoFar old mid bytes rest → count ≤ length rest → Appends mid new (take count rest)
    → WrittenSoFar old new bytes (take (length rest - count) (drop count rest))
more_written (Some o) mid new bytes rest count w within piece =
    let fits : w.0 + count ≤ length bytes = omega (arith, length-drop w.0 bytes, ap length w.2) in
    let text : take count rest ≡ take count (drop w.0 bytes) = ap (take count) w.2 in
    let now : new ≡ Some ((o ++ take w.0 bytes) ++ take count rest) = rw w.3 at piece in
    let whole : (o ++ take w.0 bytes) ++ take count rest ≡ o ++ take (w.0 + count) bytes =
    rw (text, take-add) (append_assoc o (take w.0 bytes) (take count (drop w.0 bytes))) in
    (w.0 + count, fits, rest_is w.0 count bytes rest w.2, now ∙ ap Some whole)
more_written None mid new bytes rest count w within piece =
    let fits : w.0 + count ≤ length bytes = omega (arith, length-drop w.0 bytes, ap length w.2) in
    (w.0 + count, fits, rest_is w.0 count bytes rest w.2, tt)
