-- What a source has lost while it was read, and what is left.
use Rattle.std.proofs.Common.{◌≡◌, ℕ, ◌+◌, ◌≤◌, List, ◌++◌, length, take, drop, Option, Some, None, ap, sym, ◌∙◌}
use Rattle.std.specs.Option.{IfSome}
use Rattle.std.proofs.lemmas.List.{append_cancel_left, take-append-drop}
use Rattle.std.proofs.Math.Seq.{drop-append_seam, drop-append-add}
use Rattle.nm_outside.specs.Told.{Moves, ReadSoFar, Stays, LosesAtMost}

-- what was read is lost, and a failed read loses no more
pub loses_read :
    (limit : ℕ) (old mid new : Option (List ℕ)) (read : List ℕ)
    → ReadSoFar old mid read → Stays mid new → length read ≤ limit
    → LosesAtMost limit old new
loses_read limit (Some all) mid new read w stays within =
    let left : Stays (Some w.0) new = rw w.1 at stays in
    let rest : drop (length read) all ≡ w.0 =
    ap (drop (length read)) w.2 ∙ drop-append_seam read w.0 in
    (length read, within, left ∙ ap Some (sym rest))
loses_read limit None mid new read w stays within = tt

-- what was read is lost, and what one more read moved
pub loses_piece :
    (limit n : ℕ) (old mid new : Option (List ℕ)) (read buffer : List ℕ)
    → ReadSoFar old mid read → Moves mid new buffer n → length read + n ≤ limit
    → LosesAtMost limit old new
loses_piece limit n (Some all) mid new read buffer w moved within =
    let piece : Moves (Some w.0) new buffer n = rw w.1 at moved in
    let rest : drop (length read + n) all ≡ drop n w.0 =
    ap (drop (length read + n)) w.2 ∙ drop-append-add read w.0 n in
    (length read + n, within, piece.2 ∙ ap Some (sym rest))
loses_piece limit n None mid new read buffer w moved within = tt

-- what is left of a source that was read to its end or to a limit
pub left_at :
    (limit : ℕ) (input left : Option (List ℕ)) (read : List ℕ)
    → IfSome input (λ bytes. read ≡ take limit bytes) → ReadSoFar input left read
    → IfSome input (λ bytes. left ≡ Some (drop limit bytes))
left_at limit None left read is so_far = tt
left_at limit (Some bytes) left read is (rest, left_is, whole) =
    let halves = sym whole ∙ sym (take-append-drop limit bytes) in
    let same : take limit bytes ++ rest ≡ take limit bytes ++ drop limit bytes =
    ap (λ xs. xs ++ rest) (sym is) ∙ halves in
    left_is ∙ ap Some (append_cancel_left (take limit bytes) rest (drop limit bytes) same)
