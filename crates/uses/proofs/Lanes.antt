-- The beginnings of lists of bytes.
use Rattle.std.proofs.Common.{◌≡◌, ℕ, List, [], ◌∷◌, ◌++◌, take, drop, ap, sym, ◌∙◌}
use Rattle.std.specs.Prelude.{Bool, true, false, if◌then◌else◌}
use Rattle.std.proofs.Common.{append-nil}
use Rattle.std.proofs.lemmas.List.{take-append-drop}
use Rattle.std.proofs.lemmas.Grind.{flat_map-append}
use Rattle.nm_types.specs.declared.packets.Piece.{Piece}
use Rattle.uses.specs.Fronts.{IsFront, bytes_in}

-- of pieces that are a front of others, the bytes are
pub bytes_front : (all some left : List Piece) → all ≡ some ++ left →
    IsFront (bytes_in some) (bytes_in all)
bytes_front all some left is = record {
  rest = bytes_in left;
  whole_is = ap bytes_in is ∙ flat_map-append (λ (x : Piece). x.bytes) some left;
}

-- the first k of a list are a front of it
pub take_front : (k : ℕ) (whole : List ℕ) → IsFront (take k whole) whole
take_front k whole = record { rest = drop k whole; whole_is = sym (take-append-drop k whole) }

-- where no byte went, the bytes are those before
pub none_more : (went : Bool) (before after : List ℕ) (byte : ℕ) → went ≡ false →
    after ≡ before ++ (if went then byte ∷ [] else []) → after ≡ before
none_more false before after byte isnt is = is ∙ append-nil before
none_more true before after byte isnt is = cc
