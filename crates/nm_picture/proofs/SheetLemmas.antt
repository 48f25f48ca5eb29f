-- The sheet draws every sign, and hides none.
use Rattle.std.proofs.Common.{◌≡◌, true, refl}
use Rattle.nm_diagram.specs.Signs.{all_signs}
use Rattle.nm_picture.specs.Sheet.{all_stand, are_drawn, covers, none_stands, sheet_text, strokes}

pub signs-drawn : are_drawn all_signs ≡ true
unfolding sheet_text
signs-drawn = refl

pub strokes-stand : all_stand strokes ≡ true
unfolding sheet_text
strokes-stand = refl

pub covers-stand : none_stands covers ≡ true
unfolding sheet_text
covers-stand = refl
