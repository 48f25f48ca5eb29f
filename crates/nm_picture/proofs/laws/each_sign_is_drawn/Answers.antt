-- Each clause is a lemma.
use Rattle.nm_picture.proofs.SheetLemmas.{covers-stand, signs-drawn, strokes-stand}
use Rattle.nm_picture.proofs.laws.each_sign_is_drawn.Goals as goal

pub returns-clause-drawn : goal.returns-clause-drawn
returns-clause-drawn c = signs-drawn

pub returns-clause-strokes : goal.returns-clause-strokes
returns-clause-strokes c = strokes-stand

pub returns-clause-shown : goal.returns-clause-shown
returns-clause-shown c = covers-stand
