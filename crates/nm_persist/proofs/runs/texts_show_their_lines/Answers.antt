-- The law is a lemma.
use Rattle.nm_persist.proofs.Shown.{text_shown}
use Rattle.nm_persist.proofs.runs.texts_show_their_lines.Goals as goal

pub returns : goal.returns
returns c = text_shown
