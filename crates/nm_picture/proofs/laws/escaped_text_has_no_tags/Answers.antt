-- Byte by byte.
use Rattle.nm_picture.proofs.EscapeLemmas.{escaped-plain}
use Rattle.nm_picture.proofs.laws.escaped_text_has_no_tags.Goals as goal

pub returns : goal.returns
returns c = escaped-plain
