-- The law is a lemma.
use Rattle.nm_diagram.proofs.ShapeLemmas.{labels-are}
use Rattle.nm_diagram.proofs.laws.each_event_has_one_label.Goals as goal

pub returns : goal.returns
returns c span rank account = labels-are span rank account.history.events
