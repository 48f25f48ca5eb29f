use Rattle.std.proofs.Common.{None, ◌∙◌}
use Rattle.nm_kept.proofs.EntryLemmas.{insert_new}
use Rattle.nm_sending.proofs.recalls.note.Goals as goal

pub returns : goal.returns
returns c = c.in-Ok.ensures.entries ∙ insert_new c.args.n None c.args.map.now.entries c.requires.is_new
