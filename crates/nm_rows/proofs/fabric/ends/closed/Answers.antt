use Rattle.std.proofs.Common.{rules, length, ap, ◌∙◌}
use Rattle.std.proofs.lemmas.List.{length-map}
use Rattle.nm_cells.specs.Ports.{knows}
use Rattle.nm_rows.proofs.fabric.ends.closed.Goals as goal

pub returns : goal.returns
returns c = ap length c.close.ensures.entries ∙ length-map _ knows ∙ search rules
