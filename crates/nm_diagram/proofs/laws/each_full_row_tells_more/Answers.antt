-- The law is a lemma.
use Rattle.nm_diagram.proofs.RowLemmas.{full-rows}
use Rattle.nm_diagram.proofs.laws.each_full_row_tells_more.Goals as goal

pub returns : goal.returns
returns c = full-rows
