use Rattle.nm_verdict.proofs.texts.found_against.Goals as goal

pub returns-in-Judged : goal.returns-in-Judged
returns-in-Judged c = rw c.in-Judged.is (rw c.as_slice.ensures at c.against_text.ensures)
