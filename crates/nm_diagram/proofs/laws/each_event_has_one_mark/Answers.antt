-- Each clause is a lemma.
use Rattle.nm_diagram.proofs.ShapeLemmas.{all_marks-count, marks-are, marks-rise}
use Rattle.nm_diagram.proofs.laws.each_event_has_one_mark.Goals as goal

pub returns-clause-lane : goal.returns-clause-lane
returns-clause-lane c span rank account = marks-are span rank account.history.events

pub returns-clause-count : goal.returns-clause-count
returns-clause-count c = all_marks-count

pub returns-clause-rise : goal.returns-clause-rise
returns-clause-rise c span rank account rise = marks-rise span rank 0 account.history.events rise
