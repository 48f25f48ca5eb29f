use Rattle.nm_check.specs.declared.firsts.Part.TheVariants.{Arrivals, Bodies, Outs, Withdrawals, Answers}
use Rattle.nm_check.proofs.firsts.marks_at.Goals as goal

pub returns : goal.returns
returns c Arrivals = c.first_places.ensures
returns c Bodies = c.first_places-2.ensures
returns c Outs = c.first_places-3.ensures
returns c Withdrawals = c.first_places-4.ensures
returns c Answers = c.first_places-5.ensures
