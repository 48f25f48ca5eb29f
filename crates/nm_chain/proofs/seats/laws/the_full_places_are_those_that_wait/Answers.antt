use Rattle.nm_chain.proofs.TotalLemmas.{full_places}
use Rattle.nm_chain.proofs.seats.laws.the_full_places_are_those_that_wait.Goals as goal

pub returns : goal.returns
returns g c = λ B none mark flag slot filling emptying put got waits some marked h.
    full_places B none mark g.F.Fits.fits some marked flag slot put got waits filling emptying h
