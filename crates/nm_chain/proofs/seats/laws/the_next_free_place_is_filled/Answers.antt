use Rattle.nm_chain.proofs.WindowLemmas.{room_where_free, producer_fills}
use Rattle.nm_chain.proofs.seats.laws.the_next_free_place_is_filled.Goals as goal

pub returns-clause-room : goal.returns-clause-room
returns-clause-room g c =
    λ B none mark flag slot filling emptying put got waits some marked h zeroed.
    room_where_free B none mark g.F.Fits.fits some marked flag slot put got waits filling emptying h zeroed

pub returns-clause-filled : goal.returns-clause-filled
returns-clause-filled g c =
    λ B none y mark flag flag' slot slot' emptying put got waits some marked fit h ef es.
    producer_fills B none mark g.F.Fits.fits some marked flag slot put got waits emptying h y fit flag' slot'
    ef.0 es.0 ef.1 es.1
