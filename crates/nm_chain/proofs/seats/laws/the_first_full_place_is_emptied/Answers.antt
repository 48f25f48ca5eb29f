use Rattle.std.proofs.Common.{◌∷◌, refl}
use Rattle.nm_chain.proofs.WindowLemmas.{first_where_marked, consumer_empties}
use Rattle.nm_chain.proofs.seats.laws.the_first_full_place_is_emptied.Goals as goal

pub returns-clause-found : goal.returns-clause-found
returns-clause-found g c =
    λ B none mark flag slot filling emptying put got waits some marked h found.
    let f = first_where_marked B none mark g.F.Fits.fits some marked flag slot put got waits filling emptying
    h found waits refl in
    (f.0, f.1, f.2, f.3, f.4)

pub returns-clause-emptied : goal.returns-clause-emptied
returns-clause-emptied g c =
    λ B none y mark flag flag' slot slot' filling put got ys some marked h ef es.
    consumer_empties B none mark g.F.Fits.fits some marked flag slot put got
    (y ∷ ys) filling y ys h refl flag' slot' ef.0 es.0 ef.1 es.1
