use Rattle.nm_rndv.proofs.PieceLemmas.{concat-pieces_of, slice_get-pieces_of}
use Rattle.nm_rndv.proofs.laws.pieces_make_the_body.Goals as goal

pub returns-clause-joined : goal.returns-clause-joined
returns-clause-joined c = concat-pieces_of

pub returns-clause-places : goal.returns-clause-places
returns-clause-places c = slice_get-pieces_of
