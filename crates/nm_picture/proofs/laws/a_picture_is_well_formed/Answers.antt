-- Piece by piece.
use Rattle.std.proofs.Common.{sym, subst}
use Rattle.nm_picture.specs.WellFormed.{IsWellFormed}
use Rattle.nm_picture.proofs.WellFormedLemmas.{flagged-well_formed, picture-well_formed}
use Rattle.nm_picture.proofs.laws.a_picture_is_well_formed.Goals as goal

pub returns-clause-plain : goal.returns-clause-plain
returns-clause-plain c part run text picture =
    subst IsWellFormed (sym picture.drawn) (picture-well_formed picture.frame run.ranks)

pub returns-clause-flagged : goal.returns-clause-flagged
returns-clause-flagged c part flag run text picture =
    subst IsWellFormed (sym picture.drawn) (flagged-well_formed picture.frame run.ranks flag)
