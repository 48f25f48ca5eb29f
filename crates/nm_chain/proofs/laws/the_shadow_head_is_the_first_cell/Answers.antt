use Rattle.nm_chain.proofs.ChainLemmas.{head_cleared, first_cell}
use Rattle.nm_chain.proofs.laws.the_shadow_head_is_the_first_cell.Goals as goal

pub returns-clause-cleared : goal.returns-clause-cleared
returns-clause-cleared g c = λ place link q head tail shadow n chain h is.
    head_cleared g.F.Fits.before place link q head tail shadow chain h n is

pub returns-clause-first : goal.returns-clause-first
returns-clause-first g c = λ place link q head tail shadow n chain h is.
    first_cell g.F.Fits.before place link q head tail shadow chain h n is
