use Rattle.nm_chain.proofs.ChainLemmas.{head_stored, link_stored}
use Rattle.nm_chain.proofs.laws.a_pending_enqueue_is_finished.Goals as goal

pub returns-clause-head : goal.returns-clause-head
returns-clause-head g c = λ place link q head tail shadow r n chain h at.
    head_stored g.F.Fits.before place link q head tail shadow chain h r n at

pub returns-clause-link : goal.returns-clause-link
returns-clause-link g c = λ place link q head tail shadow r n p chain h at.
    link_stored g.F.Fits.before place link q head tail shadow chain h r n p at
