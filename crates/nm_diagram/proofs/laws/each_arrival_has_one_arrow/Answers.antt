-- The send is found, and what is no arrival has no arrow.
use Rattle.nm_diagram.proofs.ArrowLemmas.{no_arrow_at}
use Rattle.nm_diagram.proofs.RunLemmas.{arrow_made}
use Rattle.nm_diagram.proofs.ShapeLemmas.{sent_by-found}
use Rattle.nm_diagram.proofs.laws.each_arrival_has_one_arrow.Goals as goal

pub returns-clause-arrival : goal.returns-clause-arrival
returns-clause-arrival c span rank stamp sent ranks sender a shown few got rise found =
    arrow_made span rank stamp sent ranks a shown
    (sent_by-found span a.env.from rank a.n sent ranks sender few got rise found)

pub returns-clause-other : goal.returns-clause-other
returns-clause-other c = no_arrow_at
