-- The moves lead to the end of a run that is sought.
use Rattle.nm_why_top.proofs.SeekLemmas.{way_sought}
use Rattle.nm_why_top.proofs.seeking.way_to.Goals as goal

pub returns : goal.returns
returns c = λ sought shape lines made back at.
    way_sought sought shape lines c.args.search.now c.args.state c.in_ok-path.path.items made at
    (c.in_ok-path.ensures shape.eager shape.ranks lines back at.0 at.1)
