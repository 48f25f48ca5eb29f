use Rattle.nm_lookups.proofs.places.Outgoing.of.Goals as goal

pub returns : goal.returns
returns c = record {
  gone = c.in_ok-gone.ensures;
  recalled = c.in_ok-recalled.ensures;
}
