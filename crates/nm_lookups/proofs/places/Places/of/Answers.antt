use Rattle.nm_lookups.proofs.places.Places.of.Goals as goal

pub returns : goal.returns
returns c = record {
  incoming = c.in_ok-incoming.ensures;
  outgoing = c.in_ok-outgoing.ensures;
  by_number = c.in_ok-by_number.ensures;
}
