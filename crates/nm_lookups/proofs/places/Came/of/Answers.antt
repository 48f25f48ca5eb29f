use Rattle.nm_lookups.proofs.places.Came.of.Goals as goal

pub returns : goal.returns
returns c = record {
  arrivals = c.in_ok-arrivals.ensures;
  askings = c.in_ok-askings.ensures;
  wholes = c.in_ok-wholes.ensures;
}
