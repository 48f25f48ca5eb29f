use Rattle.nm_lookups.proofs.places.Settled.of.Goals as goal

pub returns : goal.returns
returns c = record {
  withdrawn = c.in_ok-withdrawn.ensures;
  refused = c.in_ok-refused.ensures;
  claims = c.in_ok-claims.ensures;
}
