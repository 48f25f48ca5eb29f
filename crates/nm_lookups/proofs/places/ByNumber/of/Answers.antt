use Rattle.nm_lookups.proofs.places.ByNumber.of.Goals as goal

pub returns : goal.returns
returns c = record {
  cancels = c.in_ok-cancels.ensures;
  starts = c.in_ok-starts.ensures;
  claims = c.in_ok-claims.ensures;
}
