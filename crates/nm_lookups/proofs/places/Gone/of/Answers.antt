use Rattle.nm_lookups.proofs.places.Gone.of.Goals as goal

pub returns : goal.returns
returns c = record {
  sends = c.in_ok-sends.ensures;
  asked = c.in_ok-asked.ensures;
  outs = c.in_ok-outs.ensures;
}
