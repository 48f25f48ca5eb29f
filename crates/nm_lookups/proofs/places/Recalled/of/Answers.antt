use Rattle.nm_lookups.proofs.places.Recalled.of.Goals as goal

pub returns : goal.returns
returns c = record {
  recalls = c.in_ok-recalls.ensures;
  undone = c.in_ok-undone.ensures;
  late = c.in_ok-late.ensures;
}
