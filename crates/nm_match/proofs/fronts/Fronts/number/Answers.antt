-- The value at the place of a key.
use Rattle.nm_match.proofs.PlaceLemmas.{found_at}
use Rattle.nm_match.proofs.fronts.Fronts.number.Goals as goal

pub returns : goal.returns
returns c = λ key other found.
    rw other (found_at c.args.self.now.map key c.args.place c.index.result.now found c.index.ensures)
