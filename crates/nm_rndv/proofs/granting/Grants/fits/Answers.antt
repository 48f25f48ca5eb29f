use Rattle.std.proofs.Common.{◌≡◌, ◌↔◌, ℕ, List, Some, length, subst}
use Rattle.std.specs.Prelude.{IsTrue}
use Rattle.nm_rndv.specs.Grants.{Granted, due_in, expected_in}
use Rattle.nm_rndv.specs.Pieces.{piece_size}
use Rattle.nm_rndv.proofs.SenderLemmas.{grants_there}
use Rattle.nm_rndv.proofs.granting.Grants.fits.Goals as goal

pub returns : goal.returns
returns c =
    let p = c.args.p.now in
    let there = grants_there c.self.inside.senders.items c.args.self.now p.from c.self.view_is c.requires
    c.index.result.now c.index.ensures in
    let is = subst (λ (grants : List (ℕ × Granted)). IsTrue c.fits.result
    ↔ (expected_in grants ≡ Some (p.n, p.at)) × (length p.bytes ≡ piece_size (due_in grants))) there c.fits.ensures in (
      λ fits. let both = is.0 fits in record { expected = both.0; size = both.1 },
      λ goes. is.1 (goes.expected, goes.size),
    )
