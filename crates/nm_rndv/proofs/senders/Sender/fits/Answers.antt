use Rattle.std.proofs.Common.{◌≡◌, ◌↔◌, length, subst, true}
use Rattle.nm_rndv.specs.Grants.{came}
use Rattle.nm_rndv.specs.Pieces.{piece_size}
use Rattle.nm_rndv.proofs.GrantLemmas.{next_by, none_next}
use Rattle.nm_rndv.proofs.senders.Sender.fits.Goals as goal

pub came-requires : goal.came-requires
came-requires c = c.in-Some.ensures.unfinished

pub due-requires : goal.due-requires
due-requires c = c.in-Some.ensures.unfinished

pub returns-in-Some : goal.returns-in-Some
returns-in-Some c =
    let p = c.args.p.now in
    let n = c.in-Some.n in
    let g = c.in-Some.grant.now in
    let fits = c.is_next.result ≡ true in
    let at = subst (λ k. fits ↔ (n ≡ p.n) × (k ≡ p.at) × (length p.bytes ≡ piece_size c.due.result)) c.came.ensures
    c.is_next.ensures in
    let is = subst (λ k. fits ↔ (n ≡ p.n) × (came g ≡ p.at) × (length p.bytes ≡ piece_size k)) c.due.ensures at in
    let by = next_by c.args.self.now.grants (n, g) p.n p.at (length p.bytes) c.in-Some.ensures.first in
    (λ yes. by.0 (is.0 yes), λ goes. is.1 (by.1 goes))

pub returns-in-None : goal.returns-in-None
returns-in-None c =
    let p = c.args.p.now in
    none_next c.args.self.now.grants p.n p.at (length p.bytes) c.in-None.ensures.first
