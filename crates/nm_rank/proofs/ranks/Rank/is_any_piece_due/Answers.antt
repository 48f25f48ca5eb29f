-- What the receiving side says of the rank's own history.
use Rattle.std.proofs.Common.{◌<◌, ◌≤◌, ap, sym, subst, length, arith}
use Rattle.nm_history.specs.Pieces.{due_pieces}
use Rattle.nm_receiving.specs.Receipts.{drawn_from}
use Rattle.nm_rank.specs.Ranks.{RankView}
use Rattle.nm_rank.proofs.ranks.Rank.is_any_piece_due.Goals as goal

pub returns-clause-none : goal.returns-clause-none
returns-clause-none g c none from within =
    let a = c.self.inside in
    let is = c.is_any_due.ensures a.journal.events c.self.invariant.history.received in
    let inside : from < a.receiving.sizes.ranks = omega (
      arith,
      within,
      ap (λ s. s.ranks) c.self.invariant.peers.shape,
      ap (λ (v : RankView). v.sizes.ranks) c.self.view_is,
    ) in
    subst (λ (v : RankView). length (due_pieces v.events from) ≤ drawn_from v.receiving from) c.self.view_is
    (is.0 none from inside)

pub returns-clause-some : goal.returns-clause-some
returns-clause-some g c all =
    let a = c.self.inside in
    let is = c.is_any_due.ensures a.journal.events c.self.invariant.history.received in
    is.1 (λ from within.
    let inside : from < c.args.self.now.sizes.ranks = omega (
      arith,
      within,
      ap (λ s. s.ranks) c.self.invariant.peers.shape,
      ap (λ (v : RankView). v.sizes.ranks) c.self.view_is,
    ) in
    subst (λ (v : RankView). length (due_pieces v.events from) ≤ drawn_from v.receiving from)
    (sym c.self.view_is) (all from inside))
