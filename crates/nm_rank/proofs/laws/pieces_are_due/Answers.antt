-- What the receiving side says of the rank's own history.
use Rattle.std.proofs.Common.{◌≡◌, ℕ, ◌↔◌, Bool, true, nat_lt, length, subst}
use Rattle.nm_history.specs.Pieces.{due_pieces}
use Rattle.nm_receiving.specs.Receipts.{drawn_from}
use Rattle.nm_receiving.specs.Received.{IsOwed}
use Rattle.nm_rank.specs.Ranks.{RankView}
use Rattle.nm_rank.proofs.laws.pieces_are_due.Goals as goal

pub returns : goal.returns
returns g c =
    let a = c.rank.inside in
    let from = c.args.from in
    let received = c.rank.invariant.history.received in
    record {
      owed = subst (λ (v : RankView). (nat_lt (drawn_from v.receiving from) (length (due_pieces v.events from)) ≡ true)
          ↔ ((n : ℕ) × IsOwed v.events from n)) c.rank.view_is
          (subst (λ (b : Bool). (b ≡ true) ↔ ((n : ℕ) × IsOwed a.journal.events from n))
          (c.is_due.ensures.value a.journal.events received) (c.is_due.ensures.owed a.journal.events received));
    }
