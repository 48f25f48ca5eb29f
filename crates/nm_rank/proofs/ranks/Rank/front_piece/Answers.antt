use Rattle.std.proofs.Common.{◌≡◌, ℕ, ◌<◌, ◌↔◌, subst}
use Rattle.std.specs.Prelude.{IfSome, IsNone, map}
use Rattle.nm_history.specs.Clearance.{pushed_out, to_push}
use Rattle.nm_rank.specs.Ranks.{RankView, known_from}
use Rattle.nm_rank.proofs.PieceLemmas.{all_left, none_next}
use Rattle.nm_rank.proofs.ranks.Rank.front_piece.Goals as goal

pub returns-clause-left : goal.returns-clause-left
returns-clause-left g c =
    let a = c.self.inside in
    let known = map (λ s. s.known) a.streams.items in
    let sent = c.self.invariant.history.sent in
    let cleared = c.self.invariant.told.cleared in
    subst (λ (v : RankView). IsNone c.next_piece.result ↔ ((to : ℕ) → to < v.sizes.ranks →
    pushed_out v.events to ≡ to_push v.events (known_from v.known to) to)) c.self.view_is (
      λ none. all_left a.sending a.journal.events a.shape.ranks known sent cleared
          (c.next_piece.ensures.none.0 none),
      λ all. none_next a.sending a.journal.events a.shape.ranks known sent cleared all c.next_piece.result
          c.next_piece.new.into c.next_piece.ensures.next
          (subst (λ (k : ℕ). IfSome c.next_piece.result (λ to. to < k)) c.self.invariant.peers.to
          c.next_piece.ensures.to),
    )
