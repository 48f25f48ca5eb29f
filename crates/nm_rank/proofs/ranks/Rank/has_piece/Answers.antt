-- What its sending side tells of where the next piece goes.
use Rattle.std.proofs.Common.{◌≡◌, ℕ, ◌<◌, ◌↔◌, true, false, sym, subst, ◌∙◌}
use Rattle.std.specs.Prelude.{IfSome, IsSome, None, map}
use Rattle.nm_history.specs.Clearance.{pushed_out, to_push}
use Rattle.nm_rndv.specs.Offers.{AllOut, next_offered}
use Rattle.nm_rank.specs.Ranks.{RankView, known_from}
use Rattle.nm_rank.proofs.PieceLemmas.{all_left, is_none, isnt_some, none_goes, none_there, some_there}
use Rattle.nm_rank.proofs.ranks.Rank.has_piece.Goals as goal

pub returns-clause-some : goal.returns-clause-some
returns-clause-some g c =
    subst (λ (v : RankView). c.is_some.result ≡ true → IsSome (next_offered v.sending.offers)) c.self.view_is
    (λ is. some_there c.piece_to.result _ c.piece_to.ensures.to (sym c.is_some.ensures ∙ is))

pub returns-clause-none : goal.returns-clause-none
returns-clause-none g c =
    subst (λ (v : RankView). c.is_some.result ≡ false → next_offered v.sending.offers ≡ None) c.self.view_is
    (λ is. none_there c.piece_to.result _ c.piece_to.ensures.to (sym c.is_some.ensures ∙ is))

pub returns-clause-out : goal.returns-clause-out
returns-clause-out g c =
    let e = c.piece_to.ensures in
    subst (λ (v : RankView). (c.is_some.result ≡ false) ↔ AllOut v.sending.offers) c.self.view_is (
      λ is. e.none.0 (is_none c.piece_to.result (sym c.is_some.ensures ∙ is)),
      λ all. c.is_some.ensures ∙ isnt_some c.piece_to.result (e.none.1 all),
    )

pub returns-clause-left : goal.returns-clause-left
returns-clause-left g c =
    let a = c.self.inside in
    let known = map (λ s. s.known) a.streams.items in
    let sent = c.self.invariant.history.sent in
    let cleared = c.self.invariant.told.cleared in
    let o = c.piece_to.result in
    let e = c.piece_to.ensures in
    subst (λ (v : RankView). (c.is_some.result ≡ false) ↔ ((to : ℕ) → to < v.sizes.ranks →
    pushed_out v.events to ≡ to_push v.events (known_from v.known to) to)) c.self.view_is (
      λ is. all_left a.sending a.journal.events a.shape.ranks known sent cleared
          (e.none.0 (is_none o (sym c.is_some.ensures ∙ is))),
      λ all. c.is_some.ensures ∙ none_goes a.sending a.journal.events a.shape.ranks known sent cleared all o e.to
          (subst (λ (k : ℕ). IfSome o (λ to. to < k)) c.self.invariant.peers.to e.in_range),
    )
