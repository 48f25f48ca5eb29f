use Rattle.std.proofs.Common.{◌≡◌, ◌<◌, ℕ, false, sym, ◌∙◌, subst, rules}
use Rattle.std.proofs.Math.Arith.{lt_of_le-ne}
use Rattle.std.proofs.lemmas.Bool.{false≢true}
use Rattle.nm_history.specs.Continues.{WORN_STAMP}
use Rattle.nm_request.specs.declared.TheConstants.{MAX_REQUESTS}
use Rattle.nm_sending.specs.declared.TheConstants.{MAX_MESSAGES}
use Rattle.nm_rank.specs.Ranks.{RankView, IsFresh}
use Rattle.nm_rank.proofs.Goes.{length-sent}
use Rattle.nm_rank.proofs.ranks.Rank.is_worn.Goals.{then-clock-ge-WORN, else-clock-ge-WORN}
use Rattle.nm_rank.proofs.ranks.Rank.is_worn.Goals as goal

pub returns-else-is_worn : goal.returns-else-is_worn
returns-else-is_worn g c = elim c.if-clock-ge-WORN.branch [
  | then-clock-ge-WORN w ↦ search (rules, w.value-is, c.if-is_worn.false, w.if-clock-ge-WORN.true)
  | else-clock-ge-WORN w ↦
      let a = c.self.inside in
      let sent = length-sent a.sending a.journal.events c.self.invariant.history.sent in
      let none : w.is_worn.result ≡ false = sym w.value-is ∙ c.if-is_worn.false in
      let early : a.journal.clock < WORN_STAMP = subst (λ (k : ℕ). k < WORN_STAMP) c.clock.ensures.value
      w.if-clock-ge-WORN.false in
      let few : a.requests.added < MAX_REQUESTS = lt_of_le-ne w.is_worn.ensures.limit
      (λ e. false≢true (sym none ∙ w.is_worn.ensures.value.1 e)) in
      subst (λ (v : RankView). (c.is_worn-else-is_worn.result ≡ false → IsFresh v)
      × (IsFresh v → c.is_worn-else-is_worn.result ≡ false)) c.self.view_is (
        λ e. record {
          clock = early;
          requests = few;
          messages = λ to within. (let m = c.is_worn-else-is_worn.ensures.0 e to
              (subst (λ (k : ℕ). to < k) (sym c.self.invariant.peers.to) within) in
              (subst (λ (k : ℕ). k < MAX_MESSAGES) (sent to) m.0, m.1));
        },
        λ f. c.is_worn-else-is_worn.ensures.1 (λ to within. (let m = f.messages to
            (subst (λ (k : ℕ). to < k) c.self.invariant.peers.to within) in
            (subst (λ (k : ℕ). k < MAX_MESSAGES) (sym (sent to)) m.0, m.1))),
      )
]
