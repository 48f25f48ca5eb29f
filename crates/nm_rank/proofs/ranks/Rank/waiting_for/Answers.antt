use Rattle.std.proofs.Common.{ℕ, ◌<◌, subst}
use Rattle.std.specs.List.{AllByRecursion}
use Rattle.nm_rank.specs.Ranks.{RankView}
use Rattle.nm_rank.proofs.ranks.Rank.waiting_for.Goals as goal

pub returns-clause-in_range : goal.returns-clause-in_range
returns-clause-in_range g c =
    let a = c.self.inside in
    subst (λ (v : RankView). AllByRecursion (λ l. l.to < v.sizes.ranks) v.sending.outbox.letters) c.self.view_is
    (subst (λ (k : ℕ). AllByRecursion (λ l. l.to < k) a.sending.outbox.letters) c.self.invariant.peers.to
    c.waiting_for.ensures.in_range)
