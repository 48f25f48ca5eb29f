-- One rank more.
use Rattle.std.specs.Vec.Iter.{into_iter_items}
use Rattle.nm_programs.proofs.SoFar.{one_more}
use Rattle.nm_noted.specs.Recent.{IsKeptOf, recent_end}
use Rattle.nm_noted.proofs.accounts.accounts_of.Goals as goal

pub loop-rank-preserved : goal.loop-rank-preserved
loop-rank-preserved c =
    one_more (λ rank account. IsKeptOf (recent_end rank) account) c.args.ranks.items
    (into_iter_items c.loop-rank.rank-iterator) (into_iter_items c.next.new.self) c.loop-rank.accounts c.push.new.self
    c.in-Some.rank c.in_ok-account.account c.in-Some.ensures.steps.0 c.in_ok-push.ensures.ok c.loop-rank.invariant
    c.in_ok-account.ensures
