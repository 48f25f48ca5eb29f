-- One account more.
use Rattle.std.proofs.Common.{◌≡◌, ◌∙◌, ◌∷◌, [], List, ap}
use Rattle.std.proofs.lemmas.List.{map-append}
use Rattle.std.specs.Vec.Iter.{into_iter_items}
use Rattle.nm_history.specs.Recorded.{Recorded}
use Rattle.nm_report.specs.declared.accounts.RankAccount.{RankAccount}
use Rattle.nm_report.specs.Ends.{ends_of}
use Rattle.nm_world.specs.Records.{end_by}
use Rattle.nm_world.proofs.Accounts.{map_next}
use Rattle.nm_world.proofs.records.accounts_of.Goals as goal

pub loop-end-preserved : goal.loop-end-preserved
loop-end-preserved c =
    let end = c.in-Some.end in
    let xs = into_iter_items c.loop-end.end-iterator in
    let rest = into_iter_items c.next.new.self in
    let split : xs ≡ end ∷ rest = c.in-Some.ensures.steps.0 in
    let one : RankAccount = record { history = end.history; at = end.at; waits = end.waits } in
    record {
      told = map_next (end_by (λ (h : Recorded). h.events)) (ends_of c.loop-end.ranks) (ends_of c.push.new.self) xs
          rest end _ split
          (ap (λ (rs : List RankAccount). ends_of rs) c.in_ok-push.ensures.ok ∙ map-append _ c.loop-end.ranks
          (one ∷ []))
          c.loop-end.invariant.told;
    }
