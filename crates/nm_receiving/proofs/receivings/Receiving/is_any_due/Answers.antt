use Rattle.std.proofs.Common.{◌≡◌, ◌<◌, ◌≤◌, ◌↔◌, ℕ, false, List, length, subst, arith}
use Rattle.nm_history.specs.declared.events.Event.{Event}
use Rattle.nm_history.specs.Pieces.{due_pieces}
use Rattle.nm_receiving.specs.Receipts.{ReceivingView, drawn_from, granted_to}
use Rattle.nm_receiving.specs.Received.{AreReceived}
use Rattle.nm_receiving.specs.Seen.{seen}
use Rattle.nm_receiving.proofs.Answering.{none_due}
use Rattle.nm_receiving.proofs.receivings.Receiving.is_any_due.Goals as goal

pub returns : goal.returns
returns c =
    let v = seen c.self.inside in
    let rows = c.self.invariant.tables.grants in
    subst (λ (v : ReceivingView). (h : List Event) → AreReceived v h →
    (c.is_any_due.result ≡ false) ↔ ((from : ℕ) → from < v.sizes.ranks → length (due_pieces h from) ≤ drawn_from v from))
    c.self.view_is
    (λ h received. (
      λ none from within. let each = none_due (granted_to v from) h from (drawn_from v from) (received.due from) in
          each.0 (c.is_any_due.ensures.0 none from (omega (arith, within, rows))),
      λ past. c.is_any_due.ensures.1 (λ from within.
          let each = none_due (granted_to v from) h from (drawn_from v from) (received.due from) in
          each.1 (past from (omega (arith, within, rows)))),
    ))
