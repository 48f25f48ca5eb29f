-- Packets that a rank awaits.
use Rattle.std.proofs.Common.{◌≡◌, ℕ, Bool, true, false, ◌&&◌, ◌||◌, not, List, sym, ◌∙◌, ap}
use Rattle.nm_types.specs.declared.packets.What.TheVariants as what
use Rattle.nm_history.specs.declared.events.Event.{Event}
use Rattle.nm_history.specs.Agreement.{Agrees}
use Rattle.nm_history.specs.Continues.{has}
use Rattle.nm_history.specs.Delivery.{is_asked}
use Rattle.nm_history.specs.Happens.{happened, is_recall, is_undone}
use Rattle.nm_history.specs.Known.{Known}
use Rattle.nm_history.specs.Sends.{sends}
use Rattle.nm_receiving.specs.StreamViews.{is_awaited}
use Rattle.nm_sending.specs.Departures.{SendingView, cleared_to}

-- the clearance of a message that waits for it, by the history or by what is known
pub clearance_awaited : (v : SendingView) (h : List Event) (known : Known) (from n : ℕ) → Agrees from h known
    → known.cleared ≡ cleared_to v from
    → (is_asked (sends h from) n && not (has (cleared_to v from) n) && not (happened (is_undone from n true) h))
    ≡ is_awaited known h from (what.Clear n)
clearance_awaited v h known from n agrees cleared =
    ap (λ (l : List ℕ). is_asked (sends h from) n && not (has l n) && not (happened (is_undone from n true) h))
    (sym cleared)
    ∙ ap (λ (b : Bool). is_asked (sends h from) n && not (has known.cleared n) && not b) (sym (agrees.undone n))

-- the answer to a recall that has none
pub answer_awaited : (h : List Event) (known : Known) (from n : ℕ) → Agrees from h known
    → (happened (is_recall from n) h
    && not (happened (is_undone from n true) h || happened (is_undone from n false) h))
    ≡ (happened (is_recall from n) h && not (has known.answered n))
answer_awaited h known from n agrees =
    ap (λ (b : Bool). happened (is_recall from n) h && not b) (sym (agrees.answered n))
