-- Nothing stands against an event of another kind.
use Rattle.std.proofs.Common.{◌≡◌, ℕ, Bool, None, List, refl}
use Rattle.nm_history.specs.declared.events.Event.{Event}
use Rattle.nm_history.specs.declared.events.Happened.{Happened}
use Rattle.nm_history.specs.declared.events.Happened.TheVariants.{Whole, Out, Cancel, Recall, Withdraw, Undone, Match}
use Rattle.nm_check_rank.specs.Objections.{cancel_objection, end_objection, match_objection, whole_objection}

pub no_whole : (before : List Event) (what : Happened) → ((from n : ℕ) → what ≡ Whole from n → ⊥) →
    None ≡ whole_objection before what
no_whole before (Whole from n) not = absurd (not from n refl)
no_whole before what not = refl

pub no_end : (before : List Event) (what : Happened) → ((from n : ℕ) (done : Bool) → what ≡ Withdraw from n done → ⊥) →
    ((to n : ℕ) → what ≡ Out to n → ⊥) → ((to n : ℕ) (done : Bool) → what ≡ Undone to n done → ⊥) →
    None ≡ end_objection before what
no_end before (Withdraw from n done) w o u = absurd (w from n done refl)
no_end before (Out to n) w o u = absurd (o to n refl)
no_end before (Undone to n done) w o u = absurd (u to n done refl)
no_end before what w o u = refl

pub no_cancel : (before : List Event) (what : Happened) → ((number : ℕ) (done : Bool) → what ≡ Cancel number done → ⊥) →
    ((to n : ℕ) → what ≡ Recall to n → ⊥) → None ≡ cancel_objection before what
no_cancel before (Cancel number done) c r = absurd (c number done refl)
no_cancel before (Recall to n) c r = absurd (r to n refl)
no_cancel before what c r = refl

pub no_receive : (before : List Event) (what : Happened) →
    ((number from n cap line : ℕ) → what ≡ Match number from n cap line → ⊥) → None ≡ match_objection before what
no_receive before (Match number from n cap line) not = absurd (not number from n cap line refl)
no_receive before what not = refl
