-- What is known of a rank by its packets agrees with the history of the rank that took them.
use Rattle.std.specs.Prelude.{◌≡◌, ℕ, ◌==◌, Bool, true, false, ◌||◌, List, length}
use Rattle.nm_history.specs.declared.events.Event.{Event}
use Rattle.nm_history.specs.declared.events.Happened.{Happened}
use Rattle.nm_history.specs.declared.events.Happened.TheVariants.{Arrive, Withdraw, Undone}
use Rattle.nm_history.specs.Sends.{arrivals}
use Rattle.nm_history.specs.Happens.{happened, is_withdraw, is_undone}
use Rattle.nm_history.specs.Known.{Known}
use Rattle.nm_history.specs.Continues.{has}

-- the event comes of a packet of this rank
abbrev pub tells : ℕ → Happened → Bool
tells from (Arrive a) = a.env.from == from
tells from (Withdraw from' n done) = from' == from
tells from (Undone to n done) = to == from
tells from _ = false

-- as many messages arrived as are known, and those were withdrawn and those recalls answered
pub record Agrees (from : ℕ) (h : List Event) (known : Known) : Type 0 where
  pub count : known.count ≡ length (arrivals h from)
  pub withdrawn :
      (n : ℕ) →
      has known.withdrawn n
      ≡ (happened (is_withdraw from n true) h || happened (is_withdraw from n false) h)
  pub answered :
      (n : ℕ) →
      has known.answered n
      ≡ (happened (is_undone from n true) h || happened (is_undone from n false) h)
  pub undone : (n : ℕ) → has known.undone n ≡ happened (is_undone from n true) h
