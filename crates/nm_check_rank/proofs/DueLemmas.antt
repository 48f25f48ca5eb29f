-- Something is called for at a wrong number.
use Rattle.std.proofs.Common.{◌≡◌, ℕ, Bool, true, false, cond, Some, None, List, refl}
use Rattle.std.specs.Prelude.{is_some, nat_lt}
use Rattle.nm_history.specs.declared.events.Event.{Event}
use Rattle.nm_history.specs.declared.events.Happened.{Happened}
use Rattle.nm_history.specs.declared.events.Happened.TheVariants as what
use Rattle.nm_history.specs.RankRun.{NumberAt}
use Rattle.nm_check_rank.specs.Dues.{next_number, number_due, number_of, numbers_due, stranger}

-- a number that is not the next one, or a rank that there isn't
pub number_told : (ranks : ℕ) (before : List Event) (w : Happened) → (NumberAt ranks before w → ⊥) →
    is_some (number_due ranks (stranger ranks w) (numbers_due (next_number before w) (number_of w))) ≡ true
number_told ranks before (what.Send to n tag ctx len how line) not = refl
number_told ranks before (what.Post p line) not = refl
number_told ranks before (what.Match number from n cap line) not = refl
number_told ranks before (what.Arrive a) not = by_test (nat_lt a.env.from ranks)
  where
    by_test : (b : Bool) → is_some (number_due ranks (cond b None (Some a.env.from))
        (numbers_due (next_number before (what.Arrive a)) (Some a.n))) ≡ true
    by_test true = refl
    by_test false = refl
number_told ranks before w not = absurd (not tt)
