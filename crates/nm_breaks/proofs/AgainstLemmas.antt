-- What stands between two events.
use Rattle.std.proofs.Common.{◌≡◌, ℕ, Bool, Option, None, List, refl}
use Rattle.nm_types.specs.declared.answers.Answer.{Answer}
use Rattle.nm_types.specs.declared.answers.Answer.TheVariants.{Got}
use Rattle.nm_types.specs.declared.messages.Arrival.{Arrival}
use Rattle.nm_types.specs.declared.messages.How.{How}
use Rattle.nm_types.specs.declared.scripts.Line.{Line}
use Rattle.nm_history.specs.declared.events.Happened.{Happened}
use Rattle.nm_history.specs.declared.events.Happened.TheVariants.{Send, Arrive, Withdraw, Undone, Ran}
use Rattle.nm_check_rank.specs.declared.paired.dues.Due.{Due}
use Rattle.nm_breaks.specs.Against.{IsBetween, IsBodyAgainst, event_against}

-- an arrival and what is no send
pub not_sent : (a : Arrival) (other : Happened) (soon : Option Due) →
    ((to n tag ctx len : ℕ) (how : How) (line : ℕ) → other ≡ Send to n tag ctx len how line → ⊥) →
    soon ≡ event_against (Arrive a) other soon
not_sent a (Send to n tag ctx len how line) soon not = absurd (not to n tag ctx len how line refl)
not_sent a other soon not = refl

-- the answer to a recall and what is no withdrawal
pub not_withdrawn : (to n : ℕ) (done : Bool) (other : Happened) (soon : Option Due) →
    ((from m : ℕ) (word : Bool) → other ≡ Withdraw from m word → ⊥) → soon ≡ event_against (Undone to n done) other soon
not_withdrawn to n done (Withdraw from m word) soon not = absurd (not from m word refl)
not_withdrawn to n done other soon not = refl

-- an event of another kind
pub only_soon : (lines : List Line) (y : ℕ) (what other : Happened) (soon : Option Due) →
    ((a : Arrival) → what ≡ Arrive a → ⊥) → ((to n : ℕ) (done : Bool) → what ≡ Undone to n done → ⊥) →
    ((line : ℕ) (answer : Answer) → what ≡ Ran line answer → ⊥) → IsBetween lines y what other soon soon
only_soon lines y (Arrive a) other soon not_came not_undone not_ran = absurd (not_came a refl)
only_soon lines y (Undone to n done) other soon not_came not_undone not_ran = absurd (not_undone to n done refl)
only_soon lines y (Ran line answer) other soon not_came not_undone not_ran = absurd (not_ran line answer refl)
only_soon lines y what other soon not_came not_undone not_ran = refl

-- an answer that shows no bytes
pub not_got : (lines : List Line) (y : ℕ) (answer : Answer) (other : Happened) →
    ((from tag : ℕ) (body : List ℕ) → answer ≡ Got from tag body → ⊥) → IsBodyAgainst lines y answer other None
not_got lines y (Got from tag body) other not = absurd (not from tag body refl)
not_got lines y answer other not = refl

-- .. and bytes that are held against no send
pub no_send : (lines : List Line) (y from tag : ℕ) (body : List ℕ) (other : Happened) →
    ((to n its_tag ctx len : ℕ) (how : How) (line : ℕ) → other ≡ Send to n its_tag ctx len how line → ⊥) →
    IsBodyAgainst lines y (Got from tag body) other None
no_send lines y from tag body (Send to n its_tag ctx len how line) not = absurd (not to n its_tag ctx len how line refl)
no_send lines y from tag body other not = refl
