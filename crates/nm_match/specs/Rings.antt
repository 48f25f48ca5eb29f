-- The receives of one key as a ring: each has the numbers of the one before it and of the one behind it.
use Rattle.std.specs.Prelude.{◌≡◌, ℕ, Bool, true, false, List, [], ◌∷◌, Option, Some, None, if◌then◌else◌, nat_eq}
use Rattle.std.specs.Option.{option_map}
use Rattle.nm_types.specs.declared.messages.Post as post
use Rattle.nm_match.specs.declared.names.Receive.{Receive}
use Rattle.nm_match.specs.declared.names.Receive.TheVariants.{Waits, Cancelled}
use Rattle.nm_match.specs.declared.picks.Picks.{Picks}
use Rattle.nm_match.specs.Picks.{same_picks}

-- a receive that waits between two others
abbrev pub waits_between : ℕ × post.Post → ℕ → ℕ → Receive
waits_between x before next = Waits x.1.ctx x.1.from x.1.tag x.1.cap x.0 before next

-- the number of the first, or else this one
abbrev pub first_number : ℕ → List (ℕ × post.Post) → ℕ
first_number number [] = number
first_number number (x ∷ xs) = x.1.number

-- the number of the last, or else this one
abbrev pub last_number : ℕ → List (ℕ × post.Post) → ℕ
last_number number [] = number
last_number number (x ∷ xs) = last_number x.1.number xs

-- they wait one behind the other, from the one behind this number to the one before that one
abbrev pub AreLinked : (ℕ → Option Receive) → ℕ → ℕ → List (ℕ × post.Post) → Type 0
AreLinked at before next [] = Unit {0}
AreLinked at before next (x ∷ xs) =
    (at x.1.number ≡ Some (waits_between x before (first_number next xs))) × AreLinked at x.1.number next xs

-- they wait one behind the other, and the first behind the last
abbrev pub IsRing : (ℕ → Option Receive) → List (ℕ × post.Post) → Type 0
IsRing at xs = AreLinked at (last_number 0 xs) (first_number 0 xs) xs

-- the number of the first, if there is one
abbrev pub front_number : List (ℕ × post.Post) → Option ℕ
front_number [] = None
front_number (x ∷ xs) = Some x.1.number

-- what waits under each key is a ring, and its first number is known
abbrev pub AreRings : (Picks → Option ℕ) → (ℕ → Option Receive) → (Picks → List (ℕ × post.Post)) → Type 0
AreRings front at under = (k : Picks) → (front k ≡ front_number (under k)) × IsRing at (under k)

-- with another one behind it
abbrev pub with_next : ℕ → Receive → Receive
with_next next (Waits ctx from t cap order before was) = Waits ctx from t cap order before next
with_next next Cancelled = Cancelled

-- with another one before it
abbrev pub with_before : ℕ → Receive → Receive
with_before before (Waits ctx from t cap order was next) = Waits ctx from t cap order before next
with_before before Cancelled = Cancelled

-- what is kept of each number, after one has another one behind it
abbrev pub next_set : (ℕ → Option Receive) → ℕ → ℕ → ℕ → Option Receive
next_set at number next n = if nat_eq number n then option_map (with_next next) (at n) else at n

-- and after one has another one before it
abbrev pub before_set : (ℕ → Option Receive) → ℕ → ℕ → ℕ → Option Receive
before_set at number before n = if nat_eq number n then option_map (with_before before) (at n) else at n

-- and after the first and the last of a row have other ones before and behind them
abbrev pub ends_set : (ℕ → Option Receive) → ℕ → ℕ → ℕ → ℕ → ℕ → Option Receive
ends_set at first before last next = next_set (before_set at first before) last next

-- the one before it, if it waits, or else this one
abbrev pub before_of : ℕ → Option Receive → ℕ
before_of number (Some (Waits ctx from t cap order before next)) = before
before_of number _ = number

-- the one behind it, if it waits, or else this one
abbrev pub next_of : ℕ → Option Receive → ℕ
next_of number (Some (Waits ctx from t cap order before next)) = next
next_of number _ = number

-- the receive of a number, and its order number, if it waits
abbrev pub waiting_of : ℕ → Option Receive → Option (ℕ × post.Post)
waiting_of number (Some (Waits ctx from t cap order before next)) =
    Some (order, record { number = number; from = from; tag = t; ctx = ctx; cap = cap })
waiting_of number _ = None

-- the receive of the number that is first, and its order number, if it waits
abbrev pub waiting_at : (ℕ → Option Receive) → Option ℕ → Option (ℕ × post.Post)
waiting_at at None = None
waiting_at at (Some number) = waiting_of number (at number)

-- it was cancelled
abbrev pub is_cancelled : Receive → Bool
is_cancelled (Waits ctx from t cap order before next) = false
is_cancelled Cancelled = true

-- the number of the first after one has left a ring, where another one is behind it
abbrev pub passed : ℕ → ℕ → Option ℕ → Option ℕ
passed number next None = None
passed number next (Some first) =
    if nat_eq first number then (if nat_eq next number then None else Some next) else Some first

-- under one key the first number is that after a receive left, and under the others as it was
abbrev pub IsPassed : Picks → ℕ → ℕ → (Picks → Option ℕ) → (Picks → Option ℕ) → Type 0
IsPassed key number next before after =
    (after key ≡ passed number next (before key))
    × ((k : Picks) → same_picks key k ≡ false → after k ≡ before k)

-- what is kept of each number, after a receive was shut out of its ring
abbrev pub shut_out : (ℕ → Option Receive) → ℕ → ℕ → Option Receive
shut_out at number =
    let before = before_of number (at number) in
    let next = next_of number (at number) in ends_set at next before before next

-- a receive left its ring
abbrev pub HasLeft : Picks → ℕ → (Picks → Option ℕ) → (Picks → Option ℕ) → (ℕ → Option Receive)
    → (ℕ → Option Receive) → Type 0
HasLeft key number front front' at at' =
    IsPassed key number (next_of number (at number)) front front' × ((n : ℕ) → at' n ≡ shut_out at number n)

-- what is kept of each number, after a receive was put last into a ring whose first one is this
abbrev pub let_in : (ℕ → Option Receive) → ℕ × post.Post → ℕ → ℕ → Option Receive
let_in at x first =
    let last = before_of first (at first) in
    ends_set (λ n. if nat_eq x.1.number n then Some (waits_between x last first) else at n)
    first x.1.number last x.1.number
