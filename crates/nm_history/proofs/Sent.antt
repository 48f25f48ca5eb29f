-- What a rank sent, by its numbers.
use Rattle.std.proofs.Common.{◌≡◌, ℕ, suc, ◌==◌, Bool, true, false, ◌&&◌, ◌||◌, cond, Option, Some, None, List, []}
use Rattle.std.proofs.Common.{◌∷◌, ◌++◌, length, refl, sym, ◌∙◌, ap, subst, append-nil, append_assoc, length-append}
use Rattle.std.proofs.Common.{arith, ◌+◌, ◌<◌, zero}
use Rattle.std.specs.List.{filter, filter_map, cons_option, list_any, slice_get}
use Rattle.std.proofs.lemmas.List.Folds.{list_any-append}
use Rattle.nm_history.specs.declared.events.Event.{Event}
use Rattle.nm_history.specs.declared.events.Happened.{Happened}
use Rattle.nm_history.specs.declared.events.Happened.TheVariants.{Send}
use Rattle.nm_history.specs.AtEach.{AtEach, AtEachAfter}
use Rattle.nm_history.specs.Sends.{Sent, sends, sent_of}
use Rattle.nm_history.specs.Happens.{happened, is_send}
use Rattle.nm_history.specs.RankRun.{Always, NumberAt}
use Rattle.nm_history.proofs.DeliveryLemmas.{sends-push}
use Rattle.nm_history.proofs.Basic.{or_false}
use Rattle.nm_types.proofs.NumberLemmas.{eq_true, same_number, eq_less, eq_false}
use Rattle.nm_history.proofs.AppendLemmas.{sends-append}

pub filter-cons : {X : Type 0} (p : X → Bool) (o : Option X) (xs : List X) → filter p (cons_option o xs) ≡ filter p
    (cons_option o []) ++ filter p xs
filter-cons p None xs = refl
filter-cons p (Some x) xs = by_test (p x) where
  by_test : (b : Bool) → cond b (x ∷ filter p xs) (filter p xs) ≡ cond b (x ∷ []) [] ++ filter p xs
  by_test true = refl
  by_test false = refl

pub sends-cons : (e : Event) (events : List Event) (j : ℕ) → sends (e ∷ events) j ≡ filter (λ s. s.to == j)
    (cons_option (sent_of e.stamp e.what) []) ++ sends events j
sends-cons e events j = filter-cons (λ (s : Sent). s.to == j) (sent_of e.stamp e.what)
    (filter_map (λ (e : Event). sent_of e.stamp e.what) events)

pub happened-append : (test : Happened → Bool) (h more : List Event) →
    happened test (h ++ more) ≡ (happened test h || happened test more)
happened-append test h more = list_any-append (λ (e : Event). test e.what) h more

pub sends_grow : (h more : List Event) (to : ℕ) → length (sends h to) < length (sends (h ++ more) to) + 1
sends_grow h [] to = ap_length (append-nil h) where
  ap_length : {x y : List Event} → x ≡ y → length (sends y to) < length (sends x to) + 1
  ap_length {x} {y} same = let e : length (sends x to) ≡ length (sends y to) =
      ap (λ (k : List Event). length (sends k to)) same in omega (arith, e)
sends_grow h (e ∷ more) to =
    let step : length (sends (h ++ e ∷ []) to) ≡ length (sends h to) + length
    (filter (λ s. s.to == to) (cons_option _ [])) = ap (λ (ss : List Sent). length ss) (sends-push h e to)
    ∙ length-append (sends h to) _ in
    let later = sends_grow (h ++ e ∷ []) more to in
    let same : length (sends ((h ++ e ∷ []) ++ more) to) ≡ length (sends (h ++ e ∷ more) to) =
    ap (λ (k : List Event). length (sends k to)) (append_assoc h (e ∷ []) more) in
    omega (arith, step, later, same)

-- a message that was sent has a number below the count of the sends
pub sent_below : (ranks : ℕ) (b xs : List Event) (to n : ℕ) → AtEachAfter (λ before e. NumberAt ranks before e.what) b
    xs → happened (is_send to n) xs ≡ true → n < length (sends (b ++ xs) to)
sent_below ranks b [] to n each found = cc
sent_below ranks b (e ∷ xs) to n each found =
    by_what e.what refl each.0 found (λ found. subst (λ (k : List Event). n < length (sends k to))
    (append_assoc b (e ∷ []) xs) (sent_below ranks (b ++ e ∷ []) xs to n each.1 found))
  where
    here : n ≡ length (sends b to) → length (sends (b ++ e ∷ []) to) ≡ length (sends b to) + 1 →
        n < length (sends (b ++ e ∷ xs) to)
    here numbered one =
        let grown = sends_grow (b ++ e ∷ []) xs to in
        let same : length (sends ((b ++ e ∷ []) ++ xs) to) ≡ length (sends (b ++ e ∷ xs) to) =
        ap (λ (k : List Event). length (sends k to)) (append_assoc b (e ∷ []) xs) in
        omega (arith, numbered, one, grown, same)

    by_what : (w : Happened) → e.what ≡ w → NumberAt ranks b w →
        (is_send to n w || happened (is_send to n) xs) ≡ true →
        (happened (is_send to n) xs ≡ true → n < length (sends (b ++ e ∷ xs) to)) → n < length (sends (b ++ e ∷ xs) to)
    by_what (Send to' n' tag ctx len how line) is numbered found later = by_to (to' == to) refl
        (n' == n) refl found later where
          by_to : (x : Bool) → (to' == to) ≡ x → (y : Bool) → (n' == n) ≡ y →
              ((x && y) || happened (is_send to n) xs) ≡ true →
              (happened (is_send to n) xs ≡ true → n < length (sends (b ++ e ∷ xs) to)) →
              n < length (sends (b ++ e ∷ xs) to)
          by_to true same_to true same_n found later =
              let to_is : to' ≡ to = same_number to' to same_to in
              let one : length (sends (b ++ e ∷ []) to) ≡ length (sends b to) + 1 =
              ap (λ (ss : List Sent). length ss) (sends-push b e to) ∙ length-append (sends b to) _
              ∙ rw (is, same_to) refl in
              here (sym (same_number n' n same_n) ∙ numbered ∙ ap (λ (k : ℕ). length (sends b k)) to_is) one
          by_to true same_to false same_n found later = later found
          by_to false same_to y same_n found later = later found
    by_what w is numbered found later = later found

pub sent_number : (ranks : ℕ) (h : List Event) (to n : ℕ) → Always (NumberAt ranks) h →
    happened (is_send to n) h ≡ true → n < length (sends h to)
unfolding AtEach
sent_number ranks h to n numbers sent = sent_below ranks [] h to n numbers sent

-- the elements have the numbers from this one on
abbrev pub NumberedFrom : {X : Type 0} → (X → ℕ) → ℕ → List X → Type 0
NumberedFrom f k [] = Unit {0}
NumberedFrom f k (x ∷ xs) = (f x ≡ k) × NumberedFrom f (k + 1) xs

-- an element has the number of its place
pub numbered_at : {X : Type 0} (f : X → ℕ) (k : ℕ) (xs : List X) (i : ℕ) (x : X) → NumberedFrom f k xs →
    slice_get xs i ≡ Some x → f x ≡ k + i
numbered_at f k [] i x numbered found = cc
numbered_at f k (y ∷ xs) zero x numbered found = let same : y ≡ x = cc in ap f (sym same) ∙ numbered.0 ∙ omega arith
numbered_at f k (y ∷ xs) (suc i) x numbered found = numbered_at f (k + 1) xs i x numbered.1 found ∙ omega arith

-- the next numbers, of an element or of none
pub next_numbers : {X : Type 0} (f : X → ℕ) (k : ℕ) (new xs : List X) → NumberedFrom f k new →
    NumberedFrom f (k + length new) xs → NumberedFrom f k (new ++ xs)
next_numbers f k [] xs now later = subst (λ (m : ℕ). NumberedFrom f m xs) (omega arith) later
next_numbers f k (x ∷ new) xs now later =
    (now.0, next_numbers f (k + 1) new xs now.1 (subst (λ (m : ℕ). NumberedFrom f m xs) (omega arith) later))

-- the sends of an event
abbrev pub new_sends : ℕ → ℕ → Happened → List Sent
new_sends j stamp w = filter (λ s. s.to == j) (cons_option (sent_of stamp w) [])

pub send_number : (ranks j stamp : ℕ) (b : List Event) (w : Happened) → NumberAt ranks b w →
    NumberedFrom (λ (s : Sent). s.n) (length (sends b j)) (new_sends j stamp w)
send_number ranks j stamp b (Send to n tag ctx len how line) number = by_to (to == j) refl where
  by_to : (x : Bool) → (to == j) ≡ x → NumberedFrom (λ (s : Sent). s.n) (length (sends b j))
      (cond x (record { stamp = stamp; to = to; n = n; tag = tag; ctx = ctx; len = len; how = how; line = line } ∷ [])
      [])
  by_to true test = (number ∙ ap (λ (k : ℕ). length (sends b k)) (same_number to j test), tt)
  by_to false test = tt
send_number ranks j stamp b w number = tt

pub sends_from : (ranks j : ℕ) (b xs : List Event) → AtEachAfter (λ before e. NumberAt ranks before e.what) b xs →
    NumberedFrom (λ (s : Sent). s.n) (length (sends b j)) (sends xs j)
sends_from ranks j b [] each = tt
sends_from ranks j b (e ∷ xs) each =
    let count : length (sends (b ++ e ∷ []) j) ≡ length (sends b j) + length (new_sends j e.stamp e.what) =
    ap (λ (ss : List Sent). length ss) (sends-push b e j) ∙ length-append (sends b j) (new_sends j e.stamp e.what) in
    subst (λ (ss : List Sent). NumberedFrom (λ (s : Sent). s.n) (length (sends b j)) ss) (sym (sends-cons e xs j))
    (next_numbers (λ (s : Sent). s.n) (length (sends b j)) (new_sends j e.stamp e.what) (sends xs j)
    (send_number ranks j e.stamp b e.what each.0)
    (subst (λ (k : ℕ). NumberedFrom (λ (s : Sent). s.n) k (sends xs j)) count
    (sends_from ranks j (b ++ e ∷ []) xs each.1)))

-- the sends to a rank are numbered from 0
pub sends_numbered : (ranks j : ℕ) (h : List Event) → Always (NumberAt ranks) h → NumberedFrom (λ (s : Sent). s.n) 0
    (sends h j)
unfolding AtEach
sends_numbered ranks j h numbers = sends_from ranks j [] h numbers

-- what follows has the following numbers
pub numbered_rest : {X : Type 0} (f : X → ℕ) (k : ℕ) (xs ys : List X) → NumberedFrom f k (xs ++ ys) →
    NumberedFrom f (k + length xs) ys
numbered_rest f k [] ys numbered = subst (λ (m : ℕ). NumberedFrom f m ys) (omega arith) numbered
numbered_rest f k (x ∷ xs) ys numbered = subst (λ (m : ℕ). NumberedFrom f m ys) (omega arith)
    (numbered_rest f (k + 1) xs ys numbered.1)

-- of numbered elements none has a smaller number
pub none_below : {X : Type 0} (f : X → ℕ) (p : X → Bool) (k n : ℕ) (xs : List X) → n < k → NumberedFrom f k xs →
    list_any (λ x. f x == n && p x) xs ≡ false
none_below f p k n [] lt numbered = refl
none_below f p k n (x ∷ xs) lt numbered = rw (eq_false (f x) n (omega (arith, numbered.0)))
    (none_below f p (k + 1) n xs (omega arith) numbered.1)

-- of numbered elements one alone has the number of a place
pub any_at : {X : Type 0} (f : X → ℕ) (p : X → Bool) (k i m : ℕ) (xs : List X) (x : X) → m ≡ k + i →
    NumberedFrom f k xs → slice_get xs i ≡ Some x → list_any (λ y. f y == m && p y) xs ≡ p x
any_at f p k i m [] x is numbered found = cc
any_at f p k zero m (y ∷ xs) x is numbered found =
    let same : y ≡ x = cc in
    rw (eq_true (f y) m (omega (arith, numbered.0, is)), none_below f p (k + 1) m xs (omega (arith, is)) numbered.1)
    (or_false (p y) ∙ ap p same)
any_at f p k (suc i) m (y ∷ xs) x is numbered found =
    rw (eq_less (f y) m (omega (arith, numbered.0, is)))
    (any_at f p (k + 1) i m xs x (omega (arith, is)) numbered.1 found)

-- a number that some element has is within their numbers
pub any_within : {X : Type 0} (f : X → ℕ) (p : X → Bool) (k n : ℕ) (xs : List X) → NumberedFrom f k xs →
    list_any (λ x. f x == n && p x) xs ≡ true → n < k + length xs
any_within f p k n [] numbered found = cc
any_within f p k n (x ∷ xs) numbered found = by_test (f x == n) refl (p x) found
    (any_within f p (k + 1) n xs numbered.1) where
      by_test : (b : Bool) → (f x == n) ≡ b → (c : Bool) → ((b && c) || list_any (λ x. f x == n && p x) xs) ≡ true →
          (list_any (λ x. f x == n && p x) xs ≡ true → n < k + 1 + length xs) → n < k + length (x ∷ xs)
      by_test true is c found later = let same : f x ≡ n = same_number (f x) n is in omega (arith, same, numbered.0)
      by_test false is c found later = omega (arith, later found)

-- what a rank's sends say of a message that was sent lasts
pub sent_lasts : (ranks j n : ℕ) (p : Sent → Bool) (whole h more : List Event) → whole ≡ h ++ more →
    Always (NumberAt ranks) whole → n < length (sends h j) →
    list_any (λ s. s.n == n && p s) (sends h j) ≡ list_any (λ s. s.n == n && p s) (sends whole j)
sent_lasts ranks j n p whole h more split numbers early =
    let grown : sends whole j ≡ sends h j ++ sends more j = ap (λ (k : List Event). sends k j) split
    ∙ sends-append h more j in
    let numbered : NumberedFrom (λ (s : Sent). s.n) 0 (sends h j ++ sends more j) =
    subst (λ (ss : List Sent). NumberedFrom (λ (s : Sent). s.n) 0 ss) grown (sends_numbered ranks j whole numbers) in
    let none : list_any (λ (s : Sent). s.n == n && p s) (sends more j) ≡ false = none_below (λ (s : Sent). s.n) p
    (0 + length (sends h j)) n (sends more j) (omega arith)
    (numbered_rest (λ (s : Sent). s.n) 0 (sends h j) (sends more j) numbered) in
    sym (ap (λ (ss : List Sent). list_any (λ s. s.n == n && p s) ss) grown
    ∙ list_any-append (λ (s : Sent). s.n == n && p s) (sends h j) (sends more j)
    ∙ ap (λ (b : Bool). list_any (λ s. s.n == n && p s) (sends h j) || b) none
    ∙ or_false (list_any (λ s. s.n == n && p s) (sends h j)))
