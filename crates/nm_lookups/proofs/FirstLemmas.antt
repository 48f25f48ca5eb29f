-- The first place of each thing in a list that grows.
use Rattle.std.proofs.Common.{◌≡◌, ℕ, zero, suc, ◌+◌, ◌<◌, ◌≤◌, ◌==◌, Bool, true, false, ◌||◌, cond, Option, Some}
use Rattle.std.proofs.Common.{None, List, [], ◌∷◌, ◌++◌}
use Rattle.std.proofs.Common.{length, take, get_or, refl, sym, ◌∙◌, ap, subst, arith}
use Rattle.std.specs.Prelude.{is_some, nat_eq, nat_lt, position, MatchOption}
use Rattle.std.specs.List.{list_any, position_from}
use Rattle.std.specs.Option.{option_map_or, option_or}
use Rattle.std.proofs.lemmas.Bool.Decides.{nat_tests}
use Rattle.std.proofs.lemmas.Iterator.Adapters.{position_from-zero}
use Rattle.std.proofs.lemmas.List.{length-take-le, take_all}
use Rattle.indexmap.specs.IndexMap.{IndexMap, get, Updates}
use Rattle.nm_history.specs.declared.events.Event.{Event}
use Rattle.nm_history.specs.declared.events.Happened.{Happened}
use Rattle.nm_history.specs.Completion.{is_taken}
use Rattle.nm_history.specs.Happens.{happened}
use Rattle.nm_match.specs.Names.{same_message}
use Rattle.nm_match.proofs.NameLemmas.{same_message-true}
use Rattle.nm_match.specs.declared.names.Message.{Message}
use Rattle.nm_types.proofs.NumberLemmas.{lt_false, same_number}
use Rattle.nm_types.proofs.ListLemmas.{take_next}

is_below : (i k : ℕ) → nat_lt i (i + suc k) ≡ true
is_below i k = let low : i < i + suc k = omega arith in grind (arith, nat_tests)

with_none : (o : Option ℕ) → option_or o None ≡ o
with_none None = refl
with_none (Some x) = refl

module _ {X : Type 0} (p : X → Bool) where
  -- the first place in a list with one element more
  push_from : (i : ℕ) (xs : List X) (y : X) →
      position_from p i (xs ++ y ∷ []) ≡ option_or (position_from p i xs) (cond (p y) (Some (i + length xs)) None)
  push_from i [] y = let sum : i + 0 ≡ i = omega arith in rw sum refl
  push_from i (x ∷ xs) y = by_first (push_from (i + 1) xs y) (p x)
    where
      by_first : position_from p (i + 1) (xs ++ y ∷ [])
          ≡ option_or (position_from p (i + 1) xs) (cond (p y) (Some ((i + 1) + length xs)) None) →
          (b : Bool) → cond b (Some i) (position_from p (i + 1) (xs ++ y ∷ []))
          ≡ option_or (cond b (Some i) (position_from p (i + 1) xs)) (cond (p y) (Some (i + length (x ∷ xs))) None)
      by_first more true = refl
      by_first more false =
          let sum : (i + 1) + length xs ≡ i + length (x ∷ xs) = omega arith in
          subst (λ (n : ℕ). position_from p (i + 1) (xs ++ y ∷ [])
          ≡ option_or (position_from p (i + 1) xs) (cond (p y) (Some n) None)) sum more

  pub position-push : (xs : List X) (y : X) →
      position p (xs ++ y ∷ []) ≡ option_or (position p xs) (cond (p y) (Some (length xs)) None)
  position-push xs y =
      let sum : 0 + length xs ≡ length xs = omega arith in
      position_from-zero p (xs ++ y ∷ [])
      ∙ subst (λ (n : ℕ). position_from p 0 (xs ++ y ∷ []) ≡ option_or (position_from p 0 xs)
      (cond (p y) (Some n) None)) sum (push_from 0 xs y)
      ∙ ap (λ (o : Option ℕ). option_or o (cond (p y) (Some (length xs)) None)) (sym (position_from-zero p xs))

  none_earlier : (i j : ℕ) (xs : List X) → j ≤ i →
      option_map_or (λ t. nat_lt t j) (position_from p i xs) false ≡ false
  none_earlier i j [] low = refl
  none_earlier i j (x ∷ xs) low = by_first (none_earlier (i + 1) j xs (omega (arith, low))) (p x)
    where
      by_first : option_map_or (λ t. nat_lt t j) (position_from p (i + 1) xs) false ≡ false →
          (b : Bool) → option_map_or (λ t. nat_lt t j) (cond b (Some i) (position_from p (i + 1) xs)) false ≡ false
      by_first more true = lt_false i j low
      by_first more false = more

  before_from : (i k : ℕ) (xs : List X) →
      option_map_or (λ t. nat_lt t (i + k)) (position_from p i xs) false ≡ list_any p (take k xs)
  before_from i zero xs = let sum : i + 0 ≡ i = omega arith in rw sum (none_earlier i i xs (omega arith))
  before_from i (suc k) [] = refl
  before_from i (suc k) (x ∷ xs) = by_first (before_from (i + 1) k xs) (p x)
    where
      by_first : option_map_or (λ t. nat_lt t ((i + 1) + k)) (position_from p (i + 1) xs) false ≡ list_any p
          (take k xs) →
          (b : Bool) → option_map_or (λ t. nat_lt t (i + suc k)) (cond b (Some i) (position_from p (i + 1) xs)) false
          ≡ (b || list_any p (take k xs))
      by_first more true = is_below i k
      by_first more false =
          let sum : (i + 1) + k ≡ i + suc k = omega arith in
          subst (λ (n : ℕ). option_map_or (λ t. nat_lt t n) (position_from p (i + 1) xs) false ≡ list_any p
          (take k xs)) sum more

  -- an element passes before a place exactly where the first that does is before it
  pub first_before : (k : ℕ) (xs : List X) →
      option_map_or (λ t. nat_lt t k) (position p xs) false ≡ list_any p (take k xs)
  first_before k xs =
      let sum : 0 + k ≡ k = omega arith in
      ap (λ (o : Option ℕ). option_map_or (λ t. nat_lt t k) o false) (position_from-zero p xs)
      ∙ subst (λ (n : ℕ). option_map_or (λ t. nat_lt t n) (position_from p 0 xs) false ≡ list_any p (take k xs)) sum
      (before_from 0 k xs)

-- an element passes exactly where there is a first that does
pub ever_from : {X : Type 0} (p : X → Bool) (i : ℕ) (xs : List X) → is_some (position_from p i xs) ≡ list_any p xs
ever_from p i [] = refl
ever_from p i (x ∷ xs) = by_first (ever_from p (i + 1) xs) (p x)
  where
    by_first : is_some (position_from p (i + 1) xs) ≡ list_any p xs → (b : Bool) →
        is_some (cond b (Some i) (position_from p (i + 1) xs)) ≡ (b || list_any p xs)
    by_first more true = refl
    by_first more false = more

module _ {K X S : Type 0} (eq : K → K → Bool) (p : K → X → Bool) where
  -- one element more that is of no key
  pub unnoted : (m : IndexMap K ℕ S) (xs : List X) (y : X) → ((q : K) → p q y ≡ false) →
      ((q : K) → get eq m q ≡ position (p q) xs) → (q : K) → get eq m q ≡ position (p q) (xs ++ y ∷ [])
  unnoted m xs y none firsts q =
      firsts q ∙ sym (position-push (p q) xs y ∙ rw (none q) (with_none (position (p q) xs)))

  -- one element more that is of one key
  pub noted : (old new : IndexMap K ℕ S) (xs : List X) (y : X) (key : K) →
      ((a b : K) → eq a b ≡ true → a ≡ b) → ((q : K) → p q y ≡ eq key q) →
      MatchOption (get eq old key) (Updates eq old new key (Some (length xs))) (λ _. new ≡ old) →
      ((q : K) → get eq old q ≡ position (p q) xs) → (q : K) → get eq new q ≡ position (p q) (xs ++ y ∷ [])
  noted old new xs y key faithful of update firsts q =
      by_old (get eq old key) refl update ∙ sym (position-push (p q) xs y ∙ rw (of q, sym (firsts q)) refl)
    where
      known : (o : ℕ) (b : Bool) → eq key q ≡ b → get eq old key ≡ Some o →
          get eq old q ≡ option_or (get eq old q) (cond b (Some (length xs)) None)
      known o true same is = let e : key ≡ q = faithful key q same in
          let there : get eq old q ≡ Some o = subst (λ (k : K). get eq old k ≡ Some o) e is in rw there refl
      known o false same is = sym (with_none (get eq old q))

      fresh : (b : Bool) → eq key q ≡ b → get eq old key ≡ None →
          cond b (Some (length xs)) (get eq old q) ≡ option_or (get eq old q) (cond b (Some (length xs)) None)
      fresh true same is = let e : key ≡ q = faithful key q same in
          let none : get eq old q ≡ None = subst (λ (k : K). get eq old k ≡ None) e is in rw none refl
      fresh false same is = sym (with_none (get eq old q))

      by_old : (o : Option ℕ) → get eq old key ≡ o →
          MatchOption o (Updates eq old new key (Some (length xs))) (λ _. new ≡ old) →
          get eq new q ≡ option_or (get eq old q) (cond (eq key q) (Some (length xs)) None)
      by_old None is update = update.0 q ∙ fresh (eq key q) refl is
      by_old (Some o) is same = subst (λ (m : IndexMap K ℕ S). get eq m q ≡ option_or (get eq old q)
          (cond (eq key q) (Some (length xs)) None)) (sym same) (known o (eq key q) refl is)

module _ {S : Type 0} (is_of : ℕ → ℕ → Happened → Bool) (h : List Event) (k : ℕ) (e : Event) (inside : k < length h)
    (is : e ≡ get_or h k e) where
  -- the first places of messages, with one event more of a message
  pub message_noted : (old new : IndexMap Message ℕ S) (key : Message) →
      ((m : Message) → is_of m.rank m.n e.what ≡ same_message key m) →
      MatchOption (get same_message old key) (Updates same_message old new key (Some k)) (λ _. new ≡ old) →
      ((m : Message) → get same_message old m ≡ position (λ e. is_of m.rank m.n e.what) (take k h)) →
      (m : Message) → get same_message new m ≡ position (λ e. is_of m.rank m.n e.what) (take (k + 1) h)
  message_noted old new key of update firsts m =
      let front : length (take k h) ≡ k = length-take-le k h (omega (arith, inside)) in
      subst (λ (g : List Event). get same_message new m ≡ position (λ e. is_of m.rank m.n e.what) g)
      (sym (take_next h k e inside is))
      (noted same_message (λ (q : Message) (e : Event). is_of q.rank q.n e.what) old new (take k h) e key
      same_message-true of
      (subst (λ (n : ℕ). MatchOption (get same_message old key) (Updates same_message old new key (Some n))
      (λ _. new ≡ old)) (sym front) update)
      firsts m)

  -- .. of none
  pub message_unnoted : (places : IndexMap Message ℕ S) → ((m : Message) → is_of m.rank m.n e.what ≡ false) →
      ((m : Message) → get same_message places m ≡ position (λ e. is_of m.rank m.n e.what) (take k h)) →
      (m : Message) → get same_message places m ≡ position (λ e. is_of m.rank m.n e.what) (take (k + 1) h)
  message_unnoted places none firsts m =
      subst (λ (g : List Event). get same_message places m ≡ position (λ e. is_of m.rank m.n e.what) g)
      (sym (take_next h k e inside is))
      (unnoted same_message (λ (q : Message) (e : Event). is_of q.rank q.n e.what) places (take k h) e none firsts m)

-- by the first places, whether something happened before a place
pub happened_before : {S : Type 0} (is_of : ℕ → ℕ → Happened → Bool) (places : IndexMap Message ℕ S) (h : List Event)
    (k : ℕ) (m : Message) →
    ((q : Message) → get same_message places q ≡ position (λ e. is_of q.rank q.n e.what) h) →
    option_map_or (λ t. nat_lt t k) (get same_message places m) false ≡ happened (is_of m.rank m.n) (take k h)
happened_before is_of places h k m firsts =
    ap (λ (o : Option ℕ). option_map_or (λ t. nat_lt t k) o false) (firsts m)
    ∙ first_before (λ (e : Event). is_of m.rank m.n e.what) k h

module _ {S : Type 0} (is_at : ℕ → Happened → Bool) (h : List Event) (k : ℕ) (e : Event) (inside : k < length h)
    (is : e ≡ get_or h k e) where
  -- the first places of numbers, with one event more of a number
  pub number_noted : (old new : IndexMap ℕ ℕ S) (key : ℕ) → ((n : ℕ) → is_at n e.what ≡ (key == n)) →
      MatchOption (get nat_eq old key) (Updates nat_eq old new key (Some k)) (λ _. new ≡ old) →
      ((n : ℕ) → get nat_eq old n ≡ position (λ e. is_at n e.what) (take k h)) →
      (n : ℕ) → get nat_eq new n ≡ position (λ e. is_at n e.what) (take (k + 1) h)
  number_noted old new key of update firsts m =
      let front : length (take k h) ≡ k = length-take-le k h (omega (arith, inside)) in
      subst (λ (g : List Event). get nat_eq new m ≡ position (λ e. is_at m e.what) g) (sym (take_next h k e inside is))
      (noted nat_eq (λ (q : ℕ) (e : Event). is_at q e.what) old new (take k h) e key same_number of
      (subst (λ (n : ℕ). MatchOption (get nat_eq old key) (Updates nat_eq old new key (Some n)) (λ _. new ≡ old))
      (sym front) update)
      firsts m)

  -- .. of none
  pub number_unnoted : (places : IndexMap ℕ ℕ S) → ((n : ℕ) → is_at n e.what ≡ false) →
      ((n : ℕ) → get nat_eq places n ≡ position (λ e. is_at n e.what) (take k h)) →
      (n : ℕ) → get nat_eq places n ≡ position (λ e. is_at n e.what) (take (k + 1) h)
  number_unnoted places none firsts m =
      subst (λ (g : List Event). get nat_eq places m ≡ position (λ e. is_at m e.what) g)
      (sym (take_next h k e inside is))
      (unnoted nat_eq (λ (q : ℕ) (e : Event). is_at q e.what) places (take k h) e none firsts m)

-- .. of the number
pub happened_at_number : {S : Type 0} (is_at : ℕ → Happened → Bool) (places : IndexMap ℕ ℕ S) (h : List Event)
    (k n : ℕ) →
    ((q : ℕ) → get nat_eq places q ≡ position (λ e. is_at q e.what) h) →
    option_map_or (λ t. nat_lt t k) (get nat_eq places n) false ≡ happened (is_at n) (take k h)
happened_at_number is_at places h k n firsts =
    ap (λ (o : Option ℕ). option_map_or (λ t. nat_lt t k) o false) (firsts n)
    ∙ first_before (λ (e : Event). is_at n e.what) k h

-- by the first places, whether something happened at all
pub happened_ever : {S : Type 0} (is_of : ℕ → ℕ → Happened → Bool) (places : IndexMap Message ℕ S) (h : List Event)
    (m : Message) →
    ((q : Message) → get same_message places q ≡ position (λ e. is_of q.rank q.n e.what) h) →
    is_some (get same_message places m) ≡ happened (is_of m.rank m.n) h
happened_ever is_of places h m firsts =
    ap (λ (o : Option ℕ). is_some o) (firsts m ∙ position_from-zero (λ (e : Event). is_of m.rank m.n e.what) h)
    ∙ ever_from (λ (e : Event). is_of m.rank m.n e.what) 0 h

is_above : (t n : ℕ) → nat_lt t ((t + 1) + n) ≡ true
is_above t n = let low : t < (t + 1) + n = omega arith in grind (arith, nat_tests)

-- by the place at which a message was paired, whether it was at all
pub ever_taken : (h : List Event) (rank n : ℕ) (o : Option ℕ) →
    ((k : ℕ) → option_map_or (λ t. nat_lt t k) o false ≡ is_taken (take k h) rank n) → is_some o ≡ is_taken h rank n
ever_taken h rank n None taken =
    taken (length h) ∙ ap (λ (g : List Event). is_taken g rank n) (take_all (length h) h (omega arith))
ever_taken h rank n (Some t) taken =
    sym (is_above t (length h)) ∙ taken ((t + 1) + length h)
    ∙ ap (λ (g : List Event). is_taken g rank n) (take_all ((t + 1) + length h) h (omega arith))

-- where there is no first, none passes
pub ever_first : {X : Type 0} (p : X → Bool) (xs : List X) → position p xs ≡ None → list_any p xs ≡ false
ever_first p xs none =
    sym (ever_from p 0 xs) ∙ ap (λ (o : Option ℕ). is_some o) (sym (position_from-zero p xs) ∙ none)
