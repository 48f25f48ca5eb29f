-- As many messages came as were sent exactly where each send did.
use Rattle.std.proofs.Common.{◌≡◌, ℕ, ◌+◌, ◌<◌, ◌≤◌, ◌==◌, ◌&&◌, ◌||◌, Bool, true, false, cond, Option, Some, None, List}
use Rattle.std.proofs.Common.{[], ◌∷◌, ◌++◌, length, refl, sym, ◌∙◌, ap, subst, arith, append_assoc, append-nil}
use Rattle.std.proofs.Common.{length-append}
use Rattle.std.specs.Prelude.{IfSome, IsTrue, MatchBool, nat_lt}
use Rattle.std.specs.List.{AllByRecursion, list_any, slice_get}
use Rattle.std.proofs.lemmas.Bool.{le-ltb, lt-ltb, ltb-true}
use Rattle.nm_types.proofs.ListLemmas.{all_along}
use Rattle.nm_types.proofs.NumberLemmas.{differ, same_number}
use Rattle.nm_history.specs.declared.events.Event.{Event}
use Rattle.nm_history.specs.declared.events.Happened.{Happened}
use Rattle.nm_history.specs.declared.events.Happened.TheVariants.{Arrive}
use Rattle.nm_history.specs.AtEach.{AtEach, AtEachAfter}
use Rattle.nm_history.specs.Delivery.{ArriveInOrder}
use Rattle.nm_history.specs.Happens.{happened, is_arrival}
use Rattle.nm_history.specs.Quiescence.{EachPair, EachRank, Ended}
use Rattle.nm_history.specs.RankRun.{Always, NumberAt}
use Rattle.nm_history.specs.Sends.{Arrived, Sent, arrivals, sends}
use Rattle.nm_history.proofs.AppendLemmas.{arrivals-append}
use Rattle.nm_history.proofs.Sent.{NumberedFrom, sends_numbered}
use Rattle.nm_check_rank.proofs.CountLemmas.{arrivals_count, arrivals_same}
use Rattle.nm_check.specs.Marked.{KeepsLocal}

-- no more messages came than were sent
few_arrive : (from : ℕ) (ss : List Sent) (as' : List Arrived) → ArriveInOrder from ss as' → length as' ≤ length ss
few_arrive from ss [] right = omega arith
few_arrive from [] (a ∷ as') right = absurd right
few_arrive from (s ∷ ss) (a ∷ as') right = let few = few_arrive from ss as' right.2 in omega (arith, few)

module _ (ranks i n : ℕ) where
  abbrev many : List Event → ℕ
  many h = length (arrivals h i)

  abbrev after : List Event → ℕ → Happened → List Event
  after before stamp what = before ++ record { stamp = stamp; what = what } ∷ []

  -- message n that comes is the one behind n others, and else no more than n came
  came_next : (before : List Event) (stamp : ℕ) (what : Happened) → NumberAt ranks before what → many before ≤ n →
      MatchBool (is_arrival i n what) (many (after before stamp what) ≡ n + 1) (many (after before stamp what) ≤ n)
  came_next before stamp (Arrive a) number low = by_tests (a.env.from == i) refl (a.n == n) refl
    where
      counted : many (after before stamp (Arrive a)) ≡ many before + cond (a.env.from == i) 1 0
      counted = arrivals_count before (record { stamp = stamp; what = Arrive a })
          (record { stamp = stamp; arrival = a }) i refl

      own : (a.env.from == i) ≡ true → a.n ≡ many before
      own from = subst (λ (k : ℕ). a.n ≡ length (arrivals before k)) (same_number a.env.from i from) number.1

      by_tests : (b : Bool) → (a.env.from == i) ≡ b → (c : Bool) → (a.n == n) ≡ c →
          MatchBool (b && c) (many (after before stamp (Arrive a)) ≡ n + 1)
          (many (after before stamp (Arrive a)) ≤ n)
      by_tests true from true its =
          let all = counted in
          let one : ◌≡◌ {A = ℕ} (cond (a.env.from == i) 1 0) 1 = ap (λ (b : Bool). cond b 1 0) from in
          omega (arith, all, one, own from, same_number a.n n its)
      by_tests true from false its =
          let all = counted in
          let one : ◌≡◌ {A = ℕ} (cond (a.env.from == i) 1 0) 1 = ap (λ (b : Bool). cond b 1 0) from in
          let apart : n ≡ a.n → ⊥ = differ a.n n its in
          omega (arith, all, one, own from, low, apart)
      by_tests false from c its =
          let all = counted in
          let none : ◌≡◌ {A = ℕ} (cond (a.env.from == i) 1 0) 0 = ap (λ (b : Bool). cond b 1 0) from in
          omega (arith, all, none, low)
  came_next before stamp what number low =
      let same = arrivals_same before (record { stamp = stamp; what = what }) i refl in
      omega (arith, same, low)

  came_after : (before events : List Event) → many before ≤ n →
      AtEachAfter (λ b e. NumberAt ranks b e.what) before events →
      list_any (λ e. is_arrival i n e.what) events ≡ nat_lt n (many (before ++ events))
  came_after before [] low each = rw append-nil (sym (le-ltb n (many before) low))
  came_after before (e ∷ events) low each =
      by_first (is_arrival i n e.what) (came_next before e.stamp e.what each.0 low)
      (λ low. came_after (before ++ e ∷ []) events low each.1)
    where
      same : many ((before ++ e ∷ []) ++ events) ≡ many (before ++ e ∷ events)
      same = ap many (append_assoc before (e ∷ []) events)

      by_first : (b : Bool) → MatchBool b (many (before ++ e ∷ []) ≡ n + 1) (many (before ++ e ∷ []) ≤ n) →
          (many (before ++ e ∷ []) ≤ n →
          list_any (λ e. is_arrival i n e.what) events ≡ nat_lt n (many ((before ++ e ∷ []) ++ events))) →
          (b || list_any (λ e. is_arrival i n e.what) events) ≡ nat_lt n (many (before ++ e ∷ events))
      by_first true here later =
          let parts : many ((before ++ e ∷ []) ++ events) ≡ many (before ++ e ∷ []) + many events =
          ap length (arrivals-append (before ++ e ∷ []) events i)
          ∙ length-append (arrivals (before ++ e ∷ []) i) (arrivals events i) in
          let all = same in
          sym (lt-ltb n (many (before ++ e ∷ events)) (omega (arith, here, parts, all)))
      by_first false here later = later here ∙ ap (λ (m : ℕ). nat_lt n m) same

  -- message n came exactly where more than n did
  came_many : (h : List Event) → Always (NumberAt ranks) h → happened (is_arrival i n) h ≡ nat_lt n (many h)
  unfolding AtEach
  came_many h each = came_after [] h (omega arith) each

-- numbered sends are no more than a number that is greater than all of theirs
numbered_few : (k few : ℕ) (ss : List Sent) → k ≤ few → NumberedFrom (λ (s : Sent). s.n) k ss →
    AllByRecursion (λ (s : Sent). s.n < few) ss → k + length ss ≤ few
numbered_few k few [] low numbered below = omega (arith, low)
numbered_few k few (s ∷ ss) low numbered below =
    let here = below.0 in
    let more = numbered_few (k + 1) few ss (omega (arith, numbered.0, here)) numbered.1 below.1 in
    omega (arith, more)

-- .. and their numbers are less than how many there are
numbered_low : (k few : ℕ) (ss : List Sent) → k + length ss ≤ few → NumberedFrom (λ (s : Sent). s.n) k ss →
    AllByRecursion (λ (s : Sent). s.n < few) ss
numbered_low k few [] low numbered = tt
numbered_low k few (s ∷ ss) low numbered =
    (omega (arith, low, numbered.0), numbered_low (k + 1) few ss (omega (arith, low)) numbered.1)

-- each message of rank i to rank j has come
abbrev pub AllCame : ℕ → ℕ → List Event → List Event → Type 0
AllCame i j hi hj = AllByRecursion (λ s. IsTrue (happened (is_arrival i s.n) hj)) (sends hi j)

module _ (i j : ℕ) (a b : Ended) (own : KeepsLocal i a) (other : KeepsLocal j b) where
  abbrev came : ℕ
  came = length (arrivals b.events i)

  numbered : NumberedFrom (λ (s : Sent). s.n) 0 (sends a.events j)
  numbered = sends_numbered own.ranks j a.events own.numbers

  pub as_many : ArriveInOrder i (sends a.events j) (arrivals b.events i) → AllCame i j a.events b.events →
      came ≡ length (sends a.events j)
  as_many order each =
      let few : came ≤ length (sends a.events j) =
      few_arrive i (sends a.events j) (arrivals b.events i) order in
      let many : 0 + length (sends a.events j) ≤ came =
      numbered_few 0 came (sends a.events j) (omega arith) numbered
      (all_along (λ (s : Sent). IsTrue (happened (is_arrival i s.n) b.events)) (λ (s : Sent). s.n < came)
      (sends a.events j)
      (λ s here. ltb-true s.n came (sym (came_many other.ranks i s.n b.events other.numbers) ∙ here)) each) in
      omega (arith, few, many)

  pub each_came : came ≡ length (sends a.events j) → AllCame i j a.events b.events
  each_came same =
      all_along (λ (s : Sent). s.n < came) (λ (s : Sent). IsTrue (happened (is_arrival i s.n) b.events))
      (sends a.events j)
      (λ s low. came_many other.ranks i s.n b.events other.numbers ∙ lt-ltb s.n came low)
      (numbered_low 0 came (sends a.events j) (omega (arith, same)) numbered)

-- what follows for each two ranks whose messages are numbered and come in order
pub each_pair : (ranks : List Ended) (P Q : ℕ → ℕ → List Event → List Event → Type 0) → EachRank KeepsLocal ranks →
    EachPair (λ i j hi hj. ArriveInOrder i (sends hi j) (arrivals hj i)) ranks →
    ((i j : ℕ) (a b : Ended) → KeepsLocal i a → KeepsLocal j b →
    ArriveInOrder i (sends a.events j) (arrivals b.events i) → P i j a.events b.events → Q i j a.events b.events) →
    EachPair P ranks → EachPair Q ranks
each_pair ranks P Q local ordered f each i = by_sender (slice_get ranks i) (local i) (ordered i) (each i)
  where
    by_receiver : (a : Ended) → KeepsLocal i a → (j : ℕ) (o : Option Ended) → IfSome o (KeepsLocal j) →
        IfSome o (λ b. ArriveInOrder i (sends a.events j) (arrivals b.events i)) →
        IfSome o (λ b. P i j a.events b.events) → IfSome o (λ b. Q i j a.events b.events)
    by_receiver a own j None other order here = tt
    by_receiver a own j (Some b) other order here = f i j a b own other order here

    by_sender : (o : Option Ended) → IfSome o (KeepsLocal i) →
        IfSome o (λ a. EachRank (λ j b. ArriveInOrder i (sends a.events j) (arrivals b.events i)) ranks) →
        IfSome o (λ a. EachRank (λ j b. P i j a.events b.events) ranks) →
        IfSome o (λ a. EachRank (λ j b. Q i j a.events b.events) ranks)
    by_sender None own order here = tt
    by_sender (Some a) own order here =
        λ j. by_receiver a own j (slice_get ranks j) (local j) (order j) (here j)
