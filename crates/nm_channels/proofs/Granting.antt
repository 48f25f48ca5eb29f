-- The messages that come in pieces are those that their receiver paired, and each of them leaves.
use Rattle.std.proofs.Common.{◌≡◌, ℕ, ◌≤◌, ◌==◌, max, Bool, true, false, not, ◌&&◌, ◌||◌, cond, Some, None, List, []}
use Rattle.std.proofs.Common.{◌∷◌, ◌++◌, length, map, refl, sym, ◌∙◌, ap, subst, append_assoc, arith, length-append}
use Rattle.std.specs.List.{AllByRecursion, filter, filter_map, cons_option, list_any, slice_get}
use Rattle.nm_types.specs.declared.messages.Envelope.{Envelope}
use Rattle.nm_history.specs.declared.events.Event.{Event}
use Rattle.nm_history.specs.declared.events.Happened.{Happened}
use Rattle.nm_history.specs.declared.events.Happened.TheVariants.{Out}
use Rattle.nm_history.specs.declared.plain.Pair.{Pair}
use Rattle.nm_history.specs.Sends.{Sent, sends, is_ask, Arrived, arrivals, messages}
use Rattle.nm_history.specs.Happens.{happened, is_out}
use Rattle.nm_history.specs.Matching.{is_of_message}
use Rattle.nm_history.specs.Outgoing.{is_clear}
use Rattle.nm_history.specs.Effects.{is_empty_send}
use Rattle.nm_history.specs.Clearance.{left_of}
use Rattle.nm_history.specs.Pieces.{is_granted}
use Rattle.nm_channels.proofs.Numbers.{SentAs, SentBefore, messages_sent, at_seam}
use Rattle.nm_channels.proofs.Clearing.{asked_numbers}
use Rattle.nm_history.specs.Delivery.{is_asked}
use Rattle.nm_history.proofs.Sent.{NumberedFrom, any_at}
use Rattle.nm_types.proofs.TruthLemmas.{or_left, or_right}
use Rattle.nm_types.proofs.NumberLemmas.{same_number}
use Rattle.nm_types.proofs.ListLemmas.{all_along}

-- a stamp that no event of a history passes
pub last_of : (h : List Event) → (stamp : ℕ) × AllByRecursion (λ e. e.stamp ≤ stamp) h
last_of [] = (0, tt)
last_of (e ∷ h) =
    let rest = last_of h in (
      max e.stamp rest.0,
      (
        omega arith,
        all_along (λ (x : Event). x.stamp ≤ rest.0) (λ x. x.stamp ≤ max e.stamp rest.0)
            h (λ x late. omega (arith, late)) rest.1,
      ),
    )

-- each message of a rank that came was sent
pub all_sent : (i : ℕ) (ss : List Sent) (h : List Event) →
    AllByRecursion (λ (x : Arrived). SentAs i ss x.stamp x.arrival) (arrivals h i) →
    (stamp : ℕ) × AllByRecursion (SentBefore i ss stamp) (messages h)
all_sent i ss h each = let last = last_of h in (last.0, messages_sent i last.0 ss h last.1 each)

-- the pairs are of messages that were sent
abbrev pub PairsSent : ℕ → List Sent → ℕ → List Pair → Type 0
PairsSent i ss stamp pairs = AllByRecursion (λ (pair : Pair). SentBefore i ss stamp pair.arrival) pairs

-- a send is the one of its number
pub send_is : (ss : List Sent) (p : Sent → Bool) (n : ℕ) (s : Sent) → NumberedFrom (λ (s : Sent). s.n) 0 ss →
    slice_get ss n ≡ Some s → list_any (λ s. s.n == n && p s) ss ≡ p s
send_is ss p n s numbered at = any_at (λ (s : Sent). s.n) p 0 n n ss s (omega arith) numbered at

-- the messages of pairs that come in pieces are those with a body that were cleared
pub granted_numbers : (i j stamp : ℕ) (h : List Event) (pairs : List Pair) → NumberedFrom (λ (s : Sent). s.n) 0
    (sends h j) → PairsSent i (sends h j) stamp pairs →
    map (λ (pair : Pair). pair.arrival.n) (filter (is_granted i) pairs) ≡ filter (λ n. not (is_empty_send h j n))
    (asked_numbers i pairs)
granted_numbers i j stamp h [] numbered sent = refl
granted_numbers i j stamp h (pair ∷ pairs) numbered sent =
    by_clear (pair.arrival.env.from == i) refl (is_ask pair.arrival.env.how)
    (granted_numbers i j stamp h pairs numbered sent.1)
  where
    by_len : (b : Bool) → map (λ (pair : Pair). pair.arrival.n) (filter (is_granted i) pairs) ≡ filter
        (λ n. not (is_empty_send h j n)) (asked_numbers i pairs) →
        map (λ (pair : Pair). pair.arrival.n)
        (cond (not b) (pair ∷ filter (is_granted i) pairs) (filter (is_granted i) pairs))
        ≡ cond (not b) (pair.arrival.n ∷ filter (λ n. not (is_empty_send h j n)) (asked_numbers i pairs))
        (filter (λ n. not (is_empty_send h j n)) (asked_numbers i pairs))
    by_len true later = later
    by_len false later = ap (λ (ns : List ℕ). pair.arrival.n ∷ ns) later

    by_clear : (x : Bool) → (pair.arrival.env.from == i) ≡ x → (y : Bool) → map (λ (pair : Pair). pair.arrival.n)
        (filter (is_granted i) pairs) ≡ filter (λ n. not (is_empty_send h j n)) (asked_numbers i pairs) →
        map (λ (pair : Pair). pair.arrival.n)
        (cond (x && y && not (pair.arrival.env.len == 0)) (pair ∷ filter (is_granted i) pairs)
        (filter (is_granted i) pairs))
        ≡ filter (λ n. not (is_empty_send h j n))
        (map (λ (pair : Pair). pair.arrival.n)
        (cond (x && y) (pair ∷ filter (is_clear i) pairs) (filter (is_clear i) pairs)))
    by_clear false test y later = later
    by_clear true test false later = later
    by_clear true test true later =
        let is = sent.0 (same_number pair.arrival.env.from i test) in
        let empty : is_empty_send h j pair.arrival.n ≡ (pair.arrival.env.len == 0) = send_is (sends h j)
        (λ (s : Sent). s.len == 0) pair.arrival.n is.sent numbered is.at ∙ ap (λ (env : Envelope). env.len == 0)
        (sym is.same) in
        rw empty (by_len (pair.arrival.env.len == 0) later)

pub same_sent : (ss : List Sent) (n m : ℕ) (s s' : Sent) → m ≡ n → slice_get ss n ≡ Some s →
    slice_get ss m ≡ Some s' → s' ≡ s
same_sent ss n m s s' same at at' = let both : Some s' ≡ Some s = sym at' ∙ ap (λ (k : ℕ). slice_get ss k) same
    ∙ at in cc

-- a message that was sent by asking and is paired is among those
pub taken_is_asked : (i n stamp : ℕ) (ss : List Sent) (s : Sent) (pairs : List Pair) → PairsSent i ss stamp pairs →
    slice_get ss n ≡ Some s → is_ask s.how ≡ true → list_any (is_of_message i n) pairs ≡ true →
    list_any (λ m. m == n) (asked_numbers i pairs) ≡ true
taken_is_asked i n stamp ss s [] sent at asked taken = cc
taken_is_asked i n stamp ss s (pair ∷ pairs) sent at asked taken =
    by_from (pair.arrival.env.from == i) refl (pair.arrival.n == n) refl taken
    (taken_is_asked i n stamp ss s pairs sent.1 at asked)
  where
    skip : (b : Bool) → list_any (λ m. m == n) (asked_numbers i pairs) ≡ true →
        list_any (λ m. m == n)
        (map (λ (pair : Pair). pair.arrival.n)
        (cond b (pair ∷ filter (is_clear i) pairs) (filter (is_clear i) pairs))) ≡ true
    skip true found = or_right (pair.arrival.n == n) _ found
    skip false found = found

    by_from : (x : Bool) → (pair.arrival.env.from == i) ≡ x → (y : Bool) → (pair.arrival.n == n) ≡ y →
        ((x && y) || list_any (is_of_message i n) pairs) ≡ true →
        (list_any (is_of_message i n) pairs ≡ true → list_any (λ m. m == n) (asked_numbers i pairs) ≡ true) →
        list_any (λ m. m == n) (asked_numbers i (pair ∷ pairs)) ≡ true
    by_from true from_is true n_is taken later =
        let is = sent.0 (same_number pair.arrival.env.from i from_is) in
        let how_is : is_ask pair.arrival.env.how ≡ true = ap (λ (env : Envelope). is_ask env.how) is.same
        ∙ ap (λ (s : Sent). is_ask s.how)
        (same_sent ss n pair.arrival.n s is.sent (same_number pair.arrival.n n n_is) at is.at) ∙ asked in
        rw (from_is, how_is) (or_left (pair.arrival.n == n) _ n_is)
    by_from true from_is false n_is taken later = skip (is_clear i pair) (later taken)
    by_from false from_is y n_is taken later = skip (is_clear i pair) (later taken)

-- a message that left left
pub out_of_left : (whole : List Event) (j n : ℕ) (events : List Event) →
    list_any (λ m. m == n) (filter_map (λ e. left_of whole j e.what) events) ≡ true →
    happened (is_out j n) events ≡ true
out_of_left whole j n [] found = cc
out_of_left whole j n (e ∷ events) found = by_what e.what found (out_of_left whole j n events) where
  rest : List ℕ
  rest = filter_map (λ e. left_of whole j e.what) events

  by_what : (w : Happened) → list_any (λ m. m == n) (cons_option (left_of whole j w) rest) ≡ true →
      (list_any (λ m. m == n) rest ≡ true → happened (is_out j n) events ≡ true) →
      (is_out j n w || happened (is_out j n) events) ≡ true
  by_what (Out to m) found later = by_to (to == j) (is_asked (sends whole j) m) (not (is_empty_send whole j m)) found
    where
      by_to : (x y z : Bool) → list_any (λ m. m == n) (cons_option (cond (x && y && z) (Some m) None) rest) ≡ true →
          ((x && m == n) || happened (is_out j n) events) ≡ true
      by_to true true true found = by_n (m == n) found where
        by_n : (b : Bool) → (b || list_any (λ m. m == n) rest) ≡ true → (b || happened (is_out j n) events) ≡ true
        by_n true found = refl
        by_n false found = later found
      by_to true true false found = or_right (m == n) (happened (is_out j n) events) (later found)
      by_to true false z found = or_right (m == n) (happened (is_out j n) events) (later found)
      by_to false y z found = later found
  by_what w found later = or_right (is_out j n w) (happened (is_out j n) events) (later found)

-- what passes a test and is among others is among those that pass
pub filter_has : (p : ℕ → Bool) (n : ℕ) (ns : List ℕ) → p n ≡ true → list_any (λ m. m == n) ns ≡ true →
    list_any (λ m. m == n) (filter p ns) ≡ true
filter_has p n [] passes found = cc
filter_has p n (m ∷ ns) passes found = by_n (m == n) refl found (filter_has p n ns passes) where
  skip : (b : Bool) → list_any (λ m. m == n) (filter p ns) ≡ true →
      list_any (λ m. m == n) (cond b (m ∷ filter p ns) (filter p ns)) ≡ true
  skip true found = or_right (m == n) _ found
  skip false found = found

  by_n : (b : Bool) → (m == n) ≡ b → (b || list_any (λ m. m == n) ns) ≡ true →
      (list_any (λ m. m == n) ns ≡ true → list_any (λ m. m == n) (filter p ns) ≡ true) →
      list_any (λ m. m == n) (cond (p m) (m ∷ filter p ns) (filter p ns)) ≡ true
  by_n true is found later = rw (ap p (same_number m n is) ∙ passes) (or_left (m == n) _ is)
  by_n false is found later = skip (p m) (later found)

each_among : {X : Type 0} (P : X → Type 0) (all before xs : List X) (f : X → ℕ) → all ≡ before ++ xs →
    NumberedFrom f (length before) xs → ((x : X) → slice_get all (f x) ≡ Some x → P x) → AllByRecursion P xs
each_among P all before [] f same numbered holds = tt
each_among P all before (x ∷ xs) f same numbered holds = (
  holds x (rw (numbered.0, same) (at_seam before x xs)),
  each_among P all (before ++ x ∷ []) xs f (same ∙ sym (append_assoc before (x ∷ []) xs))
      (subst (λ (k : ℕ). NumberedFrom f k xs) (sym (length-append before (x ∷ []))) numbered.1) holds,
)

-- what holds of each element at the place of its number holds of each
pub each_at : {X : Type 0} (P : X → Type 0) (xs : List X) (f : X → ℕ) → NumberedFrom f 0 xs →
    ((x : X) → slice_get xs (f x) ≡ Some x → P x) → AllByRecursion P xs
each_at P xs f numbered holds = each_among P xs [] xs f refl numbered holds
