-- What tables tell, one event after another.
use Rattle.std.proofs.Common.{◌≡◌, ℕ, ◌+◌, ◌<◌, ◌≤◌, ◌==◌, Bool, true, false, ◌||◌, cond, Option, Some, None}
use Rattle.std.proofs.Common.{◌⊎◌, inl, inr}
use Rattle.std.proofs.Common.{List, [], ◌∷◌, ◌++◌, length, take, refl, sym, ◌∙◌, ap, subst, append-nil, arith}
use Rattle.std.specs.Prelude.{nat_lt, MatchOption}
use Rattle.std.specs.List.{find, list_any}
use Rattle.std.specs.Option.{option_map_or, option_or, option_to_list}
use Rattle.std.proofs.Math.Bool.{or-false, or-true}
use Rattle.std.proofs.Math.Seq.{take-nil}
use Rattle.std.proofs.lemmas.Bool.{eqb-true, false≢true}
use Rattle.std.proofs.lemmas.Bool.Decides.{nat_tests}
use Rattle.std.proofs.lemmas.List.{take-append-le, take_all, length-append}
use Rattle.std.proofs.lemmas.List.Folds.{find-append, list_any-append}
use Rattle.indexmap.specs.IndexMap.{IndexMap, get, Updates}
use Rattle.nm_history.specs.declared.events.Event.{Event}
use Rattle.nm_history.specs.declared.plain.Pair.{Pair}
use Rattle.nm_history.specs.Completion.{is_taken, pair_of_receive}
use Rattle.nm_history.specs.Matching.{is_of_message, is_of_receive, matched_pairs, new_pair}
use Rattle.nm_history.proofs.MatchingLemmas.{matched_pairs-push}
use Rattle.nm_match.specs.declared.names.Message.{Message}
use Rattle.nm_lookups.specs.declared.pairing.pairings.Paired.{Paired}
use Rattle.nm_lookups.specs.declared.pairing.pairings.Tables.{Tables}
use Rattle.nm_match.specs.Names.{same_message}
use Rattle.nm_match.proofs.NameLemmas.{same_message-true}
use Rattle.nm_lookups.specs.Pairings.{ArePaired, ArePairTables, pair_before}
use Rattle.nm_lookups.specs.Placed.{AreTaken}
use Rattle.nm_types.proofs.NumberLemmas.{lt_false}

-- what stands before a place is the same with one event more, or is all of it
places : (h : List Event) (e : Event) (k : ℕ) →
    ((k ≤ length h) × (take k (h ++ e ∷ []) ≡ take k h))
    ⊎ ((length h < k) × (take k (h ++ e ∷ []) ≡ h ++ e ∷ []) × (take k h ≡ h))
places h e k = by_order (nat_lt (length h) k) refl
  where
    by_order : (b : Bool) → nat_lt (length h) k ≡ b →
        ((k ≤ length h) × (take k (h ++ e ∷ []) ≡ take k h))
        ⊎ ((length h < k) × (take k (h ++ e ∷ []) ≡ h ++ e ∷ []) × (take k h ≡ h))
    by_order true late =
        let behind : length h < k = grind (arith, nat_tests) in
        let counted : length (h ++ e ∷ []) ≡ length h + 1 = length-append h (e ∷ []) in
        inr (behind, take_all k (h ++ e ∷ []) (omega (arith, counted, behind)), take_all k h (omega (arith, behind)))
    by_order false early =
        let within : k ≤ length h = grind (arith, nat_tests) in
        inl (within, take-append-le k h (e ∷ []) within)

-- A table whose entries have places tells at each place what it told before, with one event more:
-- a new entry shows from the place behind its own on.
module _ {V A : Type 0} (see : ℕ → Option V → A) (tell : List Event → A) (h : List Event) (e : Event) where
  -- an entry that was not there
  entry_new : (old : Option V) (value : V) → old ≡ None →
      ((k : ℕ) → k ≤ length h → see k (Some value) ≡ see k None) →
      ((k : ℕ) → length h < k → see k (Some value) ≡ tell (h ++ e ∷ [])) →
      ((k : ℕ) → see k old ≡ tell (take k h)) → (k : ℕ) → see k (Some value) ≡ tell (take k (h ++ e ∷ []))
  entry_new old value none hidden shown told k =
      elim (places h e k) [
        | inl early ↦ hidden k early.0 ∙ ap (see k) (sym none) ∙ told k ∙ ap tell (sym early.1)
        | inr late ↦ shown k late.0 ∙ ap tell (sym late.1)
      ]

  -- an entry that stays, where the event tells nothing more
  entry_same : (old : Option V) → tell (h ++ e ∷ []) ≡ tell h →
      ((k : ℕ) → see k old ≡ tell (take k h)) → (k : ℕ) → see k old ≡ tell (take k (h ++ e ∷ []))
  entry_same old nothing told k =
      elim (places h e k) [
        | inl early ↦ told k ∙ ap tell (sym early.1)
        | inr late ↦ told k ∙ ap tell late.2 ∙ sym nothing ∙ ap tell (sym late.1)
      ]

-- the place stands before this one
abbrev pub is_before : ℕ → Option ℕ → Bool
is_before k place = option_map_or (λ t. nat_lt t k) place false

is_behind : (t k : ℕ) → t < k → nat_lt t k ≡ true
is_behind t k below = grind (arith, nat_tests)

taken-push : (h : List Event) (e : Event) (from n : ℕ) (made : Option Pair) →
    made ≡ new_pair h (matched_pairs h) e.what →
    is_taken (h ++ e ∷ []) from n ≡ (is_taken h from n || list_any (is_of_message from n) (option_to_list made))
taken-push h e from n made is =
    rw (matched_pairs-push h e, sym is) (list_any-append (is_of_message from n) (matched_pairs h) (option_to_list made))

paired-push : (h : List Event) (e : Event) (number : ℕ) (made : Option Pair) →
    made ≡ new_pair h (matched_pairs h) e.what →
    pair_of_receive (h ++ e ∷ []) number
    ≡ option_or (pair_of_receive h number) (find (is_of_receive number) (option_to_list made))
paired-push h e number made is =
    rw (matched_pairs-push h e, sym is) (find-append (is_of_receive number) (matched_pairs h) (option_to_list made))

with_no_other : (o : Option Pair) → option_or o None ≡ o
with_no_other None = refl
with_no_other (Some pair) = refl

-- the message of a pair
abbrev pub message_paired : Pair → Message
message_paired pair = record { rank = pair.arrival.env.from; n = pair.arrival.n }

-- what a table tells of a message, of a receive, and an entry of it
abbrev taken_of : Message → List Event → Bool
taken_of m g = is_taken g m.rank m.n

abbrev pair_at : ℕ → List Event → Option Pair
pair_at number g = pair_of_receive g number

abbrev entry : List Event → Pair → Paired
entry h pair = record { place = length h; pair = pair }

far : (t n : ℕ) → t < t + 1 + n
far t n = omega arith

far_behind : (t n : ℕ) → n ≤ t + 1 + n
far_behind t n = omega arith

module _ {S : Type 0} (h : List Event) (e : Event) where
  -- an event that makes no pair
  pub taken_stay : (taken : IndexMap Message ℕ S) → None ≡ new_pair h (matched_pairs h) e.what → AreTaken h taken →
      AreTaken (h ++ e ∷ []) taken
  taken_stay taken none told m =
      entry_same is_before (λ g. is_taken g m.rank m.n) h e (get same_message taken m)
      (taken-push h e m.rank m.n None none ∙ or-false (is_taken h m.rank m.n)) (told m)

  -- an event that makes a pair
  pub taken_keep : (old new : IndexMap Message ℕ S) (pair : Pair) → Some pair ≡ new_pair h (matched_pairs h) e.what →
      MatchOption (get same_message old (message_paired pair))
      (Updates same_message old new (message_paired pair) (Some (length h))) (λ _. new ≡ old) →
      AreTaken h old → AreTaken (h ++ e ∷ []) new
  taken_keep old new pair made more told m = by_old (get same_message old (message_paired pair)) refl more
    where
      grows : taken_of m (h ++ e ∷ []) ≡ (taken_of m h || same_message (message_paired pair) m)
      grows = taken-push h e m.rank m.n (Some pair) made
          ∙ ap (λ b. taken_of m h || b) (or-false (same_message (message_paired pair) m))

      stays : (b : Bool) → same_message (message_paired pair) m ≡ b → (b ≡ true → taken_of m h ≡ true) →
          taken_of m (h ++ e ∷ []) ≡ taken_of m h
      stays true same before =
          let yes : taken_of m h ≡ true = before refl in
          grows ∙ ap (λ b. b || same_message (message_paired pair) m) yes ∙ sym yes
      stays false other before = grows ∙ ap (λ b. taken_of m h || b) other ∙ or-false (taken_of m h)

      by_name : Updates same_message old new (message_paired pair) (Some (length h)) →
          get same_message old (message_paired pair) ≡ None →
          (b : Bool) → same_message (message_paired pair) m ≡ b → (k : ℕ) →
          is_before k (cond b (Some (length h)) (get same_message old m)) ≡ taken_of m (take k (h ++ e ∷ []))
      by_name update none true same =
          let is : (message_paired pair) ≡ m = same_message-true (message_paired pair) m same in
          let absent : get same_message old m ≡ None = subst (λ q. get same_message old q ≡ None) is none in
          entry_new is_before (taken_of m) h e (get same_message old m) (length h) absent
          (λ k within. lt_false (length h) k within)
          (λ k behind. is_behind (length h) k behind
          ∙ sym (grows ∙ ap (λ b. taken_of m h || b) same ∙ or-true (taken_of m h))) (told m)
      by_name update none false other =
          entry_same is_before (taken_of m) h e (get same_message old m)
          (stays false other (λ never. absurd (false≢true never))) (told m)

      by_old : (o : Option ℕ) → get same_message old (message_paired pair) ≡ o →
          MatchOption o (Updates same_message old new (message_paired pair) (Some (length h))) (λ _. new ≡ old) →
          (k : ℕ) → is_before k (get same_message new m) ≡ taken_of m (take k (h ++ e ∷ []))
      by_old None none update k =
          ap (is_before k) (update.0 m) ∙ by_name update none (same_message (message_paired pair) m) refl k
      by_old (Some t) there same k =
          ap (λ (table : IndexMap Message ℕ S). is_before k (get same_message table m)) same
          ∙ entry_same is_before (taken_of m) h e (get same_message old m)
          (stays (same_message (message_paired pair) m) refl (λ named.
          let is : (message_paired pair) ≡ m = same_message-true (message_paired pair) m named in
          let place = t + 1 + length h in
          let found : get same_message old m ≡ Some t = subst (λ q. get same_message old q ≡ Some t) is there in
          ap (taken_of m) (sym (take_all place h (far_behind t (length h)))) ∙ sym (told m place)
          ∙ ap (is_before place) found ∙ is_behind t place (far t (length h)))) (told m) k

module _ {S : Type 0} (h : List Event) (e : Event) where
  pub paired_stay : (receives : IndexMap ℕ Paired S) → None ≡ new_pair h (matched_pairs h) e.what →
      ArePaired h receives →
      ArePaired (h ++ e ∷ []) receives
  paired_stay receives none told number =
      entry_same pair_before (λ g. pair_of_receive g number) h e (get ◌==◌ receives number)
      (paired-push h e number None none ∙ with_no_other (pair_of_receive h number)) (told number)

  pub paired_keep : (old new : IndexMap ℕ Paired S) (pair : Pair) → Some pair ≡ new_pair h (matched_pairs h) e.what →
      MatchOption (get ◌==◌ old pair.number)
      (Updates ◌==◌ old new pair.number (Some (entry h pair))) (λ _. new ≡ old) →
      ArePaired h old → ArePaired (h ++ e ∷ []) new
  paired_keep old new pair made more told number = by_old (get ◌==◌ old pair.number) refl more
    where
      grows : pair_at number (h ++ e ∷ [])
          ≡ option_or (pair_at number h) (cond (pair.number == number) (Some pair) None)
      grows = paired-push h e number (Some pair) made

      hides : (k : ℕ) → k ≤ length h → pair_before k (Some (entry h pair)) ≡ pair_before k None
      hides k within = ap (λ b. cond b (Some pair) None) (lt_false (length h) k within)

      shows : (k : ℕ) → length h < k → pair_before k (Some (entry h pair)) ≡ Some pair
      shows k behind = ap (λ b. cond b (Some pair) None) (is_behind (length h) k behind)

      by_name : get ◌==◌ old pair.number ≡ None →
          (b : Bool) → (pair.number == number) ≡ b → (k : ℕ) →
          pair_before k (cond b (Some (entry h pair)) (get ◌==◌ old number)) ≡ pair_at number (take k (h ++ e ∷ []))
      by_name none true same =
          let is : pair.number ≡ number = eqb-true pair.number number same in
          let absent : get ◌==◌ old number ≡ None = subst (λ q. get ◌==◌ old q ≡ None) is none in
          let nothing : pair_at number h ≡ None = ap (pair_at number) (sym (take_all (length h) h (omega arith)))
          ∙ sym (told number (length h))
          ∙ ap (pair_before (length h)) absent in
          entry_new pair_before (pair_at number) h e (get ◌==◌ old number) (entry h pair) absent hides
          (λ k behind. shows k behind ∙ sym (grows
          ∙ ap (λ o. option_or o (cond (pair.number == number) (Some pair) None)) nothing
          ∙ ap (λ b. cond b (Some pair) None) same)) (told number)
      by_name none false other =
          entry_same pair_before (pair_at number) h e (get ◌==◌ old number)
          (grows ∙ ap (λ b. option_or (pair_at number h) (cond b (Some pair) None)) other
          ∙ with_no_other (pair_at number h)) (told number)

      by_old : (o : Option Paired) → get ◌==◌ old pair.number ≡ o →
          MatchOption o (Updates ◌==◌ old new pair.number (Some (entry h pair))) (λ _. new ≡ old) →
          (k : ℕ) → pair_before k (get ◌==◌ new number) ≡ pair_at number (take k (h ++ e ∷ []))
      by_old None none update k =
          ap (pair_before k) (update.0 number) ∙ by_name none (pair.number == number) refl k
      by_old (Some v) there same k =
          ap (λ (table : IndexMap ℕ Paired S). pair_before k (get ◌==◌ table number)) same
          ∙ entry_same pair_before (pair_at number) h e (get ◌==◌ old number) (stays (pair.number == number) refl)
          (told number) k
        where
          stays : (b : Bool) → (pair.number == number) ≡ b → pair_at number (h ++ e ∷ []) ≡ pair_at number h
          stays true named =
              let is : pair.number ≡ number = eqb-true pair.number number named in
              let place = v.place + 1 + length h in
              let found : get ◌==◌ old number ≡ Some v = subst (λ q. get ◌==◌ old q ≡ Some v) is there in
              let before : pair_at number h ≡ Some v.pair =
              ap (pair_at number) (sym (take_all place h (far_behind v.place (length h)))) ∙ sym (told number place)
              ∙ ap (pair_before place) found
              ∙ ap (λ b. cond b (Some v.pair) None) (is_behind v.place place (far v.place (length h))) in
              grows ∙ ap (λ o. option_or o (cond (pair.number == number) (Some pair) None)) before ∙ sym before
          stays false other = grows ∙ ap (λ b. option_or (pair_at number h) (cond b (Some pair) None)) other
              ∙ with_no_other (pair_at number h)

-- all tables, where the event makes no pair, and where it makes one
pub tables_stay : (h : List Event) (e : Event) (tables : Tables) → None ≡ new_pair h (matched_pairs h) e.what →
    ArePairTables h tables → ArePairTables (h ++ e ∷ []) tables
tables_stay h e tables none are = record {
  pairs = are.pairs ∙ sym (matched_pairs-push h e
      ∙ ap (λ (o : Option Pair). matched_pairs h ++ option_to_list o) (sym none) ∙ append-nil (matched_pairs h));
  taken = taken_stay h e tables.taken none are.taken;
  receives = paired_stay h e tables.receives none are.receives;
}

pub tables_keep : (h : List Event) (e : Event) (old new : Tables) (pair : Pair) →
    Some pair ≡ new_pair h (matched_pairs h) e.what →
    new.pairs.items ≡ old.pairs.items ++ pair ∷ [] →
    MatchOption (get same_message old.taken (message_paired pair))
    (Updates same_message old.taken new.taken (message_paired pair) (Some (length h))) (λ _. new.taken ≡ old.taken) →
    MatchOption (get ◌==◌ old.receives pair.number)
    (Updates ◌==◌ old.receives new.receives pair.number (Some (entry h pair))) (λ _. new.receives ≡ old.receives) →
    ArePairTables h old → ArePairTables (h ++ e ∷ []) new
tables_keep h e old new pair made pushed taken received are = record {
  pairs = pushed ∙ ap (λ (ps : List Pair). ps ++ pair ∷ []) are.pairs ∙ sym (matched_pairs-push h e
      ∙ ap (λ (o : Option Pair). matched_pairs h ++ option_to_list o) (sym made));
  taken = taken_keep h e old.taken new.taken pair made taken are.taken;
  receives = paired_keep h e old.receives new.receives pair made received are.receives;
}

-- no tables, of no event
pub tables_none : (tables : Tables) → tables.pairs.items ≡ [] → tables.taken.entries ≡ [] →
    tables.receives.entries ≡ [] → ArePairTables [] tables
unfolding matched_pairs
tables_none tables no_pair none_taken none_paired = record {
  pairs = no_pair;
  taken = λ m k. rw (none_taken, take-nil k) refl;
  receives = λ number k. rw (none_paired, take-nil k) refl;
}
