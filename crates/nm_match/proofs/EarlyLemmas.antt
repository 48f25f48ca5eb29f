-- Names stand apart only before their time.
use Rattle.std.proofs.Common.{◌≡◌, ℕ, zero, suc, ◌+◌, ◌<◌, ◌≤◌, Bool, true, false, ◌&&◌, ◌||◌, ◌==◌, not}
use Rattle.std.proofs.Common.{cond, refl, sym, ◌∙◌, ap, subst, arith, List, [], ◌∷◌, length, map}
use Rattle.std.specs.Prelude.{eqb, nat_le, nat_lt}
use Rattle.std.specs.Cmp.{IsEquivalence}
use Rattle.std.specs.List.{filter, list_any, range_with_len}
use Rattle.std.proofs.Math.Bool.{or-true}
use Rattle.std.proofs.lemmas.List.{length-map}
use Rattle.std.proofs.lemmas.Map.Made.{length-le_from_is_member}
use Rattle.indexmap.specs.IndexSet.{IsUnique, contains, index_set_len}
use Rattle.std.proofs.lemmas.Bool.{eqb-true, false≢true, false_from_ne_true}
use Rattle.std.proofs.lemmas.Bool.Decides.{nat_tests}
use Rattle.nm_types.specs.declared.messages.Arrival.{Arrival}
use Rattle.nm_history.specs.Sends.{messages, receives}
use Rattle.nm_match.specs.declared.deeds.Deed.{Deed}
use Rattle.nm_match.specs.declared.names.Message.{Message}
use Rattle.nm_match.specs.declared.seen.Seen.{Seen}
use Rattle.nm_match.specs.Deeds.{history_of, is_known_message, is_known_receive, is_message}
use Rattle.nm_match.specs.Early.{early_messages, early_receives, is_early}
use Rattle.nm_match.specs.Names.{id_of_arrival, id_of_receive, same_message}
use Rattle.nm_match.specs.SameKeys.{same_message-true}
use Rattle.nm_match.specs.Seen.{AreNames, has_seen, next_of}
use Rattle.nm_match.proofs.DeedLemmas.{is_known_message-deeds, is_known_receive-deeds}

-- a name is the next of its group, and not the last number that there is
abbrev is_next_in : (ℕ → ℕ) → Message → Bool
is_next_in next id = id.n == next id.rank && not (next id.rank == 18446744073709551615)

-- what stands apart is early
abbrev Early : (ℕ → ℕ) → (Message → Bool) → Type 0
Early next apart = (id : Message) → apart id ≡ true →
    (next id.rank ≤ id.n) × (is_next_in next id ≡ false)

-- a number is found among those from another one on
any_in_range : (p : ℕ → Bool) (a n k : ℕ) → a ≤ k → k < a + n → p k ≡ true →
    list_any p (range_with_len a n) ≡ true
any_in_range p a zero k from below passes = absurd (omega (arith, from, below))
any_in_range p a (suc n) k from below passes =
    at (eqb a k) refl (λ more. any_in_range p (a + 1) n k more (omega (arith, below)) passes)
  where
    at : (b : Bool) → eqb a k ≡ b → (a + 1 ≤ k → list_any p (range_with_len (a + 1) n) ≡ true) →
        (p a || list_any p (range_with_len (a + 1) n)) ≡ true
    at true same later = rw (ap p (eqb-true a k same) ∙ passes) refl
    at false other later = rw (later (grind (arith, nat_tests))) (or-true (p a))

-- what passes is also among the images of those that are kept, where each that passes is kept
any_kept : {X Y : Type 0} (p kept : X → Bool) (f : X → Y) (q : Y → Bool) →
    ((x : X) → p x ≡ true → (kept x ≡ true) × (q (f x) ≡ true)) → (xs : List X) → list_any p xs ≡ true →
    list_any q (map f (filter kept xs)) ≡ true
any_kept p kept f q each [] never = absurd (false≢true never)
any_kept p kept f q each (x ∷ xs) some = at (p x) refl (λ rest. any_kept p kept f q each xs rest)
  where
    later : (b : Bool) → list_any q (map f (filter kept xs)) ≡ true →
        list_any q (map f (cond b (x ∷ filter kept xs) (filter kept xs))) ≡ true
    later true rest = rw rest (or-true (q (f x)))
    later false rest = rest

    at : (b : Bool) → p x ≡ b → (list_any p xs ≡ true → list_any q (map f (filter kept xs)) ≡ true) →
        list_any q (map f (cond (kept x) (x ∷ filter kept xs) (filter kept xs))) ≡ true
    at true passes rest = let here = each x passes in rw (here.0, here.1) refl
    at false fails rest = later (kept x) (rest (rw fails at some))

-- two names of messages are the same by an equivalence
same_message-laws : IsEquivalence same_message
same_message-laws = record {
  refl = λ a. grind (arith, nat_tests);
  symm = λ a b. grind (arith, nat_tests);
  congr = λ a b c same. ap (λ (k : Message). same_message k c) (same_message-true a b same);
}

-- a name that stands apart is early by what is taken
taken_early : (next : ℕ → ℕ) (apart : Message → Bool) (known : ℕ → Bool) (id : Message) → Early next apart →
    ((n : ℕ) → (nat_lt n (next id.rank) || apart (record { rank = id.rank; n = n })) ≡ known n) →
    apart id ≡ true → is_early known id.n ≡ true
taken_early next apart known id early are here = at (nat_le 18446744073709551615 id.n) refl
  where
    kept : (next id.rank ≤ id.n) × (is_next_in next id ≡ false)
    kept = early id here

    at : (b : Bool) → nat_le 18446744073709551615 id.n ≡ b →
        (list_any (λ k. not (known k)) (range_with_len 0 id.n) || nat_le 18446744073709551615 id.n) ≡ true
    at true last = rw last (or-true _)
    at false small =
        let from = kept.0 in
        let is_not = kept.1 in
        let below : next id.rank < id.n = grind (arith, nat_tests) in
        let free : apart (record { rank = id.rank; n = next id.rank }) ≡ false =
        false_from_ne_true (apart (record { rank = id.rank; n = next id.rank })) (λ stands.
        let never = (early (record { rank = id.rank; n = next id.rank }) stands).1 in
        let top : next id.rank ≡ 18446744073709551615 = grind (arith, nat_tests) in
        grind (arith, nat_tests)) in
        let itself : nat_lt (next id.rank) (next id.rank) ≡ false = grind (arith, nat_tests) in
        let unknown = sym (are (next id.rank))
        ∙ ap (λ b. b || apart (record { rank = id.rank; n = next id.rank })) itself ∙ free in
        rw (any_in_range (λ k. not (known k)) 0 id.n (next id.rank) (omega arith) (omega (arith, below))
        (ap not unknown)) refl

-- the numbers in memory are at most those that came before their time
module _ (deeds : List Deed) {order next : ℕ} {r m : Seen} (names : AreNames deeds order next r m) where
  pub few_messages : IsUnique same_message m.apart →
      index_set_len m.apart ≤ length (early_messages (history_of deeds))
  unfolding early_messages is_known_message
  few_messages unique =
      subst (λ k. index_set_len m.apart ≤ k) (length-map (early_messages (history_of deeds)) id_of_arrival)
      (length-le_from_is_member same_message-laws m.apart.keys
      (map id_of_arrival (early_messages (history_of deeds))) unique (λ id here.
      let known : (n : ℕ) → has_seen m (record { rank = id.rank; n = n })
      ≡ is_known_message (history_of deeds) id.rank n =
      λ n. names.messages id.rank n ∙ is_known_message-deeds deeds id.rank n in
      let early = taken_early (λ g. next_of m g) (λ i. contains same_message m.apart i)
      (λ k. is_known_message (history_of deeds) id.rank k) id names.few_messages.0 known here in
      any_kept (is_message id.rank id.n)
      (λ a. is_early (λ k. is_known_message (history_of deeds) a.env.from k) a.n) id_of_arrival (same_message id)
      (λ a same. let is_it : id ≡ id_of_arrival a = sym (message_is a id same) in (
        subst (λ (i : Message). is_early (λ k. is_known_message (history_of deeds) i.rank k) i.n ≡ true) is_it early,
        subst (λ (i : Message). same_message id i ≡ true) is_it (same_message-laws.refl id),
      ))
      (messages (history_of deeds))
      (sym (known id.n) ∙ ap (λ b. nat_lt id.n (next_of m id.rank) || b) here ∙ or-true _)))
    where
      message_is : (a : Arrival) (id : Message) → is_message id.rank id.n a ≡ true → id_of_arrival a ≡ id
      message_is a id same = same_message-true (id_of_arrival a) id same

  pub few_receives : IsUnique same_message r.apart →
      index_set_len r.apart ≤ length (early_receives (history_of deeds))
  unfolding early_receives is_known_receive
  few_receives unique =
      subst (λ k. index_set_len r.apart ≤ k) (length-map (early_receives (history_of deeds)) id_of_receive)
      (length-le_from_is_member same_message-laws r.apart.keys
      (map id_of_receive (early_receives (history_of deeds))) unique (λ id here.
      let seen : has_seen r id ≡ true = ap (λ b. nat_lt id.n (next_of r id.rank) || b) here ∙ or-true _ in
      let rank : id.rank ≡ 0 = names.one_group id seen in
      let known : (n : ℕ) → has_seen r (record { rank = id.rank; n = n })
      ≡ is_known_receive (history_of deeds) n =
      λ n. ap (λ i. has_seen r (record { rank = i; n = n })) rank
      ∙ names.receives n ∙ is_known_receive-deeds deeds n in
      let early = taken_early (λ g. next_of r g) (λ i. contains same_message r.apart i)
      (λ k. is_known_receive (history_of deeds) k) id names.few_receives.0 known here in
      any_kept (λ n. n == id.n) (λ n. is_early (λ k. is_known_receive (history_of deeds) k) n)
      id_of_receive (same_message id)
      (λ n same. let is_it : id.n ≡ n = sym (eqb-true n id.n same) in (
        subst (λ i. is_early (λ k. is_known_receive (history_of deeds) k) i ≡ true) is_it early,
        grind (arith, nat_tests),
      ))
      (receives (history_of deeds))
      (sym (known id.n) ∙ seen)))
