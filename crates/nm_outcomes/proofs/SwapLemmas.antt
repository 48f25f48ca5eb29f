-- A receive and a message that comes may be swapped.
use Rattle.std.proofs.Common.{◌≡◌, Bool, true, false, cond, Option, Some, None, List, [], ◌∷◌, ◌++◌, refl, sym, ◌∙◌}
use Rattle.std.proofs.Common.{ap}
use Rattle.std.specs.List.{find}
use Rattle.nm_types.specs.declared.messages.Arrival.{Arrival}
use Rattle.nm_types.specs.declared.messages.Post as post
use Rattle.nm_match.specs.Queues.{without_first}
use Rattle.nm_types.proofs.OptionLemmas.{no_some}
use Rattle.nm_outcomes.specs.Queues.{IsSwapped, ReceivesAndMessagesSwap, after_arrival, after_post}
use Rattle.nm_outcomes.specs.Queues.{selects}

-- a search in a list with one element more
find_before : {X : Type 0} (test : X → Bool) (xs : List X) (y x : X) → find test xs ≡ Some x →
    find test (xs ++ y ∷ []) ≡ Some x
find_before test [] y x found = absurd (no_some x found)
find_before test (z ∷ xs) y x found = by_test (test z) found (λ found. find_before test xs y x found)
  where
    by_test : (b : Bool) → cond b (Some z) (find test xs) ≡ Some x →
        (find test xs ≡ Some x → find test (xs ++ y ∷ []) ≡ Some x) →
        cond b (Some z) (find test (xs ++ y ∷ [])) ≡ Some x
    by_test true found later = found
    by_test false found later = later found

find_last : {X : Type 0} (test : X → Bool) (xs : List X) (y : X) → find test xs ≡ None →
    find test (xs ++ y ∷ []) ≡ cond (test y) (Some y) None
find_last test [] y none = refl
find_last test (z ∷ xs) y none = by_test (test z) none (λ none. find_last test xs y none)
  where
    by_test : (b : Bool) → cond b (Some z) (find test xs) ≡ None →
        (find test xs ≡ None → find test (xs ++ y ∷ []) ≡ cond (test y) (Some y) None) →
        cond b (Some z) (find test (xs ++ y ∷ [])) ≡ cond (test y) (Some y) None
    by_test true none later = absurd (no_some z (sym none))
    by_test false none later = later none

-- .. and that list without what it finds
without_before : {X : Type 0} (test : X → Bool) (xs : List X) (y x : X) → find test xs ≡ Some x →
    without_first test (xs ++ y ∷ []) ≡ without_first test xs ++ y ∷ []
without_before test [] y x found = absurd (no_some x found)
without_before {X} test (z ∷ xs) y x found = by_test (test z) found (λ found. without_before test xs y x found)
  where
    by_test : (b : Bool) → cond b (Some z) (find test xs) ≡ Some x →
        (find test xs ≡ Some x → without_first test (xs ++ y ∷ []) ≡ without_first test xs ++ y ∷ []) →
        cond b (xs ++ y ∷ []) (z ∷ without_first test (xs ++ y ∷ []))
        ≡ cond b xs (z ∷ without_first test xs) ++ y ∷ []
    by_test true found later = refl
    by_test false found later = ap (λ (zs : List X). z ∷ zs) (later found)

without_last : {X : Type 0} (test : X → Bool) (xs : List X) (y : X) → find test xs ≡ None → test y ≡ true →
    without_first test (xs ++ y ∷ []) ≡ xs
without_last test [] y none is = rw is refl
without_last {X} test (z ∷ xs) y none is = by_test (test z) none (λ none. without_last test xs y none is)
  where
    by_test : (b : Bool) → cond b (Some z) (find test xs) ≡ None →
        (find test xs ≡ None → without_first test (xs ++ y ∷ []) ≡ xs) →
        cond b (xs ++ y ∷ []) (z ∷ without_first test (xs ++ y ∷ [])) ≡ z ∷ xs
    by_test true none later = absurd (no_some z (sym none))
    by_test false none later = ap (λ (zs : List X). z ∷ zs) (later none)

-- the four cases
swap_both : (receives : List post.Post) (messages : List Arrival) (p : post.Post) (a : Arrival) (o : post.Post)
    (b : Arrival) →
    find (λ o. selects o a) receives ≡ Some o → find (selects p) messages ≡ Some b →
    IsSwapped (record { receives = receives; messages = messages }) p a
swap_both receives messages p a o b to of = record {
  queues = rw (to, of) (rw to refl);
  older_receive = λ x is. (rw of is, rw to refl);
  older_message = λ x is. (rw to is, rw of refl);
  one_another = λ none other. absurd (no_some o (sym none ∙ to));
}

swap_receive : (receives : List post.Post) (messages : List Arrival) (p : post.Post) (a : Arrival) (o : post.Post) →
    find (λ o. selects o a) receives ≡ Some o → find (selects p) messages ≡ None →
    IsSwapped (record { receives = receives; messages = messages }) p a
swap_receive receives messages p a o to none = record {
  queues = rw (to, none) (rw (
    find_before (λ o. selects o a) receives p o to,
    without_before (λ o. selects o a) receives p o to,
  ) refl);
  older_receive = λ x is. (rw none (find_before (λ o. selects o a) receives p x is), rw to refl);
  older_message = λ b is. absurd (no_some b (sym none ∙ is));
  one_another = λ nothing other. absurd (no_some o (sym nothing ∙ to));
}

swap_message : (receives : List post.Post) (messages : List Arrival) (p : post.Post) (a b : Arrival) →
    find (λ o. selects o a) receives ≡ None → find (selects p) messages ≡ Some b →
    IsSwapped (record { receives = receives; messages = messages }) p a
swap_message receives messages p a b none of = record {
  queues = rw (none, of) (rw (
    none,
    find_before (selects p) messages a b of,
    without_before (selects p) messages a b of,
  ) refl);
  older_receive = λ o is. absurd (no_some o (sym none ∙ is));
  older_message = λ x is. (rw none (find_before (selects p) messages a x is), rw of refl);
  one_another = λ nothing other. absurd (no_some b (sym other ∙ of));
}

swap_none : (receives : List post.Post) (messages : List Arrival) (p : post.Post) (a : Arrival) →
    find (λ o. selects o a) receives ≡ None → find (selects p) messages ≡ None →
    IsSwapped (record { receives = receives; messages = messages }) p a
swap_none receives messages p a none nothing = record {
  queues = by_test (selects p a) refl;
  older_receive = λ o is. absurd (no_some o (sym none ∙ is));
  older_message = λ b is. absurd (no_some b (sym nothing ∙ is));
  one_another = λ first second. (
    rw none (find_last (selects p) messages a nothing),
    rw nothing (find_last (λ o. selects o a) receives p none),
  );
}
  where
    by_test : (b : Bool) → selects p a ≡ b →
        after_post (after_arrival (record { receives = receives; messages = messages }) a) p
        ≡ after_arrival (after_post (record { receives = receives; messages = messages }) p) a
    by_test true is =
        rw (none, nothing)
        (rw (find_last (selects p) messages a nothing, find_last (λ o. selects o a) receives p none, is)
        (rw (without_last (selects p) messages a nothing is, without_last (λ o. selects o a) receives p none is) refl))
    by_test false is =
        rw (none, nothing)
        (rw (find_last (selects p) messages a nothing, find_last (λ o. selects o a) receives p none, is) refl)

pub receives_and_messages_swap : ReceivesAndMessagesSwap
receives_and_messages_swap q p a =
    by_finds (find (λ o. selects o a) q.receives) refl (find (selects p) q.messages) refl
  where
    by_finds : (o : Option post.Post) → find (λ o. selects o a) q.receives ≡ o →
        (b : Option Arrival) → find (selects p) q.messages ≡ b →
        IsSwapped (record { receives = q.receives; messages = q.messages }) p a
    by_finds (Some o) to (Some b) of = swap_both q.receives q.messages p a o b to of
    by_finds (Some o) to None none = swap_receive q.receives q.messages p a o to none
    by_finds None none (Some b) of = swap_message q.receives q.messages p a b none of
    by_finds None none None nothing = swap_none q.receives q.messages p a none nothing
