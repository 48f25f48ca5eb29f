-- Each message that came is the one of its sender with its number.
use Rattle.std.proofs.Common.{◌≡◌, ℕ, ◌==◌, Bool, true, false, ◌&&◌, ◌||◌, cond, Option, Some, None, List}
use Rattle.std.proofs.Common.{[], ◌∷◌, ◌++◌, refl, sym, ◌∙◌, ap, subst, arith, append-nil, append_assoc}
use Rattle.std.specs.Prelude.{nat_lt}
use Rattle.std.specs.List.{cons_option, find, list_any}
use Rattle.std.specs.Option.{option_or}
use Rattle.std.proofs.lemmas.Bool.Decides.{nat_tests}
use Rattle.std.proofs.lemmas.List.Folds.{find-append}
use Rattle.nm_types.specs.declared.messages.Arrival.{Arrival}
use Rattle.nm_types.specs.declared.messages.Peer.{Peer}
use Rattle.nm_types.specs.declared.messages.TagPick.{TagPick}
use Rattle.nm_history.specs.declared.events.Event.{Event}
use Rattle.nm_history.specs.declared.events.Happened.{Happened}
use Rattle.nm_history.specs.declared.events.Happened.TheVariants.{Arrive}
use Rattle.nm_history.specs.AtEach.{AtEach, AtEachAfter}
use Rattle.nm_history.specs.Matching.{first_message, is_free, matched_pairs}
use Rattle.nm_history.specs.RankRun.{Always, NumberAt}
use Rattle.nm_history.specs.Selection.{matches}
use Rattle.nm_history.specs.Sends.{arrival_of, message_of, messages}
use Rattle.nm_history.proofs.AtEachLemmas.{AtEach-push}
use Rattle.nm_history.proofs.OnceLemmas.{messages-push}
use Rattle.nm_match.specs.Deeds.{is_known_message, is_message}
use Rattle.nm_match.proofs.NumberLemmas.{messages_numbered}
use Rattle.nm_receiving.proofs.ClaimLemmas.{itself}

-- whatever is found among the messages is found by its sender and number
Found : List Event → Type 0
Found h = (test : Arrival → Bool) (a : Arrival) → find test (messages h) ≡ Some a →
    message_of h a.env.from a.n ≡ Some a

none_before : (ms : List Arrival) (from n : ℕ) → list_any (is_message from n) ms ≡ false →
    find (λ a. a.env.from == from && a.n == n) ms ≡ None
none_before [] from n none = refl
none_before (m ∷ ms) from n none = by_first (m.env.from == from && m.n == n) none
    (none_before ms from n) where
      by_first : (b : Bool) → (b || list_any (is_message from n) ms) ≡ false →
          (list_any (is_message from n) ms ≡ false → find (λ a. a.env.from == from && a.n == n) ms ≡ None) →
          cond b (Some m) (find (λ a. a.env.from == from && a.n == n) ms) ≡ None
      by_first true none rest = cc
      by_first false none rest = rest none

fresh : (n k : ℕ) → n ≡ k → nat_lt n k ≡ false
fresh n k same = grind (arith, nat_tests)

found_push : (ranks : ℕ) (h : List Event) (e : Event) → Always (NumberAt ranks) h →
    NumberAt ranks h e.what → Found h → Found (h ++ e ∷ [])
unfolding Found is_known_message
found_push ranks h e numbers numbered found test a is = by_event e.what numbered refl where
  more : (o : Option Arrival) → arrival_of e.what ≡ o →
      messages (h ++ e ∷ []) ≡ messages h ++ cons_option o []
  more o same = messages-push h e ∙ ap (λ (o : Option Arrival). messages h ++ cons_option o []) same

  by_find : (o : Option Arrival) → find test (messages h) ≡ o → (b : Arrival) →
      list_any (is_message b.env.from b.n) (messages h) ≡ false →
      messages (h ++ e ∷ []) ≡ messages h ++ b ∷ [] →
      option_or o (cond (test b) (Some b) None) ≡ Some a → message_of (h ++ e ∷ []) a.env.from a.n ≡ Some a
  by_find (Some x) here b new all one = let same : x ≡ a = cc in
      ap (λ (ms : List Arrival). find (λ m. m.env.from == a.env.from && m.n == a.n) ms) all
      ∙ find-append (λ (m : Arrival). m.env.from == a.env.from && m.n == a.n) (messages h) (b ∷ [])
      ∙ rw (found test a (here ∙ ap (λ (y : Arrival). Some y) same)) refl
  by_find None here b new all one = by_test (test b) one where
    by_test : (t : Bool) → cond t (Some b) None ≡ Some a → message_of (h ++ e ∷ []) a.env.from a.n ≡ Some a
    by_test false one = cc
    by_test true one = let same : b ≡ a =
        cc in subst (λ (y : Arrival). message_of (h ++ e ∷ []) y.env.from y.n ≡ Some y) same
        (ap (λ (ms : List Arrival). find (λ m. m.env.from == b.env.from && m.n == b.n) ms) all
        ∙ find-append (λ (m : Arrival). m.env.from == b.env.from && m.n == b.n) (messages h) (b ∷ [])
        ∙ rw (none_before (messages h) b.env.from b.n new, itself b) refl)

  by_none : arrival_of e.what ≡ None → message_of (h ++ e ∷ []) a.env.from a.n ≡ Some a
  by_none none = let same : messages (h ++ e ∷ []) ≡ messages h = more None none
      ∙ append-nil (messages h) in
      ap (λ (ms : List Arrival). find (λ m. m.env.from == a.env.from && m.n == a.n) ms) same
      ∙ found test a (ap (λ (ms : List Arrival). find test ms) (sym same) ∙ is)

  by_event : (what : Happened) → NumberAt ranks h what → e.what ≡ what →
      message_of (h ++ e ∷ []) a.env.from a.n ≡ Some a
  by_event (Arrive b) numbered arrives =
      let all = more (Some b) (ap arrival_of arrives) in
      by_find (find test (messages h)) refl b (messages_numbered ranks h numbers b.env.from b.n
      ∙ fresh b.n _ numbered.1) all
      (sym (find-append test (messages h) (b ∷ [])) ∙ ap (λ (ms : List Arrival). find test ms) (sym all)
      ∙ is)
  by_event what numbered other = by_none (ap arrival_of other)

found_after : (ranks : ℕ) (h events : List Event) → Always (NumberAt ranks) h →
    AtEachAfter (λ before e. NumberAt ranks before e.what) h events → Found h → Found (h ++ events)
found_after ranks h [] numbers each found = subst (λ (k : List Event). Found k) (sym (append-nil h)) found
found_after ranks h (e ∷ events) numbers each found =
    subst (λ (k : List Event). Found k) (append_assoc h (e ∷ []) events)
    (found_after ranks (h ++ e ∷ []) events (AtEach-push (λ before e. NumberAt ranks before e.what) h e
    numbers each.0) each.1 (found_push ranks h e numbers each.0 found))

-- the first message that a probe shows is the one of its sender with its number
pub first_is_message : (ranks : ℕ) (h : List Event) (from : Peer) (tag : TagPick) (ctx : ℕ)
    (a : Arrival) → Always (NumberAt ranks) h → first_message h (matched_pairs h) from tag ctx ≡ Some a →
    message_of h a.env.from a.n ≡ Some a
unfolding Found AtEach
first_is_message ranks h from tag ctx a numbers is = found_after ranks [] h tt numbers (λ test a none. cc)
    (λ a. matches from tag ctx a.env && is_free h (matched_pairs h) a) a is
