-- What the handles of a process stand for, one event after another.
use Rattle.std.proofs.Common.{◌≡◌, ◌≢◌, ℕ, ◌==◌, Bool, true, false, not, ◌&&◌, ◌||◌, cond, Option, Some}
use Rattle.std.proofs.Common.{None, List, [], ◌∷◌, ◌++◌, refl, sym, ◌∙◌, ap, subst, arith, append_assoc}
use Rattle.std.proofs.Common.{append-nil}
use Rattle.std.specs.Prelude.{IfSome, nat_eq, nat_lt, option_map}
use Rattle.std.specs.Option.{option_to_list}
use Rattle.std.specs.List.{list_any, list_all}
use Rattle.std.specs.Map.{lookup}
use Rattle.std.proofs.lemmas.Bool.{eqb-true, false≢true, false_from_ne_true}
use Rattle.std.proofs.lemmas.Bool.Decides.{nat_tests}
use Rattle.nm_types.specs.declared.messages.Arrival.{Arrival}
use Rattle.nm_types.specs.declared.messages.Peer.{Peer}
use Rattle.nm_types.specs.declared.messages.TagPick.{TagPick}
use Rattle.nm_types.specs.declared.messages.Post as post
use Rattle.nm_history.specs.declared.events.Event.{Event}
use Rattle.nm_history.specs.declared.events.Happened.{Happened}
use Rattle.nm_history.specs.declared.events.Happened.TheVariants.{Send, Post, Arrive, Whole, Out, Cancel}
use Rattle.nm_history.specs.declared.events.Happened.TheVariants.{Recall, Withdraw, Undone, Claim, Match}
use Rattle.nm_history.specs.declared.events.Happened.TheVariants.{Ran}
use Rattle.nm_history.specs.declared.plain.Pair.{Pair}
use Rattle.nm_history.specs.AtEach.{AtEachAfter}
use Rattle.nm_history.specs.Happens.{happened, is_arrival, is_claim}
use Rattle.nm_history.specs.Matching.{first_message, first_receive, is_claimed, is_free, is_of_message}
use Rattle.nm_history.specs.Matching.{matched_pairs, new_pair, pair_of, pair_of_claimed}
use Rattle.nm_history.specs.RankRun.{Always, NumberAt}
use Rattle.nm_history.specs.Selection.{matches}
use Rattle.nm_history.specs.Sends.{message_of, messages}
use Rattle.nm_history.specs.Underway.{is_of_packet}
use Rattle.nm_history.proofs.AtEachLemmas.{AtEach-push}
use Rattle.nm_history.proofs.MatchingLemmas.{matched_pairs-push}
use Rattle.nm_history.proofs.OnceLemmas.{find_among}
use Rattle.nm_match.specs.Deeds.{is_known_message}
use Rattle.nm_match.proofs.NumberLemmas.{is_known_message-arrived, messages_numbered}
use Rattle.nm_match.proofs.PushLemmas.{is_claimed-push, messages_known}
use Rattle.nm_match.proofs.QueueLemmas.{free_means}
use Rattle.nm_receiving.proofs.ClaimLemmas.{still_claimed}
use Rattle.nm_process.specs.declared.steps.Handle.{Handle}
use Rattle.nm_process.specs.Names.{AreHeld, IsHeld, message_with}
use Rattle.nm_process.proofs.NameLemmas.{key_self, other_key, same_key}
use Rattle.nm_types.proofs.ListLemmas.{find_passes}
use Rattle.nm_types.proofs.TruthLemmas.{and_left, and_right}
use Rattle.nm_history.proofs.AppendLemmas.{happened-push}

-- an event leaves a held message alone
abbrev pub Leaves : Handle → List Event → Happened → Type 0
Leaves x before (Arrive a) = happened (is_arrival a.env.from a.n) before ≡ false
Leaves x before (Match number from n room line) = (from == x.from && n == x.n) ≡ false
Leaves x before what = Unit {0}

-- a message of which something holds that doesn't hold of another
not_it : (P : ℕ → ℕ → Bool) (i m from n : ℕ) → P i m ≡ false → P from n ≡ true →
    (i == from && m == n) ≡ false
not_it P i m from n fails passes = false_from_ne_true (i == from && m == n) (λ same.
    false≢true (sym fails ∙ ap (λ k. P k m) (eqb-true i from (and_left (i == from) (m == n) same))
    ∙ ap (λ k. P from k) (eqb-true m n (and_right (i == from) (m == n) same)) ∙ passes))

not_in : (b : Bool) → b ≡ false → (b || false) ≡ false
not_in false fails = refl
not_in true fails = cc

-- the pair that an event makes is not of a held message that it leaves alone
new_pair_other : (h : List Event) (x : Handle) (what : Happened) → Leaves x h what → IsHeld h x →
    list_any (is_of_message x.from x.n) (option_to_list (new_pair h (matched_pairs h) what)) ≡ false
new_pair_other h x (Post p line) leaves held =
    by_message (first_message h (matched_pairs h) p.from p.tag p.ctx) refl where
      by_message : (o : Option Arrival) → first_message h (matched_pairs h) p.from p.tag p.ctx ≡ o →
          list_any (is_of_message x.from x.n) (option_to_list (option_map (λ a. pair_of p a) o)) ≡ false
      by_message None is = refl
      by_message (Some a) is =
          let passes = find_passes (λ a. matches p.from p.tag p.ctx a.env && is_free h (matched_pairs h) a)
          (messages h) a is in
          let free = and_right (matches p.from p.tag p.ctx a.env) (is_free h (matched_pairs h) a) passes in
          not_in _ (not_it (λ i m. happened (is_claim i m) h) a.env.from a.n x.from x.n
          (free_means h (matched_pairs h) a.env.from a.n free).1
          (and_left (happened (is_claim x.from x.n) h) _ held.claimed))
new_pair_other h x (Arrive a) leaves held = by_receive (first_receive h (matched_pairs h) a.env) where
  by_receive : (o : Option post.Post) → list_any (is_of_message x.from x.n)
      (option_to_list (option_map (λ p. pair_of p a) o)) ≡ false
  by_receive None = refl
  by_receive (Some p) = not_in _ (not_it (λ i m. happened (is_arrival i m) h) a.env.from a.n x.from x.n
      leaves held.came)
new_pair_other h x (Match number from n room line) leaves held = by_message (message_of h from n) refl where
  by_message : (o : Option Arrival) → message_of h from n ≡ o →
      list_any (is_of_message x.from x.n)
      (option_to_list (option_map (λ a. pair_of_claimed number room a) o)) ≡ false
  by_message None is = refl
  by_message (Some a) is =
      let passes = find_passes (λ (a : Arrival). a.env.from == from && a.n == n) (messages h) a is in
      let same_from = eqb-true a.env.from from (and_left (a.env.from == from) (a.n == n) passes) in
      let same_n = eqb-true a.n n (and_right (a.env.from == from) (a.n == n) passes) in
      not_in _ (ap (λ k. k == x.from && a.n == x.n) same_from
      ∙ ap (λ k. from == x.from && k == x.n) same_n ∙ leaves)
new_pair_other h x (Send to n tag ctx len how line) leaves held = refl
new_pair_other h x (Whole from n) leaves held = refl
new_pair_other h x (Out to n) leaves held = refl
new_pair_other h x (Cancel number done) leaves held = refl
new_pair_other h x (Recall to n) leaves held = refl
new_pair_other h x (Withdraw from n done) leaves held = refl
new_pair_other h x (Undone to n done) leaves held = refl
new_pair_other h x (Claim from n line) leaves held = refl
new_pair_other h x (Ran line answer) leaves held = refl

-- a held message stays held
held_push : (h : List Event) (x : Handle) (e : Event) → Leaves x h e.what → IsHeld h x →
    IsHeld (h ++ e ∷ []) x
held_push h x e leaves held = record {
  came = happened-push (is_arrival x.from x.n) h e
      ∙ or_true (happened (is_arrival x.from x.n) h) _ held.came;
  claimed = ap (λ (found : List Pair). is_claimed (h ++ e ∷ []) found x.from x.n) (matched_pairs-push h e)
      ∙ is_claimed-push h e (matched_pairs h) (option_to_list (new_pair h (matched_pairs h) e.what))
      x.from x.n
      ∙ still_claimed (happened (is_claim x.from x.n) h) _ _ _ held.claimed
      (new_pair_other h x e.what leaves held);
} where
  or_true : (b c : Bool) → b ≡ true → (b || c) ≡ true
  or_true true c is = refl
  or_true false c is = cc

pub held_after : (x : Handle) (h events : List Event) →
    AtEachAfter (λ before e. Leaves x before e.what) h events → IsHeld h x → IsHeld (h ++ events) x
held_after x h [] each held = subst (λ (k : List Event). IsHeld k x) (sym (append-nil h)) held
held_after x h (e ∷ events) each held =
    subst (λ (k : List Event). IsHeld k x) (append_assoc h (e ∷ []) events)
    (held_after x (h ++ e ∷ []) events each.1 (held_push h x e each.0 held))

-- the handles still stand for held messages
pub all_held : (h h' : List Event) (handles : List (ℕ × Handle)) →
    ((x : Handle) → IsHeld h x → IsHeld h' x) → AreHeld h handles → AreHeld h' handles
all_held h h' handles still held = record {
  held = λ m. by_entry (lookup (nat_eq m) handles)
      (held.held m);
  one_handle = held.one_handle;
} where
  by_entry : (o : Option Handle) → IfSome o (IsHeld h) → IfSome o (IsHeld h')
  by_entry None is = tt
  by_entry (Some x) is = still x is

-- a handle that is given a message
pub held_set : (h : List Event) (handles handles' : List (ℕ × Handle)) (key : ℕ) (x : Handle) →
    AreHeld h handles → IsHeld h x →
    ((m : ℕ) → lookup (nat_eq m) handles ≢ Some x) →
    ((m : ℕ) → lookup (nat_eq m) handles' ≡ cond (nat_eq key m) (Some x) (lookup (nat_eq m) handles)) →
    AreHeld h handles'
held_set h handles handles' key x held is free sets = record {
  held = λ m. rw (sets m) (by_key m (nat_eq key m));
  one_handle = λ m k y first second. both m k y (nat_eq key m) (nat_eq key k) refl refl (sym (sets m)
      ∙ first) (sym (sets k) ∙ second);
} where
  by_key : (m : ℕ) (b : Bool) → IfSome (cond b (Some x) (lookup (nat_eq m) handles)) (IsHeld h)
  by_key m true = is
  by_key m false = held.held m

  both : (m k : ℕ) (y : Handle) (b d : Bool) → nat_eq key m ≡ b → nat_eq key k ≡ d →
      cond b (Some x) (lookup (nat_eq m) handles) ≡ Some y →
      cond d (Some x) (lookup (nat_eq k) handles) ≡ Some y → m ≡ k
  both m k y true true one two first second = sym (same_key key m one) ∙ same_key key k two
  both m k y true false one two first second = absurd (free k (second ∙ sym first))
  both m k y false true one two first second = absurd (free m (first ∙ sym second))
  both m k y false false one two first second = held.one_handle m k y first second

-- a handle whose message is received
pub held_unset : (h h' : List Event) (handles handles' : List (ℕ × Handle)) (key : ℕ) (x : Handle) →
    AreHeld h handles → lookup (nat_eq key) handles ≡ Some x →
    ((y : Handle) → y ≢ x → IsHeld h y → IsHeld h' y) →
    ((m : ℕ) → lookup (nat_eq m) handles' ≡ cond (nat_eq key m) None (lookup (nat_eq m) handles)) →
    AreHeld h' handles'
held_unset h h' handles handles' key x held named still sets = record {
  held = λ m. rw (sets m) (by_key m (nat_eq key m) refl);
  one_handle = λ m k y first second. held.one_handle m k y
      (before m y (nat_eq key m) (sym (sets m) ∙ first))
      (before k y (nat_eq key k) (sym (sets k) ∙ second));
} where
  other_message : (m : ℕ) (y : Handle) → nat_eq key m ≡ false → lookup (nat_eq m) handles ≡ Some y → y ≢ x
  other_message m y apart is same = let one : key ≡ m = held.one_handle key m x named
      (is ∙ ap (λ (z : Handle). Some z) same) in
      let never : nat_eq key m ≡ true = ap (λ (k : ℕ). nat_eq key k) (sym one) ∙ key_self key in cc

  by_entry : (m : ℕ) (o : Option Handle) → nat_eq key m ≡ false → lookup (nat_eq m) handles ≡ o →
      IfSome o (IsHeld h) → IfSome o (IsHeld h')
  by_entry m None apart is older = tt
  by_entry m (Some y) apart is older = still y (other_message m y apart is) older

  by_key : (m : ℕ) (b : Bool) → nat_eq key m ≡ b → IfSome (cond b None (lookup (nat_eq m) handles))
      (IsHeld h')
  by_key m true same = tt
  by_key m false apart = by_entry m (lookup (nat_eq m) handles) apart refl (held.held m)

  before : (m : ℕ) (y : Handle) (b : Bool) → cond b None (lookup (nat_eq m) handles) ≡ Some y →
      lookup (nat_eq m) handles ≡ Some y
  before m y true is = cc
  before m y false is = is

-- what a handle that is set stands for, and what the others stand for
pub handled_own : (handles handles' : List (ℕ × Handle)) (key : ℕ) (o : Option Handle) →
    ((m : ℕ) → lookup (nat_eq m) handles' ≡ cond (nat_eq key m) o (lookup (nat_eq m) handles)) →
    option_map message_with (lookup (nat_eq key) handles') ≡ option_map message_with o
handled_own handles handles' key o sets = ap (λ (o : Option Handle). option_map message_with o)
    (sets key ∙ rw (key_self key) refl)

pub handled_others : (handles handles' : List (ℕ × Handle)) (key : ℕ) (o : Option Handle) →
    ((m : ℕ) → lookup (nat_eq m) handles' ≡ cond (nat_eq key m) o (lookup (nat_eq m) handles)) →
    (k : ℕ) → k ≢ key → option_map message_with (lookup (nat_eq k) handles') ≡ option_map message_with
    (lookup (nat_eq k) handles)
handled_others handles handles' key o sets k isnt = ap (λ (o : Option Handle). option_map message_with o)
    (sets k ∙ rw (other_key key k isnt) refl)

-- the first free message that is selected came and was not claimed
pub first_came : (h : List Event) (from : Peer) (tag : TagPick) (ctx : ℕ) (a : Arrival) →
    first_message h (matched_pairs h) from tag ctx ≡ Some a →
    happened (is_arrival a.env.from a.n) h ≡ true
first_came h from tag ctx a is =
    sym (is_known_message-arrived h a.env.from a.n)
    ∙ find_among (λ a. is_known_message h a.env.from a.n ≡ true)
    (λ a. matches from tag ctx a.env && is_free h (matched_pairs h) a) (messages h) a
    (messages_known h) is

first_free : (h : List Event) (from : Peer) (tag : TagPick) (ctx : ℕ) (a : Arrival) →
    first_message h (matched_pairs h) from tag ctx ≡ Some a →
    (list_any (is_of_message a.env.from a.n) (matched_pairs h) ≡ false)
    × (happened (is_claim a.env.from a.n) h ≡ false)
first_free h from tag ctx a is =
    let passes = find_passes (λ a. matches from tag ctx a.env && is_free h (matched_pairs h) a)
    (messages h) a is in
    let free = free_means h (matched_pairs h) a.env.from a.n
    (and_right (matches from tag ctx a.env) (is_free h (matched_pairs h) a) passes) in
    (free.0, free.1)

-- no handle stands for it
pub first_unheld : (h : List Event) (from : Peer) (tag : TagPick) (ctx : ℕ) (a : Arrival)
    (handles : List (ℕ × Handle)) →
    first_message h (matched_pairs h) from tag ctx ≡ Some a → AreHeld h handles → (m : ℕ) →
    lookup (nat_eq m) handles ≢ Some (record { from = a.env.from; n = a.n })
first_unheld h from tag ctx a handles is held m named =
    let one : IsHeld h (record { from = a.env.from; n = a.n }) =
    subst (λ (o : Option Handle). IfSome o (IsHeld h)) named (held.held m) in
    false≢true (sym (first_free h from tag ctx a is).1
    ∙ and_left (happened (is_claim a.env.from a.n) h) _ one.claimed)

-- it is held once it is claimed
pub claimed_held : (h : List Event) (from : Peer) (tag : TagPick) (ctx stamp line : ℕ) (a : Arrival) →
    first_message h (matched_pairs h) from tag ctx ≡ Some a →
    IsHeld (h ++ record { stamp = stamp; what = Claim a.env.from a.n line } ∷ [])
    (record { from = a.env.from; n = a.n })
claimed_held h from tag ctx stamp line a is =
    let e : Event = record { stamp = stamp; what = Claim a.env.from a.n line } in
    record {
      came = happened-push (is_arrival a.env.from a.n) h e
          ∙ ap (λ b. b || false) (first_came h from tag ctx a is);
      claimed = ap (λ (found : List Pair). is_claimed (h ++ e ∷ []) found a.env.from a.n)
          (matched_pairs-push h e)
          ∙ is_claimed-push h e (matched_pairs h) [] a.env.from a.n
          ∙ now (happened (is_claim a.env.from a.n) h) _ _ (self a.env.from a.n)
          (first_free h from tag ctx a is).0;
    } where
      self : (i m : ℕ) → (i == i && m == m) ≡ true
      self i m = grind (arith, nat_tests)

      now : (was new taken : Bool) → new ≡ true → taken ≡ false →
          ((was || new) && not (taken || false)) ≡ true
      now true new false passes fails = refl
      now false true false passes fails = refl
      now was new true passes fails = cc
      now false false false passes fails = cc

-- another message than that of a matched receive
pub other_held : (x y : Handle) → y ≢ x → (x.from == y.from && x.n == y.n) ≡ false
other_held x y other = false_from_ne_true (x.from == y.from && x.n == y.n) (λ same. other (by_fields x y
    (eqb-true x.from y.from (and_left (x.from == y.from) (x.n == y.n) same))
    (eqb-true x.n y.n (and_right (x.from == y.from) (x.n == y.n) same)))) where
      by_fields : (x y : Handle) → x.from ≡ y.from → x.n ≡ y.n → y ≡ x
      by_fields x y a b = ap (λ (k : ℕ). record { from = k; n = y.n }) (sym a)
          ∙ ap (λ (k : ℕ). record { from = x.from; n = k }) (sym b)

-- events of packets leave each held message alone, where they are numbered
pub packets_leave : (ranks : ℕ) (x : Handle) (h events : List Event) → Always (NumberAt ranks) h →
    AtEachAfter (λ before e. NumberAt ranks before e.what) h events →
    list_all (λ e. is_of_packet e.what) events ≡ true →
    AtEachAfter (λ before e. Leaves x before e.what) h events
packets_leave ranks x h [] numbers each packets = tt
packets_leave ranks x h (e ∷ events) numbers each packets = (
  by_event e.what each.0 (and_left (is_of_packet e.what) (list_all (λ e. is_of_packet e.what) events)
      packets),
  packets_leave ranks x (h ++ e ∷ []) events
      (AtEach-push (λ before e. NumberAt ranks before e.what) h e numbers each.0) each.1
      (and_right (is_of_packet e.what) (list_all (λ e. is_of_packet e.what) events) packets),
) where
  by_event : (what : Happened) → NumberAt ranks h what → is_of_packet what ≡ true → Leaves x h what
  by_event (Arrive a) number packet = sym (is_known_message-arrived h a.env.from a.n)
      ∙ messages_numbered ranks h numbers a.env.from a.n ∙ fresh a.n _ number.1 where
        fresh : (n k : ℕ) → n ≡ k → nat_lt n k ≡ false
        fresh n k same = grind (arith, nat_tests)
  by_event (Match number from n room line) numbered packet = cc
  by_event (Send to n tag ctx len how line) number packet = tt
  by_event (Post p line) number packet = tt
  by_event (Whole from n) number packet = tt
  by_event (Out to n) number packet = tt
  by_event (Cancel m done) number packet = tt
  by_event (Recall to n) number packet = tt
  by_event (Withdraw from n done) number packet = tt
  by_event (Undone to n done) number packet = tt
  by_event (Claim from n line) number packet = tt
  by_event (Ran line answer) number packet = tt
