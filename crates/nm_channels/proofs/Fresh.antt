-- A rank pairs no message twice, and none that was withdrawn.
use Rattle.std.proofs.Common.{◌≡◌, ℕ, suc, ◌+◌, ◌<◌, ◌==◌, Bool, true, false, not, ◌&&◌, ◌||◌, Option, Some, None}
use Rattle.std.proofs.Common.{List, [], ◌∷◌, ◌++◌, length, refl, sym, ◌∙◌, ap, subst, append-nil, append_assoc}
use Rattle.std.proofs.Common.{length-append, arith}
use Rattle.std.specs.Prelude.{IsSomeAnd}
use Rattle.std.specs.List.{AllPairs, filter, list_any, cons_option}
use Rattle.std.specs.Option.{option_map_or, option_to_list}
use Rattle.std.proofs.Math.Seq.{get_or-append_seam}
use Rattle.nm_types.specs.declared.messages.Arrival.{Arrival}
use Rattle.nm_types.specs.declared.messages.Post as post
use Rattle.nm_types.specs.declared.scripts.Command.{Command}
use Rattle.nm_types.specs.declared.scripts.Command.TheVariants as command
use Rattle.nm_types.specs.Commands.{Numbered, command_at}
use Rattle.nm_types.specs.Sizes.{Sizes}
use Rattle.nm_history.specs.declared.events.Event.{Event}
use Rattle.nm_history.specs.declared.events.Happened.{Happened}
use Rattle.nm_history.specs.declared.events.Happened.TheVariants.{Post, Arrive, Withdraw, Claim, Match}
use Rattle.nm_history.specs.declared.plain.Pair.{Pair}
use Rattle.nm_history.specs.AtEach.{AtEach, AtEachAfter}
use Rattle.nm_history.specs.Sends.{Arrived, arrivals, messages, message_of}
use Rattle.nm_history.specs.Selection.{matches}
use Rattle.nm_history.specs.Happens.{happened, is_arrival, is_claim, is_withdraw, is_same}
use Rattle.nm_history.specs.Matching.{matched_pairs, new_pair, first_message, first_receive, is_free, is_free_message}
use Rattle.nm_history.specs.Matching.{is_of_message, pair_of, pair_of_claimed}
use Rattle.nm_history.specs.RankRun.{IsRankRun, Always, NumberAt, StartAt, EndAt, ClaimAt, claim_of}
use Rattle.nm_history.specs.Once.{TwoMessages}
use Rattle.nm_history.proofs.AtEachLemmas.{AtEach-split, AtEach-from_splits}
use Rattle.nm_history.proofs.MatchingLemmas.{matched_pairs-push}
use Rattle.nm_history.proofs.OnceLemmas.{arrivals-push, one_to_one}
use Rattle.nm_history.proofs.Basic.{or_false, refuted}
use Rattle.nm_channels.proofs.Streams.{FreshAt}
use Rattle.nm_history.proofs.Sent.{happened-append}
use Rattle.nm_types.proofs.TruthLemmas.{or_left, and_left, and_right}
use Rattle.nm_types.proofs.NumberLemmas.{same_number}
use Rattle.nm_types.proofs.OptionLemmas.{mapped_some}
use Rattle.nm_types.proofs.ListLemmas.{find_passes}
use Rattle.nm_history.proofs.EachLemmas.{AtEach-prefix}

-- what came before an event had come before the end
pub came_before : (R : List Event → Happened → Type 0) (p q : Happened → Bool) →
    ((before : List Event) (w : Happened) → R before w → p w ≡ true → happened q before ≡ true) →
    (b xs : List Event) → AtEachAfter (λ before e. R before e.what) b xs → happened p xs ≡ true →
    happened q (b ++ xs) ≡ true
came_before R p q gives b [] each found = cc
came_before R p q gives b (e ∷ xs) each found = by_head (p e.what) refl found
    (came_before R p q gives (b ++ e ∷ []) xs each.1) where
      by_head : (test : Bool) → p e.what ≡ test → (test || happened p xs) ≡ true →
          (happened p xs ≡ true → happened q ((b ++ e ∷ []) ++ xs) ≡ true) → happened q (b ++ e ∷ xs) ≡ true
      by_head true is found later = happened-append q b (e ∷ xs) ∙ or_left _ _ (gives b e.what each.0 is)
      by_head false is found later = ap (λ (h : List Event). happened q h) (sym (append_assoc b (e ∷ []) xs))
          ∙ later found

pub arrivals_grow : (h more : List Event) (from : ℕ) → length (arrivals h from) < length (arrivals (h ++ more) from) + 1
arrivals_grow h [] from = ap_length (append-nil h) where
  ap_length : {x y : List Event} → x ≡ y → length (arrivals y from) < length (arrivals x from) + 1
  ap_length {x} {y} same = let e : length (arrivals x from) ≡ length (arrivals y from) =
      ap (λ (k : List Event). length (arrivals k from)) same in omega (arith, e)
arrivals_grow h (e ∷ more) from =
    let step : length (arrivals (h ++ e ∷ []) from) ≡ length (arrivals h from) + length
    (filter (λ a. a.arrival.env.from == from) (cons_option _ [])) = ap (λ (as' : List Arrived). length as')
    (arrivals-push h e from) ∙ length-append (arrivals h from) _ in
    let later = arrivals_grow (h ++ e ∷ []) more from in
    let same : length (arrivals ((h ++ e ∷ []) ++ more) from) ≡ length (arrivals (h ++ e ∷ more) from) =
    ap (λ (k : List Event). length (arrivals k from)) (append_assoc h (e ∷ []) more) in
    omega (arith, step, later, same)

-- a message that came has a number below the count of the arrivals
pub came_below : (ranks : ℕ) (b xs : List Event) (from n : ℕ) → AtEachAfter (λ before e. NumberAt ranks before e.what)
    b xs → happened (is_arrival from n) xs ≡ true → n < length (arrivals (b ++ xs) from)
came_below ranks b [] from n each found = cc
came_below ranks b (e ∷ xs) from n each found =
    by_what e.what refl each.0 found (λ found. subst (λ (k : List Event). n < length (arrivals k from))
    (append_assoc b (e ∷ []) xs) (came_below ranks (b ++ e ∷ []) xs from n each.1 found))
  where
    here : n ≡ length (arrivals b from) → length (arrivals (b ++ e ∷ []) from) ≡ length (arrivals b from) + 1 →
        n < length (arrivals (b ++ e ∷ xs) from)
    here numbered one =
        let grown = arrivals_grow (b ++ e ∷ []) xs from in
        let same : length (arrivals ((b ++ e ∷ []) ++ xs) from) ≡ length (arrivals (b ++ e ∷ xs) from) =
        ap (λ (k : List Event). length (arrivals k from)) (append_assoc b (e ∷ []) xs) in
        omega (arith, numbered, one, grown, same)

    by_what : (w : Happened) → e.what ≡ w → NumberAt ranks b w →
        (is_arrival from n w || happened (is_arrival from n) xs) ≡ true →
        (happened (is_arrival from n) xs ≡ true → n < length (arrivals (b ++ e ∷ xs) from)) →
        n < length (arrivals (b ++ e ∷ xs) from)
    by_what (Arrive a) is numbered found later = by_from (a.env.from == from) refl (a.n == n) refl found later where
      by_from : (x : Bool) → (a.env.from == from) ≡ x → (y : Bool) → (a.n == n) ≡ y →
          ((x && y) || happened (is_arrival from n) xs) ≡ true →
          (happened (is_arrival from n) xs ≡ true → n < length (arrivals (b ++ e ∷ xs) from)) →
          n < length (arrivals (b ++ e ∷ xs) from)
      by_from true same_from true same_n found later =
          let from_is : a.env.from ≡ from = same_number a.env.from from same_from in
          let one : length (arrivals (b ++ e ∷ []) from) ≡ length (arrivals b from) + 1 =
          ap (λ (as' : List Arrived). length as') (arrivals-push b e from) ∙ length-append (arrivals b from) _
          ∙ rw (is, same_from) refl in
          here (sym (same_number a.n n same_n) ∙ numbered.1 ∙ ap (λ (k : ℕ). length (arrivals b k)) from_is) one
      by_from true same_from false same_n found later = later found
      by_from false same_from y same_n found later = later found
    by_what w is numbered found later = later found

-- pairs of one message each: the last one's message is in none before
alone : (xs : List Pair) (pair : Pair) → AllPairs TwoMessages (xs ++ pair ∷ []) →
    list_any (is_of_message pair.arrival.env.from pair.arrival.n) xs ≡ false
alone [] pair each = refl
alone (x ∷ xs) pair each =
    let two : TwoMessages x pair =
    subst (λ (q : Pair). TwoMessages x q) (get_or-append_seam xs pair [] pair)
    (each 0 (suc (length xs)) pair (omega arith) (omega (arith, length-append (x ∷ xs) (pair ∷ [])))) in
    let head : is_of_message pair.arrival.env.from pair.arrival.n x ≡ false =
    refuted (is_of_message pair.arrival.env.from pair.arrival.n x)
    (λ test. absurd (two (same_number x.arrival.env.from pair.arrival.env.from
    (and_left (x.arrival.env.from == pair.arrival.env.from) (x.arrival.n == pair.arrival.n) test))
    (same_number x.arrival.n pair.arrival.n (and_right (x.arrival.env.from == pair.arrival.env.from)
    (x.arrival.n == pair.arrival.n) test)))) in
    let rest = alone xs pair (λ (i j : ℕ) (d : Pair) lt inside. each (suc i) (suc j) d (omega arith) (omega arith)) in
    rw head rest

-- a claimed message was free
claim_free : (commands : List Numbered) (before : List Event) (from n line : ℕ) →
    ClaimAt commands before (Claim from n line) → is_free_message before (matched_pairs before) from n ≡ true
claim_free commands before from n line claim = by_command (command_at commands line) claim where
  found : (p : _) (tag : _) (ctx : ℕ) (o : Option Arrival) → first_message before (matched_pairs before) p tag ctx
      ≡ o → option_map_or (λ a. Claim a.env.from a.n line ∷ []) o [] ≡ Claim from n line ∷ [] →
      is_free_message before (matched_pairs before) from n ≡ true
  found p tag ctx None is same = cc
  found p tag ctx (Some a) is same =
      let passes = find_passes (λ a. matches p tag ctx a.env && is_free before (matched_pairs before) a)
      (messages before) a is in
      let from_is : a.env.from ≡ from = cc in
      let n_is : a.n ≡ n = cc in
      subst (λ (k : ℕ). is_free_message before (matched_pairs before) k n ≡ true) from_is
      (subst (λ (k : ℕ). is_free_message before (matched_pairs before) a.env.from k ≡ true) n_is (and_right _ _ passes))

  by_kind : (c : Command) → claim_of before line c ≡ Claim from n line ∷ [] →
      is_free_message before (matched_pairs before) from n ≡ true
  by_kind (command.Mprobe m p tag ctx) same = found p tag ctx (first_message before (matched_pairs before) p tag ctx)
      refl same
  by_kind c same = cc

  by_command : (o : Option Command) → IsSomeAnd o (λ c. claim_of before line c ≡ Claim from n line ∷ []) →
      is_free_message before (matched_pairs before) from n ≡ true
  by_command None claim = absurd claim
  by_command (Some c) claim = by_kind c claim

free_parts : (h : List Event) (found : List Pair) (from n : ℕ) → is_free_message h found from n ≡ true →
    (happened (is_claim from n) h ≡ false) × (happened (is_withdraw from n true) h ≡ false)
unfolding is_free_message
free_parts h found from n free = by_parts (list_any (is_of_message from n) found) (happened (is_claim from n) h)
    (happened (is_withdraw from n true) h) free where
      by_parts : (a b c : Bool) → (not a && not b && not c) ≡ true → (b ≡ false) × (c ≡ false)
      by_parts true b c h = cc
      by_parts false true c h = cc
      by_parts false false true h = cc
      by_parts false false false h = (refl, refl)

-- a claimed message is not withdrawn
abbrev Kept : ℕ → ℕ → List Event → Type 0
Kept from n h = happened (is_claim from n) h ≡ true → happened (is_withdraw from n true) h ≡ false

kept : (commands : List Numbered) (from n : ℕ) (b xs : List Event) →
    AtEachAfter (λ before e. ClaimAt commands before e.what) b xs →
    AtEachAfter (λ before e. EndAt before e.what) b xs → Kept from n b → Kept from n (b ++ xs)
kept commands from n b [] claims ends was = subst (λ (h : List Event). Kept from n h) (sym (append-nil b)) was
kept commands from n b (e ∷ xs) claims ends was =
    subst (λ (h : List Event). Kept from n h) (append_assoc b (e ∷ []) xs)
    (kept commands from n (b ++ e ∷ []) xs claims.1 ends.1
    (λ claimed. happened-append (is_withdraw from n true) b (e ∷ []) ∙ by_what e.what claims.0 ends.0
    (sym (happened-append (is_claim from n) b (e ∷ [])) ∙ claimed)))
  where
    plain : (happened (is_claim from n) b || (false || false)) ≡ true →
        (happened (is_withdraw from n true) b || (false || false)) ≡ false
    plain claimed = or_false _ ∙ was (sym (or_false _) ∙ claimed)

    by_what : (w : Happened) → ClaimAt commands b w → EndAt b w →
        (happened (is_claim from n) b || (is_claim from n w || false)) ≡ true →
        (happened (is_withdraw from n true) b || (is_withdraw from n true w || false)) ≡ false
    by_what (Claim from' n' line) claim end' claimed = by_test (from' == from) refl (n' == n) refl claimed where
      by_test : (x : Bool) → (from' == from) ≡ x → (y : Bool) → (n' == n) ≡ y →
          (happened (is_claim from n) b || ((x && y) || false)) ≡ true →
          (happened (is_withdraw from n true) b || (false || false)) ≡ false
      by_test true same_from true same_n claimed =
          let free : is_free_message b (matched_pairs b) from n ≡ true =
          subst (λ (k : ℕ). is_free_message b (matched_pairs b) k n ≡ true) (same_number from' from same_from)
          (subst (λ (k : ℕ). is_free_message b (matched_pairs b) from' k ≡ true) (same_number n' n same_n)
          (claim_free commands b from' n' line claim)) in
          or_false _ ∙ (free_parts b (matched_pairs b) from n free).1
      by_test true same_from false same_n claimed = plain claimed
      by_test false same_from y same_n claimed = plain claimed
    by_what (Withdraw from' n' done) claim end' claimed = by_test (from' == from) refl (n' == n) refl done end' where
      by_test : (x : Bool) → (from' == from) ≡ x → (y : Bool) → (n' == n) ≡ y →
          (done : Bool) → EndAt b (Withdraw from' n' done) →
          (happened (is_withdraw from n true) b || ((x && y && is_same true done) || false)) ≡ false
      by_test true same_from true same_n true end' =
          let free : is_free_message b (matched_pairs b) from n ≡ true =
          subst (λ (k : ℕ). is_free_message b (matched_pairs b) k n ≡ true) (same_number from' from same_from)
          (subst (λ (k : ℕ). is_free_message b (matched_pairs b) from' k ≡ true) (same_number n' n same_n)
          (sym end'.3)) in
          let unclaimed = (free_parts b (matched_pairs b) from n free).0 in
          let bad : false ≡ true = sym unclaimed ∙ sym (or_false _) ∙ claimed in cc
      by_test true same_from true same_n false end' = plain claimed
      by_test true same_from false same_n d end' = plain claimed
      by_test false same_from y same_n d end' = plain claimed
    by_what w claim end' claimed = plain claimed

-- the message of a new pair was not withdrawn
fresh_message : (ranks eager : ℕ) (commands : List Numbered) (before : List Event) (w : Happened) →
    Always (NumberAt ranks) before → Always EndAt before → Always (ClaimAt commands) before →
    NumberAt ranks before w → StartAt eager commands before w →
    (pair : Pair) → new_pair before (matched_pairs before) w ≡ Some pair →
    happened (is_withdraw pair.arrival.env.from pair.arrival.n true) before ≡ false
unfolding AtEach
fresh_message ranks eager commands before (Post p line) numbers ends claims number start pair made =
    let taken = mapped_some (λ (a : Arrival). pair_of p a)
    (first_message before (matched_pairs before) p.from p.tag p.ctx) pair made in
    let a : Arrival = taken.0 in
    let passes = find_passes (λ a. matches p.from p.tag p.ctx a.env && is_free before (matched_pairs before) a)
    (messages before) a taken.1 in
    subst (λ (pair : Pair). happened (is_withdraw pair.arrival.env.from pair.arrival.n true) before ≡ false) taken.2
    (free_parts before (matched_pairs before) a.env.from a.n (and_right _ _ passes)).1
fresh_message ranks eager commands before (Arrive a) numbers ends claims number start pair made =
    let taken = mapped_some (λ (p : post.Post). pair_of p a) (first_receive before (matched_pairs before) a.env) pair
    made in
    subst (λ (pair : Pair). happened (is_withdraw pair.arrival.env.from pair.arrival.n true) before ≡ false) taken.2
    (refuted (happened (is_withdraw a.env.from a.n true) before) (λ withdrawn.
    let came = came_before EndAt (is_withdraw a.env.from a.n true) (is_arrival a.env.from a.n)
    (withdraw_came a.env.from a.n) [] before ends withdrawn in
    let below = came_below ranks [] before a.env.from a.n numbers came in
    absurd (omega (arith, below, number.1))))
  where
    withdraw_came : (from n : ℕ) (before : List Event) (w : Happened) → EndAt before w →
        is_withdraw from n true w ≡ true → happened (is_arrival from n) before ≡ true
    withdraw_came from n before (Withdraw from' n' done) end' is =
        let same_from : from' ≡ from = same_number from' from (and_left (from' == from) (n' == n) (and_left _ _ is)) in
        let same_n : n' ≡ n = same_number n' n (and_right (from' == from) (n' == n) (and_left _ _ is)) in
        ap (λ (k : ℕ). happened (is_arrival k n) before) (sym same_from)
        ∙ ap (λ (k : ℕ). happened (is_arrival from' k) before) (sym same_n) ∙ end'.2
    withdraw_came from n before w end' is = cc
fresh_message ranks eager commands before (Match number' from n cap line) numbers ends claims number start pair made =
    let taken = mapped_some (λ (a : Arrival). pair_of_claimed number' cap a) (message_of before from n) pair made in
    let a : Arrival = taken.0 in
    let passes = find_passes (λ a. a.env.from == from && a.n == n) (messages before) a taken.1 in
    subst (λ (pair : Pair). happened (is_withdraw pair.arrival.env.from pair.arrival.n true) before ≡ false) taken.2
    (ap (λ (k : ℕ). happened (is_withdraw k a.n true) before)
    (same_number a.env.from from (and_left (a.env.from == from) (a.n == n) passes))
    ∙ ap (λ (k : ℕ). happened (is_withdraw from k true) before)
    (same_number a.n n (and_right (a.env.from == from) (a.n == n) passes))
    ∙ kept commands from n [] before claims ends (λ none. cc) (and_left _ _ start))
fresh_message ranks eager commands before w numbers ends claims number start pair made = cc

-- what a rank's run pairs is fresh
pub fresh_at : (shape : Sizes) (commands : List Numbered) (at : ℕ) (h : List Event) → IsRankRun shape commands at h →
    Always FreshAt h
fresh_at shape commands at h run = AtEach-from_splits (λ before e. FreshAt before e.what) h (λ before e after split.
    let numbers = subst (λ (k : List Event). Always (NumberAt shape.ranks) k) split run.numbers in
    let starts = subst (λ (k : List Event). Always (StartAt shape.eager commands) k) split run.starts.made in
    let ends = subst (λ (k : List Event). Always EndAt k) split run.ends in
    let claims = subst (λ (k : List Event). Always (ClaimAt commands) k) split run.claims.made in
    let whole : before ++ e ∷ after ≡ (before ++ e ∷ []) ++ after = sym (append_assoc before (e ∷ []) after) in
    λ pair made. (
      alone (matched_pairs before) pair
          (subst (λ (ps : List Pair). AllPairs TwoMessages ps)
          (matched_pairs-push before e ∙ ap (λ (o : Option Pair). matched_pairs before ++ option_to_list o) made)
          (one_to_one shape.ranks shape.eager commands (before ++ e ∷ [])
          (AtEach-prefix (λ before e. NumberAt shape.ranks before e.what) (before ++ e ∷ []) after
          (subst (λ (k : List Event). Always (NumberAt shape.ranks) k) whole numbers))
          (AtEach-prefix (λ before e. StartAt shape.eager commands before e.what) (before ++ e ∷ []) after
          (subst (λ (k : List Event). Always (StartAt shape.eager commands) k) whole starts))).messages),
      fresh_message shape.ranks shape.eager commands before e.what
          (AtEach-prefix (λ before e. NumberAt shape.ranks before e.what) before (e ∷ after) numbers)
          (AtEach-prefix (λ before e. EndAt before e.what) before (e ∷ after) ends)
          (AtEach-prefix (λ before e. ClaimAt commands before e.what) before (e ∷ after) claims)
          (AtEach-split (λ before e. NumberAt shape.ranks before e.what) before e after numbers)
          (AtEach-split (λ before e. StartAt shape.eager commands before e.what) before e after starts) pair made,
    ))
