-- Events that are no answers, and what is left behind them.
use Rattle.std.proofs.Common.{◌≡◌, ◌⊎◌, inl, inr, ℕ, Bool, true, false, cond, Option, Some, None, List, [], ◌∷◌, ◌++◌}
use Rattle.std.proofs.Common.{map, refl, sym, ◌∙◌, ap, arith, append-nil, append_assoc}
use Rattle.std.specs.Prelude.{option_and_then}
use Rattle.std.specs.List.{AllByRecursion, cons_option, filter, filter_map, slice_get}
use Rattle.std.proofs.lemmas.Bool.{false≢true}
use Rattle.std.proofs.lemmas.List.Elements.{filter_map-append}
use Rattle.std.proofs.lemmas.List.Sums.{fold_push}
use Rattle.nm_types.specs.declared.answers.Answer.{Answer}
use Rattle.nm_types.specs.Commands.{Numbered}
use Rattle.nm_history.specs.declared.events.Event.{Event}
use Rattle.nm_history.specs.declared.events.Happened.{Happened}
use Rattle.nm_history.specs.declared.events.Happened.TheVariants as event
use Rattle.nm_history.specs.Answers.{Message, claim_at, claim_line_after, line_after, line_of_handle}
use Rattle.nm_history.specs.Answers.{line_of_name, live, live_message, message_claimed, request_at, request_of}
use Rattle.nm_history.specs.Completion.{Request}
use Rattle.nm_history.specs.RankRun.{is_start, line_of_claim, ran_lines}
use Rattle.nm_history.specs.RankRun.{ran_of, since_command, without_number}
use Rattle.nm_history.proofs.AnswerLemmas.{line-push, no_request}
use Rattle.nm_history.proofs.RankRunLemmas.{since-push}
use Rattle.nm_history.specs.Underway.{is_answer}
use Rattle.nm_history.proofs.AppendLemmas.{since_grows}

-- no event of these is an answer
abbrev pub AreQuiet : List Event → Type 0
AreQuiet es = AllByRecursion (λ (e : Event). is_answer e.what ≡ false) es

-- one of these is, and none before it
pub record HasAnswer (after : List Event) : Type 0 where
  pub mid : List Event
  pub stamp : ℕ
  pub line : ℕ
  pub answer : Answer
  pub rest : List Event
  pub split : after ≡ mid ++ record { stamp = stamp; what = event.Ran line answer } ∷ rest
  pub quiet : AreQuiet mid

pub first_answer : (after : List Event) → HasAnswer after ⊎ AreQuiet after
first_answer [] = inr tt
first_answer (e ∷ after) = by_event e.what e.stamp (first_answer after)
  where
    by_event : (what : Happened) (stamp : ℕ) → HasAnswer after ⊎ AreQuiet after →
        HasAnswer (record { stamp = stamp; what = what } ∷ after)
        ⊎ AreQuiet (record { stamp = stamp; what = what } ∷ after)
    by_event (event.Ran line answer) stamp later =
        inl (record {
          mid = [];
          stamp = stamp;
          line = line;
          answer = answer;
          rest = after;
          split = refl;
          quiet = tt;
        })
    by_event what stamp (inl found) =
        inl (record {
          mid = record { stamp = stamp; what = what } ∷ found.mid;
          stamp = found.stamp;
          line = found.line;
          answer = found.answer;
          rest = found.rest;
          split = ap (λ (es : List Event). record { stamp = stamp; what = what } ∷ es) found.split;
          quiet = (refl, found.quiet);
        })
    by_event what stamp (inr quiet) = inr (refl, quiet)

pub since_quiet : (h es : List Event) → AreQuiet es →
    since_command (h ++ es) ≡ since_command h ++ map (λ (e : Event). e.what) es
since_quiet h [] quiet = ap (λ (k : List Event). since_command k) (append-nil h) ∙ sym (append-nil (since_command h))
since_quiet h (e ∷ es) quiet =
    ap (λ (k : List Event). since_command k) (sym (append_assoc h (e ∷ []) es))
    ∙ since_quiet (h ++ e ∷ []) es quiet.1
    ∙ ap (λ (ws : List Happened). ws ++ map (λ (e : Event). e.what) es)
    (since-push h e ∙ since_grows (since_command h) e.what quiet.0)
    ∙ append_assoc (since_command h) (e.what ∷ []) (map (λ (e : Event). e.what) es)

pub no_lines : (es : List Event) → AreQuiet es → ran_lines es ≡ []
no_lines [] quiet = refl
no_lines (e ∷ es) quiet = by_event e.what quiet.0 (no_lines es quiet.1)
  where
    by_event : (what : Happened) → is_answer what ≡ false → ran_lines es ≡ [] →
        cons_option (ran_of what) (filter_map (λ (e : Event). ran_of e.what) es) ≡ []
    by_event (event.Ran line answer) none later = absurd (false≢true (sym none))
    by_event what none later = later

pub ran_quiet : (h es : List Event) → AreQuiet es → ran_lines (h ++ es) ≡ ran_lines h
ran_quiet h es quiet =
    filter_map-append (λ (e : Event). ran_of e.what) h es
    ∙ ap (λ (ls : List ℕ). ran_lines h ++ ls) (no_lines es quiet) ∙ append-nil (ran_lines h)

pub names_quiet : (commands : List Numbered) (q : ℕ) (h es : List Event) → AreQuiet es →
    line_of_name commands (h ++ es) q ≡ line_of_name commands h q
names_quiet commands q h [] quiet = ap (λ (k : List Event). line_of_name commands k q) (append-nil h)
names_quiet commands q h (e ∷ es) quiet =
    ap (λ (k : List Event). line_of_name commands k q) (sym (append_assoc h (e ∷ []) es))
    ∙ names_quiet commands q (h ++ e ∷ []) es quiet.1
    ∙ line-push commands h e q ∙ kept (line_of_name commands h q) e.what quiet.0
  where
    kept : (line : Option ℕ) (what : Happened) → is_answer what ≡ false → line_after commands q line what ≡ line
    kept line (event.Ran ran answer) none = absurd (false≢true (sym none))
    kept line what none = refl

pub handles_quiet : (commands : List Numbered) (m : ℕ) (h es : List Event) → AreQuiet es →
    line_of_handle commands (h ++ es) m ≡ line_of_handle commands h m
handles_quiet commands m h [] quiet = ap (λ (k : List Event). line_of_handle commands k m) (append-nil h)
handles_quiet commands m h (e ∷ es) quiet =
    ap (λ (k : List Event). line_of_handle commands k m) (sym (append_assoc h (e ∷ []) es))
    ∙ handles_quiet commands m (h ++ e ∷ []) es quiet.1
    ∙ fold_push (λ (line : Option ℕ) (e : Event). claim_line_after commands m line e.what) None h e
    ∙ kept (line_of_handle commands h m) e.what quiet.0
  where
    kept : (line : Option ℕ) (what : Happened) → is_answer what ≡ false → claim_line_after commands m line what ≡ line
    kept line (event.Ran ran answer) none = absurd (false≢true (sym none))
    kept line what none = refl

pub no_requests : (l : ℕ) (es : List Event) → filter is_start (map (λ (e : Event). e.what) es) ≡ [] →
    filter_map (λ (e : Event). request_of l e.what) es ≡ []
no_requests l [] none = refl
no_requests l (e ∷ es) none = by_test (is_start e.what) refl none (λ none. no_requests l es none)
  where
    by_test : (b : Bool) → is_start e.what ≡ b →
        cond b (e.what ∷ filter is_start (map (λ (e : Event). e.what) es))
        (filter is_start (map (λ (e : Event). e.what) es)) ≡ [] →
        (filter is_start (map (λ (e : Event). e.what) es) ≡ [] →
        filter_map (λ (e : Event). request_of l e.what) es ≡ []) →
        cons_option (request_of l e.what) (filter_map (λ (e : Event). request_of l e.what) es) ≡ []
    by_test true is none later = absurd (grind arith)
    by_test false is none later = rw (no_request l e.what is) (later none)

pub no_claims : (l : ℕ) (es : List Event) → filter_map line_of_claim (map (λ (e : Event). e.what) es) ≡ [] →
    filter_map (λ (e : Event). message_claimed l e.what) es ≡ []
no_claims l [] none = refl
no_claims l (e ∷ es) none = by_event e.what none (λ none. no_claims l es none)
  where
    by_event : (what : Happened) →
        cons_option (line_of_claim what) (filter_map line_of_claim (map (λ (e : Event). e.what) es)) ≡ [] →
        (filter_map line_of_claim (map (λ (e : Event). e.what) es) ≡ [] →
        filter_map (λ (e : Event). message_claimed l e.what) es ≡ []) →
        cons_option (message_claimed l what) (filter_map (λ (e : Event). message_claimed l e.what) es) ≡ []
    by_event (event.Claim from n line) none later = absurd (grind arith)
    by_event what none later = later none

pub back_empty : {X : Type 0} (xs ys : List X) → xs ++ ys ≡ [] → ys ≡ []
back_empty [] ys none = none
back_empty (x ∷ xs) ys none = absurd (grind arith)

pub looked_up : {X : Type 0} (f g : ℕ → Option X) → ((k : ℕ) → f k ≡ g k) → (o : Option ℕ) →
    option_and_then f o ≡ option_and_then g o
looked_up f g same None = refl
looked_up f g same (Some k) = same k

pub live_quiet : (commands : List Numbered) (q : ℕ) (h es : List Event) → AreQuiet es →
    filter is_start (map (λ (e : Event). e.what) es) ≡ [] → live commands (h ++ es) q ≡ live commands h q
live_quiet commands q h es quiet none =
    ap (λ (o : Option ℕ). option_and_then (request_at (h ++ es)) o) (names_quiet commands q h es quiet)
    ∙ looked_up (request_at (h ++ es)) (request_at h)
    (λ l. ap (λ (rs : List Request). slice_get rs 0)
    (filter_map-append (λ (e : Event). request_of l e.what) h es
    ∙ ap (λ (rs : List Request). filter_map (λ (e : Event). request_of l e.what) h ++ rs) (no_requests l es none)
    ∙ append-nil (filter_map (λ (e : Event). request_of l e.what) h))) (line_of_name commands h q)

pub message_quiet : (commands : List Numbered) (m : ℕ) (h es : List Event) → AreQuiet es →
    filter_map line_of_claim (map (λ (e : Event). e.what) es) ≡ [] →
    live_message commands (h ++ es) m ≡ live_message commands h m
message_quiet commands m h es quiet none =
    ap (λ (o : Option ℕ). option_and_then (claim_at (h ++ es)) o) (handles_quiet commands m h es quiet)
    ∙ looked_up (claim_at (h ++ es)) (claim_at h)
    (λ l. ap (λ (ms : List Message). slice_get ms 0)
    (filter_map-append (λ (e : Event). message_claimed l e.what) h es
    ∙ ap (λ (ms : List Message). filter_map (λ (e : Event). message_claimed l e.what) h ++ ms) (no_claims l es none)
    ∙ append-nil (filter_map (λ (e : Event). message_claimed l e.what) h))) (line_of_handle commands h m)

-- what passes is kept, and is the one that is kept alone
pub not_kept : {X : Type 0} (test : X → Bool) (xs ys : List X) (w : X) → test w ≡ true →
    filter test (xs ++ w ∷ ys) ≡ [] → ⊥
not_kept {X} test [] ys w passes none = by_test (test w) passes none
  where
    by_test : (b : Bool) → b ≡ true → cond b (w ∷ filter test ys) (filter test ys) ≡ [] → ⊥
    by_test true passes none = grind arith
    by_test false passes none = false≢true passes
not_kept {X} test (x ∷ xs) ys w passes none =
    by_test (test x) none (λ none. not_kept test xs ys w passes none)
  where
    by_test : (b : Bool) → cond b (x ∷ filter test (xs ++ w ∷ ys)) (filter test (xs ++ w ∷ ys)) ≡ [] →
        (filter test (xs ++ w ∷ ys) ≡ [] → ⊥) → ⊥
    by_test true none later = grind arith
    by_test false none later = later none

pub one_in : {X : Type 0} (test : X → Bool) (xs ys : List X) (w z : X) → test w ≡ true →
    filter test (xs ++ w ∷ ys) ≡ z ∷ [] → w ≡ z
one_in {X} test [] ys w z passes one = by_test (test w) passes one
  where
    by_test : (b : Bool) → b ≡ true → cond b (w ∷ filter test ys) (filter test ys) ≡ z ∷ [] → w ≡ z
    by_test true passes one = cc
    by_test false passes one = absurd (false≢true passes)
one_in {X} test (x ∷ xs) ys w z passes one = by_test (test x) one (λ one. one_in test xs ys w z passes one)
  where
    by_test : (b : Bool) → cond b (x ∷ filter test (xs ++ w ∷ ys)) (filter test (xs ++ w ∷ ys)) ≡ z ∷ [] →
        (filter test (xs ++ w ∷ ys) ≡ z ∷ [] → w ≡ z) → w ≡ z
    by_test true one later =
        let tail : filter test (xs ++ w ∷ ys) ≡ [] = cc in absurd (not_kept test xs ys w passes tail)
    by_test false one later = later one

-- what passes before the only one that does
pub none_before : {X : Type 0} (test : X → Bool) (xs ys : List X) (w z : X) → test w ≡ true →
    filter test (xs ++ w ∷ ys) ≡ z ∷ [] → filter test xs ≡ []
none_before test [] ys w z passes one = refl
none_before {X} test (x ∷ xs) ys w z passes one =
    by_test (test x) one (λ one. none_before test xs ys w z passes one)
  where
    by_test : (b : Bool) → cond b (x ∷ filter test (xs ++ w ∷ ys)) (filter test (xs ++ w ∷ ys)) ≡ z ∷ [] →
        (filter test (xs ++ w ∷ ys) ≡ z ∷ [] → filter test xs ≡ []) →
        cond b (x ∷ filter test xs) (filter test xs) ≡ []
    by_test true one later =
        let tail : filter test (xs ++ w ∷ ys) ≡ [] = cc in absurd (not_kept test xs ys w passes tail)
    by_test false one later = later one

pub all_in : {X : Type 0} (P : X → Type 0) (test : X → Bool) (xs ys : List X) (w : X) → test w ≡ true →
    AllByRecursion P (filter test (xs ++ w ∷ ys)) → P w
all_in {X} P test [] ys w passes all = by_test (test w) passes all
  where
    by_test : (b : Bool) → b ≡ true → AllByRecursion P (cond b (w ∷ filter test ys) (filter test ys)) → P w
    by_test true passes all = all.0
    by_test false passes all = absurd (false≢true passes)
all_in {X} P test (x ∷ xs) ys w passes all = by_test (test x) all (λ all. all_in P test xs ys w passes all)
  where
    by_test : (b : Bool) → AllByRecursion P (cond b (x ∷ filter test (xs ++ w ∷ ys)) (filter test (xs ++ w ∷ ys))) →
        (AllByRecursion P (filter test (xs ++ w ∷ ys)) → P w) → P w
    by_test true all later = later all.1
    by_test false all later = later all

-- the line of a claim that is among some
pub claim_among : (xs ys : List Happened) (from n line : ℕ) →
    filter_map line_of_claim (xs ++ event.Claim from n line ∷ ys)
    ≡ filter_map line_of_claim xs ++ line ∷ filter_map line_of_claim ys
claim_among xs ys from n line = filter_map-append line_of_claim xs (event.Claim from n line ∷ ys)

pub middle_empty : (xs ys : List ℕ) (x : ℕ) → xs ++ x ∷ ys ≡ [] → ⊥
middle_empty [] ys x none = grind arith
middle_empty (y ∷ xs) ys x none = grind arith

pub middle_one : (xs ys : List ℕ) (x z : ℕ) → xs ++ x ∷ ys ≡ z ∷ [] → x ≡ z
middle_one [] ys x z one = cc
middle_one (y ∷ xs) ys x z one = let tail : xs ++ x ∷ ys ≡ [] = cc in absurd (middle_empty xs ys x tail)

pub first_one : (xs ys : List ℕ) (x z : ℕ) → xs ++ x ∷ ys ≡ z ∷ [] → xs ≡ []
first_one [] ys x z one = refl
first_one (y ∷ xs) ys x z one = let tail : xs ++ x ∷ ys ≡ [] = cc in absurd (middle_empty xs ys x tail)

pub nothing_mapped : (ws : List Happened) → map without_number ws ≡ [] → ws ≡ []
nothing_mapped [] none = refl
nothing_mapped (w ∷ ws) none = absurd (grind arith)

pub either_none : {X : Type 0} (b : Bool) → cond {A = List X} b [] [] ≡ []
either_none true = refl
either_none false = refl
