-- The lines of events, and what the command of a line that is still to come makes.
use Rattle.std.proofs.Common.{◌≡◌, ℕ, ◌<◌, ◌≤◌, ◌==◌, Bool, true, false, cond, Option, Some, None, List}
use Rattle.std.proofs.Common.{[], ◌∷◌, ◌++◌, fold, refl, sym, ◌∙◌, ap, subst, arith, append-nil}
use Rattle.std.proofs.Common.{append_assoc}
use Rattle.std.specs.Prelude.{nat_lt}
use Rattle.std.specs.List.{filter_map, cons_option, list_all, slice_get}
use Rattle.std.specs.Option.{option_and_then}
use Rattle.std.proofs.lemmas.List.Elements.{filter_map-append}
use Rattle.std.proofs.lemmas.List.Sums.{fold_push}
use Rattle.std.proofs.lemmas.Bool.Decides.{nat_tests}
use Rattle.nm_types.specs.Commands.{Numbered}
use Rattle.nm_history.specs.declared.events.Event.{Event}
use Rattle.nm_history.specs.declared.events.Happened.{Happened}
use Rattle.nm_history.specs.declared.events.Happened.TheVariants.{Send, Post, Claim, Match, Ran}
use Rattle.nm_history.specs.Completion.{Request}
use Rattle.nm_history.specs.Answers.{Message, claim_at, claim_line_after, line_after, line_of_handle}
use Rattle.nm_history.specs.Answers.{line_of_name, live, live_message, message_claimed, request_at}
use Rattle.nm_history.specs.Answers.{request_of}
use Rattle.nm_history.specs.RankRun.{is_start, line_of_claim}
use Rattle.nm_history.specs.Underway.{is_answer, is_of_packet}
use Rattle.nm_history.proofs.AnswerLemmas.{handle_same, line-push, line_kept, live_same, no_request}
use Rattle.nm_process.specs.Work.{are_below, line_of}
use Rattle.nm_types.proofs.TruthLemmas.{both, and_left, and_right}
use Rattle.nm_types.proofs.NumberLemmas.{eq_less}
use Rattle.nm_history.proofs.RankRunLemmas.{not_answer}
use Rattle.nm_history.proofs.AnswerLemmas.{claim_line_kept}

below_is : (a b : ℕ) → nat_lt a b ≡ true → a < b
below_is a b h = grind (arith, nat_tests)

first_below : (l : ℕ) (e : Event) (h : List Event) → are_below l (e ∷ h) ≡ true →
    nat_lt (line_of e.what) l ≡ true
first_below l e h below = and_left (nat_lt (line_of e.what) l) (are_below l h) below

rest_below : (l : ℕ) (e : Event) (h : List Event) → are_below l (e ∷ h) ≡ true → are_below l h ≡ true
rest_below l e h below = and_right (nat_lt (line_of e.what) l) (are_below l h) below

-- one event more below a line
pub below-push : (l : ℕ) (h : List Event) (e : Event) → are_below l h ≡ true →
    nat_lt (line_of e.what) l ≡ true → are_below l (h ++ e ∷ []) ≡ true
below-push l [] e past here = both (nat_lt (line_of e.what) l) true here refl
below-push l (x ∷ h) e past here = both (nat_lt (line_of x.what) l) _ (first_below l x h past)
    (below-push l h e (rest_below l x h past) here)

-- what is below a line is below each later one
pub below-more : (l more : ℕ) (h : List Event) → l ≤ more → are_below l h ≡ true → are_below more h ≡ true
below-more l more [] le past = refl
below-more l more (e ∷ h) le past = both (nat_lt (line_of e.what) more) _
    (later (line_of e.what) (first_below l e h past)) (below-more l more h le (rest_below l e h past)) where
      later : (k : ℕ) → nat_lt k l ≡ true → nat_lt k more ≡ true
      later k lt = grind (arith, nat_tests)

-- events of packets have no line
pub packet_line : (what : Happened) → is_of_packet what ≡ true → line_of what ≡ 0
packet_line (Send to n tag ctx len how line) p = cc
packet_line (Post post line) p = cc
packet_line (Match number from n room line) p = cc
packet_line (Claim from n line) p = cc
packet_line (Ran line answer) p = cc
packet_line what p = refl

pub packet_no_start : (what : Happened) → is_of_packet what ≡ true → is_start what ≡ false
packet_no_start (Send to n tag ctx len how line) p = sym p
packet_no_start (Post post line) p = sym p
packet_no_start (Match number from n room line) p = sym p
packet_no_start what p = refl

pub packet_no_claim : (what : Happened) → is_of_packet what ≡ true → line_of_claim what ≡ None
packet_no_claim (Claim from n line) p = cc
packet_no_claim what p = refl

pub below_packets : (l : ℕ) (h events : List Event) → 0 < l → list_all (λ e. is_of_packet e.what) events
    ≡ true → are_below l h ≡ true → are_below l (h ++ events) ≡ true
below_packets l h [] some all past = rw append-nil past
below_packets l h (e ∷ events) some all past =
    subst (λ (k : List Event). are_below l k ≡ true) (append_assoc h (e ∷ []) events)
    (below_packets l (h ++ e ∷ []) events some (and_right (is_of_packet e.what) _ all)
    (below-push l h e past (zero_below (line_of e.what)
    (packet_line e.what (and_left (is_of_packet e.what) _ all))))) where
      zero_below : (k : ℕ) → k ≡ 0 → nat_lt k l ≡ true
      zero_below k is = grind (arith, nat_tests)

-- an event of another line starts no request and makes no claim for this line
no_request_other : (l : ℕ) (what : Happened) → (line_of what == l) ≡ false → request_of l what ≡ None
no_request_other l (Send to n tag ctx len how line) other = rw other refl
no_request_other l (Post p line) other = rw other refl
no_request_other l (Match number from n room line) other = rw other refl
no_request_other l what other = refl

no_claim_other : (l : ℕ) (what : Happened) → (line_of what == l) ≡ false → message_claimed l what ≡ None
no_claim_other l (Claim from n line) other = rw other refl
no_claim_other l what other = refl

-- no request and no claim of a line that is still to come
none_requested : (l : ℕ) (h : List Event) → are_below l h ≡ true →
    filter_map (λ e. request_of l e.what) h ≡ []
none_requested l [] below = refl
none_requested l (e ∷ h) below =
    filter_map-append (λ (e : Event). request_of l e.what) (e ∷ []) h
    ∙ rw (no_request_other l e.what
    (eq_less (line_of e.what) l (below_is (line_of e.what) l (first_below l e h below))))
    (none_requested l h (rest_below l e h below))

none_claimed : (l : ℕ) (h : List Event) → are_below l h ≡ true →
    filter_map (λ e. message_claimed l e.what) h ≡ []
none_claimed l [] below = refl
none_claimed l (e ∷ h) below =
    filter_map-append (λ (e : Event). message_claimed l e.what) (e ∷ []) h
    ∙ rw (no_claim_other l e.what
    (eq_less (line_of e.what) l (below_is (line_of e.what) l (first_below l e h below))))
    (none_claimed l h (rest_below l e h below))

pub no_claim_yet : (l : ℕ) (h : List Event) → are_below l h ≡ true → claim_at h l ≡ None
no_claim_yet l h below = ap (λ (ms : List Message). slice_get ms 0) (none_claimed l h below)

-- the line of a name is one that ran, and so is that of a handle
by_tests : (l line : ℕ) (a b : Bool) (acc : Option ℕ) → line < l → ((m : ℕ) → acc ≡ Some m → m < l) →
    (m : ℕ) → cond a (Some line) (cond b None acc) ≡ Some m → m < l
by_tests l line true b acc lt small m is = let same : line ≡ m = cc in omega arith
by_tests l line false true acc lt small m is = cc
by_tests l line false false acc lt small m is = small m is

name_below : (commands : List Numbered) (q l k : ℕ) (acc : Option ℕ) (h : List Event) →
    ((m : ℕ) → acc ≡ Some m → m < l) → are_below l h ≡ true →
    fold (λ line e. line_after commands q line e.what) acc h ≡ Some k → k < l
name_below commands q l k acc [] small below is = small k is
name_below commands q l k acc (e ∷ h) small below is =
    name_below commands q l k (line_after commands q acc e.what) h
    (after e.what (first_below l e h below)) (rest_below l e h below) is where
      after : (what : Happened) → nat_lt (line_of what) l ≡ true → (m : ℕ) →
          line_after commands q acc what ≡ Some m → m < l
      after (Ran line answer) lt m is = by_tests l line _ _ acc (below_is line l lt) small m is
      after what lt m is = small m is

handle_below : (commands : List Numbered) (m l k : ℕ) (acc : Option ℕ) (h : List Event) →
    ((m : ℕ) → acc ≡ Some m → m < l) → are_below l h ≡ true →
    fold (λ line e. claim_line_after commands m line e.what) acc h ≡ Some k → k < l
handle_below commands m l k acc [] small below is = small k is
handle_below commands m l k acc (e ∷ h) small below is =
    handle_below commands m l k (claim_line_after commands m acc e.what) h
    (after e.what (first_below l e h below)) (rest_below l e h below) is where
      after : (what : Happened) → nat_lt (line_of what) l ≡ true → (i : ℕ) →
          claim_line_after commands m acc what ≡ Some i → i < l
      after (Ran line answer) lt i is = by_tests l line _ _ acc (below_is line l lt) small i is
      after what lt i is = small i is

-- the start of a line that is still to come makes the request of that line
pub request_made : (l : ℕ) (h : List Event) (e : Event) (r : Request) → are_below l h ≡ true →
    request_of l e.what ≡ Some r → request_at (h ++ e ∷ []) l ≡ Some r
request_made l h e r below is =
    ap (λ (rs : List Request). slice_get rs 0) (filter_map-append (λ (e : Event). request_of l e.what) h
    (e ∷ [])
    ∙ ap (λ (rs : List Request). rs ++ cons_option (request_of l e.what) []) (none_requested l h below)
    ∙ ap (λ (o : Option Request). cons_option o []) is)

pub claim_made : (l : ℕ) (h : List Event) (e : Event) (r : Message) → are_below l h ≡ true →
    message_claimed l e.what ≡ Some r → claim_at (h ++ e ∷ []) l ≡ Some r
claim_made l h e r below is =
    ap (λ (rs : List Message). slice_get rs 0)
    (filter_map-append (λ (e : Event). message_claimed l e.what) h (e ∷ [])
    ∙ ap (λ (rs : List Message). rs ++ cons_option (message_claimed l e.what) []) (none_claimed l h below)
    ∙ ap (λ (o : Option Message). cons_option o []) is)

request_of_other : (l : ℕ) (h : List Event) (e : Event) → (line_of e.what == l) ≡ false →
    request_at (h ++ e ∷ []) l ≡ request_at h l
request_of_other l h e other =
    ap (λ (rs : List Request). slice_get rs 0) (filter_map-append (λ (e : Event). request_of l e.what) h
    (e ∷ [])
    ∙ ap (λ (o : Option Request). filter_map (λ (e : Event). request_of l e.what) h ++ cons_option o [])
    (no_request_other l e.what other) ∙ append-nil _)

claim_of_other : (l : ℕ) (h : List Event) (e : Event) → (line_of e.what == l) ≡ false →
    claim_at (h ++ e ∷ []) l ≡ claim_at h l
claim_of_other l h e other =
    ap (λ (rs : List Message). slice_get rs 0)
    (filter_map-append (λ (e : Event). message_claimed l e.what) h (e ∷ [])
    ∙ ap (λ (o : Option Message). filter_map (λ (e : Event). message_claimed l e.what) h ++ cons_option o
    []) (no_claim_other l e.what other) ∙ append-nil _)

-- an event of that line changes no name and no handle, before its command has answered
pub live_at_line : (commands : List Numbered) (h : List Event) (e : Event) (q l : ℕ) →
    is_answer e.what ≡ false → line_of e.what ≡ l → are_below l h ≡ true →
    live commands (h ++ e ∷ []) q ≡ live commands h q
live_at_line commands h e q l none line below =
    ap (λ (o : Option ℕ). option_and_then (request_at (h ++ e ∷ [])) o) (line-push commands h e q
    ∙ line_kept commands q (line_of_name commands h q) e.what none)
    ∙ by_name (line_of_name commands h q) (λ k is. name_below commands q l k None h
    (λ m none. cc) below is) where
      by_name : (o : Option ℕ) → ((k : ℕ) → o ≡ Some k → k < l) →
          option_and_then (request_at (h ++ e ∷ [])) o ≡ option_and_then (request_at h) o
      by_name None small = refl
      by_name (Some k) small = request_of_other k h e (rw line (other k (small k refl))) where
        other : (k : ℕ) → k < l → (l == k) ≡ false
        other k lt = grind (arith, nat_tests)

pub handle_at_line : (commands : List Numbered) (h : List Event) (e : Event) (m l : ℕ) →
    is_answer e.what ≡ false → line_of e.what ≡ l → are_below l h ≡ true →
    live_message commands (h ++ e ∷ []) m ≡ live_message commands h m
handle_at_line commands h e m l none line below =
    ap (λ (o : Option ℕ). option_and_then (claim_at (h ++ e ∷ [])) o)
    (fold_push (λ (line : Option ℕ) (e : Event). claim_line_after commands m line e.what) None h e
    ∙ claim_line_kept commands m (line_of_handle commands h m) e.what none)
    ∙ by_handle (line_of_handle commands h m) (λ k is. handle_below commands m l k None h
    (λ m none. cc) below is) where
      by_handle : (o : Option ℕ) → ((k : ℕ) → o ≡ Some k → k < l) →
          option_and_then (claim_at (h ++ e ∷ [])) o ≡ option_and_then (claim_at h) o
      by_handle None small = refl
      by_handle (Some k) small = claim_of_other k h e (rw line (other k (small k refl))) where
        other : (k : ℕ) → k < l → (l == k) ≡ false
        other k lt = grind (arith, nat_tests)

-- events of packets change no name, no handle and no request
pub live_packets : (commands : List Numbered) (h events : List Event) (q : ℕ) →
    list_all (λ e. is_of_packet e.what) events ≡ true → live commands (h ++ events) q ≡ live commands h q
live_packets commands h [] q all = rw append-nil refl
live_packets commands h (e ∷ events) q all =
    let packet = and_left (is_of_packet e.what) _ all in
    ap (λ (k : List Event). live commands k q) (sym (append_assoc h (e ∷ []) events))
    ∙ live_packets commands (h ++ e ∷ []) events q (and_right (is_of_packet e.what) _ all)
    ∙ live_same commands h e q (not_answer e.what packet) (packet_no_start e.what packet)

pub handle_packets : (commands : List Numbered) (h events : List Event) (m : ℕ) →
    list_all (λ e. is_of_packet e.what) events ≡ true → live_message commands (h ++ events) m
    ≡ live_message commands h m
handle_packets commands h [] m all = rw append-nil refl
handle_packets commands h (e ∷ events) m all =
    let packet = and_left (is_of_packet e.what) _ all in
    ap (λ (k : List Event). live_message commands k m) (sym (append_assoc h (e ∷ []) events))
    ∙ handle_packets commands (h ++ e ∷ []) events m (and_right (is_of_packet e.what) _ all)
    ∙ handle_same commands h e m (not_answer e.what packet) (packet_no_claim e.what packet)

pub request_packets : (l : ℕ) (h events : List Event) → list_all (λ e. is_of_packet e.what) events
    ≡ true → request_at (h ++ events) l ≡ request_at h l
request_packets l h events all = ap (λ (rs : List Request). slice_get rs 0)
    (filter_map-append (λ (e : Event). request_of l e.what) h events
    ∙ rw (none events all) (append-nil _)) where
      none : (events : List Event) → list_all (λ e. is_of_packet e.what) events ≡ true →
          filter_map (λ (e : Event). request_of l e.what) events ≡ []
      none [] all = refl
      none (e ∷ events) all =
          filter_map-append (λ (e : Event). request_of l e.what) (e ∷ []) events
          ∙ rw (no_request l e.what (packet_no_start e.what (and_left (is_of_packet e.what) _ all)))
          (none events (and_right (is_of_packet e.what) _ all))
