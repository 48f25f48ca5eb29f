-- Requests of which nothing was marked that their results need.
use Rattle.std.proofs.Common.{◌≡◌, ◌≢◌, ◌⊎◌, inl, inr, ℕ, zero, suc, ◌+◌, ◌<◌, ◌≤◌, ◌==◌, ◌&&◌, ◌||◌, Bool}
use Rattle.std.proofs.Common.{true, false, cond}
use Rattle.std.proofs.Common.{ltb, Option, Some, None, List, [], ◌∷◌, ◌++◌, length, refl, sym, ◌∙◌, ap, subst, arith}
use Rattle.std.proofs.Common.{length-append}
use Rattle.std.specs.Prelude.{if◌then◌else◌, option_to_list}
use Rattle.std.specs.List.{find, list_any, slice_get, slice_index_or}
use Rattle.std.specs.Option.{option_map_or}
use Rattle.std.proofs.Math.Bool.{or-false}
use Rattle.std.proofs.lemmas.Bool.{false≢true}
use Rattle.std.proofs.lemmas.Bool.Decides.{nat_tests}
use Rattle.std.proofs.lemmas.List.Elements.{All-contains}
use Rattle.std.proofs.lemmas.List.Folds.{list_any-append}
use Rattle.nm_types.specs.declared.answers.Answer.{Answer}
use Rattle.nm_types.specs.declared.messages.Post as post
use Rattle.nm_types.specs.declared.scripts.Command.{Command}
use Rattle.nm_types.specs.declared.scripts.Command.TheVariants as command
use Rattle.nm_types.specs.declared.scripts.Line.{Line}
use Rattle.nm_types.specs.Commands.{Numbered, command_at, commands_of}
use Rattle.nm_types.specs.Sizes.{Sizes}
use Rattle.nm_types.proofs.ListLemmas.{find_passes, get_before, get_last, place_below}
use Rattle.nm_types.proofs.NumberLemmas.{same_number}
use Rattle.nm_types.proofs.OptionLemmas.{no_some, same_some}
use Rattle.nm_types.proofs.TruthLemmas.{and_left, and_right, not_true, or_left}
use Rattle.nm_history.specs.declared.events.Event.{Event}
use Rattle.nm_history.specs.declared.events.Happened.{Happened}
use Rattle.nm_history.specs.declared.events.Happened.TheVariants as event
use Rattle.nm_history.specs.declared.plain.Pair.{Pair}
use Rattle.nm_history.specs.Answers.{is_question_of, is_result, is_start_of, is_started}
use Rattle.nm_history.specs.Answers.{line_of_name, request_at, request_of}
use Rattle.nm_history.specs.AtEach.{AtEach}
use Rattle.nm_history.specs.Completion.{Request, is_here, is_taken, pair_of_receive}
use Rattle.nm_history.specs.Completion.Request.{Receiving, Sending}
use Rattle.nm_history.specs.Happens.{happened, is_match, is_out, is_recall, is_send, is_undone, is_whole}
use Rattle.nm_history.specs.Matching.{is_matching, is_of_message, is_of_receive, matched_pairs, new_pair}
use Rattle.nm_history.specs.Once.{IsOfReceive, IsOneToOne}
use Rattle.nm_history.specs.RankRun.{CancelAt, EndAt, NumberAt, StartAt, is_start, ran_lines}
use Rattle.nm_history.specs.Sends.{receives, sends}
use Rattle.nm_history.specs.Underway.{MayFollow, is_answer}
use Rattle.nm_history.proofs.AnswerLemmas.{line-push, no_request}
use Rattle.nm_history.proofs.AppendLemmas.{happened-push}
use Rattle.nm_history.proofs.RankRunLemmas.{ran_lines-push}
use Rattle.nm_history.proofs.DeliveryLemmas.{AtEach-along}
use Rattle.nm_history.proofs.AtEachLemmas.{AtEach-front}
use Rattle.nm_history.proofs.MatchingLemmas.{matched_pairs-push, matched_pairs-push_other}
use Rattle.nm_history.proofs.OnceLemmas.{one_to_one}
use Rattle.nm_history.proofs.SelectionLemmas.{find_contains, matched_pairs_of_receives}
use Rattle.nm_match.specs.Deeds.{is_known_receive}
use Rattle.nm_match.proofs.NumberLemmas.{receives_numbered}
use Rattle.nm_match.proofs.PushLemmas.{posts_known}
use Rattle.nm_sure.proofs.Lists.{any_at}
use Rattle.nm_outcomes.specs.Places.{or_else}
use Rattle.nm_outcomes.proofs.HappenedLemmas.{history_induction, last_or_before, still}
use Rattle.nm_outcomes.proofs.SentLemmas.{sends_numbered, sent_place}
use Rattle.nm_listed.proofs.LineLemmas.{lines_apart, request_push, requests_apart}
use Rattle.nm_listed.proofs.SteadyLemmas.{AreNamed, IsNamed, name_same, ran_same}

-- what a result needs, or tells
abbrev pub is_mark : Happened → Bool
is_mark (event.Whole from n) = true
is_mark (event.Out to n) = true
is_mark (event.Undone to n done) = true
is_mark _ = false

no_whole : (from n : ℕ) (what : Happened) → is_mark what ≡ false → is_whole from n what ≡ false
no_whole from n (event.Whole from' n') none = absurd (false≢true (sym none))
no_whole from n what none = refl

no_out : (to n : ℕ) (what : Happened) → is_mark what ≡ false → is_out to n what ≡ false
no_out to n (event.Out to' n') none = absurd (false≢true (sym none))
no_out to n what none = refl

no_undone : (to n : ℕ) (done : Bool) (what : Happened) → is_mark what ≡ false → is_undone to n done what ≡ false
no_undone to n done (event.Undone to' n' done') none = absurd (false≢true (sym none))
no_undone to n done what none = refl

-- nothing was marked of a request
abbrev pub IsHushed : List Event → Request → Type 0
IsHushed h (Receiving number) = (pair : Pair) → pair_of_receive h number ≡ Some pair → is_here h pair ≡ false
IsHushed h (Sending to n) =
    (happened (is_out to n) h ≡ false) × (happened (is_undone to n true) h ≡ false)
    × (happened (is_undone to n false) h ≡ false)

-- a line whose request may still end: a name stands for it, or its command has still to run
abbrev pub IsOpenLine : List Numbered → List Event → ℕ → Type 0
IsOpenLine commands h line =
    ((q : ℕ) × (line_of_name commands h q ≡ Some line))
    ⊎ ((k : ℕ) × (c : Numbered) × (length (ran_lines h) ≤ k) × (slice_get commands k ≡ Some c) × (c.line ≡ line))

-- nothing was marked of such requests, but for one
pub record AreHushed (commands : List Numbered) (h : List Event) (spare : Option Request) : Type 0 where
  pub requests : (line : ℕ) → IsOpenLine commands h line → (r : Request) → request_at h line ≡ Some r →
      (spare ≡ Some r → ⊥) → IsHushed h r
  pub taken : (from n : ℕ) → happened (is_whole from n) h ≡ true → is_taken h from n ≡ true

-- what happened has its cause
caused : (test cause : Happened → Bool) (R : List Event → Event → Type 0) →
    ((h : List Event) (e : Event) → test e.what ≡ true → R h e → happened cause h ≡ true) → (h : List Event) →
    AtEach R h → happened test h ≡ true → happened cause h ≡ true
caused test cause R now h each =
    history_induction R (λ h. happened test h ≡ true → happened cause h ≡ true)
    (λ h e before next some. still cause h e (by_place h e before next (last_or_before test h e some)))
    (λ none. absurd (false≢true none)) h each
  where
    by_place : (h : List Event) (e : Event) → (happened test h ≡ true → happened cause h ≡ true) → R h e →
        (happened test h ≡ true) ⊎ (test e.what ≡ true) → happened cause h ≡ true
    by_place h e before next (inl was) = before was
    by_place h e before next (inr is) = now h e is next

two_same : (P : ℕ → ℕ → Type 0) (a b c d : ℕ) → (a == c && b == d) ≡ true → P a b → P c d
two_same P a b c d same holds =
    subst (λ (x : ℕ). P x d) (same_number a c (and_left (a == c) (b == d) same))
    (subst (λ (y : ℕ). P a y) (same_number b d (and_right (a == c) (b == d) same)) holds)

module _ (shape : Sizes) (commands : List Numbered) (h : List Event)
    (follows : AtEach (λ b e. MayFollow shape commands b e) h) where
  numbers : AtEach (λ b e. NumberAt shape.ranks b e.what) h
  numbers = AtEach-along (λ b e. MayFollow shape commands b e) (λ b e. NumberAt shape.ranks b e.what) h
      (λ b e next. next.numbers) follows

  starts : AtEach (λ b e. StartAt shape.eager commands b e.what) h
  starts = AtEach-along (λ b e. MayFollow shape commands b e) (λ b e. StartAt shape.eager commands b e.what) h
      (λ b e next. next.starts) follows

  out_sent : (to n : ℕ) → happened (is_out to n) h ≡ true → happened (is_send to n) h ≡ true
  out_sent to n =
      caused (is_out to n) (is_send to n) (λ b e. MayFollow shape commands b e)
      (λ b e is next. by_event b e.what is next.ends) h follows
    where
      by_event : (b : List Event) (what : Happened) → is_out to n what ≡ true → EndAt b what →
          happened (is_send to n) b ≡ true
      by_event b (event.Out to' n') is ends =
          two_same (λ x y. happened (is_send x y) b ≡ true) to' n' to n is ends.1
      by_event b what is ends = absurd (false≢true is)

  undone_recalled : (to n : ℕ) (done : Bool) → happened (is_undone to n done) h ≡ true →
      happened (is_recall to n) h ≡ true
  undone_recalled to n done =
      caused (is_undone to n done) (is_recall to n) (λ b e. MayFollow shape commands b e)
      (λ b e is next. by_event b e.what is next.ends) h follows
    where
      by_event : (b : List Event) (what : Happened) → is_undone to n done what ≡ true → EndAt b what →
          happened (is_recall to n) b ≡ true
      by_event b (event.Undone to' n' d) is ends =
          two_same (λ x y. happened (is_recall x y) b ≡ true) to' n' to n (and_left (to' == to && n' == n) _ is) ends.2
      by_event b what is ends = absurd (false≢true is)

  pub recall_sent : (to n : ℕ) → happened (is_recall to n) h ≡ true → happened (is_send to n) h ≡ true
  recall_sent to n =
      caused (is_recall to n) (is_send to n) (λ b e. MayFollow shape commands b e)
      (λ b e is next. by_event b e.what is next.cancels) h follows
    where
      by_event : (b : List Event) (what : Happened) → is_recall to n what ≡ true → CancelAt commands b what →
          happened (is_send to n) b ≡ true
      by_event b (event.Recall to' n') is cancels =
          two_same (λ x y. happened (is_send x y) b ≡ true) to' n' to n is cancels.1
      by_event b what is cancels = absurd (false≢true is)

  -- a message that has still to be sent
  not_sent_yet : (to : ℕ) → happened (is_send to (length (sends h to))) h ≡ true → ⊥
  not_sent_yet to sent =
      let s = sent_place h to (length (sends h to)) sent in
      let low = place_below (sends h to) s.0 s.1 s.2 in
      let a = sends_numbered shape.ranks h numbers to s.0 s.1 s.2 in
      let b = same_number s.1.n (length (sends h to)) s.3 in
      omega (arith, low, a, b)

  pub new_send : (to : ℕ) → IsHushed h (Sending to (length (sends h to)))
  new_send to = (
    not_true _ (λ out. not_sent_yet to (out_sent to (length (sends h to)) out)),
    not_true _ (λ undone. not_sent_yet to (recall_sent to _ (undone_recalled to (length (sends h to)) true undone))),
    not_true _ (λ undone. not_sent_yet to (recall_sent to _ (undone_recalled to (length (sends h to)) false undone))),
  )

  -- a pair is of a receive that is known
  match_known : (number from n cap : ℕ) (h : List Event) → happened (is_match number from n cap) h ≡ true →
      list_any (λ m. m == number) (receives h) ≡ true
  match_known number from n cap [] some = absurd (false≢true some)
  match_known number from n cap (e ∷ h) some = by_event e.what some (λ some. match_known number from n cap h some)
    where
      rest : Bool
      rest = happened (is_match number from n cap) h

      by_event : (what : Happened) → (is_match number from n cap what || rest) ≡ true →
          (rest ≡ true → list_any (λ m. m == number) (receives h) ≡ true) →
          list_any (λ m. m == number) (receives (record { stamp = e.stamp; what = what } ∷ h)) ≡ true
      by_event (event.Match m from' n' cap' line) some later = by_test (m == number) some
        where
          by_test : (b : Bool) → ((b && from' == from && n' == n && cap' == cap) || rest) ≡ true →
              (b || list_any (λ m. m == number) (receives h)) ≡ true
          by_test true some = refl
          by_test false some = later some
      by_event (event.Post p line) some later = by_test (p.number == number)
        where
          by_test : (b : Bool) → (b || list_any (λ m. m == number) (receives h)) ≡ true
          by_test true = refl
          by_test false = later some
      by_event what some later = later some

  pub new_receive : (pair : Pair) → pair_of_receive h (length (receives h)) ≡ Some pair → ⊥
  unfolding is_known_receive
  new_receive pair found =
      false≢true
      (sym (receives_numbered shape.ranks h numbers (length (receives h)) ∙ too_high (length (receives h)))
      ∙ by_kind (All-contains (IsOfReceive h) (matched_pairs h) pair (matched_pairs_of_receives h)
      (find_contains (is_of_receive (length (receives h))) (matched_pairs h) pair found)))
    where
      too_high : (n : ℕ) → ltb n n ≡ false
      too_high n = grind (arith, nat_tests)

      number_is : pair.number ≡ length (receives h)
      number_is =
          same_number pair.number (length (receives h))
          (find_passes (is_of_receive (length (receives h))) (matched_pairs h) pair found)

      by_kind : IsOfReceive h pair → is_known_receive h (length (receives h)) ≡ true
      by_kind (inl posted) =
          subst (λ (k : ℕ). is_known_receive h k ≡ true) (sym posted.number ∙ number_is)
          (All-contains (λ (p : post.Post). is_known_receive h p.number ≡ true) _ posted.receive (posts_known h)
          posted.posted)
      by_kind (inr matched) =
          subst (λ (k : ℕ). is_known_receive h k ≡ true) number_is
          (match_known pair.number pair.arrival.env.from pair.arrival.n pair.cap h matched.received)

  pub pairs_apart : IsOneToOne (matched_pairs h)
  pairs_apart = one_to_one shape.ranks shape.eager commands h numbers starts

pub index_is : {X : Type 0} (xs : List X) (k : ℕ) (x d : X) → slice_get xs k ≡ Some x → slice_index_or xs k d ≡ x
index_is [] k x d here = absurd (no_some x here)
index_is (y ∷ ys) zero x d here = same_some y x here
index_is (y ∷ ys) (suc k) x d here = index_is ys k x d here

-- a new pair is of a message that no receive had
fresh_message : (found : List Pair) (pair : Pair) → IsOneToOne (found ++ pair ∷ []) →
    list_any (is_of_message pair.arrival.env.from pair.arrival.n) found ≡ false
fresh_message found pair apart =
    not_true _ (λ some.
    let q = any_at (is_of_message pair.arrival.env.from pair.arrival.n) found some in
    let low = place_below found q.0 q.1 q.2 in
    let long : length found < length (found ++ pair ∷ []) =
    (let many = length-append found (pair ∷ []) in omega (arith, many)) in
    let two = apart.messages q.0 (length found) pair low long in
    let first : slice_index_or (found ++ pair ∷ []) q.0 pair ≡ q.1 =
    index_is (found ++ pair ∷ []) q.0 q.1 pair (get_before found (pair ∷ []) q.0 q.1 q.2) in
    let second : slice_index_or (found ++ pair ∷ []) (length found) pair ≡ pair =
    index_is (found ++ pair ∷ []) (length found) pair pair (get_last found pair) in
    apart_of q.1 pair (is_of q.1 q.3)
    (subst (λ (x : Pair). x.arrival.env.from ≡ pair.arrival.env.from → x.arrival.n ≢ pair.arrival.n) first
    (subst (λ (y : Pair). (slice_index_or (found ++ pair ∷ []) q.0 pair).arrival.env.from ≡ y.arrival.env.from →
    (slice_index_or (found ++ pair ∷ []) q.0 pair).arrival.n ≢ y.arrival.n) second two)))
  where
    is_of : (q : Pair) → is_of_message pair.arrival.env.from pair.arrival.n q ≡ true →
        (q.arrival.env.from ≡ pair.arrival.env.from) × (q.arrival.n ≡ pair.arrival.n)
    is_of q is = (
      same_number _ _ (and_left (q.arrival.env.from == pair.arrival.env.from) (q.arrival.n == pair.arrival.n) is),
      same_number _ _ (and_right (q.arrival.env.from == pair.arrival.env.from) (q.arrival.n == pair.arrival.n) is),
    )

    apart_of : (q p : Pair) → (q.arrival.env.from ≡ p.arrival.env.from) × (q.arrival.n ≡ p.arrival.n) →
        (q.arrival.env.from ≡ p.arrival.env.from → q.arrival.n ≢ p.arrival.n) → ⊥
    apart_of q p same two = two same.0 same.1

find_two : (test : Pair → Bool) (xs : List Pair) (o : Option Pair) →
    find test (xs ++ option_to_list o) ≡ or_else (find test xs) (find test (option_to_list o))
find_two test [] o = refl
find_two test (x ∷ xs) o = by_test (test x) (find_two test xs o)
  where
    by_test : (b : Bool) → find test (xs ++ option_to_list o) ≡ or_else (find test xs) (find test (option_to_list o)) →
        cond b (Some x) (find test (xs ++ option_to_list o))
        ≡ or_else (cond b (Some x) (find test xs)) (find test (option_to_list o))
    by_test true later = refl
    by_test false later = later

-- an event that is no mark
module _ (shape : Sizes) (commands : List Numbered) (h : List Event) (stamp : ℕ) (what : Happened)
    (follows : AtEach (λ b e. MayFollow shape commands b e) (h ++ record { stamp = stamp; what = what } ∷ []))
    (none : is_mark what ≡ false) where
  abbrev later : List Event
  later = h ++ record { stamp = stamp; what = what } ∷ []

  front : AtEach (λ b e. MayFollow shape commands b e) h
  front = AtEach-front (λ b e. MayFollow shape commands b e) h (record { stamp = stamp; what = what }) follows

  unmarked : (test : Happened → Bool) → test what ≡ false → happened test later ≡ happened test h
  unmarked test off =
      happened-push test h (record { stamp = stamp; what = what }) ∙ ap (λ (b : Bool). happened test h || b) off
      ∙ or-false (happened test h)

  pub taken_later : (from n : ℕ) → is_taken h from n ≡ true → is_taken later from n ≡ true
  taken_later from n was =
      ap (λ (ps : List Pair). list_any (is_of_message from n) ps)
      (matched_pairs-push h (record { stamp = stamp; what = what }))
      ∙ list_any-append (is_of_message from n) (matched_pairs h)
      (option_to_list (new_pair h (matched_pairs h) what))
      ∙ or_left (is_taken h from n) _ was

  -- a receive that is not here is not by this event
  receive_later : (number : ℕ) →
      ((from n : ℕ) → happened (is_whole from n) h ≡ true → is_taken h from n ≡ true) →
      ((pair : Pair) → pair_of_receive h number ≡ Some pair → is_here h pair ≡ false) →
      (pair : Pair) → pair_of_receive later number ≡ Some pair → is_here later pair ≡ false
  receive_later number whole before pair found =
      unmarked (is_whole pair.arrival.env.from pair.arrival.n) (no_whole _ _ what none)
      ∙ by_old (find (is_of_receive number) (matched_pairs h)) refl
      (sym (find_two (is_of_receive number) (matched_pairs h) (new_pair h (matched_pairs h) what))
      ∙ ap (λ (ps : List Pair). find (is_of_receive number) ps)
      (sym (matched_pairs-push h (record { stamp = stamp; what = what })))
      ∙ found)
    where
      by_new : (o : Option Pair) → new_pair h (matched_pairs h) what ≡ o →
          find (is_of_receive number) (option_to_list o) ≡ Some pair → is_here h pair ≡ false
      by_new None made found = absurd (no_some pair found)
      by_new (Some p) made found = by_test (is_of_receive number p) found
        where
          apart : IsOneToOne (matched_pairs h ++ p ∷ [])
          apart = subst (λ (ps : List Pair). IsOneToOne ps)
              (matched_pairs-push h (record { stamp = stamp; what = what })
              ∙ ap (λ (o : Option Pair). matched_pairs h ++ option_to_list o) made)
              (pairs_apart shape commands later follows)

          not_here : is_here h p ≡ false
          not_here =
              not_true _ (λ some.
              false≢true (sym (fresh_message (matched_pairs h) p apart) ∙ whole p.arrival.env.from p.arrival.n some))

          by_test : (b : Bool) → cond b (Some p) None ≡ Some pair → is_here h pair ≡ false
          by_test true found = subst (λ (x : Pair). is_here h x ≡ false) (same_some p pair found) not_here
          by_test false found = absurd (no_some pair found)

      by_old : (o : Option Pair) → find (is_of_receive number) (matched_pairs h) ≡ o →
          or_else o (find (is_of_receive number) (option_to_list (new_pair h (matched_pairs h) what))) ≡ Some pair →
          is_here h pair ≡ false
      by_old (Some p) old found = before pair (old ∙ found)
      by_old None old found = by_new (new_pair h (matched_pairs h) what) refl found

  pub still_hushed : (r : Request) → ((from n : ℕ) → happened (is_whole from n) h ≡ true → is_taken h from n ≡ true) →
      IsHushed h r → IsHushed later r
  still_hushed (Sending to n) whole was = (
    unmarked (is_out to n) (no_out to n what none) ∙ was.0,
    unmarked (is_undone to n true) (no_undone to n true what none) ∙ was.1,
    unmarked (is_undone to n false) (no_undone to n false what none) ∙ was.2,
  )
  still_hushed (Receiving number) whole was = receive_later number whole was

  -- the request that the event makes, if it makes one
  first_hushed : (line : ℕ) (r : Request) → NumberAt shape.ranks h what → request_of line what ≡ Some r → IsHushed h r
  first_hushed line r number made = by_event what number made
    where
      by_event : (what : Happened) → NumberAt shape.ranks h what → request_of line what ≡ Some r → IsHushed h r
      by_event (event.Send to n tag ctx len how own) number made = by_line (own == line) made
        where
          by_line : (b : Bool) → cond b (Some (Sending to n)) None ≡ Some r → IsHushed h r
          by_line true made =
              subst (λ (r : Request). IsHushed h r) (same_some (Sending to n) r made)
              (subst (λ (k : ℕ). IsHushed h (Sending to k)) (sym number) (new_send shape commands h front to))
          by_line false made = absurd (no_some r made)
      by_event (event.Post p own) number made = by_line (own == line) made
        where
          by_line : (b : Bool) → cond b (Some (Receiving p.number)) None ≡ Some r → IsHushed h r
          by_line true made =
              subst (λ (r : Request). IsHushed h r) (same_some (Receiving p.number) r made)
              (subst (λ (k : ℕ). IsHushed h (Receiving k)) (sym number)
              (λ pair found. absurd (new_receive shape commands h front pair found)))
          by_line false made = absurd (no_some r made)
      by_event (event.Match m from n cap own) number made = by_line (own == line) made
        where
          by_line : (b : Bool) → cond b (Some (Receiving m)) None ≡ Some r → IsHushed h r
          by_line true made =
              subst (λ (r : Request). IsHushed h r) (same_some (Receiving m) r made)
              (subst (λ (k : ℕ). IsHushed h (Receiving k)) (sym number)
              (λ pair found. absurd (new_receive shape commands h front pair found)))
          by_line false made = absurd (no_some r made)
      by_event what number made = absurd (no_some r made)

  pub hushed_event : (spare : Option Request) → is_answer what ≡ false → NumberAt shape.ranks h what →
      AreHushed commands h spare → AreHushed commands later spare
  hushed_event spare quiet number was = record {
    requests = λ line open' r asked other.
        by_first (request_at h line) line refl (open_before line open') r other
        (sym (request_push h (record { stamp = stamp; what = what }) line) ∙ asked);
    taken = λ from n some.
        taken_later from n (was.taken from n (sym (unmarked (is_whole from n) (no_whole from n what none)) ∙ some));
  }
    where
      open_before : (line : ℕ) → IsOpenLine commands later line → IsOpenLine commands h line
      open_before line (inl named) =
          inl (named.0, sym (name_same h stamp what commands named.0 quiet) ∙ named.1)
      open_before line (inr next) =
          inr (
            next.0,
            next.1,
            subst (λ (ls : List ℕ). length ls ≤ next.0) (ran_same h stamp what quiet) next.2,
            next.3,
            next.4,
          )

      by_first : (o : Option Request) (line : ℕ) → request_at h line ≡ o → IsOpenLine commands h line → (r : Request) →
          (spare ≡ Some r → ⊥) → or_else o (request_of line what) ≡ Some r → IsHushed later r
      by_first None line is open' r other made = still_hushed r was.taken (first_hushed line r number made)
      by_first (Some x) line is open' r other made =
          still_hushed r was.taken (was.requests line open' r (is ∙ made) other)

-- the answer of the next command: no name stands for a request any more of which marks were made for it
module _ (shape : Sizes) (lines : List Line) (i : ℕ) (h : List Event) (stamp : ℕ) (c : Numbered) (a : Answer)
    (follows : AtEach (λ b e. MayFollow shape (commands_of i lines) b e) (h ++ record {
      stamp = stamp;
      what = event.Ran c.line a;
    } ∷ []))
    (next : slice_get (commands_of i lines) (length (ran_lines h)) ≡ Some c)
    (here : command_at (commands_of i lines) c.line ≡ Some c.command)
    (named : AreNamed (commands_of i lines) h) where
  abbrev mine : List Numbered
  mine = commands_of i lines

  abbrev answered : List Event
  answered = h ++ record { stamp = stamp; what = event.Ran c.line a } ∷ []

  many_ran : length (ran_lines answered) ≡ length (ran_lines h) + 1
  many_ran =
      ap (λ (ls : List ℕ). length ls) (ran_lines-push h (record { stamp = stamp; what = event.Ran c.line a }))
      ∙ length-append (ran_lines h) (c.line ∷ [])

  name_after : (q : ℕ) → line_of_name mine answered q
      ≡ (if is_start_of q c.command && is_started a then Some c.line
      else if is_question_of q c.command && is_result a then None else line_of_name mine h q)
  name_after q =
      line-push mine h (record { stamp = stamp; what = event.Ran c.line a }) q
      ∙ ap (λ (o : Option Command). if option_map_or (is_start_of q) o false && is_started a then Some c.line
      else if option_map_or (is_question_of q) o false && is_result a then None else line_of_name mine h q) here

  -- an open line was open before, and is not that of a name whose request ended
  open_before : (line : ℕ) → IsOpenLine mine answered line → IsOpenLine mine h line
  open_before line (inl name) = by_start (is_start_of name.0 c.command && is_started a)
      (sym (name_after name.0) ∙ name.1)
    where
      by_start : (b : Bool) → (if b then Some c.line
          else if is_question_of name.0 c.command && is_result a then None else line_of_name mine h name.0) ≡ Some
          line →
          IsOpenLine mine h line
      by_start true is = inr (length (ran_lines h), c, omega arith, next, same_some c.line line is)
      by_start false is = by_question (is_question_of name.0 c.command && is_result a) is
        where
          by_question : (b : Bool) → (if b then None else line_of_name mine h name.0) ≡ Some line →
              IsOpenLine mine h line
          by_question true is = absurd (no_some line is)
          by_question false is = inl (name.0, is)
  open_before line (inr later) =
      let low : length (ran_lines h) ≤ later.0 = (let x = later.2 in let y = many_ran in omega (arith, x, y)) in
      inr (later.0, later.1, low, later.3, later.4)

  -- the line of a name whose request ends
  ended_line : (q line : ℕ) → line_of_name mine h q ≡ Some line → (is_question_of q c.command && is_result a) ≡ true →
      IsOpenLine mine answered line → ⊥
  ended_line q line was ends open' = by_kind open'
    where
      name : IsNamed mine h q line
      name = named q line was

      started_not : (c : Command) → is_question_of q c ≡ true → (p : ℕ) → is_start_of p c ≡ false
      started_not (command.Wait q') is p = refl
      started_not (command.Test q') is p = refl
      started_not (command.Send to q' tag ctx sync body) is p = absurd (false≢true is)
      started_not (command.Recv q' from tag ctx cap) is p = absurd (false≢true is)
      started_not (command.Mrecv q' m cap) is p = absurd (false≢true is)
      started_not (command.Probe from tag ctx) is p = absurd (false≢true is)
      started_not (command.Await from tag ctx) is p = absurd (false≢true is)
      started_not (command.Cancel q') is p = absurd (false≢true is)
      started_not (command.Mprobe m from tag ctx) is p = absurd (false≢true is)

      no_start : (p : ℕ) → (is_start_of p c.command && is_started a) ≡ false
      no_start p =
          ap (λ (b : Bool). b && is_started a)
          (started_not c.command (and_left (is_question_of q c.command) (is_result a) ends) p)

      one_name : (c : Command) (p : ℕ) → is_start_of q c ≡ true → is_start_of p c ≡ true → q ≡ p
      one_name (command.Send to q' tag ctx sync body) p x y = sym (same_number q' q x) ∙ same_number q' p y
      one_name (command.Recv q' from tag ctx cap) p x y = sym (same_number q' q x) ∙ same_number q' p y
      one_name (command.Mrecv q' m cap) p x y = sym (same_number q' q x) ∙ same_number q' p y
      one_name (command.Wait q') p x y = absurd (false≢true x)
      one_name (command.Test q') p x y = absurd (false≢true x)
      one_name (command.Probe from tag ctx) p x y = absurd (false≢true x)
      one_name (command.Await from tag ctx) p x y = absurd (false≢true x)
      one_name (command.Cancel q') p x y = absurd (false≢true x)
      one_name (command.Mprobe m from tag ctx) p x y = absurd (false≢true x)

      name_was : (p : ℕ) → line_of_name mine answered p
          ≡ (if is_question_of p c.command && is_result a then None else line_of_name mine h p)
      name_was p =
          name_after p
          ∙ ap (λ (b : Bool). if b then Some c.line
          else if is_question_of p c.command && is_result a then None else line_of_name mine h p) (no_start p)

      by_name : (p : ℕ) → line_of_name mine answered p ≡ Some line → ⊥
      by_name p is = by_question (is_question_of p c.command && is_result a) refl (sym (name_was p) ∙ is)
        where
          by_question : (b : Bool) → (is_question_of p c.command && is_result a) ≡ b →
              (if b then None else line_of_name mine h p) ≡ Some line → ⊥
          by_question true asked is = no_some line is
          by_question false asked is =
              let other = named p line is in
              let place : name.place ≡ other.place =
              lines_apart i lines name.place other.place name.command other.command name.here other.here
              (name.line_is ∙ sym other.line_is) in
              let command : name.command ≡ other.command =
              same_some name.command other.command
              (sym name.here ∙ ap (λ (k : ℕ). slice_get mine k) place ∙ other.here) in
              let same : q ≡ p =
              one_name other.command.command p
              (subst (λ (x : Numbered). is_start_of q x.command ≡ true) command name.starts) other.starts in
              false≢true
              (sym asked
              ∙ ap (λ (x : ℕ). is_question_of x c.command && is_result a) (sym same) ∙ ends)

      by_kind : IsOpenLine mine answered line → ⊥
      by_kind (inl name') = by_name name'.0 name'.1
      by_kind (inr later) =
          let place : name.place ≡ later.0 =
          lines_apart i lines name.place later.0 name.command later.1 name.here later.3
          (name.line_is ∙ sym later.4) in
          let low = name.ran in
          let high = later.2 in
          let many = many_ran in
          omega (arith, place, low, high, many)

  pub hushed_answer : (spare : Option Request) → AreHushed mine h spare →
      ((r : Request) → spare ≡ Some r →
      (q : ℕ) × (line : ℕ) × (line_of_name mine h q ≡ Some line) × (request_at h line ≡ Some r)
      × ((is_question_of q c.command && is_result a) ≡ true)) → AreHushed mine answered None
  hushed_answer spare was ended = record {
    requests = λ line open' r asked other.
        let before : request_at h line ≡ Some r =
        sym (or_nothing (request_at h line)) ∙ sym (request_push h (record {
          stamp = stamp;
          what = event.Ran c.line a;
        }) line) ∙ asked in
        still_hushed shape mine h stamp (event.Ran c.line a) follows refl r was.taken
        (was.requests line (open_before line open') r before
        (λ is.
        let e = ended r is in
        let same : e.1 ≡ line =
        requests_apart shape.ranks h (numbers shape mine h front') e.1 line r e.3 before in
        ended_line e.0 line (e.2 ∙ ap (λ (l : ℕ). Some l) same) e.4 open'));
    taken = λ from n some.
        taken_later shape mine h stamp (event.Ran c.line a) follows refl from n
        (was.taken from n
        (sym (unmarked shape mine h stamp (event.Ran c.line a) follows refl (is_whole from n) refl) ∙ some));
  }
    where
      or_nothing : (o : Option Request) → or_else o None ≡ o
      or_nothing None = refl
      or_nothing (Some x) = refl

      front' : AtEach (λ b e. MayFollow shape mine b e) h
      front' = AtEach-front (λ b e. MayFollow shape mine b e) h (record {
        stamp = stamp;
        what = event.Ran c.line a;
      }) follows

-- a mark of one request leaves the others hushed
module _ (shape : Sizes) (commands : List Numbered) (h : List Event) (stamp : ℕ) (what : Happened)
    (quiet : is_answer what ≡ false) (starts_none : is_start what ≡ false) (pairs_none : is_matching what ≡ false) where
  abbrev marked : List Event
  marked = h ++ record { stamp = stamp; what = what } ∷ []

  pairs_same : matched_pairs marked ≡ matched_pairs h
  pairs_same = matched_pairs-push_other h (record { stamp = stamp; what = what }) pairs_none

  or_none : (o : Option Request) → or_else o None ≡ o
  or_none None = refl
  or_none (Some x) = refl

  request_same : (line : ℕ) → request_at marked line ≡ request_at h line
  request_same line =
      request_push h (record { stamp = stamp; what = what }) line
      ∙ ap (λ (o : Option Request). or_else (request_at h line) o) (no_request line what starts_none)
      ∙ or_none (request_at h line)

  pub hushed_mark : (spare : Option Request) (r0 : Request) → AreHushed commands h spare →
      ((r : Request) → spare ≡ Some r → r ≡ r0) →
      ((r : Request) → (Some r0 ≡ Some r → ⊥) → IsHushed h r → IsHushed marked r) →
      ((from n : ℕ) → is_whole from n what ≡ true → is_taken h from n ≡ true) →
      AreHushed commands marked (Some r0)
  hushed_mark spare r0 was same others whole = record {
    requests = λ line open' r asked other.
        others r other
        (was.requests line (open_before line open') r (sym (request_same line) ∙ asked)
        (λ is. other (ap (λ (x : Request). Some x) (sym (same r is)))));
    taken = λ from n some.
        ap (λ (ps : List Pair). list_any (is_of_message from n) ps) pairs_same
        ∙ by_place from n (last_or_before (is_whole from n) h (record { stamp = stamp; what = what }) some);
  }
    where
      by_place : (from n : ℕ) → (happened (is_whole from n) h ≡ true) ⊎ (is_whole from n what ≡ true) →
          is_taken h from n ≡ true
      by_place from n (inl before) = was.taken from n before
      by_place from n (inr now) = whole from n now

      open_before : (line : ℕ) → IsOpenLine commands marked line → IsOpenLine commands h line
      open_before line (inl named) = inl (named.0, sym (name_same h stamp what commands named.0 quiet) ∙ named.1)
      open_before line (inr next) =
          inr (
            next.0,
            next.1,
            subst (λ (ls : List ℕ). length ls ≤ next.0) (ran_same h stamp what quiet) next.2,
            next.3,
            next.4,
          )
