-- What a state says is what the definitions say of its history.
use Rattle.std.proofs.Common.{◌≡◌, ℕ, suc, ◌==◌, ◌&&◌, ◌||◌, not, Bool, true, false, cond, Option, Some, None}
use Rattle.std.proofs.Common.{List}
use Rattle.std.proofs.Common.{[], ◌∷◌, length, map, refl, sym, ◌∙◌, ap}
use Rattle.std.specs.Prelude.{count_by, fold, is_some, option_and_then}
use Rattle.std.specs.List.{cons_option, filter, filter_map, find, list_any, slice_get}
use Rattle.std.proofs.lemmas.Bool.{false≢true}
use Rattle.std.proofs.lemmas.List.Sums.{length-filter}
use Rattle.nm_types.specs.declared.scripts.Line.{Line}
use Rattle.nm_types.specs.Commands.{Numbered, commands_of}
use Rattle.nm_history.specs.declared.events.Event.{Event}
use Rattle.nm_history.specs.declared.events.Happened.{Happened}
use Rattle.nm_history.specs.declared.events.Happened.TheVariants as event
use Rattle.nm_history.specs.Answers.{Message, claim_at, claim_line_after, line_after, line_of_handle, line_of_name}
use Rattle.nm_history.specs.Answers.{message_claimed, request_at, request_of}
use Rattle.nm_history.specs.Completion.{Request}
use Rattle.nm_history.specs.Completion.Request.{Receiving, Sending}
use Rattle.nm_history.specs.Happens.{is_recall}
use Rattle.nm_history.specs.RankRun.{ran_of}
use Rattle.nm_history.specs.Sends.{Sent, is_ask, receive_of, sends, sent_of}
use Rattle.nm_history.specs.Underway.{is_of_packet}
use Rattle.nm_outcomes.specs.Results.{is_unasked}
use Rattle.nm_outcomes.specs.declared.spots.deeds.Deed.{Deed}
use Rattle.nm_outcomes.specs.declared.spots.deeds.Deed.TheVariants as deed
use Rattle.nm_outcomes.specs.Deeds.{happening}
use Rattle.nm_outcomes.specs.Looks.{IsSaid, claim_in, handle_in, is_answer_by, is_claim_at, is_receive_by}
use Rattle.nm_outcomes.specs.Looks.{is_recall_by}
use Rattle.nm_outcomes.specs.Looks.{is_send_by, is_start_by, is_unasked_by, name_in, request_in}
use Rattle.nm_outcomes.specs.RankStates.{IsSpotOf, Spot, own_of}
use Rattle.nm_outcomes.proofs.ListLemmas.{any-map}
use Rattle.nm_outcomes.proofs.SpotLemmas.{own_any}

-- folds, searches and counts that no event of a packet changes look at the events of commands alone
fold_own : {S : Type 0} (f : S → Happened → S) →
    ((s : S) (what : Happened) → is_of_packet what ≡ true → f s what ≡ s) → (s : S) (h : List Event) →
    fold (λ s (e : Event). f s e.what) s h ≡ fold f s (own_of h)
fold_own f same s [] = refl
fold_own {S} f same s (e ∷ h) =
    by_kind (is_of_packet e.what) refl (fold_own f same s h) (fold_own f same (f s e.what) h)
  where
    by_kind : (b : Bool) → is_of_packet e.what ≡ b →
        fold (λ s (e : Event). f s e.what) s h ≡ fold f s (own_of h) →
        fold (λ s (e : Event). f s e.what) (f s e.what) h ≡ fold f (f s e.what) (own_of h) →
        fold (λ s (e : Event). f s e.what) (f s e.what) h ≡ fold f s (cond (not b) (e.what ∷ own_of h) (own_of h))
    by_kind true packet skipped done =
        ap (λ (t : S). fold (λ s (e : Event). f s e.what) t h) (same s e.what packet) ∙ skipped
    by_kind false own skipped done = done

fold_map : {A B S : Type 0} (g : A → B) (f : S → B → S) (s : S) (xs : List A) →
    fold (λ s x. f s (g x)) s xs ≡ fold f s (map g xs)
fold_map g f s [] = refl
fold_map g f s (x ∷ xs) = fold_map g f (f s (g x)) xs

pub first_own : {X : Type 0} (f : Happened → Option X) →
    ((what : Happened) → is_of_packet what ≡ true → f what ≡ None) →
    (h : List Event) → filter_map (λ (e : Event). f e.what) h ≡ filter_map f (own_of h)
first_own f none [] = refl
first_own {X} f none (e ∷ h) = by_kind (is_of_packet e.what) refl (first_own f none h)
  where
    by_kind : (b : Bool) → is_of_packet e.what ≡ b →
        filter_map (λ (e : Event). f e.what) h ≡ filter_map f (own_of h) →
        cons_option (f e.what) (filter_map (λ (e : Event). f e.what) h)
        ≡ filter_map f (cond (not b) (e.what ∷ own_of h) (own_of h))
    by_kind true packet later = rw (none e.what packet) later
    by_kind false own later = ap (λ (xs : List X). cons_option (f e.what) xs) later

-- the first element that has something, of a list that is mapped
first_map : {A B X : Type 0} (g : A → B) (f : B → Option X) (test : A → Bool) →
    ((x : A) → test x ≡ is_some (f (g x))) → (xs : List A) →
    option_and_then (λ x. f (g x)) (find test xs) ≡ slice_get (filter_map f (map g xs)) 0
first_map g f test tells [] = refl
first_map {A} {B} {X} g f test tells (x ∷ xs) = by_made (f (g x)) refl (tells x) (first_map g f test tells xs)
  where
    by_made : (o : Option X) → f (g x) ≡ o → test x ≡ is_some o →
        option_and_then (λ x. f (g x)) (find test xs) ≡ slice_get (filter_map f (map g xs)) 0 →
        option_and_then (λ x. f (g x)) (cond (test x) (Some x) (find test xs))
        ≡ slice_get (cons_option o (filter_map f (map g xs))) 0
    by_made None is says later = rw says later
    by_made (Some y) is says later = rw says is

kept_map : {A B X : Type 0} (g : A → B) (f : B → Option X) (test : A → Bool) →
    ((x : A) → test x ≡ is_some (f (g x))) → (xs : List A) →
    length (filter test xs) ≡ length (filter_map f (map g xs))
kept_map g f test tells [] = refl
kept_map {A} {B} {X} g f test tells (x ∷ xs) = by_made (f (g x)) (tells x) (kept_map g f test tells xs)
  where
    by_made : (o : Option X) → test x ≡ is_some o → length (filter test xs) ≡ length (filter_map f (map g xs)) →
        length (cond (test x) (x ∷ filter test xs) (filter test xs)) ≡ length (cons_option o (filter_map f (map g xs)))
    by_made None says later = rw says later
    by_made (Some y) says later = rw says (ap (λ (n : ℕ). suc n) later)

count_map : {A B X : Type 0} (g : A → B) (f : B → Option X) (test : A → Bool) →
    ((x : A) → test x ≡ is_some (f (g x))) → (xs : List A) →
    count_by test xs ≡ length (filter_map f (map g xs))
count_map g f test tells xs = sym (length-filter test xs) ∙ kept_map g f test tells xs

-- what deeds start, claim, run and receive
if_some : {X : Type 0} (b : Bool) (x : X) → b ≡ is_some (cond b (Some x) None)
if_some true x = refl
if_some false x = refl

starts_line : (lines : List Line) (line : ℕ) (d : Deed) → is_start_by line d ≡ is_some (request_of line
    (happening lines d))
starts_line lines line (deed.Send to n tag ctx len how own) = if_some (own == line) (Sending to n)
starts_line lines line (deed.Post r own) = if_some (own == line) (Receiving r.number)
starts_line lines line (deed.Match number from n cap own) = if_some (own == line) (Receiving number)
starts_line lines line (deed.Cancel number done) = refl
starts_line lines line (deed.Recall to n) = refl
starts_line lines line (deed.Claim from n own) = refl
starts_line lines line (deed.Ran own reply) = refl

claims_line : (lines : List Line) (line : ℕ) (d : Deed) →
    is_claim_at line d ≡ is_some (message_claimed line (happening lines d))
claims_line lines line (deed.Claim from n own) = if_some {X = Message} (own == line) (record { from = from; n = n })
claims_line lines line (deed.Send to n tag ctx len how own) = refl
claims_line lines line (deed.Post r own) = refl
claims_line lines line (deed.Match number from n cap own) = refl
claims_line lines line (deed.Cancel number done) = refl
claims_line lines line (deed.Recall to n) = refl
claims_line lines line (deed.Ran own reply) = refl

answers_line : (lines : List Line) (d : Deed) → is_answer_by d ≡ is_some (ran_of (happening lines d))
answers_line lines (deed.Ran own reply) = refl
answers_line lines (deed.Send to n tag ctx len how own) = refl
answers_line lines (deed.Post r own) = refl
answers_line lines (deed.Match number from n cap own) = refl
answers_line lines (deed.Cancel number done) = refl
answers_line lines (deed.Recall to n) = refl
answers_line lines (deed.Claim from n own) = refl

receives_one : (lines : List Line) (d : Deed) → is_receive_by d ≡ is_some (receive_of (happening lines d))
receives_one lines (deed.Post r own) = refl
receives_one lines (deed.Match number from n cap own) = refl
receives_one lines (deed.Send to n tag ctx len how own) = refl
receives_one lines (deed.Cancel number done) = refl
receives_one lines (deed.Recall to n) = refl
receives_one lines (deed.Claim from n own) = refl
receives_one lines (deed.Ran own reply) = refl

recalls_one : (lines : List Line) (to n : ℕ) (d : Deed) → is_recall to n (happening lines d) ≡ is_recall_by to n d
recalls_one lines to n (deed.Recall to' n') = refl
recalls_one lines to n (deed.Send to' m tag ctx len how own) = refl
recalls_one lines to n (deed.Post r own) = refl
recalls_one lines to n (deed.Match number from m cap own) = refl
recalls_one lines to n (deed.Cancel number done) = refl
recalls_one lines to n (deed.Claim from m own) = refl
recalls_one lines to n (deed.Ran own reply) = refl

-- no event of a packet starts, claims, runs or receives
no_name : (commands : List Numbered) (q : ℕ) (line : Option ℕ) (what : Happened) → is_of_packet what ≡ true →
    line_after commands q line what ≡ line
no_name commands q line (event.Ran ran answer) packet = absurd (false≢true packet)
no_name commands q line what packet = refl

no_handle : (commands : List Numbered) (m : ℕ) (line : Option ℕ) (what : Happened) → is_of_packet what ≡ true →
    claim_line_after commands m line what ≡ line
no_handle commands m line (event.Ran ran answer) packet = absurd (false≢true packet)
no_handle commands m line what packet = refl

no_request_of : (line : ℕ) (what : Happened) → is_of_packet what ≡ true → request_of line what ≡ None
no_request_of line (event.Send to n tag ctx len how own) packet = absurd (false≢true packet)
no_request_of line (event.Post p own) packet = absurd (false≢true packet)
no_request_of line (event.Match number from n cap own) packet = absurd (false≢true packet)
no_request_of line what packet = refl

no_message : (line : ℕ) (what : Happened) → is_of_packet what ≡ true → message_claimed line what ≡ None
no_message line (event.Claim from n own) packet = absurd (false≢true packet)
no_message line what packet = refl

no_answer : (what : Happened) → is_of_packet what ≡ true → ran_of what ≡ None
no_answer (event.Ran line answer) packet = absurd (false≢true packet)
no_answer what packet = refl

no_receive : (what : Happened) → is_of_packet what ≡ true → receive_of what ≡ None
no_receive (event.Post p line) packet = absurd (false≢true packet)
no_receive (event.Match number from n cap line) packet = absurd (false≢true packet)
no_receive what packet = refl

no_recall : (to n : ℕ) (what : Happened) → is_of_packet what ≡ true → is_recall to n what ≡ false
no_recall to n (event.Recall to' n') packet = absurd (false≢true packet)
no_recall to n what packet = refl

-- what a rank sent: how many to another one, and what without asking
abbrev sends_to : ℕ → Happened → Bool
sends_to to (event.Send to' n tag ctx len how line) = to' == to
sends_to to _ = false

abbrev asks_not : ℕ → ℕ → Happened → Bool
asks_not to n (event.Send to' n' tag ctx len how line) = to' == to && (n' == n && not (is_ask how))
asks_not to n _ = false

sent_own : (to : ℕ) (h : List Event) → length (sends h to) ≡ length (filter (sends_to to) (own_of h))
sent_own to [] = refl
sent_own to (e ∷ h) = by_event e.what e.stamp (sent_own to h)
  where
    by_event : (what : Happened) (stamp : ℕ) → length (sends h to) ≡ length (filter (sends_to to) (own_of h)) →
        length (filter (λ (s : Sent). s.to == to)
        (cons_option (sent_of stamp what) (filter_map (λ (e : Event). sent_of e.stamp e.what) h)))
        ≡ length (filter (sends_to to) (cond (not (is_of_packet what)) (what ∷ own_of h) (own_of h)))
    by_event (event.Send to' n tag ctx len how line) stamp later = by_test (to' == to)
      where
        by_test : (b : Bool) →
            length (cond b (record {
              stamp = stamp;
              to = to';
              n = n;
              tag = tag;
              ctx = ctx;
              len = len;
              how = how;
              line = line;
            } ∷ sends h to) (sends h to))
            ≡ length (cond b (event.Send to' n tag ctx len how line ∷ filter (sends_to to) (own_of h))
            (filter (sends_to to) (own_of h)))
        by_test true = ap (λ (k : ℕ). suc k) later
        by_test false = later
    by_event what stamp later = later

unasked_own : (to n : ℕ) (h : List Event) → is_unasked (sends h to) n ≡ list_any (asks_not to n) (own_of h)
unasked_own to n [] = refl
unasked_own to n (e ∷ h) = by_event e.what e.stamp (unasked_own to n h)
  where
    by_event : (what : Happened) (stamp : ℕ) → is_unasked (sends h to) n ≡ list_any (asks_not to n) (own_of h) →
        is_unasked (filter (λ (s : Sent). s.to == to)
        (cons_option (sent_of stamp what) (filter_map (λ (e : Event). sent_of e.stamp e.what) h))) n
        ≡ list_any (asks_not to n) (cond (not (is_of_packet what)) (what ∷ own_of h) (own_of h))
    by_event (event.Send to' m tag ctx len how line) stamp later = by_test (to' == to)
      where
        by_test : (b : Bool) →
            is_unasked (cond b (record {
              stamp = stamp;
              to = to';
              n = m;
              tag = tag;
              ctx = ctx;
              len = len;
              how = how;
              line = line;
            } ∷ sends h to) (sends h to)) n
            ≡ ((b && (m == n && not (is_ask how))) || list_any (asks_not to n) (own_of h))
        by_test true = ap (λ (b : Bool). (m == n && not (is_ask how)) || b) later
        by_test false = later
    by_event what stamp later = later

-- how many elements pass, of a list that is mapped
passing : {A B : Type 0} (g : A → B) (test : B → Bool) (other : A → Bool) (xs : List A) →
    ((x : A) → test (g x) ≡ other x) → length (filter test (map g xs)) ≡ length (filter other xs)
passing g test other [] same = refl
passing {A} {B} g test other (x ∷ xs) same = by_test (test (g x)) (same x) (passing g test other xs same)
  where
    by_test : (b : Bool) → b ≡ other x → length (filter test (map g xs)) ≡ length (filter other xs) →
        length (cond b (g x ∷ filter test (map g xs)) (filter test (map g xs)))
        ≡ length (cond (other x) (x ∷ filter other xs) (filter other xs))
    by_test true is later = rw (sym is) (ap (λ (k : ℕ). suc k) later)
    by_test false is later = rw (sym is) later

sends_one : (lines : List Line) (to : ℕ) (d : Deed) → sends_to to (happening lines d) ≡ is_send_by to d
sends_one lines to (deed.Send to' n tag ctx len how own) = refl
sends_one lines to (deed.Post r own) = refl
sends_one lines to (deed.Match number from n cap own) = refl
sends_one lines to (deed.Cancel number done) = refl
sends_one lines to (deed.Recall to' n) = refl
sends_one lines to (deed.Claim from n own) = refl
sends_one lines to (deed.Ran own reply) = refl

asks_one : (lines : List Line) (to n : ℕ) (d : Deed) → asks_not to n (happening lines d) ≡ is_unasked_by to n d
asks_one lines to n (deed.Send to' m tag ctx len how own) = refl
asks_one lines to n (deed.Post r own) = refl
asks_one lines to n (deed.Match number from m cap own) = refl
asks_one lines to n (deed.Cancel number done) = refl
asks_one lines to n (deed.Recall to' m) = refl
asks_one lines to n (deed.Claim from m own) = refl
asks_one lines to n (deed.Ran own reply) = refl

module _ (lines : List Line) (h : List Event) (spot : Spot) (is : IsSpotOf lines h spot) where
  name_said : (rank q : ℕ) → name_in lines rank spot.deeds q ≡ line_of_name (commands_of rank lines) h q
  name_said rank q =
      fold_map (happening lines) (line_after (commands_of rank lines) q) None spot.deeds
      ∙ ap (λ (ws : List Happened). fold (line_after (commands_of rank lines) q) None ws) is.deeds
      ∙ sym (fold_own (line_after (commands_of rank lines) q) (no_name (commands_of rank lines) q) None h)

  handle_said : (rank m : ℕ) → handle_in lines rank spot.deeds m ≡ line_of_handle (commands_of rank lines) h m
  handle_said rank m =
      fold_map (happening lines) (claim_line_after (commands_of rank lines) m) None spot.deeds
      ∙ ap (λ (ws : List Happened). fold (claim_line_after (commands_of rank lines) m) None ws) is.deeds
      ∙ sym (fold_own (claim_line_after (commands_of rank lines) m) (no_handle (commands_of rank lines) m) None h)

  request_said : (line : ℕ) → request_in spot.deeds line ≡ request_at h line
  request_said line =
      any_lines (find (is_start_by line) spot.deeds)
      ∙ first_map (happening lines) (request_of line) (is_start_by line) (starts_line lines line) spot.deeds
      ∙ ap (λ (ws : List Happened). slice_get (filter_map (request_of line) ws) 0) is.deeds
      ∙ ap (λ (rs : List Request). slice_get rs 0) (sym (first_own (request_of line) (no_request_of line) h))
    where
      any_lines : (o : Option Deed) → option_and_then (λ d. request_of line (happening [] d)) o
          ≡ option_and_then (λ d. request_of line (happening lines d)) o
      any_lines None = refl
      any_lines (Some (deed.Send to n tag ctx len how own)) = refl
      any_lines (Some (deed.Post r own)) = refl
      any_lines (Some (deed.Match number from n cap own)) = refl
      any_lines (Some (deed.Cancel number done)) = refl
      any_lines (Some (deed.Recall to n)) = refl
      any_lines (Some (deed.Claim from n own)) = refl
      any_lines (Some (deed.Ran own reply)) = refl

  claim_said : (line : ℕ) → claim_in spot.deeds line ≡ claim_at h line
  claim_said line =
      any_lines (find (is_claim_at line) spot.deeds)
      ∙ first_map (happening lines) (message_claimed line) (is_claim_at line) (claims_line lines line) spot.deeds
      ∙ ap (λ (ws : List Happened). slice_get (filter_map (message_claimed line) ws) 0) is.deeds
      ∙ ap (λ (ms : List Message). slice_get ms 0) (sym (first_own (message_claimed line) (no_message line) h))
    where
      any_lines : (o : Option Deed) → option_and_then (λ d. message_claimed line (happening [] d)) o
          ≡ option_and_then (λ d. message_claimed line (happening lines d)) o
      any_lines None = refl
      any_lines (Some (deed.Send to n tag ctx len how own)) = refl
      any_lines (Some (deed.Post r own)) = refl
      any_lines (Some (deed.Match number from n cap own)) = refl
      any_lines (Some (deed.Cancel number done)) = refl
      any_lines (Some (deed.Recall to n)) = refl
      any_lines (Some (deed.Claim from n own)) = refl
      any_lines (Some (deed.Ran own reply)) = refl

  meant : {X : Type 0} (f g : ℕ → Option X) → ((k : ℕ) → f k ≡ g k) → (o : Option ℕ) →
      option_and_then f o ≡ option_and_then g o
  meant f g same None = refl
  meant f g same (Some k) = same k

  pub said : IsSaid lines h spot
  said = record {
    live = λ rank q. ap (λ (o : Option ℕ). option_and_then (request_in spot.deeds) o) (name_said rank q)
        ∙ meant (request_in spot.deeds) (request_at h) request_said (line_of_name (commands_of rank lines) h q);
    message = λ rank m. ap (λ (o : Option ℕ). option_and_then (claim_in spot.deeds) o) (handle_said rank m)
        ∙ meant (claim_in spot.deeds) (claim_at h) claim_said (line_of_handle (commands_of rank lines) h m);
    claim = claim_said;
    ran = count_map (happening lines) ran_of is_answer_by (answers_line lines) spot.deeds
        ∙ ap (λ (ws : List Happened). length (filter_map ran_of ws)) is.deeds
        ∙ ap (λ (ls : List ℕ). length ls) (sym (first_own ran_of no_answer h));
    received = count_map (happening lines) receive_of is_receive_by (receives_one lines) spot.deeds
        ∙ ap (λ (ws : List Happened). length (filter_map receive_of ws)) is.deeds
        ∙ ap (λ (ns : List ℕ). length ns) (sym (first_own receive_of no_receive h));
    recalled = λ to n. sym (any-map (happening lines) (is_recall to n) (is_recall_by to n) spot.deeds
        (recalls_one lines to n))
        ∙ ap (λ (ws : List Happened). list_any (is_recall to n) ws) is.deeds
        ∙ sym (own_any (is_recall to n) (no_recall to n) h);
    sent = λ to. sym (length-filter (is_send_by to) spot.deeds)
        ∙ sym (passing (happening lines) (sends_to to) (is_send_by to) spot.deeds (sends_one lines to))
        ∙ ap (λ (ws : List Happened). length (filter (sends_to to) ws)) is.deeds ∙ sym (sent_own to h);
    unasked = λ to n. sym (any-map (happening lines) (asks_not to n) (is_unasked_by to n) spot.deeds
        (asks_one lines to n))
        ∙ ap (λ (ws : List Happened). list_any (asks_not to n) ws) is.deeds ∙ sym (unasked_own to n h);
  }
