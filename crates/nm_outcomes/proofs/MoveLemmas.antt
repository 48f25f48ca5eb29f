-- What may happen after a log is a move of the ranks' places.
use Rattle.std.proofs.Common.{◌≡◌, ◌⊎◌, inl, inr, ℕ, ◌<◌, ◌&&◌, ◌||◌, not, Bool, true, false, Option}
use Rattle.std.proofs.Common.{Some, None, List, [], ◌∷◌, length, map, refl, sym, ◌∙◌, ap, subst}
use Rattle.std.specs.Prelude.{IfSome, IsSomeAnd, IsTrue, MatchOption, if◌then◌else◌, is_some, option_and_then}
use Rattle.std.specs.Prelude.{option_map}
use Rattle.std.specs.Prelude.{unwrap_or}
use Rattle.std.specs.Bool.{OnTrue}
use Rattle.std.specs.List.{find, list_any, slice_get}
use Rattle.std.specs.Option.{option_map_or}
use Rattle.std.proofs.lemmas.Bool.{false≢true}
use Rattle.nm_types.proofs.TruthLemmas.{and_right}
use Rattle.nm_types.specs.declared.answers.Answer.{Answer}
use Rattle.nm_types.specs.declared.answers.Answer.TheVariants as answer
use Rattle.nm_types.specs.declared.messages.Arrival.{Arrival}
use Rattle.nm_types.specs.declared.messages.Envelope.{Envelope}
use Rattle.nm_types.specs.declared.messages.Peer.{Peer}
use Rattle.nm_types.specs.declared.messages.TagPick.{TagPick}
use Rattle.nm_types.specs.declared.scripts.Command.{Command}
use Rattle.nm_types.specs.declared.scripts.Command.TheVariants as command
use Rattle.nm_types.specs.declared.scripts.Line.{Line}
use Rattle.nm_types.specs.Commands.{Numbered, command_at, commands_of}
use Rattle.nm_types.specs.Sizes.{Sizes}
use Rattle.nm_history.specs.declared.events.Event.{Event}
use Rattle.nm_history.specs.declared.events.Happened.{Happened}
use Rattle.nm_history.specs.declared.events.Happened.TheVariants as event
use Rattle.nm_history.specs.declared.plain.Pair.{Pair}
use Rattle.nm_history.specs.Answers.{Message, answer_of, arrival_claimed, cancel_answer, claim_at, live, live_message}
use Rattle.nm_history.specs.Answers.{line_of_handle, line_of_name, request_at, seen, without_bytes}
use Rattle.nm_history.specs.Completion.{Request, is_taken, result_of, shown}
use Rattle.nm_history.specs.Completion.Request.{Receiving, Sending}
use Rattle.nm_history.specs.Delivery.{BodyAt, ShowsBytes as history_bytes, WithdrawAfterRecall, asked_pair}
use Rattle.nm_history.specs.Delivery.{earlier_than, pair_of_request}
use Rattle.nm_history.specs.Growing.{ArrivesNext}
use Rattle.nm_history.specs.Happens.{happened, is_arrival, is_cancel, is_claim, is_recall, is_withdraw}
use Rattle.nm_history.specs.Matching.{first_message, is_free_message, is_of_receive, matched_pairs}
use Rattle.nm_history.specs.RankRun.{AnswerAt, claim_of, ran_lines, start_of, without_number}
use Rattle.nm_history.specs.Selection.{matches}
use Rattle.nm_history.specs.Sends.{Sent, arrivals, envelope, message_of, sends, sent_bytes}
use Rattle.nm_history.specs.Underway.{MayFollow}
use Rattle.nm_history.proofs.OnceLemmas.{eqb_self}
use Rattle.nm_lookups.proofs.ReplayLemmas.{found_any, first_free}
use Rattle.nm_types.proofs.ListLemmas.{get_map}
use Rattle.nm_types.proofs.OptionLemmas.{no_some, same_some}
use Rattle.nm_outcomes.specs.Due.{AreAtLines, IsAnswerOf, IsCancelOf, IsDue, IsMatchOf, IsStartOf}
use Rattle.nm_outcomes.specs.Moves.{AreBytesOf, Cancels, Matches, ShowsBytes, asked_in, pair_in}
use Rattle.nm_outcomes.specs.Logs.{IsLog, MayCome, Step, history_in}
use Rattle.nm_outcomes.specs.Moves.{Answers, AreWithin, ArePlaces, MayAnswer, MayMove, Starts, StepsAreMoves}
use Rattle.nm_outcomes.specs.Moves.{answer_in}
use Rattle.nm_outcomes.specs.Moves.{cancel_in, claim_in, found_in, is_free_in, may_show, message_now, request_now}
use Rattle.nm_outcomes.specs.Places.{IsPlaceOf, RankPoint}
use Rattle.nm_outcomes.specs.Results.{IsWithin, is_unasked, may_end_with}
use Rattle.nm_outcomes.proofs.DueLemmas.{start_fresh}
use Rattle.nm_outcomes.proofs.EndLemmas.{all_rising, happened_early, results_may_come}

-- two ways to look up the same thing
looked_up : {X : Type 0} (f g : ℕ → Option X) → ((k : ℕ) → f k ≡ g k) → (o p : Option ℕ) → o ≡ p →
    option_and_then f o ≡ option_and_then g p
looked_up {X} f g same o p is = ap (λ (o : Option ℕ). option_and_then f o) is ∙ by_place p
  where
    by_place : (p : Option ℕ) → option_and_then f p ≡ option_and_then g p
    by_place None = refl
    by_place (Some k) = same k

module _ (me : ℕ) (commands : List Numbered) (h : List Event) (place : RankPoint) (is : IsPlaceOf me commands h place)
  where
    pub request_is : (q : ℕ) → request_now place q ≡ live commands h q
    request_is q = looked_up place.requests (request_at h) is.requests (place.named q) (line_of_name commands h q)
        (is.named q)

    message_is : (m : ℕ) → message_now place m ≡ live_message commands h m
    message_is m = looked_up place.claims (claim_at h) is.claims (place.handled m) (line_of_handle commands h m)
        (is.handled m)

    pub found_is : (from : Peer) (tag : TagPick) (ctx : ℕ) →
        found_in place from tag ctx ≡ first_message h (matched_pairs h) from tag ctx
    found_is from tag ctx =
        ap (λ (ms : List Arrival). find (λ a. matches from tag ctx a.env) ms) is.messages ∙ first_free h from tag ctx

    pub free_is : (from n : ℕ) → is_free_in place from n ≡ is_free_message h (matched_pairs h) from n
    unfolding is_free_message
    free_is from n =
        ap (λ (b : Bool). not b && not (place.claimed from n) && not (place.withdrawn from n)) (is.taken from n)
        ∙ ap (λ (b : Bool). not (is_taken h from n) && not b && not (place.withdrawn from n)) (is.claimed from n)
        ∙ ap (λ (b : Bool). not (is_taken h from n) && not (happened (is_claim from n) h) && not b)
        (is.withdrawn from n)

    claimed_is : (line : ℕ) → option_and_then (λ (m : Message). place.known m.from m.n) (place.claims line)
        ≡ arrival_claimed h line
    claimed_is line =
        ap (λ (o : Option Message). option_and_then (λ (m : Message). place.known m.from m.n) o) (is.claims line)
        ∙ by_claim (claim_at h line)
      where
        by_claim : (o : Option Message) → option_and_then (λ (m : Message). place.known m.from m.n) o
            ≡ option_and_then (λ (m : Message). message_of h m.from m.n) o
        by_claim None = refl
        by_claim (Some m) = is.known m.from m.n

    paired_is : (number : ℕ) → is_some (place.pairs number) ≡ list_any (is_of_receive number) (matched_pairs h)
    paired_is number =
        ap (λ (o : Option Pair). is_some o) (is.pairs number) ∙ found_any (is_of_receive number) (matched_pairs h)

    cancel_is : (request : Request) → cancel_in place request ≡ cancel_answer h request
    cancel_is (Receiving number) =
        ap (λ (b : Bool). if b then answer.Late else answer.Done) (paired_is number)
    cancel_is (Sending to n) = refl

    -- the answer of a command that is no wait and no test
    abbrev is_question : Command → Bool
    is_question (command.Wait q) = true
    is_question (command.Test q) = true
    is_question _ = false

    answer_is : (line : ℕ) (c : Command) → is_question c ≡ false → answer_in place line c ≡ answer_of commands h line c
    answer_is line (command.Wait q) none = absurd (false≢true (sym none))
    answer_is line (command.Test q) none = absurd (false≢true (sym none))
    answer_is line (command.Send to q tag ctx sync body) none =
        ap (λ (o : Option Request). Some (if is_some o then answer.Busy else answer.Started)) (request_is q)
    answer_is line (command.Recv q from tag ctx cap) none =
        ap (λ (o : Option Request). Some (if is_some o then answer.Busy else answer.Started)) (request_is q)
    answer_is line (command.Probe from tag ctx) none =
        ap (λ (o : Option Arrival). Some (option_map_or seen o answer.Nothing)) (found_is from tag ctx)
    answer_is line (command.Await from tag ctx) none =
        ap (λ (o : Option Arrival). option_map seen o) (found_is from tag ctx)
    answer_is line (command.Cancel q) none =
        ap (λ (o : Option Request). Some (option_map_or (cancel_in place) o answer.Null)) (request_is q)
        ∙ by_request (live commands h q)
      where
        by_request : (o : Option Request) → Some (option_map_or (cancel_in place) o answer.Null)
            ≡ Some (option_map_or (cancel_answer h) o answer.Null)
        by_request None = refl
        by_request (Some request) = ap (λ (a : Answer). Some a) (cancel_is request)
    answer_is line (command.Mprobe m from tag ctx) none =
        ap (λ (o : Option Message). if is_some o then Some answer.Busy
        else option_map_or (λ a. Some (seen a))
        (option_and_then (λ (x : Message). place.known x.from x.n) (place.claims line))
        (if is_some (found_in place from tag ctx) then None else Some answer.Nothing)) (message_is m)
        ∙ ap (λ (o : Option Arrival). if is_some (live_message commands h m) then Some answer.Busy
        else option_map_or (λ a. Some (seen a)) o
        (if is_some (found_in place from tag ctx) then None else Some answer.Nothing)) (claimed_is line)
        ∙ ap (λ (o : Option Arrival). if is_some (live_message commands h m) then Some answer.Busy
        else option_map_or (λ a. Some (seen a)) (arrival_claimed h line)
        (if is_some o then None else Some answer.Nothing)) (found_is from tag ctx)
    answer_is line (command.Mrecv q m cap) none =
        ap (λ (o : Option Request). Some (if is_some o then answer.Busy
        else if is_some (message_now place m) then answer.Started else answer.Null)) (request_is q)
        ∙ ap (λ (o : Option Message). Some (if is_some (live commands h q) then answer.Busy
        else if is_some o then answer.Started else answer.Null)) (message_is m)

    pair_is : (o : Option Request) → option_and_then (pair_in place) o ≡ option_and_then (pair_of_request h) o
    pair_is None = refl
    pair_is (Some (Receiving number)) = is.pairs number
    pair_is (Some (Sending to n)) = refl

    asked_is : (c : Command) → asked_in place c ≡ asked_pair commands h c
    asked_is (command.Wait q) =
        ap (λ (o : Option Request). option_and_then (pair_in place) o) (request_is q) ∙ pair_is (live commands h q)
    asked_is (command.Test q) =
        ap (λ (o : Option Request). option_and_then (pair_in place) o) (request_is q) ∙ pair_is (live commands h q)
    asked_is c = refl

    claim_is : (line : ℕ) (c : Command) → claim_in place line c ≡ claim_of h line c
    claim_is line (command.Mprobe m from tag ctx) =
        ap (λ (o : Option Arrival). option_map_or (λ a. event.Claim a.env.from a.n line ∷ []) o [])
        (found_is from tag ctx)
    claim_is line c = refl

-- what a request may end with, by the places
module _ (lines : List Line) (log : List Step) (w : ℕ → RankPoint) (are : ArePlaces lines log w) where
  pub show_is : (i : ℕ) (request : Request) → may_show w i request ≡ may_end_with (history_in log) i request
  show_is i (Receiving number) =
      ap (λ (b : Bool). if b then Some answer.Cancelled else option_map shown ((w i).pairs number))
      ((are i).off number)
      ∙ ap (λ (o : Option Pair). if happened (is_cancel number) (history_in log i) then Some answer.Cancelled
      else option_map shown o) ((are i).pairs number)
  show_is i (Sending j n) =
      ends ((w j).withdrawn i n) (happened (is_withdraw i n true) (history_in log j))
      ((w i).unasked j n) (is_unasked (sends (history_in log i) j) n) ((w j).taken i n)
      (is_taken (history_in log j) i n) ((w i).recalled j n) (happened (is_recall j n) (history_in log i))
      ((w j).arrived i n) (happened (is_arrival i n) (history_in log j)) (is_free_in (w j) i n)
      (is_free_message (history_in log j) (matched_pairs (history_in log j)) i n)
      ((are j).withdrawn i n) ((are i).unasked j n) ((are j).taken i n) ((are i).recalled j n) ((are j).arrived i n)
      (free_is j (commands_of j lines) (history_in log j) (w j) (are j) i n)
    where
      ends : (a a' b b' c c' d d' e e' f f' : Bool) → a ≡ a' → b ≡ b' → c ≡ c' → d ≡ d' → e ≡ e' → f ≡ f' →
          (if a then Some answer.Cancelled
          else if (b || c) && (not d || (e && not f)) then Some answer.Sent else None)
          ≡ (if a' then Some answer.Cancelled
          else if (b' || c') && (not d' || (e' && not f')) then Some answer.Sent else None)
      ends a a' b b' c c' d d' e e' f f' p q r s t u = rw (p, q, r, s, t, u) refl

module _ (shape : Sizes) (lines : List Line) (log : List Step) (w : ℕ → RankPoint) (i : ℕ) (e : Event)
    (is : IsLog shape lines log) (are : ArePlaces lines log w) (stand : AreAtLines (commands_of i lines))
    (within : AreWithin shape.ranks (w i)) (next : MayCome shape lines (history_in log) i e)
  where
    abbrev commands : List Numbered
    commands = commands_of i lines

    abbrev h : List Event
    h = history_in log i

    -- a result of a live request
    result_may : (q : ℕ) (request : Request) → live commands h q ≡ Some request → (a : Answer) →
        result_of h request ≡ Some a → may_show w i request ≡ Some a
    result_may q request here a result =
        show_is lines log w are i request
        ∙ results_may_come shape lines log is i next.within request (in_range request here) a result
      where
        by_line : (o : Option ℕ) (request : Request) → option_and_then (request_at h) o ≡ Some request →
            IsWithin shape.ranks request
        by_line None request here = absurd (no_some request here)
        by_line (Some line) (Receiving number) here = tt
        by_line (Some line) (Sending to n) here = within line to n ((are i).requests line ∙ here)

        in_range : (request : Request) → live commands h q ≡ Some request → IsWithin shape.ranks request
        in_range request here = by_line (line_of_name commands h q) request here

    may_answer : (line : ℕ) (c : Command) (a : Answer) → answer_of commands h line c ≡ Some a → MayAnswer w i line c a
    may_answer line (command.Wait q) a right =
        subst (λ (o : Option Request). MatchOption o (a ≡ answer.Null) (λ request. may_show w i request ≡ Some a))
        (sym (request_is i commands h (w i) (are i) q)) (by_request (live commands h q) refl right)
      where
        by_request : (o : Option Request) → live commands h q ≡ o →
            option_map_or (result_of h) o (Some answer.Null) ≡ Some a →
            MatchOption o (a ≡ answer.Null) (λ request. may_show w i request ≡ Some a)
        by_request None here right = sym (same_some answer.Null a right)
        by_request (Some request) here right = result_may q request here a right
    may_answer line (command.Test q) a right =
        subst (λ (o : Option Request). MatchOption o (a ≡ answer.Null)
        (λ request. (a ≡ answer.No) ⊎ (may_show w i request ≡ Some a)))
        (sym (request_is i commands h (w i) (are i) q))
        (by_request (live commands h q) refl (same_some _ a right))
      where
        by_result : (request : Request) → live commands h q ≡ Some request → (o : Option Answer) →
            result_of h request ≡ o → unwrap_or o answer.No ≡ a →
            (a ≡ answer.No) ⊎ (may_show w i request ≡ Some a)
        by_result request here None result right = inl (sym right)
        by_result request here (Some b) result right =
            inr (result_may q request here a (result ∙ ap (λ (x : Answer). Some x) right))

        by_request : (o : Option Request) → live commands h q ≡ o →
            option_map_or (λ request. unwrap_or (result_of h request) answer.No) o answer.Null ≡ a →
            MatchOption o (a ≡ answer.Null) (λ request. (a ≡ answer.No) ⊎ (may_show w i request ≡ Some a))
        by_request None here right = sym right
        by_request (Some request) here right = by_result request here (result_of h request) refl right
    may_answer line (command.Send to q tag ctx sync body) a right =
        answer_is i commands h (w i) (are i) line (command.Send to q tag ctx sync body) refl ∙ right
    may_answer line (command.Recv q from tag ctx cap) a right =
        answer_is i commands h (w i) (are i) line (command.Recv q from tag ctx cap) refl ∙ right
    may_answer line (command.Probe from tag ctx) a right =
        answer_is i commands h (w i) (are i) line (command.Probe from tag ctx) refl ∙ right
    may_answer line (command.Await from tag ctx) a right =
        answer_is i commands h (w i) (are i) line (command.Await from tag ctx) refl ∙ right
    may_answer line (command.Cancel q) a right =
        answer_is i commands h (w i) (are i) line (command.Cancel q) refl ∙ right
    may_answer line (command.Mprobe m from tag ctx) a right =
        answer_is i commands h (w i) (are i) line (command.Mprobe m from tag ctx) refl ∙ right
    may_answer line (command.Mrecv q m cap) a right =
        answer_is i commands h (w i) (are i) line (command.Mrecv q m cap) refl ∙ right

    answers : (line : ℕ) (a : Answer) → AnswerAt commands h (event.Ran line a) → IsAnswerOf commands h line →
        Answers w i commands line a
    answers line a right due = record {
      command = due.command;
      next = ap (λ (k : ℕ). slice_get commands k) (are i).done ∙ due.next;
      line_is = due.line_is;
      may = may_answer line due.command.command (without_bytes a)
          (subst (λ (o : Option Command). IsSomeAnd o (λ c. answer_of commands h line c ≡ Some (without_bytes a)))
          (ap (λ (l : ℕ). command_at commands l) (sym due.line_is)
          ∙ stand (length (ran_lines h)) due.command due.next) right);
    }

    starts : (what : Happened) → IsStartOf shape.eager commands h what →
        ((c : Numbered) → without_number what ∷ [] ≡ start_of shape.eager commands h c.line c.command →
        without_number what ∷ [] ≡ start_of shape.eager commands [] c.line c.command) →
        Starts shape.eager commands (w i) what
    starts what due fresh = record {
      command = due.command;
      next = ap (λ (k : ℕ). slice_get commands k) (are i).done ∙ due.next;
      first = (are i).begun ∙ due.first;
      start = fresh due.command due.start;
    }

    arrives : (a : Arrival) (stamp : ℕ) → a.env.from < shape.ranks → a.n ≡ length (arrivals h a.env.from) →
        ArrivesNext a.env.from i (history_in log a.env.from) h stamp (event.Arrive a) →
        (slice_get ((w a.env.from).sent i) ((w i).came a.env.from) ≡ Some a.env) × (a.n ≡ (w i).came a.env.from)
    arrives a stamp low number message = (
      ap (λ (es : List Envelope). slice_get es ((w i).came a.env.from)) ((are a.env.from).sent i)
          ∙ ap (λ (k : ℕ). slice_get (map (envelope a.env.from) (sends (history_in log a.env.from) i)) k)
          ((are i).came a.env.from)
          ∙ by_send (slice_get (sends (history_in log a.env.from) i) (length (arrivals h a.env.from))) refl
          (subst (λ (b : Bool). OnTrue b (IsSomeAnd (slice_get (sends (history_in log a.env.from) i)
          (length (arrivals h a.env.from))) (λ s. (a.env ≡ envelope a.env.from s) × (s.stamp < stamp))))
          (eqb_self a.env.from) message),
      number ∙ sym ((are i).came a.env.from),
    )
      where
        by_send : (o : Option Sent) →
            slice_get (sends (history_in log a.env.from) i) (length (arrivals h a.env.from)) ≡ o →
            IsSomeAnd o (λ s. (a.env ≡ envelope a.env.from s) × (s.stamp < stamp)) →
            slice_get (map (envelope a.env.from) (sends (history_in log a.env.from) i))
            (length (arrivals h a.env.from)) ≡ Some a.env
        by_send None here message = absurd message
        by_send (Some s) here message =
            get_map (envelope a.env.from) (sends (history_in log a.env.from) i) (length (arrivals h a.env.from)) s here
            ∙ ap (λ (x : Envelope). Some x) (sym message.0)

    withdrawn : (from n stamp : ℕ) (done : Bool) → happened (is_arrival from n) h ≡ true →
        done ≡ is_free_message h (matched_pairs h) from n →
        (from < shape.ranks → WithdrawAfterRecall from i (history_in log from) stamp (event.Withdraw from n done)) →
        ((w i).arrived from n ≡ true) × (done ≡ is_free_in (w i) from n)
        × (from < shape.ranks → (w from).recalled i n ≡ true)
    withdrawn from n stamp done came free asked = (
      (are i).arrived from n ∙ came,
      free ∙ sym (free_is i commands h (w i) (are i) from n),
      λ low. (are from).recalled i n
          ∙ happened_early (is_recall i n) stamp (history_in log from) (all_rising shape lines log is from)
          (subst (λ (b : Bool). OnTrue b (IsTrue (happened (is_recall i n)
          (earlier_than stamp (history_in log from)))))
          (eqb_self from) (asked low)),
    )

    -- the bytes of a message that is shown
    bytes_of_pair : (body : List ℕ) (pair : Pair) →
        ((from : ℕ) → from < shape.ranks →
        history_bytes from (commands_of from lines) (sends (history_in log from) i) body pair) →
        AreBytesOf shape lines w i body pair
    bytes_of_pair body pair shown low =
        subst (λ (ls : List ℕ). IsSomeAnd (slice_get ls pair.arrival.n)
        (λ line. IsSomeAnd (command_at (commands_of pair.arrival.env.from lines) line) (λ c. body ≡ sent_bytes c)))
        (sym ((are pair.arrival.env.from).lines i))
        (by_send (slice_get (sends (history_in log pair.arrival.env.from) i) pair.arrival.n) refl
        (subst (λ (b : Bool). OnTrue b (IsSomeAnd (slice_get (sends (history_in log pair.arrival.env.from) i)
        pair.arrival.n) (λ s. IsSomeAnd (command_at (commands_of pair.arrival.env.from lines) s.line)
        (λ c. body ≡ sent_bytes c)))) (eqb_self pair.arrival.env.from) (shown pair.arrival.env.from low)))
      where
        by_send : (o : Option Sent) → slice_get (sends (history_in log pair.arrival.env.from) i) pair.arrival.n ≡ o →
            IsSomeAnd o (λ s. IsSomeAnd (command_at (commands_of pair.arrival.env.from lines) s.line)
            (λ c. body ≡ sent_bytes c)) →
            IsSomeAnd (slice_get (map (λ (s : Sent). s.line) (sends (history_in log pair.arrival.env.from) i))
            pair.arrival.n)
            (λ line. IsSomeAnd (command_at (commands_of pair.arrival.env.from lines) line) (λ c. body ≡ sent_bytes c))
        by_send None here shown = absurd shown
        by_send (Some s) here shown =
            subst (λ (o : Option ℕ). IsSomeAnd o
            (λ line. IsSomeAnd (command_at (commands_of pair.arrival.env.from lines) line) (λ c. body ≡ sent_bytes c)))
            (sym (get_map (λ (s : Sent). s.line) (sends
            (history_in log pair.arrival.env.from) i) pair.arrival.n s here))
            shown

    shows : (line : ℕ) (a : Answer) → AnswerAt commands h (event.Ran line a) →
        ((from : ℕ) → from < shape.ranks → BodyAt from (commands_of from lines)
        (sends (history_in log from) i) commands h
        (event.Ran line a)) → IsSomeAnd (command_at commands line) (ShowsBytes shape lines w i a)
    shows line (answer.Got source tag body) right bodies =
        by_command (command_at commands line) right bodies
      where
        by_pair : (o : Option Pair) →
            ((from : ℕ) → from < shape.ranks →
            IfSome o (history_bytes from (commands_of from lines) (sends (history_in log from) i) body)) →
            IfSome o (AreBytesOf shape lines w i body)
        by_pair None shown = tt
        by_pair (Some pair) shown = bytes_of_pair body pair shown

        by_command : (o : Option Command) →
            IsSomeAnd o (λ c. answer_of commands h line c ≡ Some (without_bytes (answer.Got source tag body))) →
            ((from : ℕ) → from < shape.ranks →
            IfSome (option_and_then (asked_pair commands h) o)
            (history_bytes from (commands_of from lines) (sends (history_in log from) i) body)) →
            IsSomeAnd o (ShowsBytes shape lines w i (answer.Got source tag body))
        by_command None right bodies = absurd right
        by_command (Some c) right bodies =
            subst (λ (o : Option Pair). IfSome o (AreBytesOf shape lines w i body))
            (sym (asked_is i commands h (w i) (are i) c)) (by_pair (asked_pair commands h c) bodies)
    shows line a right bodies = by_command (command_at commands line) right
      where
        by_command : (o : Option Command) →
            IsSomeAnd o (λ c. answer_of commands h line c ≡ Some (without_bytes a)) →
            IsSomeAnd o (ShowsBytes shape lines w i a)
        by_command None right = absurd right
        by_command (Some c) right = tt

    cancels_now : (request : Request) → IsCancelOf commands h request → Cancels commands (w i) request
    cancels_now request due = record {
      command = due.command;
      next = ap (λ (k : ℕ). slice_get commands k) (are i).done ∙ due.next;
      name = due.name;
      cancels = due.cancels;
      live_is = request_is i commands h (w i) (are i) due.name ∙ due.live_is;
    }

    matches_now : (from n cap line : ℕ) → IsMatchOf commands h from n cap line → is_taken h from n ≡ false →
        Matches commands (w i) from n cap line
    matches_now from n cap line due open' = record {
      command = due.command;
      next = ap (λ (k : ℕ). slice_get commands k) (are i).done ∙ due.next;
      line_is = due.line_is;
      name = due.name;
      handle = due.handle;
      receives = due.receives;
      message_is = message_is i commands h (w i) (are i) due.handle ∙ due.message_is;
      not_taken = (are i).taken from n ∙ open';
    }

    by_event : (what : Happened) (stamp : ℕ) → MayFollow shape commands h (record { stamp = stamp; what = what }) →
        ((from : ℕ) → from < shape.ranks → ArrivesNext from i (history_in log from) h stamp what) →
        ((from : ℕ) → from < shape.ranks → WithdrawAfterRecall from i (history_in log from) stamp what) →
        ((from : ℕ) → from < shape.ranks → BodyAt from (commands_of from lines)
        (sends (history_in log from) i) commands h
        what) →
        IsDue shape.eager commands h what → MayMove shape lines w i what
    by_event (event.Send to n tag ctx len how line) stamp own message asked bodies due =
        starts (event.Send to n tag ctx len how line) due
        (λ c start. start_fresh shape.eager c.line commands h [] c.command
        (event.Send to n tag ctx len how line) refl start)
    by_event (event.Post p line) stamp own message asked bodies due =
        starts (event.Post p line) due
        (λ c start. start_fresh shape.eager c.line commands h [] c.command (event.Post p line) refl start)
    by_event (event.Match number from n cap line) stamp own message asked bodies due =
        matches_now from n cap line due (not_so (is_taken h from n) (and_right (happened (is_claim from n) h)
        (not (is_taken h from n)) own.starts))
      where
        not_so : (b : Bool) → not b ≡ true → b ≡ false
        not_so false is = refl
        not_so true is = absurd (false≢true is)
    by_event (event.Claim from n line) stamp own message asked bodies due = (
      record {
        command = due.0.command;
        next = ap (λ (k : ℕ). slice_get commands k) (are i).done ∙ due.0.next;
        line_is = due.0.line_is;
      },
      by_command (command_at commands line) own.claims,
    )
      where
        by_command : (o : Option Command) →
            IsSomeAnd o (λ c. claim_of h line c ≡ event.Claim from n line ∷ []) →
            IsSomeAnd o (λ c. claim_in (w i) line c ≡ event.Claim from n line ∷ [])
        by_command None claims = absurd claims
        by_command (Some c) claims = claim_is i commands h (w i) (are i) line c ∙ claims
    by_event (event.Cancel number done) stamp own message asked bodies due =
        (cancels_now (Receiving number) due.0, own.cancels ∙ ap not (sym (paired_is i commands h (w i) (are i) number)))
    by_event (event.Recall to n) stamp own message asked bodies due =
        (cancels_now (Sending to n) due, (are i).recalled to n ∙ own.cancels.0)
    by_event (event.Withdraw from n done) stamp own message asked bodies due =
        withdrawn from n stamp done own.ends.2 own.ends.3 (λ low. asked from low)
    by_event (event.Arrive a) stamp own message asked bodies due =
        arrives a stamp own.numbers.0 own.numbers.1 (message a.env.from own.numbers.0)
    by_event (event.Ran line a) stamp own message asked bodies due =
        (answers line a own.answers due, shows line a own.answers bodies)
    by_event what stamp own message asked bodies due = tt

pub steps_are_moves : StepsAreMoves
steps_are_moves shape lines log w i e is are stand within next due =
    by_event shape lines log w i e is are stand within next e.what e.stamp next.own
    (λ from low. (next.receives from low).message) (λ from low. (next.receives from low).asked)
    (λ from low. (next.receives from low).body) due
