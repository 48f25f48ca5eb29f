-- Answers are the same by other numbers of lines, where different lines stay different.
use Rattle.std.proofs.Common.{◌≡◌, ℕ, ◌==◌, Bool, true, false, cond, ◌&&◌, Option, Some, None, List, [], ◌∷◌}
use Rattle.std.proofs.Common.{map, refl, ◌∙◌, ap}
use Rattle.std.specs.Prelude.{if◌then◌else◌, is_some, option_and_then, option_map, unwrap_or}
use Rattle.std.specs.Option.{option_map_or}
use Rattle.std.specs.List.{find, fold, slice_get}
use Rattle.nm_types.specs.declared.answers.Answer.{Answer}
use Rattle.nm_types.specs.declared.answers.Answer.TheVariants as answer
use Rattle.nm_types.specs.declared.messages.Arrival.{Arrival}
use Rattle.nm_types.specs.declared.scripts.Command.{Command}
use Rattle.nm_types.specs.declared.scripts.Command.TheVariants as command
use Rattle.nm_types.specs.Commands.{Numbered, command_at}
use Rattle.nm_history.specs.declared.events.Event.{Event}
use Rattle.nm_history.specs.declared.events.Happened.{Happened}
use Rattle.nm_history.specs.declared.events.Happened.TheVariants.{Send, Post, Claim, Match, Ran}
use Rattle.nm_history.specs.Answers.{Message, answer_of, arrival_claimed, can_go_on, cancel_answer, claim_at}
use Rattle.nm_history.specs.Answers.{claim_line_after, is_claim_for, is_question_of, is_receive_of, is_result, is_seen}
use Rattle.nm_history.specs.Answers.{is_start_of, is_started, line_after, line_of_handle, line_of_name, live}
use Rattle.nm_history.specs.Answers.{live_message, message_claimed, request_at, request_of, seen}
use Rattle.nm_history.specs.Completion.{Request, is_complete, result_of}
use Rattle.nm_history.specs.Completion.Request.{Sending, Receiving}
use Rattle.nm_history.specs.Matching.{first_message, matched_pairs}
use Rattle.nm_history.specs.Sends.{message_of}
use Rattle.nm_transcript.specs.Renumbered.{KeepsApart, renumbered, renumbered_all, renumbered_command}
use Rattle.nm_transcript.proofs.SameLemmas.{complete_same, first_message_is, in_all, message_same, received_same}
use Rattle.nm_transcript.proofs.SameLemmas.{result_same}

module _ (f : ℕ → ℕ) (apart : KeepsApart f) where
  -- the command of a line
  pub found_same : (commands : List Numbered) (line : ℕ) →
      command_at (map (renumbered_command f) commands) (f line) ≡ command_at commands line
  found_same [] line = refl
  found_same (c ∷ cs) line =
      ap (λ (b : Bool). option_map (λ (d : Numbered). d.command) (cond b (Some (renumbered_command f c))
      (find (λ (d : Numbered). d.line == f line) (map (renumbered_command f) cs)))) (apart c.line line)
      ∙ by (c.line == line) (found_same cs line) where
        by : (b : Bool) → command_at (map (renumbered_command f) cs) (f line) ≡ command_at cs line →
            option_map (λ (d : Numbered). d.command) (cond b (Some (renumbered_command f c))
            (find (λ (d : Numbered). d.line == f line) (map (renumbered_command f) cs)))
            ≡ option_map (λ (d : Numbered). d.command) (cond b (Some c) (find (λ (d : Numbered). d.line == line) cs))
        by true rest = refl
        by false rest = rest

  -- what starts and ends the line of a name
  chosen : (a b : Bool) (ran : ℕ) (line : Option ℕ) →
      (if a then Some (f ran) else if b then None else option_map f line)
      ≡ option_map f (if a then Some ran else if b then None else line)
  chosen true b ran line = refl
  chosen false true ran line = refl
  chosen false false ran line = refl

  line_after_same : (commands : List Numbered) (q : ℕ) (line : Option ℕ) (w : Happened) →
      line_after (map (renumbered_command f) commands) q (option_map f line) (renumbered f w)
      ≡ option_map f (line_after commands q line w)
  line_after_same commands q line (Ran ran answer) =
      ap (λ (o : Option Command). if option_map_or (is_start_of q) o false && is_started answer then Some (f ran)
      else if option_map_or (is_question_of q) o false && is_result answer then None
      else option_map f line) (found_same commands ran)
      ∙ chosen (option_map_or (is_start_of q) (command_at commands ran) false && is_started answer)
      (option_map_or (is_question_of q) (command_at commands ran) false && is_result answer) ran line
  line_after_same commands q line w = refl

  lines_after_same : (commands : List Numbered) (q : ℕ) (line : Option ℕ) (h : List Event) →
      fold (λ (l : Option ℕ) (e : Event). line_after (map (renumbered_command f) commands) q l e.what)
      (option_map f line) (renumbered_all f h)
      ≡ option_map f (fold (λ (l : Option ℕ) (e : Event). line_after commands q l e.what) line h)
  lines_after_same commands q line [] = refl
  lines_after_same commands q line (e ∷ h) =
      ap (λ (o : Option ℕ). fold (λ (l : Option ℕ) (e : Event).
      line_after (map (renumbered_command f) commands) q l e.what) o (renumbered_all f h))
      (line_after_same commands q line e.what)
      ∙ lines_after_same commands q (line_after commands q line e.what) h

  line_of_name_same : (commands : List Numbered) (h : List Event) (q : ℕ) →
      line_of_name (map (renumbered_command f) commands) (renumbered_all f h) q
      ≡ option_map f (line_of_name commands h q)
  line_of_name_same commands h q = lines_after_same commands q None h

  request_of_same : (line : ℕ) (w : Happened) → request_of (f line) (renumbered f w) ≡ request_of line w
  request_of_same line (Send to n tag ctx len how l) =
      ap (λ (b : Bool). if b then Some (Sending to n) else None) (apart l line)
  request_of_same line (Post p l) =
      ap (λ (b : Bool). if b then Some (Receiving p.number) else None) (apart l line)
  request_of_same line (Match number from n cap l) =
      ap (λ (b : Bool). if b then Some (Receiving number) else None) (apart l line)
  request_of_same line w = refl

  request_at_same : (h : List Event) (line : ℕ) → request_at (renumbered_all f h) (f line) ≡ request_at h line
  request_at_same h line =
      ap (λ (xs : List Request). slice_get xs 0)
      (in_all f (λ e. request_of (f line) e.what) (λ e. request_of line e.what) h
      (λ e. request_of_same line e.what))

  then_same : {X : Type 0} (g k : ℕ → Option X) (o : Option ℕ) → ((line : ℕ) → g (f line) ≡ k line) →
      option_and_then g (option_map f o) ≡ option_and_then k o
  then_same g k None same = refl
  then_same g k (Some line) same = same line

  pub live_same : (commands : List Numbered) (h : List Event) (q : ℕ) →
      live (map (renumbered_command f) commands) (renumbered_all f h) q ≡ live commands h q
  live_same commands h q =
      ap (λ (o : Option ℕ). option_and_then (request_at (renumbered_all f h)) o) (line_of_name_same commands h q)
      ∙ then_same (request_at (renumbered_all f h)) (request_at h) (line_of_name commands h q) (request_at_same h)

  -- handles
  claim_line_same : (commands : List Numbered) (m : ℕ) (line : Option ℕ) (w : Happened) →
      claim_line_after (map (renumbered_command f) commands) m (option_map f line) (renumbered f w)
      ≡ option_map f (claim_line_after commands m line w)
  claim_line_same commands m line (Ran ran answer) =
      ap (λ (o : Option Command). if option_map_or (is_claim_for m) o false && is_seen answer then Some (f ran)
      else if option_map_or (is_receive_of m) o false && is_started answer then None
      else option_map f line) (found_same commands ran)
      ∙ chosen (option_map_or (is_claim_for m) (command_at commands ran) false && is_seen answer)
      (option_map_or (is_receive_of m) (command_at commands ran) false && is_started answer) ran line
  claim_line_same commands m line w = refl

  claim_lines_same : (commands : List Numbered) (m : ℕ) (line : Option ℕ) (h : List Event) →
      fold (λ (l : Option ℕ) (e : Event). claim_line_after (map (renumbered_command f) commands) m l e.what)
      (option_map f line) (renumbered_all f h)
      ≡ option_map f (fold (λ (l : Option ℕ) (e : Event). claim_line_after commands m l e.what) line h)
  claim_lines_same commands m line [] = refl
  claim_lines_same commands m line (e ∷ h) =
      ap (λ (o : Option ℕ). fold (λ (l : Option ℕ) (e : Event).
      claim_line_after (map (renumbered_command f) commands) m l e.what) o (renumbered_all f h))
      (claim_line_same commands m line e.what)
      ∙ claim_lines_same commands m (claim_line_after commands m line e.what) h

  line_of_handle_same : (commands : List Numbered) (h : List Event) (m : ℕ) →
      line_of_handle (map (renumbered_command f) commands) (renumbered_all f h) m
      ≡ option_map f (line_of_handle commands h m)
  line_of_handle_same commands h m = claim_lines_same commands m None h

  message_claimed_same : (line : ℕ) (w : Happened) → message_claimed (f line) (renumbered f w) ≡ message_claimed line w
  message_claimed_same line (Claim from n l) =
      let m : Message = record { from = from; n = n } in ap (λ (b : Bool). if b then Some m else None) (apart l line)
  message_claimed_same line w = refl

  claim_at_same : (h : List Event) (line : ℕ) → claim_at (renumbered_all f h) (f line) ≡ claim_at h line
  claim_at_same h line =
      ap (λ (xs : List Message). slice_get xs 0)
      (in_all f (λ e. message_claimed (f line) e.what) (λ e. message_claimed line e.what) h
      (λ e. message_claimed_same line e.what))

  arrival_claimed_same : (h : List Event) (line : ℕ) →
      arrival_claimed (renumbered_all f h) (f line) ≡ arrival_claimed h line
  arrival_claimed_same h line =
      ap (λ (o : Option Message). option_and_then (λ m. message_of (renumbered_all f h) m.from m.n) o)
      (claim_at_same h line)
      ∙ by (claim_at h line) where
        by : (o : Option Message) → option_and_then (λ m. message_of (renumbered_all f h) m.from m.n) o
            ≡ option_and_then (λ (m : Message). message_of h m.from m.n) o
        by None = refl
        by (Some m) = message_same f h m.from m.n

  pub live_message_same : (commands : List Numbered) (h : List Event) (m : ℕ) →
      live_message (map (renumbered_command f) commands) (renumbered_all f h) m ≡ live_message commands h m
  live_message_same commands h m =
      ap (λ (o : Option ℕ). option_and_then (claim_at (renumbered_all f h)) o) (line_of_handle_same commands h m)
      ∙ then_same (claim_at (renumbered_all f h)) (claim_at h) (line_of_handle commands h m) (claim_at_same h)

  -- of a request, if there is one
  request_same : {X : Type 0} (g k : Request → X) (o : Option Request) (d : X) → ((r : Request) → g r ≡ k r) →
      option_map_or g o d ≡ option_map_or k o d
  request_same g k None d same = refl
  request_same g k (Some r) d same = same r

  cancel_answer_same : (h : List Event) (r : Request) → cancel_answer (renumbered_all f h) r ≡ cancel_answer h r
  cancel_answer_same h (Receiving number) =
      ap (λ (b : Bool). if b then answer.Late else answer.Done) (received_same f h number)
  cancel_answer_same h (Sending to n) = refl

  pub answer_same : (commands : List Numbered) (h : List Event) (line : ℕ) (c : Command) →
      answer_of (map (renumbered_command f) commands) (renumbered_all f h) (f line) c ≡ answer_of commands h line c
  answer_same commands h line (command.Send to q tag ctx sync body) =
      ap (λ (o : Option Request). Some (if is_some o then answer.Busy else answer.Started)) (live_same commands h q)
  answer_same commands h line (command.Recv q from tag ctx cap) =
      ap (λ (o : Option Request). Some (if is_some o then answer.Busy else answer.Started)) (live_same commands h q)
  answer_same commands h line (command.Wait q) =
      ap (λ (o : Option Request). option_map_or (result_of (renumbered_all f h)) o (Some answer.Null))
      (live_same commands h q)
      ∙ request_same (result_of (renumbered_all f h)) (result_of h) (live commands h q) (Some answer.Null)
      (result_same f h)
  answer_same commands h line (command.Test q) =
      ap (λ (o : Option Request). Some (option_map_or (λ r. unwrap_or (result_of (renumbered_all f h) r) answer.No) o
      answer.Null)) (live_same commands h q)
      ∙ ap (λ (a : Answer). Some a)
      (request_same (λ r. unwrap_or (result_of (renumbered_all f h) r) answer.No)
      (λ r. unwrap_or (result_of h r) answer.No) (live commands h q) answer.Null
      (λ r. ap (λ (o : Option Answer). unwrap_or o answer.No) (result_same f h r)))
  answer_same commands h line (command.Probe from tag ctx) =
      ap (λ (o : Option Arrival). Some (option_map_or seen o answer.Nothing)) (first_message_is f h from tag ctx)
  answer_same commands h line (command.Await from tag ctx) =
      ap (λ (o : Option Arrival). option_map seen o) (first_message_is f h from tag ctx)
  answer_same commands h line (command.Cancel q) =
      ap (λ (o : Option Request). Some (option_map_or (cancel_answer (renumbered_all f h)) o answer.Null))
      (live_same commands h q)
      ∙ ap (λ (a : Answer). Some a)
      (request_same (cancel_answer (renumbered_all f h)) (cancel_answer h) (live commands h q) answer.Null
      (cancel_answer_same h))
  answer_same commands h line (command.Mprobe m from tag ctx) =
      ap (λ (o : Option Message). if is_some o then Some answer.Busy
      else option_map_or (λ a. Some (seen a)) (arrival_claimed (renumbered_all f h) (f line))
      (if is_some (first_message (renumbered_all f h) (matched_pairs (renumbered_all f h)) from tag ctx)
      then None else Some answer.Nothing)) (live_message_same commands h m)
      ∙ ap (λ (o : Option Arrival). if is_some (live_message commands h m) then Some answer.Busy
      else option_map_or (λ a. Some (seen a)) o
      (if is_some (first_message (renumbered_all f h) (matched_pairs (renumbered_all f h)) from tag ctx)
      then None else Some answer.Nothing)) (arrival_claimed_same h line)
      ∙ ap (λ (o : Option Arrival). if is_some (live_message commands h m) then Some answer.Busy
      else option_map_or (λ a. Some (seen a)) (arrival_claimed h line)
      (if is_some o then None else Some answer.Nothing)) (first_message_is f h from tag ctx)
  answer_same commands h line (command.Mrecv q m cap) =
      ap (λ (o : Option Request). Some (if is_some o then answer.Busy
      else if is_some (live_message (map (renumbered_command f) commands) (renumbered_all f h) m) then answer.Started
      else answer.Null)) (live_same commands h q)
      ∙ ap (λ (o : Option Message). Some (if is_some (live commands h q) then answer.Busy
      else if is_some o then answer.Started
      else answer.Null)) (live_message_same commands h m)

  pub goes_on_same : (commands : List Numbered) (h : List Event) (c : Command) →
      can_go_on (map (renumbered_command f) commands) (renumbered_all f h) c ≡ can_go_on commands h c
  goes_on_same commands h (command.Wait q) =
      ap (λ (o : Option Request). option_map_or (is_complete (renumbered_all f h)) o true) (live_same commands h q)
      ∙ request_same (is_complete (renumbered_all f h)) (is_complete h) (live commands h q) true (complete_same f h)
  goes_on_same commands h (command.Await from tag ctx) =
      ap (λ (o : Option Arrival). is_some o) (first_message_is f h from tag ctx)
  goes_on_same commands h c = refl
