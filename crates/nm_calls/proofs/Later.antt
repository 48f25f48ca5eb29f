-- What a rank's history is for some commands, it is for others that have the same lines below one that is still to come.
use Rattle.std.proofs.Common.{◌≡◌, ℕ, ◌<◌, ◌&&◌, not, Bool, true, false, cond, Option, Some, None, List, [], ◌∷◌, length}
use Rattle.std.proofs.Common.{map, fold, refl, sym, ap, subst, ◌∙◌}
use Rattle.std.specs.Prelude.{IsSomeAnd, MatchOption, is_some, nat_lt, option_and_then, unwrap_or}
use Rattle.std.specs.Option.{option_map_or}
use Rattle.nm_types.specs.declared.messages.Arrival.{Arrival}
use Rattle.nm_types.specs.declared.answers.Answer.{Answer}
use Rattle.nm_types.specs.declared.answers.Answer.TheVariants as answer
use Rattle.nm_types.specs.declared.scripts.Command.{Command}
use Rattle.nm_types.specs.declared.scripts.Command.TheVariants as command
use Rattle.nm_types.specs.Commands.{Numbered, command_at}
use Rattle.nm_history.specs.declared.events.Event.{Event}
use Rattle.nm_history.specs.declared.events.Happened.{Happened}
use Rattle.nm_history.specs.declared.events.Happened.TheVariants.{Claim, Match, Ran}
use Rattle.nm_history.specs.Completion.{Request, result_of}
use Rattle.nm_history.specs.Matching.{first_message, matched_pairs}
use Rattle.nm_history.specs.Answers.{Message, answer_of, arrival_claimed, cancel_answer, claim_at, claim_line_after}
use Rattle.nm_history.specs.Answers.{is_question_of, is_result, is_seen, is_start_of, is_started, is_claim_for, is_receive_of}
use Rattle.nm_history.specs.Answers.{line_after, live, live_message, request_at, seen, without_bytes}
use Rattle.nm_history.specs.RankRun.{AnswerAt, CancelAt, CancelsFor, CancelsOf, ClaimAt, StartAt}
use Rattle.nm_history.specs.RankRun.{cancels_since, claim_of, is_matched_probe, lacks_message, start_of}
use Rattle.nm_process.specs.Work.{are_below, line_of}
use Rattle.nm_calls.proofs.Below.{below_is, low_first, low_rest}

-- below a line these commands are the same
abbrev pub SameBelow : ℕ → List Numbered → List Numbered → Type 0
SameBelow bound xs ys = (line : ℕ) → line < bound → command_at xs line ≡ command_at ys line

module _ (b : ℕ) (xs ys : List Numbered) (same : SameBelow b xs ys) where
  pub found : (line : ℕ) → nat_lt line b ≡ true → command_at xs line ≡ command_at ys line
  found line low = same line (below_is line b low)

  -- the line of a name, and of a handle
  name_line : (q : ℕ) (o : Option ℕ) (w : Happened) → nat_lt (line_of w) b ≡ true →
      line_after xs q o w ≡ line_after ys q o w
  name_line q o (Ran line x) low =
      ap (λ (c : Option Command). cond (option_map_or (is_start_of q) c false && is_started x) (Some line)
      (cond (option_map_or (is_question_of q) c false && is_result x) None o)) (found line low)
  name_line q o w low = refl

  names : (q : ℕ) (o : Option ℕ) (h : List Event) → are_below b h ≡ true →
      fold (λ line e. line_after xs q line e.what) o h ≡ fold (λ line e. line_after ys q line e.what) o h
  names q o [] low = refl
  names q o (e ∷ h) low =
      ap (λ (k : Option ℕ). fold (λ (line : Option ℕ) (e : Event). line_after xs q line e.what) k h)
      (name_line q o e.what (low_first b e h low))
      ∙ names q (line_after ys q o e.what) h (low_rest b e h low)

  handle_line : (m : ℕ) (o : Option ℕ) (w : Happened) → nat_lt (line_of w) b ≡ true →
      claim_line_after xs m o w ≡ claim_line_after ys m o w
  handle_line m o (Ran line x) low =
      ap (λ (c : Option Command). cond (option_map_or (is_claim_for m) c false && is_seen x) (Some line)
      (cond (option_map_or (is_receive_of m) c false && is_started x) None o)) (found line low)
  handle_line m o w low = refl

  handles : (m : ℕ) (o : Option ℕ) (h : List Event) → are_below b h ≡ true →
      fold (λ line e. claim_line_after xs m line e.what) o h ≡ fold (λ line e. claim_line_after ys m line e.what) o h
  handles m o [] low = refl
  handles m o (e ∷ h) low =
      ap (λ (k : Option ℕ). fold (λ (line : Option ℕ) (e : Event). claim_line_after xs m line e.what) k h)
      (handle_line m o e.what (low_first b e h low))
      ∙ handles m (claim_line_after ys m o e.what) h (low_rest b e h low)

  -- the live request of a name, and the live message of a handle
  pub lives : (h : List Event) → are_below b h ≡ true → (q : ℕ) → live xs h q ≡ live ys h q
  lives h low q = ap (λ (o : Option ℕ). option_and_then (request_at h) o) (names q None h low)

  pub messages : (h : List Event) → are_below b h ≡ true → (m : ℕ) → live_message xs h m ≡ live_message ys h m
  messages h low m = ap (λ (o : Option ℕ). option_and_then (claim_at h) o) (handles m None h low)

  module _ (h : List Event) (past : are_below b h ≡ true) where
    -- what a command is answered, and starts
    answers : (line : ℕ) (c : Command) → answer_of xs h line c ≡ answer_of ys h line c
    answers line (command.Send to q tag ctx sync body) =
        ap (λ (o : Option Request). Some (cond (is_some o) answer.Busy answer.Started)) (lives h past q)
    answers line (command.Recv q from tag ctx cap) =
        ap (λ (o : Option Request). Some (cond (is_some o) answer.Busy answer.Started)) (lives h past q)
    answers line (command.Wait q) =
        ap (λ (o : Option Request). option_map_or (result_of h) o (Some answer.Null)) (lives h past q)
    answers line (command.Test q) =
        ap (λ (o : Option Request).
        Some (option_map_or (λ (r : Request). unwrap_or (result_of h r) answer.No) o answer.Null)) (lives h past q)
    answers line (command.Probe from tag ctx) = refl
    answers line (command.Await from tag ctx) = refl
    answers line (command.Cancel q) =
        ap (λ (o : Option Request). Some (option_map_or (cancel_answer h) o answer.Null)) (lives h past q)
    answers line (command.Mprobe m from tag ctx) =
        ap (λ (o : Option Message). cond (is_some o) (Some answer.Busy)
        (option_map_or (λ (a : Arrival). Some (seen a)) (arrival_claimed h line)
        (cond (is_some (first_message h (matched_pairs h) from tag ctx)) None (Some answer.Nothing))))
        (messages h past m)
    answers line (command.Mrecv q m cap) =
        ap (λ (o : Option Request). Some (cond (is_some o) answer.Busy
        (cond (is_some (live_message xs h m)) answer.Started answer.Null))) (lives h past q)
        ∙ ap (λ (o : Option Message). Some (cond (is_some (live ys h q)) answer.Busy
        (cond (is_some o) answer.Started answer.Null))) (messages h past m)

    starts : (eager line : ℕ) (c : Command) → start_of eager xs h line c ≡ start_of eager ys h line c
    starts eager line (command.Mrecv q m cap) =
        ap (λ (o : Option Message). option_map_or (λ (x : Message). Match 0 x.from x.n cap line ∷ []) o [])
        (messages h past m)
    starts eager line c = refl

    lacks : (c : Command) → lacks_message xs h c ≡ lacks_message ys h c
    lacks (command.Mrecv q m cap) = ap (λ (o : Option Message). not (is_some o)) (messages h past m)
    lacks c = refl

    -- what is true at an event
    pub answer_at : (w : Happened) → nat_lt (line_of w) b ≡ true → AnswerAt xs h w → AnswerAt ys h w
    answer_at (Ran line x) here right =
        subst (λ (o : Option Command). IsSomeAnd o (λ c. answer_of ys h line c ≡ Some (without_bytes x)))
        (found line here) (along (command_at xs line) right) where
          along : (o : Option Command) → IsSomeAnd o (λ c. answer_of xs h line c ≡ Some (without_bytes x)) →
              IsSomeAnd o (λ c. answer_of ys h line c ≡ Some (without_bytes x))
          along None r = r
          along (Some c) r = sym (answers line c) ∙ r
    answer_at w here right = tt

    pub start_at : (eager : ℕ) (w : Happened) → nat_lt (line_of w) b ≡ true → StartAt eager xs h w →
        StartAt eager ys h w
    start_at eager (Ran line x) here right = (
      right.0
          ∙ ap (λ (ws : List Happened). cond (is_started x) ws [])
          (ap (λ (o : Option Command). option_map_or (start_of eager xs h line) o []) (found line here)
          ∙ by_start (command_at ys line)),
      sym (ap (λ (l : Bool). is_started x && l)
          (ap (λ (o : Option Command). option_map_or (lacks_message xs h) o false) (found line here)
          ∙ by_lack (command_at ys line)))
          ∙ right.1,
    ) where
      by_start : (o : Option Command) → option_map_or (start_of eager xs h line) o []
          ≡ option_map_or (start_of eager ys h line) o []
      by_start None = refl
      by_start (Some c) = starts eager line c

      by_lack : (o : Option Command) → option_map_or (lacks_message xs h) o false
          ≡ option_map_or (lacks_message ys h) o false
      by_lack None = refl
      by_lack (Some c) = lacks c
    start_at eager w here right = right

    cancels : (c : Command) → CancelsFor xs h c → CancelsFor ys h c
    cancels (command.Cancel q) r = subst (λ (o : Option Request). CancelsOf h o) (lives h past q) r
    cancels c r = r

    pub cancel_at : (w : Happened) → nat_lt (line_of w) b ≡ true → CancelAt xs h w → CancelAt ys h w
    cancel_at (Ran line x) here right =
        along (command_at ys line)
        (subst (λ (o : Option Command). MatchOption o (cancels_since h ≡ []) (CancelsFor xs h)) (found line here) right)
      where
        along : (o : Option Command) → MatchOption o (cancels_since h ≡ []) (CancelsFor xs h) →
            MatchOption o (cancels_since h ≡ []) (CancelsFor ys h)
        along None r = r
        along (Some c) r = cancels c r
    cancel_at w here right = right

    pub claim_at_event : (w : Happened) → nat_lt (line_of w) b ≡ true → ClaimAt xs h w → ClaimAt ys h w
    claim_at_event (Ran line x) here right =
        right
        ∙ ap (λ (o : Option Command). cond (option_map_or is_matched_probe o false && is_seen x) (line ∷ []) [])
        (found line here)
    claim_at_event (Claim from n line) here right =
        subst (λ (o : Option Command). IsSomeAnd o (λ c. claim_of h line c ≡ Claim from n line ∷ [])) (found line here)
        right
    claim_at_event w here right = right
