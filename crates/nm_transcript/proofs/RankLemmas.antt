-- A rank's run is one by other numbers of lines, where different lines stay different.
use Rattle.std.proofs.Common.{◌≡◌, ℕ, ◌<◌, ◌≤◌, Bool, true, false, cond, not, ◌&&◌, Option, Some, None, List, []}
use Rattle.std.proofs.Common.{◌∷◌, ◌++◌, length, map, refl, sym, ◌∙◌, ap, subst, take, zero, suc}
use Rattle.std.specs.Prelude.{if◌then◌else◌, is_some, All, IsSomeAnd, IsTrue, MatchOption, option_map}
use Rattle.std.specs.Bool.{OnTrue}
use Rattle.std.specs.Option.{option_map_or}
use Rattle.std.specs.List.{cons_option, filter, filter_map, fold}
use Rattle.std.proofs.lemmas.List.{length-map, map_push}
use Rattle.nm_types.specs.declared.messages.Arrival.{Arrival}
use Rattle.nm_types.specs.declared.scripts.Command.{Command}
use Rattle.nm_types.specs.declared.scripts.Command.TheVariants as command
use Rattle.nm_types.specs.Commands.{Numbered, command_at}
use Rattle.nm_types.specs.Sizes.{Sizes}
use Rattle.nm_history.specs.declared.events.Event.{Event}
use Rattle.nm_history.specs.declared.events.Happened.{Happened}
use Rattle.nm_history.specs.declared.events.Happened.TheVariants.{Send, Post, Arrive, Whole, Out, Cancel, Recall}
use Rattle.nm_history.specs.declared.events.Happened.TheVariants.{Withdraw, Undone, Claim, Match, Ran}
use Rattle.nm_history.specs.Answers.{Message, answer_of, is_seen, is_started, live, live_message, without_bytes}
use Rattle.nm_history.specs.AtEach.{AtEach, AtEachAfter}
use Rattle.nm_history.specs.Completion.{Request, is_taken}
use Rattle.nm_history.specs.Completion.Request.{Sending, Receiving}
use Rattle.nm_history.specs.Happens.{happened, is_arrival, is_recall, is_send}
use Rattle.nm_history.specs.Matching.{first_message, is_claimed, matched_pairs}
use Rattle.nm_history.specs.RankRun.{Always, AnswerAt, CancelAt, CancelsFor, CancelsOf, ClaimAt}
use Rattle.nm_history.specs.RankRun.{EndAt, IsRankRun, NumberAt, StampAt, StartAt, WholeAt}
use Rattle.nm_history.specs.RankRun.{cancels_since, claim_of, claims_since, is_asking, is_cancelling}
use Rattle.nm_history.specs.RankRun.{is_matched_probe, is_start, lacks_message, line_of_claim, ran_lines}
use Rattle.nm_history.specs.RankRun.{ran_of, since_after, since_command, start_of, starts_since, without_number}
use Rattle.nm_history.specs.Sends.{Arrived, Sent, sends}
use Rattle.nm_transcript.specs.Renumbered.{KeepsApart, renumbered, renumbered_all, renumbered_command, renumbered_event}
use Rattle.nm_transcript.proofs.AnswerLemmas.{answer_same, found_same, live_message_same, live_same}
use Rattle.nm_transcript.proofs.SameLemmas.{arrivals_same, asking_same, came_same, claimed_is, first_message_is}
use Rattle.nm_transcript.proofs.SameLemmas.{free_is, map_cons_option, out_same, push_same, recall_same, received_same}
use Rattle.nm_transcript.proofs.SameLemmas.{receives_same, resent, sends_same, sent_same, taken_same, undone_same}
use Rattle.nm_transcript.proofs.SameLemmas.{whole_same, withdraw_same}

-- what holds of the value of an option
pub some_and : {X : Type 0} (P Q : X → Type 0) (o k : Option X) → k ≡ o → ((x : X) → P x → Q x) → IsSomeAnd o P →
    IsSomeAnd k Q
some_and {X} P Q o k is imp holds = subst (λ (u : Option X). IsSomeAnd u Q) (sym is) (by o holds) where
  by : (v : Option X) → IsSomeAnd v P → IsSomeAnd v Q
  by None none = absurd none
  by (Some x) some = imp x some

pub true_of : (b c : Bool) → c ≡ b → IsTrue b → IsTrue c
true_of b c is holds = subst (λ (d : Bool). IsTrue d) (sym is) holds

module _ (f : ℕ → ℕ) where
  -- a rule of each event
  after_same : (P Q : List Event → Event → Type 0) (b h : List Event) →
      ((before : List Event) (e : Event) → P before e → Q (renumbered_all f before) (renumbered_event f e)) →
      AtEachAfter P b h → AtEachAfter Q (renumbered_all f b) (renumbered_all f h)
  after_same P Q b [] imp each = tt
  after_same P Q b (e ∷ h) imp each = (
    imp b e each.0,
    subst (λ (k : List Event). AtEachAfter Q k (renumbered_all f h)) (push_same f b e)
        (after_same P Q (b ++ e ∷ []) h imp each.1),
  )

  pub each_same : (P Q : List Event → Event → Type 0) (h : List Event) →
      ((before : List Event) (e : Event) → P before e → Q (renumbered_all f before) (renumbered_event f e)) →
      AtEach P h → AtEach Q (renumbered_all f h)
  unfolding AtEach
  each_same P Q h imp each = after_same P Q [] h imp each

  pub always_same : (P Q : List Event → Happened → Type 0) (h : List Event) →
      ((before : List Event) (w : Happened) → P before w → Q (renumbered_all f before) (renumbered f w)) →
      Always P h → Always Q (renumbered_all f h)
  always_same P Q h imp each =
      each_same (λ b e. P b e.what) (λ b e. Q b e.what) h (λ before e holds. imp before e.what holds) each

  -- what happened since the last answer
  since_after_same : (s : List Happened) (w : Happened) →
      since_after (map (renumbered f) s) (renumbered f w) ≡ map (renumbered f) (since_after s w)
  since_after_same s (Ran line answer) = refl
  since_after_same s w = sym (map_push (renumbered f) s w)

  sinces : (s : List Happened) (h : List Event) →
      fold (λ (since : List Happened) (e : Event). since_after since e.what) (map (renumbered f) s) (renumbered_all f h)
      ≡ map (renumbered f) (fold (λ (since : List Happened) (e : Event). since_after since e.what) s h)
  sinces s [] = refl
  sinces s (e ∷ h) =
      ap (λ (xs : List Happened). fold (λ (since : List Happened) (e : Event). since_after since e.what) xs
      (renumbered_all f h)) (since_after_same s e.what)
      ∙ sinces (since_after s e.what) h

  since_same : (h : List Event) → since_command (renumbered_all f h) ≡ map (renumbered f) (since_command h)
  since_same h = sinces [] h

  is_start_same : (w : Happened) → is_start (renumbered f w) ≡ is_start w
  is_start_same (Ran line answer) = refl
  is_start_same w = refl

  starts_in : (s : List Happened) → filter is_start (map (renumbered f) s) ≡ map (renumbered f) (filter is_start s)
  starts_in [] = refl
  starts_in (w ∷ s) =
      ap (λ (b : Bool). cond b (renumbered f w ∷ filter is_start (map (renumbered f) s))
      (filter is_start (map (renumbered f) s))) (is_start_same w)
      ∙ by (is_start w) (starts_in s) where
        by : (b : Bool) → filter is_start (map (renumbered f) s) ≡ map (renumbered f) (filter is_start s) →
            cond b (renumbered f w ∷ filter is_start (map (renumbered f) s)) (filter is_start (map (renumbered f) s))
            ≡ map (renumbered f) (cond b (w ∷ filter is_start s) (filter is_start s))
        by true rest = ap (λ (xs : List Happened). renumbered f w ∷ xs) rest
        by false rest = rest

  starts_same : (h : List Event) → starts_since (renumbered_all f h) ≡ map (renumbered f) (starts_since h)
  starts_same h = ap (λ (xs : List Happened). filter is_start xs) (since_same h) ∙ starts_in (since_command h)

  cancels_in : (s : List Happened) → filter is_cancelling (map (renumbered f) s) ≡ filter is_cancelling s
  cancels_in [] = refl
  cancels_in (Cancel number done ∷ s) = ap (λ (xs : List Happened). Cancel number done ∷ xs) (cancels_in s)
  cancels_in (Recall to n ∷ s) = ap (λ (xs : List Happened). Recall to n ∷ xs) (cancels_in s)
  cancels_in (w ∷ s) = cancels_in s

  cancels_same : (h : List Event) → cancels_since (renumbered_all f h) ≡ cancels_since h
  cancels_same h = ap (λ (xs : List Happened). filter is_cancelling xs) (since_same h) ∙ cancels_in (since_command h)

  line_of_claim_same : (w : Happened) → line_of_claim (renumbered f w) ≡ option_map f (line_of_claim w)
  line_of_claim_same (Ran line answer) = refl
  line_of_claim_same w = refl

  claims_in : (s : List Happened) →
      filter_map line_of_claim (map (renumbered f) s) ≡ map f (filter_map line_of_claim s)
  claims_in [] = refl
  claims_in (w ∷ s) =
      ap (λ (o : Option ℕ). cons_option o (filter_map line_of_claim (map (renumbered f) s))) (line_of_claim_same w)
      ∙ ap (λ (xs : List ℕ). cons_option (option_map f (line_of_claim w)) xs) (claims_in s)
      ∙ sym (map_cons_option f (line_of_claim w) (filter_map line_of_claim s))

  claims_same : (h : List Event) → claims_since (renumbered_all f h) ≡ map f (claims_since h)
  claims_same h = ap (λ (xs : List Happened). filter_map line_of_claim xs) (since_same h) ∙ claims_in (since_command h)

  ran_of_same : (w : Happened) → ran_of (renumbered f w) ≡ option_map f (ran_of w)
  ran_of_same (Ran line answer) = refl
  ran_of_same w = refl

  ran_lines_same : (h : List Event) → ran_lines (renumbered_all f h) ≡ map f (ran_lines h)
  ran_lines_same [] = refl
  ran_lines_same (e ∷ h) =
      ap (λ (o : Option ℕ). cons_option o (ran_lines (renumbered_all f h))) (ran_of_same e.what)
      ∙ ap (λ (xs : List ℕ). cons_option (option_map f (ran_of e.what)) xs) (ran_lines_same h)
      ∙ sym (map_cons_option f (ran_of e.what) (ran_lines h))

  -- numbers, and when messages are whole and come to an end
  number_at : (ranks : ℕ) (before : List Event) (w : Happened) → NumberAt ranks before w →
      NumberAt ranks (renumbered_all f before) (renumbered f w)
  number_at ranks before (Send to n tag ctx len how line) is =
      is ∙ sym (ap (λ (xs : List Sent). length xs) (sends_same f before to) ∙ length-map (sends before to) (resent f))
  number_at ranks before (Post p line) is = is ∙ sym (ap (λ (xs : List ℕ). length xs) (receives_same f before))
  number_at ranks before (Match number from n cap line) is =
      is ∙ sym (ap (λ (xs : List ℕ). length xs) (receives_same f before))
  number_at ranks before (Arrive a) holds =
      (holds.0, holds.1 ∙ sym (ap (λ (xs : List Arrived). length xs) (arrivals_same f before a.env.from)))
  number_at ranks before w holds = tt

  whole_at : (before : List Event) (w : Happened) → WholeAt before w → WholeAt (renumbered_all f before) (renumbered f w)
  whole_at before (Whole from n) holds = (
    whole_same f from n before ∙ holds.0,
    true_of (happened (is_arrival from n) before) (happened (is_arrival from n) (renumbered_all f before))
        (came_same f from n before) holds.1,
    subst (λ (b : Bool). OnTrue b (IsTrue (is_taken (renumbered_all f before) from n))) (sym (asking_same f from n before))
        (subst (λ (b : Bool). OnTrue (happened (is_asking from n) before) (IsTrue b)) (sym (taken_same f before from n))
        holds.2),
  )
  whole_at before w holds = tt

  end_at : (before : List Event) (w : Happened) → EndAt before w → EndAt (renumbered_all f before) (renumbered f w)
  end_at before (Withdraw from n done) holds = (
    withdraw_same f from n true before ∙ holds.0,
    withdraw_same f from n false before ∙ holds.1,
    true_of (happened (is_arrival from n) before) (happened (is_arrival from n) (renumbered_all f before))
        (came_same f from n before) holds.2,
    holds.3 ∙ sym (free_is f before from n),
  )
  end_at before (Out to n) holds = (
    out_same f to n before ∙ holds.0,
    true_of (happened (is_send to n) before) (happened (is_send to n) (renumbered_all f before))
        (sent_same f to n before) holds.1,
  )
  end_at before (Undone to n done) holds = (
    undone_same f to n true before ∙ holds.0,
    undone_same f to n false before ∙ holds.1,
    true_of (happened (is_recall to n) before) (happened (is_recall to n) (renumbered_all f before))
        (recall_same f to n before) holds.2,
  )
  end_at before w holds = tt

  stamps_same : (s : ℕ) (h : List Event) →
      fold (λ (stamp : ℕ) (e : Event). e.stamp) s (renumbered_all f h) ≡ fold (λ (stamp : ℕ) (e : Event). e.stamp) s h
  stamps_same s [] = refl
  stamps_same s (e ∷ h) = stamps_same e.stamp h

  stamp_at : (before : List Event) (stamp : ℕ) → StampAt before stamp → StampAt (renumbered_all f before) stamp
  stamp_at before stamp less = subst (λ (k : ℕ). k < stamp) (sym (stamps_same 0 before)) less

  lines_taken : (at : ℕ) (commands : List Numbered) → map f (map (λ (c : Numbered). c.line) (take at commands))
      ≡ map (λ (c : Numbered). c.line) (take at (map (renumbered_command f) commands))
  lines_taken zero commands = refl
  lines_taken (suc n) [] = refl
  lines_taken (suc n) (c ∷ commands) = ap (λ (xs : List ℕ). f c.line ∷ xs) (lines_taken n commands)

  without_same : (w : Happened) → without_number (renumbered f w) ≡ renumbered f (without_number w)
  without_same (Ran line answer) = refl
  without_same w = refl

  withouts : (s : List Happened) →
      map without_number (map (renumbered f) s) ≡ map (renumbered f) (map without_number s)
  withouts [] = refl
  withouts (w ∷ s) =
      ap (λ (v : Happened). v ∷ map without_number (map (renumbered f) s)) (without_same w)
      ∙ ap (λ (xs : List Happened). renumbered f (without_number w) ∷ xs) (withouts s)

  if_map : {X Y : Type 0} (g : X → Y) (b : Bool) (xs : List X) →
      map g (if b then xs else []) ≡ (if b then map g xs else [])
  if_map g true xs = refl
  if_map g false xs = refl

module _ (f : ℕ → ℕ) (apart : KeepsApart f) (commands : List Numbered) where
  answer_at : (before : List Event) (w : Happened) → AnswerAt commands before w →
      AnswerAt (map (renumbered_command f) commands) (renumbered_all f before) (renumbered f w)
  answer_at before (Ran line answer) holds =
      some_and (λ c. answer_of commands before line c ≡ Some (without_bytes answer))
      (λ c. answer_of (map (renumbered_command f) commands) (renumbered_all f before) (f line) c
      ≡ Some (without_bytes answer))
      (command_at commands line) (command_at (map (renumbered_command f) commands) (f line))
      (found_same f apart commands line) (λ c is. answer_same f apart commands before line c ∙ is) holds
  answer_at before w holds = tt

  start_of_same : (eager : ℕ) (before : List Event) (line : ℕ) (c : Command) →
      start_of eager (map (renumbered_command f) commands) (renumbered_all f before) (f line) c
      ≡ map (renumbered f) (start_of eager commands before line c)
  start_of_same eager before line (command.Mrecv q m cap) =
      ap (λ (o : Option Message). option_map_or (λ message. Match 0 message.from message.n cap (f line) ∷ []) o [])
      (live_message_same f apart commands before m)
      ∙ by (live_message commands before m) where
        by : (o : Option Message) →
            option_map_or (λ (message : Message). Match 0 message.from message.n cap (f line) ∷ []) o []
            ≡ map (renumbered f) (option_map_or (λ (message : Message). Match 0 message.from message.n cap line ∷ []) o [])
        by None = refl
        by (Some message) = refl
  start_of_same eager before line c = refl

  starts_of_same : (eager : ℕ) (before : List Event) (line : ℕ) (o : Option Command) →
      map (renumbered f) (option_map_or (start_of eager commands before line) o [])
      ≡ option_map_or (start_of eager (map (renumbered_command f) commands) (renumbered_all f before) (f line)) o []
  starts_of_same eager before line None = refl
  starts_of_same eager before line (Some c) = sym (start_of_same eager before line c)

  lacks_same : (before : List Event) (c : Command) →
      lacks_message (map (renumbered_command f) commands) (renumbered_all f before) c
      ≡ lacks_message commands before c
  lacks_same before (command.Mrecv q m cap) =
      ap (λ (o : Option Message). not (is_some o)) (live_message_same f apart commands before m)
  lacks_same before c = refl

  lack_same : (before : List Event) (o : Option Command) →
      option_map_or (lacks_message (map (renumbered_command f) commands) (renumbered_all f before)) o false
      ≡ option_map_or (lacks_message commands before) o false
  lack_same before None = refl
  lack_same before (Some c) = lacks_same before c

  start_at : (eager : ℕ) (before : List Event) (w : Happened) → StartAt eager commands before w →
      StartAt eager (map (renumbered_command f) commands) (renumbered_all f before) (renumbered f w)
  start_at eager before (Ran line answer) holds = (
    ap (λ (xs : List Happened). map without_number xs) (starts_same f before)
        ∙ withouts f (starts_since before)
        ∙ ap (λ (xs : List Happened). map (renumbered f) xs) holds.0
        ∙ if_map f (renumbered f) (is_started answer)
        (option_map_or (start_of eager commands before line) (command_at commands line) [])
        ∙ ap (λ (xs : List Happened). if is_started answer then xs else [])
        (starts_of_same eager before line (command_at commands line))
        ∙ ap (λ (o : Option Command). if is_started answer
        then option_map_or (start_of eager (map (renumbered_command f) commands) (renumbered_all f before) (f line)) o []
        else []) (sym (found_same f apart commands line)),
    ap (λ (o : Option Command). is_started answer
        && option_map_or (lacks_message (map (renumbered_command f) commands) (renumbered_all f before)) o false)
        (found_same f apart commands line)
        ∙ ap (λ (b : Bool). is_started answer && b) (lack_same before (command_at commands line))
        ∙ holds.1,
  )
  start_at eager before (Match number from n cap line) holds =
      true_of (is_claimed before (matched_pairs before) from n)
      (is_claimed (renumbered_all f before) (matched_pairs (renumbered_all f before)) from n) (claimed_is f before from n)
      holds
  start_at eager before w holds = tt

  cancels_of : (before : List Event) (o : Option Request) → CancelsOf before o → CancelsOf (renumbered_all f before) o
  cancels_of before None holds = cancels_same f before ∙ holds
  cancels_of before (Some (Receiving number)) holds =
      cancels_same f before ∙ holds
      ∙ ap (λ (b : Bool). Cancel number (not b) ∷ []) (sym (received_same f before number))
  cancels_of before (Some (Sending to n)) holds = (
    true_of (happened (is_recall to n) before) (happened (is_recall to n) (renumbered_all f before))
        (recall_same f to n before) holds.0,
    subst (λ (xs : List Happened). All (λ what. what ≡ Recall to n) xs) (sym (cancels_same f before)) holds.1,
  )

  cancels_for : (before : List Event) (c : Command) → CancelsFor commands before c →
      CancelsFor (map (renumbered_command f) commands) (renumbered_all f before) c
  cancels_for before (command.Cancel q) holds =
      subst (λ (o : Option Request). CancelsOf (renumbered_all f before) o) (sym (live_same f apart commands before q))
      (cancels_of before (live commands before q) holds)
  cancels_for before c holds = cancels_same f before ∙ holds

  cancel_at : (before : List Event) (w : Happened) → CancelAt commands before w →
      CancelAt (map (renumbered_command f) commands) (renumbered_all f before) (renumbered f w)
  cancel_at before (Ran line answer) holds =
      subst (λ (o : Option Command). MatchOption o (cancels_since (renumbered_all f before) ≡ [])
      (CancelsFor (map (renumbered_command f) commands) (renumbered_all f before)))
      (sym (found_same f apart commands line)) (by (command_at commands line) holds) where
        by : (o : Option Command) → MatchOption o (cancels_since before ≡ []) (CancelsFor commands before) →
            MatchOption o (cancels_since (renumbered_all f before) ≡ [])
            (CancelsFor (map (renumbered_command f) commands) (renumbered_all f before))
        by None none = cancels_same f before ∙ none
        by (Some c) some = cancels_for before c some
  cancel_at before (Cancel number done) is = is ∙ ap (λ (b : Bool). not b) (sym (received_same f before number))
  cancel_at before (Recall to n) holds = (
    recall_same f to n before ∙ holds.0,
    true_of (happened (is_send to n) before) (happened (is_send to n) (renumbered_all f before))
        (sent_same f to n before) holds.1,
  )
  cancel_at before w holds = tt

  claim_of_same : (before : List Event) (line : ℕ) (c : Command) →
      claim_of (renumbered_all f before) (f line) c ≡ map (renumbered f) (claim_of before line c)
  claim_of_same before line (command.Mprobe m from tag ctx) =
      ap (λ (o : Option Arrival). option_map_or (λ a. Claim a.env.from a.n (f line) ∷ []) o [])
      (first_message_is f before from tag ctx)
      ∙ by (first_message before (matched_pairs before) from tag ctx) where
        by : (o : Option Arrival) → option_map_or (λ (a : Arrival). Claim a.env.from a.n (f line) ∷ []) o []
            ≡ map (renumbered f) (option_map_or (λ (a : Arrival). Claim a.env.from a.n line ∷ []) o [])
        by None = refl
        by (Some a) = refl
  claim_of_same before line c = refl

  claim_at : (before : List Event) (w : Happened) → ClaimAt commands before w →
      ClaimAt (map (renumbered_command f) commands) (renumbered_all f before) (renumbered f w)
  claim_at before (Ran line answer) holds =
      claims_same f before
      ∙ ap (λ (xs : List ℕ). map f xs) holds
      ∙ if_map f f (option_map_or is_matched_probe (command_at commands line) false && is_seen answer) (line ∷ [])
      ∙ ap (λ (o : Option Command). if option_map_or is_matched_probe o false && is_seen answer
      then f line ∷ []
      else []) (sym (found_same f apart commands line))
  claim_at before (Claim from n line) holds =
      some_and (λ c. claim_of before line c ≡ Claim from n line ∷ [])
      (λ c. claim_of (renumbered_all f before) (f line) c ≡ Claim from n (f line) ∷ [])
      (command_at commands line) (command_at (map (renumbered_command f) commands) (f line))
      (found_same f apart commands line)
      (λ c is. claim_of_same before line c ∙ ap (λ (xs : List Happened). map (renumbered f) xs) is) holds
  claim_at before w holds = tt

  -- a rank's run
  pub rank_run_same : (shape : Sizes) (at : ℕ) (h : List Event) → IsRankRun shape commands at h →
      IsRankRun shape (map (renumbered_command f) commands) at (renumbered_all f h)
  rank_run_same shape at h run = record {
    answers = record {
      few = subst (λ (k : ℕ). at ≤ k) (sym (length-map commands (renumbered_command f))) run.answers.few;
      in_order = ran_lines_same f h ∙ ap (λ (xs : List ℕ). map f xs) run.answers.in_order ∙ lines_taken f at commands;
      right = always_same f (AnswerAt commands) (AnswerAt (map (renumbered_command f) commands)) h answer_at
          run.answers.right;
    };
    starts = record {
      made = always_same f (StartAt shape.eager commands) (StartAt shape.eager (map (renumbered_command f) commands)) h
          (start_at shape.eager) run.starts.made;
      no_others = starts_same f h ∙ ap (λ (xs : List Happened). map (renumbered f) xs) run.starts.no_others;
    };
    numbers = always_same f (NumberAt shape.ranks) (NumberAt shape.ranks) h (number_at f shape.ranks) run.numbers;
    cancels = record {
      made = always_same f (CancelAt commands) (CancelAt (map (renumbered_command f) commands)) h cancel_at
          run.cancels.made;
      no_others = cancels_same f h ∙ run.cancels.no_others;
    };
    wholes = always_same f WholeAt WholeAt h (whole_at f) run.wholes;
    ends = always_same f EndAt EndAt h (end_at f) run.ends;
    stamps = each_same f (λ before e. StampAt before e.stamp) (λ before e. StampAt before e.stamp) h
        (λ before e less. stamp_at f before e.stamp less) run.stamps;
    claims = record {
      made = always_same f (ClaimAt commands) (ClaimAt (map (renumbered_command f) commands)) h claim_at
          run.claims.made;
      no_others = claims_same f h ∙ ap (λ (xs : List ℕ). map f xs) run.claims.no_others;
    };
  }
