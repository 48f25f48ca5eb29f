-- The answer of the next command may come next in the log.
use Rattle.std.proofs.Common.{◌≡◌, ◌⊎◌, inl, inr, ℕ, zero, suc, ◌<◌, ◌==◌, ◌&&◌, not, Bool}
use Rattle.std.proofs.Common.{true, false, cond}
use Rattle.std.proofs.Common.{Option, Some, None, List, [], ◌∷◌, ◌++◌, length, map, refl, sym, ◌∙◌, ap}
use Rattle.std.proofs.Common.{subst, arith}
use Rattle.std.specs.Prelude.{if◌then◌else◌, nat_lt, IfSome, IsSomeAnd, MatchOption, is_some, option_and_then}
use Rattle.std.specs.Prelude.{option_map, replicate}
use Rattle.std.specs.List.{All, filter, find, list_any, slice_get, slice_set}
use Rattle.std.specs.Option.{option_map_or}
use Rattle.std.proofs.lemmas.Bool.{false≢true}
use Rattle.nm_types.specs.declared.answers.Answer.{Answer}
use Rattle.nm_types.specs.declared.answers.Answer.TheVariants as answer
use Rattle.nm_types.specs.declared.messages.Arrival.{Arrival}
use Rattle.nm_types.specs.declared.messages.Envelope.{Envelope}
use Rattle.nm_types.specs.declared.messages.Peer.{Peer}
use Rattle.nm_types.specs.declared.messages.TagPick.{TagPick}
use Rattle.nm_types.specs.declared.scripts.Command.{Command}
use Rattle.nm_types.specs.declared.scripts.Command.TheVariants as command
use Rattle.nm_types.specs.declared.scripts.Line.{Line}
use Rattle.nm_types.specs.Commands.{Numbered, command_at, commands_of}
use Rattle.nm_types.specs.Limits.{IsScript}
use Rattle.nm_types.specs.Sizes.{Sizes}
use Rattle.nm_types.proofs.NumberLemmas.{same_number}
use Rattle.nm_types.proofs.OptionLemmas.{mapped_some, no_some, same_some}
use Rattle.nm_history.specs.declared.events.Event.{Event}
use Rattle.nm_history.specs.declared.events.Happened.{Happened}
use Rattle.nm_history.specs.declared.events.Happened.TheVariants as event
use Rattle.nm_history.specs.declared.plain.Pair.{Pair}
use Rattle.nm_history.specs.Answers.{Message, answer_of, arrival_claimed, cancel_answer, claim_at}
use Rattle.nm_history.specs.Answers.{is_question_of, is_result, is_seen}
use Rattle.nm_history.specs.Answers.{is_started, line_of_name, live, live_message, request_at, seen, without_bytes}
use Rattle.nm_history.specs.Completion.{Request, pair_of_receive, shown}
use Rattle.nm_history.specs.Completion.Request.{Receiving, Sending}
use Rattle.nm_history.specs.Delivery.{BodyAt, ShowsBytes, asked_pair}
use Rattle.nm_history.specs.Matching.{first_message, is_of_receive, matched_pairs}
use Rattle.nm_history.specs.RankRun.{CancelsFor, CancelsOf, cancels_since, claims_since, is_cancelling}
use Rattle.nm_history.specs.RankRun.{is_matched_probe, is_start}
use Rattle.nm_history.specs.RankRun.{lacks_message, ran_lines, start_of, starts_since, without_number}
use Rattle.nm_history.specs.Sends.{Sent, envelope, message_of, sends, sent_bytes}
use Rattle.nm_history.proofs.Basic.{on_test}
use Rattle.nm_history.proofs.OnceLemmas.{eqb_self}
use Rattle.nm_history.proofs.SelectionLemmas.{find_contains}
use Rattle.nm_match.proofs.NumberLemmas.{is_known_message-arrived}
use Rattle.nm_history.proofs.ResultLemmas.{taken_has_message}
use Rattle.nm_match.specs.Deeds.{is_message}
use Rattle.nm_outcomes.specs.Logs.{Step, history_in}
use Rattle.nm_outcomes.specs.Paths.{AreCommands}
use Rattle.nm_outcomes.specs.RankStates.{IsSpotOf, Spot, spot_after}
use Rattle.nm_outcomes.specs.declared.spots.deeds.Deed.{Deed}
use Rattle.nm_outcomes.specs.declared.spots.deeds.Deed.TheVariants as deed
use Rattle.nm_outcomes.specs.declared.spots.deeds.Reply.{Reply}
use Rattle.nm_outcomes.specs.declared.spots.deeds.Reply.TheVariants as reply
use Rattle.nm_outcomes.specs.Deeds.{answer_meant, bytes_at, happening}
use Rattle.nm_outcomes.specs.Looks.{IsSaid, claim_in, found_at, is_answer_by, is_cancelling_by, is_claim_any}
use Rattle.nm_outcomes.specs.Looks.{is_recall_by}
use Rattle.nm_outcomes.specs.Looks.{is_send_by, is_starting_by, live_in, message_in}
use Rattle.nm_outcomes.proofs.Bodies.{came_known, pair_came}
use Rattle.nm_outcomes.proofs.SaidLemmas.{said}
use Rattle.nm_outcomes.proofs.SentLemmas.{came_within}
use Rattle.nm_outcomes.proofs.StepLemmas.{acts}
use Rattle.nm_explored.specs.Successors.{cancelled_at, got_by, is_idle_at}
use Rattle.nm_explored.specs.Successors.{probed_at}
use Rattle.nm_explored.specs.Successors.{received_at, seen_at, shown_at, started_at}
use Rattle.nm_explored.specs.Settings.{IsAt}
use Rattle.nm_explored.proofs.PlacedLemmas.{arrival_said, first_said, in_pairs, numbers_in}
use Rattle.nm_explored.proofs.SendLemmas.{sent_deed}
use Rattle.nm_explored.proofs.SinceLemmas.{idle as is_idle, is_claiming}
use Rattle.nm_listed.proofs.ArrivedLemmas.{sent_of_pair}
use Rattle.nm_listed.proofs.BeginLemmas.{last_deed, kind_cancel, kind_claim, kind_start}
use Rattle.nm_listed.proofs.HushLemmas.{AreHushed, hushed_answer}
use Rattle.nm_listed.specs.Tellings.{clock, pushed}
use Rattle.nm_listed.proofs.ReachLemmas.{IsReached, is_at, next_log}
use Rattle.nm_listed.proofs.LineLemmas.{lines_apart}
use Rattle.nm_listed.proofs.SteadyLemmas.{HasCancelled, HasClaimed, HasMatched, HasRecalled, IsBegun, IsIdle}
use Rattle.nm_listed.proofs.SteadyLemmas.{IsPast, IsSteady}
use Rattle.nm_listed.proofs.SteadyLemmas.{steady_ran}
use Rattle.nm_listed.proofs.TellLemmas.{IsTold, MayBe, each_but, moved_spots, now, step_at, told_push}

all_one : (w : Happened) → All (λ (v : Happened). v ≡ w) (w ∷ [])
all_one w zero d low = refl
all_one w (suc k) d low = absurd (omega (arith, low))

all_none : (w : Happened) → All (λ (v : Happened). v ≡ w) []
all_none w k d low = absurd (omega (arith, low))

-- the lines of claims
one_line : (b : Bool) (ls : List ℕ) (x line : ℕ) → ls ≡ (if b then x ∷ [] else []) → ls ≡ line ∷ [] → x ≡ line
one_line true ls x line is so = let same : x ∷ [] ≡ line ∷ [] = sym is ∙ so in cc
one_line false ls x line is so = let same : [] ≡ line ∷ [] = sym is ∙ so in absurd (grind arith)

no_answer_start : (d : Deed) → is_starting_by d ≡ true → is_answer_by d ≡ false
no_answer_start (deed.Ran line r) so = absurd (false≢true so)
no_answer_start (deed.Send to n tag ctx len how line) so = refl
no_answer_start (deed.Post r line) so = refl
no_answer_start (deed.Match number from n cap line) so = refl
no_answer_start (deed.Cancel number done) so = refl
no_answer_start (deed.Recall to n) so = refl
no_answer_start (deed.Claim from n line) so = refl

no_answer_cancel : (d : Deed) → is_cancelling_by d ≡ true → is_answer_by d ≡ false
no_answer_cancel (deed.Ran line r) so = absurd (false≢true so)
no_answer_cancel (deed.Send to n tag ctx len how line) so = refl
no_answer_cancel (deed.Post r line) so = refl
no_answer_cancel (deed.Match number from n cap line) so = refl
no_answer_cancel (deed.Cancel number done) so = refl
no_answer_cancel (deed.Recall to n) so = refl
no_answer_cancel (deed.Claim from n line) so = refl

no_answer_claim : (d : Deed) → is_claim_any d ≡ true → is_answer_by d ≡ false
no_answer_claim (deed.Ran line r) so = absurd (false≢true so)
no_answer_claim (deed.Send to n tag ctx len how line) so = refl
no_answer_claim (deed.Post r line) so = refl
no_answer_claim (deed.Match number from n cap line) so = refl
no_answer_claim (deed.Cancel number done) so = refl
no_answer_claim (deed.Recall to n) so = refl
no_answer_claim (deed.Claim from n line) so = refl

module _ (shape : Sizes) (lines : List Line) (commands : AreCommands shape.ranks lines)
    (script : IsScript shape.ranks lines) (states : List Spot) (i : ℕ) (low : i < shape.ranks) (spot : Spot)
    (here : slice_get states i ≡ Some spot) where
  abbrev mine : List Numbered
  mine = commands_of i lines

  -- after the answer of a line
  abbrev pub Goal : List Step → ℕ → Reply → Type 0
  Goal log line r =
      IsReached shape lines (pushed log i (event.Ran line (answer_meant lines r)))
      (slice_set states i (spot_after spot (deed.Ran line r)))

  -- the answer of the next command is right
  pub record IsRight (log : List Step) (line : ℕ) (c : Command) (a : Answer) : Type 0 where
    pub right : answer_of mine (history_in log i) line c ≡ Some (without_bytes a)
    pub starts : map without_number (starts_since (history_in log i))
        ≡ (if is_started a then start_of shape.eager mine (history_in log i) line c else [])
    pub cancels : CancelsFor mine (history_in log i) c
    pub claims : claims_since (history_in log i) ≡ (if is_matched_probe c && is_seen a then line ∷ [] else [])
    pub body : (k : ℕ) → k < shape.ranks →
        BodyAt k (commands_of k lines) (sends (history_in log k) i) mine (history_in log i) (event.Ran line a)

  right_may : (log : List Step) (t line : ℕ) (c : Command) (a : Answer) → command_at mine line ≡ Some c →
      IsRight log line c a → MayBe shape lines log t i (event.Ran line a)
  right_may log t line c a stands right = record {
    answers = subst (λ (o : Option Command). IsSomeAnd o
        (λ c. answer_of mine (history_in log i) line c ≡ Some (without_bytes a))) (sym stands) right.right;
    starts = (
      right.starts
          ∙ ap (λ (o : Option Command). if is_started a
          then option_map_or (start_of shape.eager mine (history_in log i) line) o [] else []) (sym stands),
      ap (λ (o : Option Command). is_started a && option_map_or (lacks_message mine (history_in log i)) o false) stands
          ∙ taken_has_message mine (history_in log i) line a c right.right,
    );
    numbers = tt;
    cancels = subst (λ (o : Option Command). MatchOption o (cancels_since (history_in log i) ≡ [])
        (CancelsFor mine (history_in log i))) (sym stands) right.cancels;
    wholes = tt;
    ends = tt;
    claims = right.claims
        ∙ ap (λ (o : Option Command). if option_map_or is_matched_probe o false && is_seen a then line ∷ [] else [])
        (sym stands);
    outs = λ j low. tt;
    answered = λ j low. tt;
    comes = λ k low. tt;
    body = right.body;
    asked = λ k low. tt;
  }

  -- a name's request ends with this answer, if one is spared
  abbrev Ends : List Event → Option Request → Command → Answer → Type 0
  Ends h spare c a =
      (r : Request) → spare ≡ Some r →
      (q : ℕ) × (line : ℕ) × (line_of_name mine h q ≡ Some line) × (request_at h line ≡ Some r)
      × ((is_question_of q c && is_result a) ≡ true)

  pub ran_now : (log : List Step) (told : IsTold shape lines log states) (spare : Option Request) →
      ((j : ℕ) → AreHushed (commands_of j lines) (history_in log j) (cond (i == j) spare None)) → (x : Numbered) →
      slice_get mine (length (ran_lines (history_in log i))) ≡ Some x → (r : Reply) →
      IsRight log x.line x.command (answer_meant lines r) →
      Ends (history_in log i) spare x.command (answer_meant lines r) → Goal log x.line r
  ran_now log told spare hushed x next r right ends =
      record { told = told1; hushed = hushed1 }
    where
      t : ℕ
      t = clock log

      h : List Event
      h = history_in log i

      a : Answer
      a = answer_meant lines r

      what : Happened
      what = event.Ran x.line a

      stands : command_at mine x.line ≡ Some x.command
      stands = commands.stand i (length (ran_lines h)) x next

      may : MayBe shape lines log t i what
      may = right_may log t x.line x.command a stands right

      told1 : IsTold shape lines (log ++ step_at i t what ∷ [])
          (slice_set states i (spot_after spot (deed.Ran x.line r)))
      told1 =
          told_push shape lines log states (slice_set states i (spot_after spot (deed.Ran x.line r))) told i what low
          may
          (moved_spots shape lines log (step_at i t what) states (spot_after spot (deed.Ran x.line r)) low told.stands
          (acts lines h spot (is_at shape lines commands script log states told i low spot here).is t
          (deed.Ran x.line r) tt))
          (steady_ran shape mine h t x a next stands
          (λ line so. one_line (is_matched_probe x.command && is_seen a) (claims_since h) x.line line right.claims so)
          (told.steady i))

      hushed1 : (j : ℕ) → AreHushed (commands_of j lines) (history_in (log ++ step_at i t what ∷ []) j) None
      hushed1 =
          each_but shape lines (λ j h. AreHushed (commands_of j lines) h None) log (step_at i t what)
          (hushed_answer shape lines i h t x a (next_log shape lines commands script log states told i what low may)
          next
          stands (told.steady i).named spare
          (subst (λ (b : Bool). AreHushed mine h (cond b spare None)) (eqb_self i) (hushed i)) ends)
          (λ j other. subst (λ (b : Bool). AreHushed (commands_of j lines) (history_in log j) (cond b spare None)) other
          (hushed j))

  -- an answer that needs nothing in the log before it
  module _ (log : List Step) (reached : IsReached shape lines log states) (x : Numbered)
      (next : slice_get mine (length (ran_lines (history_in log i))) ≡ Some x) where
    abbrev h : List Event
    h = history_in log i

    at : IsAt shape lines log (λ k. slice_get states k) i spot
    at = is_at shape lines commands script log states reached.told i low spot here

    say : IsSaid lines h spot
    say = said lines h spot at.is

    steady : IsSteady shape mine h
    steady = reached.told.steady i

    pub plain_now : (r : Reply) → IsRight log x.line x.command (answer_meant lines r) → Goal log x.line r
    plain_now r right =
        ran_now log reached.told None (λ j. by_rank j (i == j)) x next r right (λ req is. absurd (no_some req is))
      where
        by_rank : (j : ℕ) (b : Bool) → AreHushed (commands_of j lines) (history_in log j) (cond b None None)
        by_rank j true = reached.hushed j
        by_rank j false = reached.hushed j

    -- nothing was begun, or something
    idle_at : IsIdle h → is_idle_at spot ≡ true
    idle_at idle = is_idle lines h spot at.is idle.starts idle.cancels idle.claims

    busy_by : (b : IsBegun shape.eager mine h) → ((d : Deed) → happening lines d ≡ b.last → is_answer_by d ≡ false) →
        is_idle_at spot ≡ false
    busy_by b kind =
        let last = last_deed shape lines commands script log states reached i low spot here b.last b.last_is in
        ap (λ (o : Option Deed). option_map_or is_answer_by o true) last.1 ∙ kind last.0 last.2

    pub busy_start : (b : IsBegun shape.eager mine h) → is_start b.last ≡ true → is_idle_at spot ≡ false
    busy_start b so =
        busy_by b (λ d is. no_answer_start d (kind_start lines d (ap is_start is ∙ so)))

    busy_cancel : (b : IsBegun shape.eager mine h) → is_cancelling b.last ≡ true → is_idle_at spot ≡ false
    busy_cancel b so =
        busy_by b (λ d is. no_answer_cancel d (kind_cancel lines d (ap is_cancelling is ∙ so)))

    busy_claim : (b : IsBegun shape.eager mine h) → is_claiming b.last ≡ true → is_idle_at spot ≡ false
    busy_claim b so =
        busy_by b (λ d is. no_answer_claim d (kind_claim lines d (ap is_claiming is ∙ so)))

    -- the answer to a start
    pub started : (q : ℕ) (c : Command) → x.command ≡ c →
        ((g : List Event) → answer_of mine g x.line c
        ≡ Some (if is_some (live mine g q) then answer.Busy else answer.Started)) →
        (cancels_since h ≡ [] → CancelsFor mine h c) → is_matched_probe c ≡ false →
        IsIdle h ⊎ ((is_idle_at spot ≡ false)
        × (map without_number (starts_since h) ≡ start_of shape.eager mine h x.line c) × (cancels_since h ≡ [])
        × (claims_since h ≡ [])) → (r : Reply) →
        started_at (is_idle_at spot) (live_in lines i spot.deeds q) ≡ Some r → Goal log x.line r
    started q c is answers cancels_by no_probe (inl idle) r so =
        by_live (live mine h q) refl
        (sym (ap (λ (b : Bool). started_at b (live_in lines i spot.deeds q)) (idle_at idle)
        ∙ ap (λ (o : Option Request). started_at true o) (say.live i q)) ∙ so)
      where
        by_live : (o : Option Request) → live mine h q ≡ o → started_at true o ≡ Some r → Goal log x.line r
        by_live None live_is so = absurd (no_some r so)
        by_live (Some request) live_is so =
            subst (λ (r : Reply). Goal log x.line r) (same_some reply.Busy r so)
            (plain_now reply.Busy
            (subst (λ (c : Command). IsRight log x.line c answer.Busy) (sym is) (record {
              right = answers h
                  ∙ ap (λ (o : Option Request). Some (if is_some o then answer.Busy else answer.Started)) live_is;
              starts = ap (λ (ws : List Happened). map without_number ws) idle.starts;
              cancels = cancels_by idle.cancels;
              claims = idle.claims ∙ ap (λ (b : Bool). if b && false then x.line ∷ [] else []) (sym no_probe);
              body = λ k low. tt;
            })))
    started q c is answers cancels_by no_probe (inr begun) r so =
        by_live (live mine h q) refl
        (sym (ap (λ (b : Bool). started_at b (live_in lines i spot.deeds q)) begun.0
        ∙ ap (λ (o : Option Request). started_at false o) (say.live i q)) ∙ so)
      where
        by_live : (o : Option Request) → live mine h q ≡ o → started_at false o ≡ Some r → Goal log x.line r
        by_live (Some request) live_is so = absurd (no_some r so)
        by_live None live_is so =
            subst (λ (r : Reply). Goal log x.line r) (same_some reply.Started r so)
            (plain_now reply.Started
            (subst (λ (c : Command). IsRight log x.line c answer.Started) (sym is) (record {
              right = answers h
                  ∙ ap (λ (o : Option Request). Some (if is_some o then answer.Busy else answer.Started)) live_is;
              starts = begun.1;
              cancels = cancels_by begun.2;
              claims = begun.3 ∙ ap (λ (b : Bool). if b && false then x.line ∷ [] else []) (sym no_probe);
              body = λ k low. tt;
            })))

    -- the answer to a receive of a claimed message
    pub received : (q m cap : ℕ) → x.command ≡ command.Mrecv q m cap → IsIdle h ⊎ IsBegun shape.eager mine h →
        ((b : IsBegun shape.eager mine h) → HasMatched mine h x.line m cap b.last) → (r : Reply) →
        received_at (is_idle_at spot) (live_in lines i spot.deeds q) (message_in lines i spot.deeds m) ≡ Some r →
        Goal log x.line r
    received q m cap is stage begun_so r so =
        by_stage stage
        (sym (ap (λ (o : Option Request). received_at (is_idle_at spot) o (message_in lines i spot.deeds m))
        (say.live i q)
        ∙ ap (λ (o : Option Message). received_at (is_idle_at spot) (live mine h q) o) (say.message i m)) ∙ so)
      where
        the_answer : (o : Option Request) (p : Option Message) → live mine h q ≡ o → live_message mine h m ≡ p →
            answer_of mine h x.line (command.Mrecv q m cap)
            ≡ Some (if is_some o then answer.Busy else if is_some p then answer.Started else answer.Null)
        the_answer o p one two =
            ap (λ (o : Option Request). Some (if is_some o then answer.Busy
            else if is_some (live_message mine h m) then answer.Started else answer.Null)) one
            ∙ ap (λ (p : Option Message). Some (if is_some o then answer.Busy
            else if is_some p then answer.Started else answer.Null)) two

        by_idle : IsIdle h → (o : Option Request) → live mine h q ≡ o → (p : Option Message) →
            live_message mine h m ≡ p → received_at true o p ≡ Some r → Goal log x.line r
        by_idle idle (Some request) one p two so =
            subst (λ (r : Reply). Goal log x.line r) (same_some reply.Busy r so)
            (plain_now reply.Busy
            (subst (λ (c : Command). IsRight log x.line c answer.Busy) (sym is) (record {
              right = the_answer (Some request) p one two;
              starts = ap (λ (ws : List Happened). map without_number ws) idle.starts;
              cancels = idle.cancels;
              claims = idle.claims;
              body = λ k low. tt;
            })))
        by_idle idle None one (Some msg) two so = absurd (no_some r so)
        by_idle idle None one None two so =
            subst (λ (r : Reply). Goal log x.line r) (same_some reply.Null r so)
            (plain_now reply.Null
            (subst (λ (c : Command). IsRight log x.line c answer.Null) (sym is) (record {
              right = the_answer None None one two;
              starts = ap (λ (ws : List Happened). map without_number ws) idle.starts;
              cancels = idle.cancels;
              claims = idle.claims;
              body = λ k low. tt;
            })))

        by_begun : (last : Happened) → HasMatched mine h x.line m cap last → (o : Option Request) → live mine h q ≡ o →
            (p : Option Message) → live_message mine h m ≡ p → received_at false o p ≡ Some r → Goal log x.line r
        by_begun last begun (Some request) one p two so = absurd (no_some r so)
        by_begun last begun None one None two so = absurd (no_some begun.message (sym two ∙ begun.message_is))
        by_begun last begun None one (Some msg) two so =
            subst (λ (r : Reply). Goal log x.line r) (same_some reply.Started r so)
            (plain_now reply.Started
            (subst (λ (c : Command). IsRight log x.line c answer.Started) (sym is) (record {
              right = the_answer None (Some msg) one two;
              starts = begun.starts
                  ∙ ap (λ (o : Option Message). option_map_or
                  (λ (m : Message). event.Match 0 m.from m.n cap x.line ∷ []) o []) (sym begun.message_is);
              cancels = begun.cancels;
              claims = begun.claims;
              body = λ k low. tt;
            })))

        by_stage : IsIdle h ⊎ IsBegun shape.eager mine h →
            received_at (is_idle_at spot) (live mine h q) (live_message mine h m) ≡ Some r → Goal log x.line r
        by_stage (inl idle) so =
            by_idle idle (live mine h q) refl (live_message mine h m) refl
            (sym (ap (λ (b : Bool). received_at b (live mine h q) (live_message mine h m)) (idle_at idle)) ∙ so)
        by_stage (inr b) so =
            by_begun b.last (begun_so b) (live mine h q) refl (live_message mine h m) refl
            (sym (ap (λ (c : Bool). received_at c (live mine h q) (live_message mine h m))
            (busy_start b (begun_so b).kind)) ∙ so)

    -- the answer to a cancel
    pub cancelled : (q : ℕ) → x.command ≡ command.Cancel q → IsIdle h ⊎ IsBegun shape.eager mine h →
        ((b : IsBegun shape.eager mine h) → (starts_since h ≡ []) × (claims_since h ≡ [])
        × (HasCancelled mine h q b.last ⊎ HasRecalled mine h q)) → (r : Reply) →
        cancelled_at (is_idle_at spot) spot (live_in lines i spot.deeds q) ≡ Some r → Goal log x.line r
    cancelled q is stage begun_so r so =
        by_stage stage (sym (ap (λ (o : Option Request). cancelled_at (is_idle_at spot) spot o) (say.live i q)) ∙ so)
      where
        -- the answer is right
        right_now : (o : Option Request) → live mine h q ≡ o → (s : Reply) →
            Some (option_map_or (cancel_answer h) o answer.Null) ≡ Some (without_bytes (answer_meant lines s)) →
            is_started (answer_meant lines s) ≡ false →
            ((k : ℕ) → k < shape.ranks → BodyAt k (commands_of k lines) (sends (history_in log k) i) mine h
            (event.Ran x.line (answer_meant lines s))) →
            starts_since h ≡ [] → claims_since h ≡ [] → CancelsOf h o → s ≡ r → Goal log x.line r
        right_now o live_is s says no_start body starts claims cancels same =
            subst (λ (r : Reply). Goal log x.line r) same
            (plain_now s
            (subst (λ (c : Command). IsRight log x.line c (answer_meant lines s)) (sym is) (record {
              right = ap (λ (o : Option Request). Some (option_map_or (cancel_answer h) o answer.Null)) live_is ∙ says;
              starts = ap (λ (ws : List Happened). map without_number ws) starts
                  ∙ ap (λ (b : Bool). if b then [] else []) (sym no_start);
              cancels = subst (λ (o : Option Request). CancelsOf h o) (sym live_is) cancels;
              claims = claims;
              body = body;
            })))

        by_recalled : (to n : ℕ) → live mine h q ≡ Some (Sending to n) → starts_since h ≡ [] → claims_since h ≡ [] →
            All (λ (w : Happened). w ≡ event.Recall to n) (cancels_since h) → (b : Bool) →
            list_any (is_recall_by to n) spot.deeds ≡ b → (if b then Some reply.Asked else None) ≡ Some r →
            Goal log x.line r
        by_recalled to n live_is starts claims all false recall so = absurd (no_some r so)
        by_recalled to n live_is starts claims all true recall so =
            right_now (Some (Sending to n)) live_is reply.Asked refl refl (λ k low. tt) starts claims
            (sym (say.recalled to n) ∙ recall, all) (same_some reply.Asked r so)

        by_idle : IsIdle h → (o : Option Request) → live mine h q ≡ o → cancelled_at true spot o ≡ Some r →
            Goal log x.line r
        by_idle idle None live_is so =
            right_now None live_is reply.Null refl refl (λ k low. tt) idle.starts idle.claims idle.cancels
            (same_some reply.Null r so)
        by_idle idle (Some (Receiving number)) live_is so = absurd (no_some r so)
        by_idle idle (Some (Sending to n)) live_is so =
            by_recalled to n live_is idle.starts idle.claims
            (subst (λ (ws : List Happened). All (λ (w : Happened). w ≡ event.Recall to n) ws) (sym idle.cancels)
            (all_none (event.Recall to n))) (list_any (is_recall_by to n) spot.deeds) refl so

        by_paired : (number : ℕ) → live mine h q ≡ Some (Receiving number) → starts_since h ≡ [] →
            claims_since h ≡ [] →
            cancels_since h ≡ event.Cancel number (not (list_any (is_of_receive number) (matched_pairs h))) ∷ [] →
            (b : Bool) → list_any (is_of_receive number) (matched_pairs h) ≡ b →
            Some (if b then reply.Late else reply.Done) ≡ Some r → Goal log x.line r
        by_paired number live_is starts claims cancels true paired so =
            right_now (Some (Receiving number)) live_is reply.Late
            (ap (λ (b : Bool). Some (if b then answer.Late else answer.Done)) paired) refl (λ k low. tt) starts claims
            cancels (same_some reply.Late r so)
        by_paired number live_is starts claims cancels false paired so =
            right_now (Some (Receiving number)) live_is reply.Done
            (ap (λ (b : Bool). Some (if b then answer.Late else answer.Done)) paired) refl (λ k low. tt) starts claims
            cancels (same_some reply.Done r so)

        by_begun : (b : IsBegun shape.eager mine h) → starts_since h ≡ [] → claims_since h ≡ [] →
            HasCancelled mine h q b.last ⊎ HasRecalled mine h q →
            cancelled_at (is_idle_at spot) spot (live mine h q) ≡ Some r → Goal log x.line r
        by_begun b starts claims (inl c) so =
            by_paired c.number c.live_is starts claims
            (c.cancels ∙ ap (λ (d : Bool). event.Cancel c.number d ∷ []) c.paired)
            (list_any (is_of_receive c.number) (matched_pairs h)) refl
            (sym (ap (λ (d : Bool). cancelled_at d spot (live mine h q)) (busy_cancel b c.kind)
            ∙ ap (λ (o : Option Request). cancelled_at false spot o) c.live_is
            ∙ ap (λ (d : Bool). Some (if d then reply.Late else reply.Done)) (in_pairs lines h spot at.is c.number))
            ∙ so)
        by_begun b starts claims (inr c) so =
            by_recalled c.to c.n c.live_is starts claims
            (subst (λ (ws : List Happened). All (λ (w : Happened). w ≡ event.Recall c.to c.n) ws) (sym c.cancels)
            (all_one (event.Recall c.to c.n))) (list_any (is_recall_by c.to c.n) spot.deeds) refl
            (sym (ap (λ (o : Option Request). cancelled_at (is_idle_at spot) spot o) c.live_is) ∙ so)

        by_stage : IsIdle h ⊎ IsBegun shape.eager mine h →
            cancelled_at (is_idle_at spot) spot (live mine h q) ≡ Some r → Goal log x.line r
        by_stage (inl idle) so =
            by_idle idle (live mine h q) refl
            (sym (ap (λ (b : Bool). cancelled_at b spot (live mine h q)) (idle_at idle)) ∙ so)
        by_stage (inr b) so = let now = begun_so b in by_begun b now.0 now.1 now.2 so

    -- the answer to a probe, and to an await
    looked : (c : Command) → x.command ≡ c → IsIdle h → is_matched_probe c ≡ false →
        (cancels_since h ≡ [] → CancelsFor mine h c) → (s r : Reply) →
        answer_of mine h x.line c ≡ Some (without_bytes (answer_meant lines s)) →
        is_started (answer_meant lines s) ≡ false →
        ((k : ℕ) → k < shape.ranks → BodyAt k (commands_of k lines) (sends (history_in log k) i) mine h
        (event.Ran x.line (answer_meant lines s))) → s ≡ r → Goal log x.line r
    looked c is idle no_probe cancels_by s r says no_start body same =
        subst (λ (r : Reply). Goal log x.line r) same
        (plain_now s
        (subst (λ (c : Command). IsRight log x.line c (answer_meant lines s)) (sym is) (record {
          right = says;
          starts = ap (λ (ws : List Happened). map without_number ws) idle.starts
              ∙ if_false (is_started (answer_meant lines s)) no_start (start_of shape.eager mine h x.line c);
          cancels = cancels_by idle.cancels;
          claims = idle.claims ∙ no_claims (is_matched_probe c) (is_seen (answer_meant lines s)) no_probe;
          body = body;
        })))
      where
        if_false : (b : Bool) → b ≡ false → (ws : List Happened) → [] ≡ (if b then ws else [])
        if_false false none ws = refl
        if_false true none ws = absurd (false≢true (sym none))

        no_claims : (b d : Bool) → b ≡ false → [] ≡ (if b && d then x.line ∷ [] else [])
        no_claims false d none = refl
        no_claims true d none = absurd (false≢true (sym none))

    pub probed : (peer : Peer) (tag : TagPick) (ctx : ℕ) → x.command ≡ command.Probe peer tag ctx → IsIdle h →
        (r : Reply) →
        Some (option_map_or seen_at (found_at spot peer tag ctx) reply.Nothing) ≡ Some r → Goal log x.line r
    probed peer tag ctx is idle r so =
        by_found (first_message h (matched_pairs h) peer tag ctx) refl
        (sym (ap (λ (o : Option Arrival). Some (option_map_or seen_at o reply.Nothing))
        (first_said lines h spot at.is peer tag ctx)) ∙ so)
      where
        by_found : (o : Option Arrival) → first_message h (matched_pairs h) peer tag ctx ≡ o →
            Some (option_map_or seen_at o reply.Nothing) ≡ Some r → Goal log x.line r
        by_found None found so =
            looked (command.Probe peer tag ctx) is idle refl (λ none. none) reply.Nothing r
            (ap (λ (o : Option Arrival). Some (option_map_or seen o answer.Nothing)) found) refl (λ k low. tt)
            (same_some reply.Nothing r so)
        by_found (Some a) found so =
            looked (command.Probe peer tag ctx) is idle refl (λ none. none) (seen_at a) r
            (ap (λ (o : Option Arrival). Some (option_map_or seen o answer.Nothing)) found) refl (λ k low. tt)
            (same_some (seen_at a) r so)

    pub awaited : (peer : Peer) (tag : TagPick) (ctx : ℕ) → x.command ≡ command.Await peer tag ctx → IsIdle h →
        (r : Reply) →
        option_map seen_at (found_at spot peer tag ctx) ≡ Some r → Goal log x.line r
    awaited peer tag ctx is idle r so =
        let a = mapped_some seen_at (first_message h (matched_pairs h) peer tag ctx) r
        (sym (ap (λ (o : Option Arrival). option_map seen_at o) (first_said lines h spot at.is peer tag ctx)) ∙ so) in
        looked (command.Await peer tag ctx) is idle refl (λ none. none) (seen_at a.0) r
        (ap (λ (o : Option Arrival). option_map seen o) a.1) refl (λ k low. tt) a.2

    -- the answer to a matched probe
    pub claimed : (m : ℕ) (peer : Peer) (tag : TagPick) (ctx : ℕ) → x.command ≡ command.Mprobe m peer tag ctx →
        IsIdle h ⊎ IsBegun shape.eager mine h → ((b : IsBegun shape.eager mine h) → HasClaimed h x.line b.last) →
        (r : Reply) →
        probed_at (is_idle_at spot) spot x.line (found_at spot peer tag ctx) (message_in lines i spot.deeds m) ≡ Some
        r →
        Goal log x.line r
    claimed m peer tag ctx is stage begun_so r so =
        by_stage stage
        (sym (ap (λ (o : Option Arrival). probed_at (is_idle_at spot) spot x.line o (message_in lines i spot.deeds m))
        (first_said lines h spot at.is peer tag ctx)
        ∙ ap (λ (o : Option Message). probed_at (is_idle_at spot) spot x.line
        (first_message h (matched_pairs h) peer tag ctx) o) (say.message i m)) ∙ so)
      where
        found : Option Arrival
        found = first_message h (matched_pairs h) peer tag ctx

        c : Command
        c = command.Mprobe m peer tag ctx

        -- the line has claimed nothing
        no_cons : (ls : List ℕ) (l : ℕ) → ls ≡ [] → ls ≡ l ∷ [] → ⊥
        no_cons [] l none some = grind arith
        no_cons (k ∷ ls) l none some = grind arith

        fresh : IsIdle h → claim_at h x.line ≡ None
        fresh idle = by_claim (claim_at h x.line) refl
          where
            by_place : IsPast mine h x.line ⊎ (claims_since h ≡ x.line ∷ []) → ⊥
            by_place (inl past) =
                let place : past.place ≡ length (ran_lines h) =
                lines_apart i lines past.place (length (ran_lines h)) past.command x past.here next past.line_is in
                let low = past.ran in omega (arith, place, low)
            by_place (inr now) = no_cons (claims_since h) x.line idle.claims now

            by_claim : (o : Option Message) → claim_at h x.line ≡ o → o ≡ None
            by_claim None was = refl
            by_claim (Some msg) was = absurd (by_place (steady.claimed x.line msg was))

        the_answer : (p : Option Message) (q : Option Arrival) → live_message mine h m ≡ p →
            arrival_claimed h x.line ≡ q →
            answer_of mine h x.line c
            ≡ (if is_some p then Some answer.Busy
            else option_map_or (λ a. Some (seen a)) q (if is_some found then None else Some answer.Nothing))
        the_answer p q one two =
            ap (λ (p : Option Message). if is_some p then Some answer.Busy
            else option_map_or (λ a. Some (seen a)) (arrival_claimed h x.line)
            (if is_some found then None else Some answer.Nothing)) one
            ∙ ap (λ (q : Option Arrival). if is_some p then Some answer.Busy
            else option_map_or (λ a. Some (seen a)) q (if is_some found then None else Some answer.Nothing)) two

        idle_now : IsIdle h → (s : Reply) → answer_of mine h x.line c ≡ Some (without_bytes (answer_meant lines s)) →
            is_started (answer_meant lines s) ≡ false → is_seen (answer_meant lines s) ≡ false →
            ((k : ℕ) → k < shape.ranks → BodyAt k (commands_of k lines) (sends (history_in log k) i) mine h
            (event.Ran x.line (answer_meant lines s))) → s ≡ r → Goal log x.line r
        idle_now idle s says no_start no_seen body same =
            subst (λ (r : Reply). Goal log x.line r) same
            (plain_now s
            (subst (λ (c : Command). IsRight log x.line c (answer_meant lines s)) (sym is) (record {
              right = says;
              starts = ap (λ (ws : List Happened). map without_number ws) idle.starts
                  ∙ ap (λ (b : Bool). if b then [] else []) (sym no_start);
              cancels = idle.cancels;
              claims = idle.claims ∙ ap (λ (b : Bool). if b then x.line ∷ [] else []) (sym no_seen);
              body = body;
            })))

        by_idle : IsIdle h → (p : Option Message) → live_message mine h m ≡ p → (o : Option Arrival) → found ≡ o →
            probed_at true spot x.line o p ≡ Some r → Goal log x.line r
        by_idle idle (Some held) one o first so =
            idle_now idle reply.Busy (the_answer (Some held) (arrival_claimed h x.line) one refl) refl refl
            (λ k low. tt)
            (same_some reply.Busy r so)
        by_idle idle None one (Some a) first so = absurd (no_some r so)
        by_idle idle None one None first so =
            idle_now idle reply.Nothing
            (the_answer None None one
            (ap (λ (o : Option Message). option_and_then (λ (m : Message). message_of h m.from m.n) o) (fresh idle))
            ∙ ap (λ (o : Option Arrival). if is_some o then None else Some answer.Nothing) first) refl refl
            (λ k low. tt)
            (same_some reply.Nothing r so)

        by_begun : (last : Happened) → HasClaimed h x.line last → (p : Option Message) → live_message mine h m ≡ p →
            probed_at false spot x.line found p ≡ Some r → Goal log x.line r
        by_begun last begun (Some held) one so = absurd (no_some r so)
        by_begun last begun None one so =
            let a = mapped_some seen_at
            (option_and_then (λ (m : Message). find (is_message m.from m.n) spot.came) (claim_in spot.deeds x.line)) r
            so in
            let came : arrival_claimed h x.line ≡ Some a.0 = sym (arrival_said lines h spot at.is x.line) ∙ a.1 in
            subst (λ (r : Reply). Goal log x.line r) a.2
            (plain_now (seen_at a.0)
            (subst (λ (c : Command). IsRight log x.line c (answer_meant lines (seen_at a.0))) (sym is) (record {
              right = the_answer None (Some a.0) one came;
              starts = ap (λ (ws : List Happened). map without_number ws) begun.starts;
              cancels = begun.cancels;
              claims = begun.claims;
              body = λ k low. tt;
            })))

        by_stage : IsIdle h ⊎ IsBegun shape.eager mine h →
            probed_at (is_idle_at spot) spot x.line found (live_message mine h m) ≡ Some r → Goal log x.line r
        by_stage (inl idle) so =
            by_idle idle (live_message mine h m) refl found refl
            (sym (ap (λ (b : Bool). probed_at b spot x.line found (live_message mine h m)) (idle_at idle)) ∙ so)
        by_stage (inr b) so =
            by_begun b.last (begun_so b) (live_message mine h m) refl
            (sym (ap (λ (d : Bool). probed_at d spot x.line found (live_message mine h m))
            (busy_claim b (begun_so b).kind)) ∙ so)

  -- what a receive shows of its message, at any log that tells of the states
  pub shown_right : (log : List Step) → IsTold shape lines log states → (number : ℕ) (pair : Pair) →
      pair_of_receive (history_in log i) number ≡ Some pair → (r : Reply) →
      shown_at (λ k. slice_get states k) i pair ≡ Some r →
      (shown pair ≡ without_bytes (answer_meant lines r))
      × ((line : ℕ) (c : Command) → command_at mine line ≡ Some c → asked_pair mine (history_in log i) c ≡ Some pair →
      (k : ℕ) → k < shape.ranks →
      BodyAt k (commands_of k lines) (sends (history_in log k) i) mine (history_in log i)
      (event.Ran line (answer_meant lines r)))
  shown_right log told number pair found r so = by_length (nat_lt pair.cap pair.arrival.env.len) refl so
    where
      from : ℕ
      from = pair.arrival.env.from

      n : ℕ
      n = pair.arrival.n

      inside : from < shape.ranks
      inside =
          came_within shape.ranks from n (history_in log i) (numbers_in shape lines log told.is_log i)
          (sym (is_known_message-arrived (history_in log i) from n)
          ∙ came_known (history_in log i) pair.arrival (pair_came (history_in log i) pair
          (find_contains (is_of_receive number) (matched_pairs (history_in log i)) pair found)))

      s : (s : Sent) × (slice_get (sends (history_in log from) i) n ≡ Some s) × (pair.arrival.env ≡ envelope from s)
      s = sent_of_pair shape lines log told.is_log i number low pair found inside

      sender : (x : Spot) × (slice_get states from ≡ Some x) × IsSpotOf lines (history_in log from) x
      sender = told.stands from inside

      sent : (c : Command) × (command_at (commands_of from lines) s.0.line ≡ Some c)
          × (length (sent_bytes c) ≡ s.0.len) × (i < shape.ranks)
      sent = (told.steady from).sent i n s.0 s.1

      body : List ℕ
      body = bytes_at lines from s.0.line

      bytes : body ≡ sent_bytes sent.0
      bytes = ap (λ (o : Option Command). option_map_or sent_bytes o []) sent.1

      long : length body ≡ pair.arrival.env.len
      long = ap (λ (b : List ℕ). length b) bytes ∙ sent.2 ∙ sym (ap (λ (e : Envelope). e.len) s.2)

      by_length : (b : Bool) → nat_lt pair.cap pair.arrival.env.len ≡ b →
          (if b then Some (reply.Cut from pair.arrival.env.tag pair.arrival.env.len)
          else option_and_then (λ sender. option_and_then (got_by pair)
          (slice_get (filter (is_send_by i) sender.deeds) n)) (slice_get states from)) ≡ Some r →
          (shown pair ≡ without_bytes (answer_meant lines r))
          × ((line : ℕ) (c : Command) → command_at mine line ≡ Some c →
          asked_pair mine (history_in log i) c ≡ Some pair → (k : ℕ) → k < shape.ranks →
          BodyAt k (commands_of k lines) (sends (history_in log k) i) mine (history_in log i)
          (event.Ran line (answer_meant lines r)))
      by_length true is so =
          subst (λ (r : Reply). (shown pair ≡ without_bytes (answer_meant lines r))
          × ((line : ℕ) (c : Command) → command_at mine line ≡ Some c →
          asked_pair mine (history_in log i) c ≡ Some pair → (k : ℕ) → k < shape.ranks →
          BodyAt k (commands_of k lines) (sends (history_in log k) i) mine (history_in log i)
          (event.Ran line (answer_meant lines r)))) (same_some _ r so) (
            ap (λ (b : Bool). if b then answer.Cut from pair.arrival.env.tag pair.arrival.env.len
                else answer.Got from pair.arrival.env.tag (replicate pair.arrival.env.len 0)) is,
            λ line c stands asked k low. tt,
          )
      by_length false is so =
          subst (λ (r : Reply). (shown pair ≡ without_bytes (answer_meant lines r))
          × ((line : ℕ) (c : Command) → command_at mine line ≡ Some c →
          asked_pair mine (history_in log i) c ≡ Some pair → (k : ℕ) → k < shape.ranks →
          BodyAt k (commands_of k lines) (sends (history_in log k) i) mine (history_in log i)
          (event.Ran line (answer_meant lines r))))
          (same_some (reply.Got from pair.arrival.env.tag s.0.line) r
          (sym (ap (λ (o : Option Spot). option_and_then (λ sender. option_and_then (got_by pair)
          (slice_get (filter (is_send_by i) sender.deeds) n)) o) sender.1
          ∙ ap (λ (o : Option Deed). option_and_then (got_by pair) o)
          (sent_deed lines (history_in log from) sender.0 sender.2 i n s.0 s.1)) ∙ so)) (
            ap (λ (b : Bool). if b then answer.Cut from pair.arrival.env.tag pair.arrival.env.len
                else answer.Got from pair.arrival.env.tag (replicate pair.arrival.env.len 0)) is
                ∙ ap (λ (k : ℕ). answer.Got from pair.arrival.env.tag (replicate k 0)) (sym long),
            λ line c stands asked k low.
                subst (λ (o : Option Pair). IfSome o
                (ShowsBytes k (commands_of k lines) (sends (history_in log k) i) body))
                (sym (ap (λ (o : Option Command). option_and_then (asked_pair mine (history_in log i)) o) stands
                ∙ asked))
                (on_test (from == k)
                (λ same.
                subst (λ (k : ℕ). IsSomeAnd (slice_get (sends (history_in log k) i) n)
                (λ s. IsSomeAnd (command_at (commands_of k lines) s.line) (λ c. body ≡ sent_bytes c)))
                (same_number from k same)
                (subst (λ (o : Option Sent). IsSomeAnd o
                (λ s. IsSomeAnd (command_at (commands_of from lines) s.line) (λ c. body ≡ sent_bytes c))) (sym s.1)
                (subst (λ (o : Option Command). IsSomeAnd o (λ c. body ≡ sent_bytes c)) (sym sent.1) bytes)))),
          )

  -- .. it shows something
  pub shows_some : (log : List Step) → IsTold shape lines log states → (number : ℕ) (pair : Pair) →
      pair_of_receive (history_in log i) number ≡ Some pair →
      (r : Reply) × (shown_at (λ k. slice_get states k) i pair ≡ Some r)
  shows_some log told number pair found = by_length (nat_lt pair.cap pair.arrival.env.len)
    where
      from : ℕ
      from = pair.arrival.env.from

      n : ℕ
      n = pair.arrival.n

      inside : from < shape.ranks
      inside =
          came_within shape.ranks from n (history_in log i) (numbers_in shape lines log told.is_log i)
          (sym (is_known_message-arrived (history_in log i) from n)
          ∙ came_known (history_in log i) pair.arrival (pair_came (history_in log i) pair
          (find_contains (is_of_receive number) (matched_pairs (history_in log i)) pair found)))

      s : (s : Sent) × (slice_get (sends (history_in log from) i) n ≡ Some s) × (pair.arrival.env ≡ envelope from s)
      s = sent_of_pair shape lines log told.is_log i number low pair found inside

      sender : (x : Spot) × (slice_get states from ≡ Some x) × IsSpotOf lines (history_in log from) x
      sender = told.stands from inside

      by_length : (b : Bool) → (r : Reply) × ((if b then Some (reply.Cut from pair.arrival.env.tag pair.arrival.env.len)
          else option_and_then (λ sender. option_and_then (got_by pair)
          (slice_get (filter (is_send_by i) sender.deeds) n)) (slice_get states from)) ≡ Some r)
      by_length true = (reply.Cut from pair.arrival.env.tag pair.arrival.env.len, refl)
      by_length false = (
        reply.Got from pair.arrival.env.tag s.0.line,
        ap (λ (o : Option Spot). option_and_then (λ sender. option_and_then (got_by pair)
            (slice_get (filter (is_send_by i) sender.deeds) n)) o) sender.1
            ∙ ap (λ (o : Option Deed). option_and_then (got_by pair) o)
            (sent_deed lines (history_in log from) sender.0 sender.2 i n s.0 s.1),
      )
