-- A process in the middle of a command, and after its answer.
use Rattle.std.specs.Prelude.{if◌then◌else◌}
use Rattle.std.proofs.Common.{◌≡◌, ◌≢◌, ℕ, ◌+◌, ◌<◌, ◌==◌, true, false, ◌&&◌, Option, Some, None, List, []}
use Rattle.std.proofs.Common.{◌∷◌, ◌++◌, length, map, take, refl, sym, ◌∙◌, ap, subst, arith}
use Rattle.std.proofs.Common.{append_assoc, ⊎_elim}
use Rattle.std.specs.Prelude.{nat_lt}
use Rattle.std.specs.List.{filter, filter_map, list_all}
use Rattle.std.proofs.lemmas.Bool.{cases_eq}
use Rattle.std.proofs.lemmas.Bool.Decides.{nat_tests}
use Rattle.nm_types.specs.declared.answers.Answer.{Answer}
use Rattle.nm_types.specs.declared.scripts.Command.{Command}
use Rattle.nm_types.specs.Commands.{Numbered, command_at}
use Rattle.nm_types.specs.Sizes.{Sizes}
use Rattle.nm_history.specs.declared.events.Event.{Event}
use Rattle.nm_history.specs.declared.events.Happened.{Happened}
use Rattle.nm_history.specs.declared.events.Happened.TheVariants.{Ran}
use Rattle.nm_history.specs.Answers.{Message, answer_of, claim_at, is_claim_for, is_question_of}
use Rattle.nm_history.specs.Answers.{is_receive_of, is_result, is_seen, is_start_of, is_started, live}
use Rattle.nm_history.specs.Answers.{live_message, request_at, request_of, without_bytes}
use Rattle.nm_history.specs.Completion.{Request}
use Rattle.nm_history.specs.RankRun.{CancelsFor, is_cancelling, is_matched_probe, is_start, line_of_claim}
use Rattle.nm_history.specs.RankRun.{start_of, without_number}
use Rattle.nm_history.specs.Underway.{is_answer, is_of_packet}
use Rattle.nm_history.proofs.AnswerLemmas.{handle_claimed, handle_kept, handle_received, handle_same}
use Rattle.nm_history.proofs.AnswerLemmas.{live_ended, live_kept, live_same, live_started}
use Rattle.nm_history.specs.Clock.{stamped}
use Rattle.nm_rank.specs.Ranks.{RankView}
use Rattle.nm_process.specs.Names.{handled, named, request_named}
use Rattle.nm_process.specs.Processes.{ProcessView}
use Rattle.nm_process.specs.Starts.{HasAnswered, SetsHandle, SetsName}
use Rattle.nm_process.specs.Work.{are_below, line_of}
use Rattle.nm_process.specs.Work.{IsNext, IsWorking}
use Rattle.nm_process.proofs.DoingLemmas.{Doing, Done, MayDo, Since, answered, doing-push, doing_packets}
use Rattle.nm_process.proofs.DoingLemmas.{done_packets, since-one, since_packets}
use Rattle.nm_process.proofs.LineLemmas.{below-more, below-push, below_packets, handle_at_line}
use Rattle.nm_process.proofs.LineLemmas.{handle_packets, live_at_line, live_packets, request_made}
use Rattle.nm_process.proofs.LineLemmas.{request_packets}
use Rattle.nm_process.proofs.PacketLemmas.{are_of_packets, stamped_of_packets}

-- a process at work, by its parts
pub record Parts (shape : Sizes) (commands : List Numbered) (bound : ℕ) (sizes : Sizes) (at : ℕ) (h : List Event)
    (names : ℕ → Option Request) (messages : ℕ → Option Message) : Type 0 where
  pub same : sizes ≡ shape
  pub done : Done shape.eager commands at h
  pub past : are_below bound h ≡ true
  pub requests : (q : ℕ) → names q ≡ live commands h q
  pub handles : (m : ℕ) → messages m ≡ live_message commands h m

pub whole : (shape : Sizes) (commands : List Numbered) (bound : ℕ) (v : ProcessView) →
    Parts shape commands bound v.rank.sizes v.at v.rank.events (named v) (handled v) →
    IsWorking shape commands bound v
whole shape commands bound v work = record {
  sizes = work.same;
  answers = work.done.answers;
  starts = work.done.starts;
  cancels = work.done.cancels;
  claims = work.done.claims;
  past = work.past;
  requests = work.requests;
  handles = work.handles;
}

pub done_of : (shape : Sizes) (commands : List Numbered) (bound : ℕ) (v : ProcessView) →
    IsWorking shape commands bound v → Done shape.eager commands v.at v.rank.events
done_of shape commands bound v work = record {
  answers = work.answers;
  starts = work.starts;
  cancels =
      work.cancels;
  claims = work.claims;
}

-- a process is at work while packets and pieces come
pub work_packets : (shape : Sizes) (commands : List Numbered) (bound : ℕ) (v : ProcessView) (w : RankView) (start : ℕ)
    (ws : List Happened) → 0 < bound → w.sizes ≡ v.rank.sizes → w.requests ≡ v.rank.requests →
    w.events ≡ v.rank.events ++ stamped start ws → are_of_packets ws ≡ true → IsWorking shape commands bound v →
    IsWorking shape commands bound (record v { rank = w })
work_packets shape commands bound v w start ws some sizes requests events all work =
    let more : List Event = stamped start ws in
    let packets = stamped_of_packets start ws all in
    whole shape commands bound (record v { rank = w })
    (subst (λ (k : List Event). Parts shape commands bound w.sizes v.at k
    (λ q. request_named w.requests v.names q) (handled v)) (sym events) (record {
      same = sizes ∙ work.sizes;
      done = done_packets shape.eager commands v.at v.rank.events more packets
          (done_of shape commands bound v work);
      past = below_packets bound v.rank.events more some packets work.past;
      requests = λ q. ap (λ r. request_named r v.names q) requests ∙ work.requests q
          ∙ sym (live_packets commands v.rank.events more q packets);
      handles = λ m. work.handles m
          ∙ sym (handle_packets commands v.rank.events more m packets);
    }))

-- the history of a process in the middle of a command
pub record Mid (shape : Sizes) (commands : List Numbered) (a : ProcessView) (line : ℕ) (h : List Event)
    (s c : List Happened) (l : List ℕ) : Type 0 where
  pub doing : Doing shape.eager commands a.at h
  pub since : Since h s c l
  pub below : are_below (line + 1) h ≡ true
  pub live_is : (q : ℕ) → live commands h q ≡ named a q
  pub message_is : (m : ℕ) → live_message commands h m ≡ handled a m

module _ (shape : Sizes) (commands : List Numbered) (bound : ℕ) (a : ProcessView) (line : ℕ) (l : Command)
    (work : IsWorking shape commands bound a) (is : IsNext commands a.at bound line l) where
  pub mid_none : Mid shape commands a line a.rank.events [] [] []
  mid_none = record {
    doing = record {
      answers = work.answers;
      starts = work.starts.made;
      cancels =
          work.cancels.made;
      claims = work.claims.made;
    };
    since = record {
      starts = work.starts.no_others;
      cancels = work.cancels.no_others;
      claims =
          work.claims.no_others;
    };
    below = below-more bound (line + 1) a.rank.events (omega (arith, is.past)) work.past;
    live_is = λ q. sym (work.requests q);
    message_is = λ m. sym (work.handles m);
  }

  -- all that happened stands on earlier lines
  pub below_line : are_below line a.rank.events ≡ true
  below_line = below-more bound line a.rank.events is.past work.past

  -- what the command does first
  pub mid_line : (e : Event) → is_answer e.what ≡ false → line_of e.what ≡ line →
      MayDo shape.eager commands a.rank.events e.what →
      Mid shape commands a line (a.rank.events ++ e ∷ []) (filter is_start (e.what ∷ []))
      (filter is_cancelling (e.what ∷ [])) (filter_map line_of_claim (e.what ∷ []))
  mid_line e none on may = record {
    doing = doing-push shape.eager commands a.at a.rank.events e none may mid_none.doing;
    since = since-one a.rank.events [] [] [] e none mid_none.since;
    below = below-push (line + 1) a.rank.events e mid_none.below (line_below (line_of e.what) on);
    live_is = λ q. live_at_line commands a.rank.events e q line none on below_line
        ∙ mid_none.live_is q;
    message_is = λ m. handle_at_line commands a.rank.events e m line none on below_line
        ∙ mid_none.message_is m;
  } where
    line_below : (k : ℕ) → k ≡ line → nat_lt k (line + 1) ≡ true
    line_below k is = grind (arith, nat_tests)

  -- an event that starts nothing, claims nothing and has no line
  pub mid_other : (e : Event) → is_answer e.what ≡ false → is_start e.what ≡ false →
      line_of_claim e.what ≡ None → line_of e.what ≡ 0 →
      MayDo shape.eager commands a.rank.events e.what →
      Mid shape commands a line (a.rank.events ++ e ∷ []) (filter is_start (e.what ∷ []))
      (filter is_cancelling (e.what ∷ [])) (filter_map line_of_claim (e.what ∷ []))
  mid_other e none no_start no_claim on may = record {
    doing = doing-push shape.eager commands a.at a.rank.events e none may mid_none.doing;
    since = since-one a.rank.events [] [] [] e none mid_none.since;
    below = below-push (line + 1) a.rank.events e mid_none.below (line_below (line_of e.what) on);
    live_is = λ q. live_same commands a.rank.events e q none no_start ∙ mid_none.live_is q;
    message_is = λ m. handle_same commands a.rank.events e m none no_claim ∙ mid_none.message_is m;
  } where
    line_below : (k : ℕ) → k ≡ 0 → nat_lt k (line + 1) ≡ true
    line_below k is = grind (arith, nat_tests)

  -- what follows of itself
  pub mid_packets : (h events : List Event) (s c : List Happened) (ls : List ℕ) →
      list_all (λ e. is_of_packet e.what) events ≡ true → Mid shape commands a line h s c ls →
      Mid shape commands a line (h ++ events) s c ls
  mid_packets h events s c ls all mid = record {
    doing = doing_packets shape.eager commands a.at h events all mid.doing;
    since = since_packets h events s c ls all mid.since;
    below = below_packets (line + 1) h events (omega arith) all mid.below;
    live_is = λ q. live_packets commands h events q all ∙ mid.live_is q;
    message_is = λ m. handle_packets commands h events m all ∙ mid.message_is m;
  }

  -- a start, and what follows of itself
  pub mid_start : (clock : ℕ) (w : Happened) (ws : List Happened) → is_answer w ≡ false →
      line_of w ≡ line → MayDo shape.eager commands a.rank.events w →
      are_of_packets ws ≡ true →
      Mid shape commands a line (a.rank.events ++ stamped clock (w ∷ ws)) (filter is_start (w ∷ []))
      (filter is_cancelling (w ∷ [])) (filter_map line_of_claim (w ∷ []))
  mid_start clock w ws none on may all =
      let e : Event = record { stamp = clock + 1; what = w } in
      subst (λ (h : List Event). Mid shape commands a line h (filter is_start (w ∷ []))
      (filter is_cancelling (w ∷ [])) (filter_map line_of_claim (w ∷ [])))
      (append_assoc a.rank.events (e ∷ []) (stamped (clock + 1) ws))
      (mid_packets (a.rank.events ++ e ∷ []) (stamped (clock + 1) ws) _ _ _
      (stamped_of_packets (clock + 1) ws all) (mid_line e none on may))

  pub request_start : (clock : ℕ) (w : Happened) (ws : List Happened) (r : Request) →
      request_of line w ≡ Some r → are_of_packets ws ≡ true →
      request_at (a.rank.events ++ stamped clock (w ∷ ws)) line ≡ Some r
  request_start clock w ws r made all =
      let e : Event = record { stamp = clock + 1; what = w } in
      ap (λ (h : List Event). request_at h line)
      (sym (append_assoc a.rank.events (e ∷ []) (stamped (clock + 1) ws)))
      ∙ request_packets line (a.rank.events ++ e ∷ []) (stamped (clock + 1) ws)
      (stamped_of_packets (clock + 1) ws all)
      ∙ request_made line a.rank.events e r below_line made

  -- the command of the line
  pub found : (command : Command) → l ≡ command → command_at commands
      line ≡ Some command
  found command same = is.found ∙ ap (λ (c : Command). Some c) same

  -- the answer of the command
  pub works : (mid b : ProcessView) (command : Command) (h : List Event) (x : Answer)
      (s c : List Happened) (ls : List ℕ) → l ≡ command →
      mid.rank.me ≡ a.rank.me → mid.rank.sizes ≡ a.rank.sizes → mid.rank.events ≡ h →
      HasAnswered mid (record b { at = a.at }) line x → b.at ≡ a.at + 1 →
      Mid shape commands a line h s c ls → answer_of commands h line command
      ≡ Some (without_bytes x) →
      map without_number s ≡ (if is_started x then start_of shape.eager commands h
      line command else []) → CancelsFor commands h command →
      ls ≡ (if is_matched_probe command && is_seen x then line ∷ [] else []) →
      ((q : ℕ) → named mid q ≡ live commands
      (h ++ record { stamp = mid.rank.clock + 1; what = Ran line x } ∷ []) q) →
      ((m : ℕ) → handled b m ≡ live_message commands
      (h ++ record { stamp = mid.rank.clock + 1; what = Ran line x } ∷ []) m) →
      IsWorking shape commands (line + 1) b
  works mid b command h x s c ls same me sizes events has at now right made off claimed names
      messages =
      let e : Event = record { stamp = mid.rank.clock + 1; what = Ran line x } in
      let n : Numbered = record { line = line; command = command } in
      let done = answered shape.eager commands a.at (mid.rank.clock + 1) h x n s c ls now.doing now.since
      (is.next
      ∙ ap (λ (c : Command). Some (record { line = line; command = c })) same)
      (found command same) right made off claimed in
      let events_are : b.rank.events ≡ h ++ e ∷ [] = has.records.noted.events
      ∙ ap (λ (k : List Event). k ++ e ∷ []) events in
      whole shape commands (line + 1) b
      (subst (λ (k : List Event). Parts shape commands (line + 1) b.rank.sizes b.at k (named b)
      (handled b)) (sym events_are)
      (subst (λ (i : ℕ). Parts shape commands (line + 1) b.rank.sizes i (h ++ e ∷ []) (named b)
      (handled b)) (sym at) (record {
        same = has.records.takes.sizes ∙ sizes ∙ work.sizes;
        done = done;
        past = below-push (line + 1) h e now.below (line_below line refl);
        requests = λ q. ap (λ r. request_named r b.names q) has.records.requests
            ∙ ap (λ (v : ProcessView). request_named mid.rank.requests v.names q) has.others ∙ names q;
        handles = messages;
      }))) where
        line_below : (k : ℕ) → k ≡ line → nat_lt k (line + 1) ≡ true
        line_below k is = grind (arith, nat_tests)

  same_name : (q k : ℕ) → k ≡ q → (q == k) ≡ true
  same_name q k same = grind (arith, nat_tests)

  other_name : (q k : ℕ) → k ≢ q → (q == k) ≡ false
  other_name q k other = grind (arith, nat_tests)

  -- the names after an answer that changes none
  pub kept_names : (mid : ProcessView) (command : Command) (h : List Event) (stamp : ℕ) (x : Answer)
      (s c : List Happened) (ls : List ℕ) → l ≡ command → Mid shape commands a line h s c ls →
      ((q : ℕ) → (is_start_of q command && is_started x) ≡ false) →
      ((q : ℕ) → (is_question_of q command && is_result x) ≡ false) →
      ((q : ℕ) → named mid q ≡ named a q) →
      (q : ℕ) → named mid q ≡ live commands
      (h ++ record { stamp = stamp; what = Ran line x } ∷ []) q
  kept_names mid command h stamp x s c ls same now no_start no_end names q =
      names q ∙ sym (now.live_is q)
      ∙ sym (live_kept commands h stamp line x q command (found command same) (no_start q)
      (no_end q))

  -- after a start of this name
  pub started_names : (mid : ProcessView) (command : Command) (h : List Event) (stamp : ℕ) (x : Answer)
      (s c : List Happened) (ls : List ℕ) (q : ℕ) (r : Request) → l ≡ command →
      Mid shape commands a line h s c ls →
      is_started x ≡ true → ((k : ℕ) → is_start_of k command ≡ (q == k)) →
      ((k : ℕ) → is_question_of k command ≡ false) → request_at h line ≡ Some r →
      SetsName a mid q (Some r) →
      (k : ℕ) → named mid k ≡ live commands
      (h ++ record { stamp = stamp; what = Ran line x } ∷ []) k
  started_names mid command h stamp x s c ls q r same now started starts ends made sets k =
      ⊎_elim at_name at_other (cases_eq k q) where
        at_name : k ≡ q → named mid k ≡ live commands
            (h ++ record { stamp = stamp; what = Ran line x } ∷ []) k
        at_name is = ap (named mid) is ∙ sets.own ∙ sym made
            ∙ sym (live_started commands h stamp line x k command (found command same)
            (rw (starts k, same_name q k is, started) refl))

        at_other : k ≢ q → named mid k ≡ live commands
            (h ++ record { stamp = stamp; what = Ran line x } ∷ []) k
        at_other isnt = sets.others k isnt ∙ sym (now.live_is k)
            ∙ sym (live_kept commands h stamp line x k command (found command same)
            (rw (starts k, other_name q k isnt) refl) (rw (ends k) refl))

  -- after the end of the request of this name
  pub ended_names : (mid : ProcessView) (command : Command) (h : List Event) (stamp : ℕ) (x : Answer)
      (s c : List Happened) (ls : List ℕ) (q : ℕ) → l ≡ command → Mid shape commands a line h s c ls →
      is_result x ≡ true → ((k : ℕ) → is_start_of k command ≡ false) →
      ((k : ℕ) → is_question_of k command ≡ (q == k)) → SetsName a mid q None →
      (k : ℕ) → named mid k ≡ live commands
      (h ++ record { stamp = stamp; what = Ran line x } ∷ []) k
  ended_names mid command h stamp x s c ls q same now result starts ends sets k =
      ⊎_elim at_name at_other (cases_eq k q) where
        at_name : k ≡ q → named mid k ≡ live commands
            (h ++ record { stamp = stamp; what = Ran line x } ∷ []) k
        at_name is = ap (named mid) is ∙ sets.own
            ∙ sym (live_ended commands h stamp line x k command (found command same)
            (rw (starts k) refl) (rw (ends k, same_name q k is, result) refl))

        at_other : k ≢ q → named mid k ≡ live commands
            (h ++ record { stamp = stamp; what = Ran line x } ∷ []) k
        at_other isnt = sets.others k isnt ∙ sym (now.live_is k)
            ∙ sym (live_kept commands h stamp line x k command (found command same)
            (rw (starts k) refl) (rw (ends k, other_name q k isnt) refl))

  -- the handles after an answer that changes none
  pub kept_handles : (b : ProcessView) (command : Command) (h : List Event) (stamp : ℕ) (x : Answer)
      (s c : List Happened) (ls : List ℕ) → l ≡ command → Mid shape commands a line h s c ls →
      ((m : ℕ) → (is_claim_for m command && is_seen x) ≡ false) →
      ((m : ℕ) → (is_receive_of m command && is_started x) ≡ false) →
      ((m : ℕ) → handled b m ≡ handled a m) →
      (m : ℕ) → handled b m ≡ live_message commands
      (h ++ record { stamp = stamp; what = Ran line x } ∷ []) m
  kept_handles b command h stamp x s c ls same now no_claim no_receive messages m =
      messages m ∙ sym (now.message_is m)
      ∙ sym (handle_kept commands h stamp line x m command (found command same) (no_claim m)
      (no_receive m))

  -- after a claim for this handle
  pub claimed_handles : (b : ProcessView) (command : Command) (h : List Event) (stamp : ℕ) (x : Answer)
      (s c : List Happened) (ls : List ℕ) (m : ℕ) (r : Message) → l ≡ command →
      Mid shape commands a line h s c ls →
      is_seen x ≡ true → ((k : ℕ) → is_claim_for k command ≡ (m == k)) →
      ((k : ℕ) → is_receive_of k command ≡ false) → claim_at h line ≡ Some r →
      SetsHandle a b m (Some r) →
      (k : ℕ) → handled b k ≡ live_message commands
      (h ++ record { stamp = stamp; what = Ran line x } ∷ []) k
  claimed_handles b command h stamp x s c ls m r same now seen claims receives made sets k =
      ⊎_elim at_handle at_other (cases_eq k m) where
        at_handle : k ≡ m → handled b k ≡ live_message commands
            (h ++ record { stamp = stamp; what = Ran line x } ∷ []) k
        at_handle is = ap (handled b) is ∙ sets.own ∙ sym made
            ∙ sym (handle_claimed commands h stamp line x k command (found command same)
            (rw (claims k, same_name m k is, seen) refl))

        at_other : k ≢ m → handled b k ≡ live_message commands
            (h ++ record { stamp = stamp; what = Ran line x } ∷ []) k
        at_other isnt = sets.others k isnt ∙ sym (now.message_is k)
            ∙ sym (handle_kept commands h stamp line x k command (found command same)
            (rw (claims k, other_name m k isnt) refl) (rw (receives k) refl))

  -- after the receive of the message of this handle
  pub received_handles : (b : ProcessView) (command : Command) (h : List Event) (stamp : ℕ) (x : Answer)
      (s c : List Happened) (ls : List ℕ) (m : ℕ) → l ≡ command → Mid shape commands a line h s c ls →
      is_started x ≡ true → ((k : ℕ) → is_claim_for k command ≡ false) →
      ((k : ℕ) → is_receive_of k command ≡ (m == k)) → SetsHandle a b m None →
      (k : ℕ) → handled b k ≡ live_message commands
      (h ++ record { stamp = stamp; what = Ran line x } ∷ []) k
  received_handles b command h stamp x s c ls m same now started claims receives sets k =
      ⊎_elim at_handle at_other (cases_eq k m) where
        at_handle : k ≡ m → handled b k ≡ live_message commands
            (h ++ record { stamp = stamp; what = Ran line x } ∷ []) k
        at_handle is = ap (handled b) is ∙ sets.own
            ∙ sym (handle_received commands h stamp line x k command (found command same)
            (rw (claims k) refl) (rw (receives k, same_name m k is, started) refl))

        at_other : k ≢ m → handled b k ≡ live_message commands
            (h ++ record { stamp = stamp; what = Ran line x } ∷ []) k
        at_other isnt = sets.others k isnt ∙ sym (now.message_is k)
            ∙ sym (handle_kept commands h stamp line x k command (found command same)
            (rw (claims k) refl) (rw (receives k, other_name m k isnt) refl))
