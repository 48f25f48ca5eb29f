-- A process is still at work after its next command ran, whichever that is.
use Rattle.std.specs.Prelude.{if◌then◌else◌}
use Rattle.std.proofs.Common.{◌≡◌, ◌⊎◌, ℕ, ◌+◌, ◌==◌, Bool, true, false, not, ◌&&◌, ◌||◌, Option, Some}
use Rattle.std.proofs.Common.{None, List, [], ◌∷◌, ◌++◌, length, refl, sym, ◌∙◌, ap, subst}
use Rattle.std.proofs.Common.{append_assoc, append-nil, ⊎_elim}
use Rattle.std.specs.Prelude.{IsSome, is_some, unwrap_or}
use Rattle.std.specs.List.{All, find, list_any}
use Rattle.std.specs.Option.{option_and_then, option_map_or}
use Rattle.std.proofs.lemmas.List.Elements.{All-cons, All-nil}
use Rattle.nm_types.specs.declared.answers.Answer.{Answer}
use Rattle.nm_types.specs.declared.answers.Answer.TheVariants as answer
use Rattle.nm_types.specs.declared.messages.Arrival.{Arrival}
use Rattle.nm_types.specs.declared.messages.Peer.{Peer}
use Rattle.nm_types.specs.declared.messages.TagPick.{TagPick}
use Rattle.nm_types.specs.declared.scripts.Body.{Body}
use Rattle.nm_types.specs.declared.scripts.Command.{Command}
use Rattle.nm_types.specs.declared.scripts.Command.TheVariants as command
use Rattle.nm_types.specs.Bodies.{body_len, bytes_of}
use Rattle.nm_types.specs.Commands.{Numbered}
use Rattle.nm_types.specs.Sizes.{Sizes}
use Rattle.nm_history.specs.declared.events.Event.{Event}
use Rattle.nm_history.specs.declared.events.Happened.{Happened}
use Rattle.nm_history.specs.declared.events.Happened.TheVariants.{Send, Post, Cancel, Recall, Claim}
use Rattle.nm_history.specs.declared.events.Happened.TheVariants.{Match, Ran}
use Rattle.nm_history.specs.declared.plain.Pair.{Pair}
use Rattle.nm_history.specs.Answers.{Message, arrival_claimed, cancel_answer}
use Rattle.nm_history.specs.Answers.{claim_at, is_claim_for, is_question_of, is_started, live, live_message, seen}
use Rattle.nm_history.specs.Answers.{without_bytes}
use Rattle.nm_history.specs.AtEach.{AtEach}
use Rattle.nm_history.specs.Completion.{Request, is_complete, is_here, pair_of_receive, result_of, shown}
use Rattle.nm_history.specs.Completion.Request.{Sending, Receiving}
use Rattle.nm_history.specs.Happens.{happened, is_cancel, is_recall}
use Rattle.nm_history.specs.Matching.{first_message, is_of_receive, matched_pairs}
use Rattle.nm_history.specs.RankRun.{CancelsOf, how_of}
use Rattle.nm_history.specs.Sends.{message_of, messages, receives, sends}
use Rattle.nm_history.proofs.AtEachLemmas.{AtEach-split}
use Rattle.nm_history.proofs.MatchingLemmas.{matched_pairs-push_other}
use Rattle.nm_history.proofs.OnceLemmas.{eqb_self, messages-push}
use Rattle.nm_history.specs.Clock.{stamped}
use Rattle.nm_history.specs.Rules.{AreRight, IsRightAt}
use Rattle.nm_request.specs.declared.Kind.{Kind}
use Rattle.nm_request.specs.declared.Kind.TheVariants as kind
use Rattle.nm_receiving.specs.Receipts.{is_empty_ask, taken_events}
use Rattle.nm_rank.specs.declared.answers.Cancelled.{Cancelled}
use Rattle.nm_rank.specs.Ranks.{request_of}
use Rattle.nm_rank.specs.Requests.{cancel_answer as cancelled, cancel_events}
use Rattle.nm_rank.specs.Sends.{next_send}
use Rattle.nm_rank.specs.Steps.{StartsMatched, StartsReceive, StartsSend}
use Rattle.nm_process.specs.declared.steps.Step.TheVariants.{Ran as Took}
use Rattle.nm_process.specs.Names.{handled, named}
use Rattle.nm_process.specs.Work.{IsNext, IsWorking}
use Rattle.nm_process.specs.Processes.{ProcessView}
use Rattle.nm_process.specs.Starts.{HasAnswered, HasAwaited, HasCancelled, HasClaimed, HasEnded}
use Rattle.nm_process.specs.Starts.{HasFoundNone, HasMatched, HasProbed, HasStarted, HasTried, IsBusy}
use Rattle.nm_process.specs.Starts.{IsHandleBusy, IsHandleNull, IsNull, KeepsHandles, HasTriedMprobe}
use Rattle.nm_process.specs.Starts.{HasTriedMrecv, HasTriedReceive, HasTriedSend, HasTriedTest}
use Rattle.nm_process.specs.Starts.{answer_for, message_probed}
use Rattle.nm_process.proofs.DoingLemmas.{MayDo}
use Rattle.nm_process.proofs.LineLemmas.{claim_made, no_claim_yet}
use Rattle.nm_process.proofs.MessageLemmas.{first_is_message}
use Rattle.nm_process.proofs.MidLemmas.{Mid, below_line, claimed_handles, found}
use Rattle.nm_process.proofs.MidLemmas.{kept_handles, kept_names, mid_line, mid_none, mid_other}
use Rattle.nm_process.proofs.MidLemmas.{received_handles, works}
use Rattle.nm_process.proofs.PacketLemmas.{after_parts, are_of_packets, whole_of_packets}
use Rattle.nm_history.proofs.Right.{right-numbers}
use Rattle.nm_history.proofs.AppendLemmas.{happened-push}
use Rattle.nm_process.proofs.EffectLemmas.{alone, and_false, busy, ends, kept_all, null, start_handles, started_is}
use Rattle.nm_process.proofs.EffectLemmas.{ended_result, starts}

-- a request that is not complete has no result
no_result : (h : List Event) (r : Request) → is_complete h r ≡ false → result_of h r ≡ None
no_result h (Sending to n) pending = rw pending refl
no_result h (Receiving number) pending = by_cancel (happened (is_cancel number) h)
    (pair_of_receive h number) pending where
      by_here : (b : Bool) (pair : Pair) → b ≡ false → (if b then Some (shown pair) else None) ≡ None
      by_here true pair pending = cc
      by_here false pair pending = refl

      by_cancel : (b : Bool) (o : Option Pair) → (b || option_map_or (is_here h) o false) ≡ false →
          (if b then Some answer.Cancelled else option_and_then
          (λ pair. if is_here h pair then Some (shown pair) else None) o) ≡ None
      by_cancel true o pending = cc
      by_cancel false None pending = refl
      by_cancel false (Some pair) pending = by_here (is_here h pair) pair pending

taken_of_packets : (o : Option Arrival) → are_of_packets (taken_events o) ≡ true
taken_of_packets None = refl
taken_of_packets (Some a) = whole_of_packets (is_empty_ask a) a.env.from a.n

-- the second last event of a history that is right
right_at : (ranks : ℕ) (h : List Event) (e f : Event) (k : List Event) → k ≡ (h ++ e ∷ []) ++ f ∷ [] →
    AreRight ranks [] k → IsRightAt ranks h e.what
unfolding AtEach
right_at ranks h e f k is right = AtEach-split (λ h e. IsRightAt ranks h e.what) h e (f ∷ [])
    (subst (λ (k : List Event). AreRight ranks [] k) (is ∙ append_assoc h (e ∷ []) (f ∷ [])) right)

right_front : (ranks : ℕ) (h : List Event) (e f : Event) (k : List Event) → k ≡ (h ++ e ∷ []) ++ f ∷ [] →
    AreRight ranks [] k → AreRight ranks [] h
right_front ranks h e f k is right =
    (after_parts (λ h e. IsRightAt ranks h e.what) [] h (e ∷ f ∷ [])
    (subst (λ (k : List Event). AreRight ranks [] k) (is ∙ append_assoc h (e ∷ []) (f ∷ [])) right)).0

module _ (shape : Sizes) (commands : List Numbered) (bound : ℕ) (a b : ProcessView) (line : ℕ) (l : Command)
    (work : IsWorking shape commands bound a) (is : IsNext commands a.at bound line l)
    (at : b.at ≡ a.at + 1) where
  sends_one : (q to tag ctx : ℕ) (body : Body) (sync : Bool) →
      l ≡ command.Send to q tag ctx sync body →
      HasTriedSend a (record b { at = a.at }) q to tag ctx body sync line →
      IsWorking shape commands (line + 1) b
  sends_one q to tag ctx body sync same tried =
      ⊎_elim (λ taken. busy shape commands bound a b line l work is at c q same taken refl work.cancels.no_others)
      (λ p. start p.0 p.1) tried where
        c : Command
        c = command.Send to q tag ctx sync body

        n : ℕ
        n = length (sends a.rank.events to)

        w : Happened
        w = Send to n tag ctx (body_len body) (how_of a.rank.sizes.eager sync (body_len body)) line

        start : HasStarted (StartsSend (next_send a.rank to tag ctx body sync line) body) (kind.Send to n) a
            (record b { at = a.at }) q line →
            KeepsHandles a (record b { at = a.at }) → IsWorking shape commands (line + 1) b
        start p keeps = starts shape commands bound a b line l work is at
            (StartsSend (next_send a.rank to tag ctx body sync line) body) w [] (kind.Send to n) c q
            (λ s. bytes_of body) (λ r v is. is.started (λ s. bytes_of body) refl)
            same p refl refl (record { starts = tt; cancels = tt; claims = tt }) refl
            (rw (eqb_self line) refl) refl refl (λ k. refl) (λ k. refl) (λ k. refl) refl
            (λ mid. (
              started_is shape commands bound a b line l work is at (a.rank.events ++ stamped a.rank.clock (w ∷ []))
                  (w ∷ []) [] [] q mid p.free,
              ap (λ (z : Sizes). Send to 0 tag ctx (body_len body) (how_of z.eager sync (body_len body))
                  line ∷ []) work.sizes,
              mid.since.cancels,
              start_handles shape commands bound a b line l work is at c (a.rank.events ++ stamped a.rank.clock (w ∷ []))
                  (p.mid.rank.clock + 1)
                  (w ∷ []) [] [] same mid (λ k. refl) (λ k. refl) keeps,
            ))

  receives_one : (q : ℕ) (from : Peer) (tag : TagPick) (ctx room : ℕ) →
      l ≡ command.Recv q from tag ctx room →
      HasTriedReceive a (record b { at = a.at }) q from tag ctx room line →
      IsWorking shape commands (line + 1) b
  receives_one q from tag ctx room same tried =
      ⊎_elim (λ taken. busy shape commands bound a b line l work is at c q same taken refl work.cancels.no_others)
      (λ p. start p.0 p.1) tried where
        c : Command
        c = command.Recv q from tag ctx room

        number : ℕ
        number = length (receives a.rank.events)

        w : Happened
        w = Post (record { number = number; from = from; tag = tag; ctx = ctx; cap = room }) line

        ws : List Happened
        ws = taken_events (first_message a.rank.events (matched_pairs a.rank.events) from tag ctx)

        start : HasStarted (StartsReceive from tag ctx room line) (kind.Receive number) a
            (record b { at = a.at }) q line →
            KeepsHandles a (record b { at = a.at }) → IsWorking shape commands (line + 1) b
        start p keeps = starts shape commands bound a b line l work is at
            (StartsReceive from tag ctx room line) w ws (kind.Receive number) c q
            (λ s. []) (λ r v is. is.started (λ s. []))
            same p refl refl (record { starts = tt; cancels = tt; claims = tt })
            (taken_of_packets (first_message a.rank.events (matched_pairs a.rank.events) from tag ctx))
            (rw (eqb_self line) refl) refl refl
            (λ k. refl) (λ k. refl) (λ k. refl) refl
            (λ mid. (
              started_is shape commands bound a b line l work is at (a.rank.events ++ stamped a.rank.clock (w ∷ ws))
                  (w ∷ []) [] [] q mid p.free,
              refl,
              mid.since.cancels,
              start_handles shape commands bound a b line l work is at c (a.rank.events ++ stamped a.rank.clock (w ∷ ws))
                  (p.mid.rank.clock + 1)
                  (w ∷ []) [] [] same mid (λ k. refl) (λ k. refl) keeps,
            ))

  waits_one : (q : ℕ) → l ≡ command.Wait q → IsNull a (record b { at = a.at }) q
      line ⊎ HasEnded a (record b { at = a.at }) q line →
      IsWorking shape commands (line + 1) b
  waits_one q same tried = ⊎_elim
      (λ p. null shape commands bound a b line l work is at (command.Wait q) q same p (λ none. rw none refl)
      (λ none. work.cancels.no_others))
      (λ p. ends shape commands bound a b line l work is at (command.Wait q) q same p
      (ap (λ (o : Option Request). option_map_or (result_of a.rank.events) o (Some answer.Null))
      (sym (work.requests q) ∙ p.ends.live) ∙ sym (ended_result a p.mid q p.answer p.ends))
      work.cancels.no_others (λ k. refl) (λ k. refl) (λ k. refl) refl) tried

  tests_one : (q : ℕ) → l ≡ command.Test q →
      HasTriedTest a (record b { at = a.at }) q line → IsWorking shape commands (line + 1) b
  tests_one q same tried = ⊎_elim
      (λ p. null shape commands bound a b line l work is at (command.Test q) q same p (λ none. rw none refl)
      (λ none. work.cancels.no_others))
      (λ rest. ⊎_elim
      (λ p. ends shape commands bound a b line l work is at (command.Test q) q same p
      (ap (λ (o : Option Request). Some
      (option_map_or (λ request. unwrap_or (result_of a.rank.events request) answer.No) o
      answer.Null)) (sym (work.requests q) ∙ p.ends.live)
      ∙ ap (λ (o : Option Answer). Some (unwrap_or o answer.No)) (sym (ended_result a p.mid q p.answer p.ends)))
      work.cancels.no_others (λ k. refl) (λ k. refl) (λ k. refl) refl)
      (λ p. alone shape commands bound a b line l work is at (command.Test q) answer.No same p.answered
      (ap (λ (o : Option Request). Some
      (option_map_or (λ request. unwrap_or (result_of a.rank.events request) answer.No) o
      answer.Null)) (sym (work.requests q) ∙ p.pending.live)
      ∙ ap (λ (o : Option Answer). Some (unwrap_or o answer.No))
      (no_result a.rank.events p.pending.request p.pending.pending))
      refl work.cancels.no_others refl (λ k. and_false (is_question_of k (command.Test q))) (λ k. refl))
      rest) tried

  probes_one : (from : Peer) (tag : TagPick) (ctx : ℕ) → l ≡ command.Probe from tag ctx →
      HasProbed a (record b { at = a.at }) from tag ctx line → IsWorking shape commands (line + 1) b
  probes_one from tag ctx same tried = by_message (message_probed a from tag ctx) refl tried where
    by_message : (o : Option Arrival) → message_probed a from tag ctx ≡ o →
        HasAnswered a (record b { at = a.at }) line
        (option_map_or seen o answer.Nothing) → IsWorking shape commands (line + 1) b
    by_message None none answered = alone shape commands bound a b line l work is at (command.Probe from tag ctx)
        answer.Nothing same answered
        (rw none refl) refl work.cancels.no_others refl (λ k. refl) (λ k. refl)
    by_message (Some m) some answered = alone shape commands bound a b line l work is at (command.Probe from tag ctx)
        (seen m) same answered
        (rw some refl) refl work.cancels.no_others refl (λ k. refl) (λ k. refl)

  awaits_one : (from : Peer) (tag : TagPick) (ctx : ℕ) → l ≡ command.Await from tag ctx →
      HasAwaited a (record b { at = a.at }) from tag ctx line → IsWorking shape commands (line + 1) b
  awaits_one from tag ctx same p = alone shape commands bound a b line l work is at (command.Await from tag ctx)
      (seen p.message) same p.answered
      (rw p.first refl) refl work.cancels.no_others refl (λ k. refl) (λ k. refl)

  -- a cancel of the request of this kind
  cancels_it : (q : ℕ) (k : Kind) (mid : ProcessView) → l ≡ command.Cancel q →
      AreRight b.rank.sizes.ranks [] b.rank.events → named a q ≡ Some (request_of k) →
      mid.rank.me ≡ a.rank.me → mid.rank.sizes ≡ a.rank.sizes → mid.rank.requests ≡ a.rank.requests →
      mid ≡ record a { rank = mid.rank } →
      mid.rank.events ≡ a.rank.events ++ stamped a.rank.clock (cancel_events a.rank.events k) →
      HasAnswered mid (record b { at = a.at }) line
      (answer_for (cancelled a.rank.events k)) → IsWorking shape commands (line + 1) b
  cancels_it q (kind.Receive number) mid same right known me sizes requests others events has =
      by_paired (list_any (is_of_receive number) (matched_pairs a.rank.events)) refl has where
        c : Command
        c = command.Cancel q

        paired : Bool
        paired = list_any (is_of_receive number) (matched_pairs a.rank.events)

        e : Event
        e = record {
          stamp = a.rank.clock + 1;
          what =
              Cancel number (not (list_any (is_of_receive number) (matched_pairs a.rank.events)));
        }

        pairs : matched_pairs (a.rank.events ++ e ∷ []) ≡ matched_pairs a.rank.events
        pairs = matched_pairs-push_other a.rank.events e refl

        now : Mid shape commands a line (a.rank.events ++ e ∷ []) [] (e.what ∷ []) []
        now = mid_other shape commands bound a line l work is e refl refl refl refl
            (record { starts = tt; cancels = refl; claims = tt })

        off : CancelsOf (a.rank.events ++ e ∷ []) (live commands
            (a.rank.events ++ e ∷ []) q)
        off = subst (λ (o : Option Request). CancelsOf (a.rank.events ++ e ∷ []) o)
            (sym (now.live_is q ∙ known))
            (now.since.cancels ∙ ap (λ (ps : List Pair). Cancel number
            (not (list_any (is_of_receive number) ps)) ∷ []) (sym pairs))

        by_answer : (x : Answer) → HasAnswered mid (record b { at = a.at }) line x →
            cancel_answer (a.rank.events ++ e ∷ []) (Receiving number) ≡ without_bytes x →
            is_started x ≡ false → IsWorking shape commands (line + 1) b
        by_answer x has right not_started =
            works shape commands bound a line l work is mid b c (a.rank.events ++ e ∷ []) x []
            (e.what ∷ []) [] same me sizes events has at now
            (ap (λ (o : Option Request). Some (option_map_or (cancel_answer (a.rank.events ++ e ∷ [])) o
            answer.Null)) (now.live_is q ∙ known) ∙ ap (λ (y : Answer). Some y) right)
            (rw not_started refl) off refl
            (kept_names shape commands bound a line l work is mid c (a.rank.events ++ e ∷ [])
            (mid.rank.clock + 1) x [] (e.what ∷ []) [] same now (λ k. refl) (λ k. refl)
            (kept_all shape commands bound a b line l work is at mid requests (ap (λ (v : ProcessView). v.names) others)))
            (kept_handles shape commands bound a line l work is b c (a.rank.events ++ e ∷ [])
            (mid.rank.clock + 1) x [] (e.what ∷ []) [] same now (λ k. refl) (λ k. refl)
            (λ m. ap (λ (v : ProcessView). handled v m) has.others
            ∙ ap (λ (v : ProcessView). handled v m) others))

        by_paired : (t : Bool) → list_any (is_of_receive number) (matched_pairs a.rank.events) ≡ t →
            HasAnswered mid (record b { at = a.at }) line
            (answer_for (cancelled a.rank.events (kind.Receive number))) →
            IsWorking shape commands (line + 1) b
        by_paired true is_one has = by_answer answer.Late (rw is_one at has) (rw (pairs, is_one) refl) refl
        by_paired false none has = by_answer answer.Done (rw none at has) (rw (pairs, none) refl) refl
  cancels_it q (kind.Send to n) mid same right known me sizes requests others events has =
      by_recalled (happened (is_recall to n) a.rank.events) refl events where
        c : Command
        c = command.Cancel q

        go : (h' : List Event) (cs : List Happened) → mid.rank.events ≡ h' →
            Mid shape commands a line h' [] cs [] →
            CancelsOf h' (Some (Sending to n)) → IsWorking shape commands (line + 1) b
        go h' cs events now off =
            works shape commands bound a line l work is mid b c h' answer.Asked [] cs [] same me sizes events has
            at now
            (ap (λ (o : Option Request). Some (option_map_or (cancel_answer h') o answer.Null))
            (now.live_is q
            ∙ known))
            refl (subst (λ (o : Option Request). CancelsOf h' o) (sym (now.live_is q ∙ known)) off) refl
            (kept_names shape commands bound a line l work is mid c h' (mid.rank.clock + 1) answer.Asked [] cs []
            same
            now (λ k. refl) (λ k. refl)
            (kept_all shape commands bound a b line l work is at mid requests (ap (λ (v : ProcessView). v.names) others)))
            (kept_handles shape commands bound a line l work is b c h' (mid.rank.clock + 1) answer.Asked [] cs []
            same
            now (λ k. refl) (λ k. refl)
            (λ m. ap (λ (v : ProcessView). handled v m) has.others
            ∙ ap (λ (v : ProcessView). handled v m) others))

        by_recalled : (t : Bool) → happened (is_recall to n) a.rank.events ≡ t →
            mid.rank.events ≡ a.rank.events ++ stamped a.rank.clock (if t then [] else Recall to n ∷ []) →
            IsWorking shape commands (line + 1) b
        by_recalled true was events = go a.rank.events [] (events ∙ append-nil a.rank.events)
            (mid_none shape commands bound a line l work is) (
              was,
              subst (λ (cs : List Happened). All (λ what. what ≡ Recall to n) cs)
                  (sym work.cancels.no_others) (All-nil (λ what. what ≡ Recall to n)),
            )
        by_recalled false not_yet events =
            let e : Event = record { stamp = a.rank.clock + 1; what = Recall to n } in
            let sent = (right_at b.rank.sizes.ranks a.rank.events e
            (record { stamp = mid.rank.clock + 1; what = Ran line answer.Asked }) b.rank.events
            (has.records.noted.events ∙ ap (λ (k : List Event). k ++ record {
              stamp = mid.rank.clock + 1;
              what =
                  Ran line answer.Asked;
            } ∷ []) events) right).cancels in
            let now = mid_other shape commands bound a line l work is e refl refl refl refl
            (record { starts = tt; cancels = sent; claims = tt }) in
            go (a.rank.events ++ e ∷ []) (Recall to n ∷ []) events now (
              happened-push (is_recall to n) a.rank.events e ∙ rw (not_yet, eqb_self to, eqb_self n) refl,
              subst (λ (cs : List Happened). All (λ what. what ≡ Recall to n) cs) (sym now.since.cancels)
                  (All-cons (λ what. what ≡ Recall to n) (Recall to n) [] refl
                  (All-nil (λ what. what ≡ Recall to n))),
            )

  cancels_one : (q : ℕ) → l ≡ command.Cancel q → AreRight b.rank.sizes.ranks [] b.rank.events →
      IsNull a (record b { at = a.at }) q line
      ⊎ HasCancelled a (record b { at = a.at }) q line → IsWorking shape commands (line + 1) b
  cancels_one q same right tried = ⊎_elim
      (λ p. null shape commands bound a b line l work is at (command.Cancel q) q same p (λ none. rw none refl)
      (λ none. subst (λ (o : Option Request). CancelsOf a.rank.events o)
      (sym none) work.cancels.no_others))
      (λ p. cancels_it q p.cancels.kind p.mid same right p.live p.cancels.takes.me p.cancels.takes.sizes
      p.cancels.requests p.others (p.cancels.happened (λ s. [])).events
      (subst (λ (x : Cancelled). HasAnswered p.mid (record b { at = a.at }) line
      (answer_for x)) p.cancels.answered p.answered)) tried

  -- a matched probe
  claims_one : (m : ℕ) (from : Peer) (tag : TagPick) (ctx : ℕ) →
      l ≡ command.Mprobe m from tag ctx → AreRight b.rank.sizes.ranks [] b.rank.events →
      HasTriedMprobe a (record b { at = a.at }) m from tag ctx line →
      IsWorking shape commands (line + 1) b
  claims_one m from tag ctx same right tried = ⊎_elim taken (λ rest. ⊎_elim nothing claims rest) tried where
    c : Command
    c = command.Mprobe m from tag ctx

    taken : IsHandleBusy a (record b { at = a.at }) m line → IsWorking shape commands (line + 1) b
    taken p = alone shape commands bound a b line l work is at c answer.Busy same p.answered
        (by_handle (live_message commands a.rank.events m) (sym (work.handles m))
        (handled a m) p.taken) refl work.cancels.no_others refl (λ k. refl)
        (λ k. and_false (is_claim_for k c)) where
          by_handle : (o : Option Message) → o ≡ handled a m → (i : Option Message) → IsSome (handled a m) →
              (if is_some o then Some answer.Busy else option_map_or (λ a. Some (seen a))
              (arrival_claimed a.rank.events line)
              (if is_some (message_probed a from tag ctx) then None else Some answer.Nothing))
              ≡ Some answer.Busy
          by_handle (Some x) is i some = refl
          by_handle None is i some =
              absurd (false_some (subst (λ (o : Option Message). IsSome o) (sym is) some)) where
                false_some : IsSome {T = Message} None → ⊥
                false_some some = cc

    nothing : HasFoundNone a (record b { at = a.at }) m from tag ctx line →
        IsWorking shape commands (line + 1) b
    nothing p = alone shape commands bound a b line l work is at c answer.Nothing same p.answered
        (rw (
          sym (work.handles m) ∙ p.free,
          no_claim_yet line a.rank.events
              (below_line shape commands bound a line l work is),
          p.none,
        ) refl)
        refl work.cancels.no_others refl (λ k. refl) (λ k. and_false (is_claim_for k c))

    claims : HasClaimed a (record b { at = a.at }) m from tag ctx line →
        IsWorking shape commands (line + 1) b
    claims p =
        let x : Arrival = p.message in
        let w : Happened = Claim x.env.from x.n line in
        let e : Event = record { stamp = a.rank.clock + 1; what = w } in
        let f : Event = record { stamp = p.mid.rank.clock + 1; what = Ran line (seen x) } in
        let h' : List Event = a.rank.events ++ e ∷ [] in
        let may : MayDo shape.eager commands a.rank.events w =
        record {
          starts = tt;
          cancels = tt;
          claims = rw (found shape commands bound a line l work is c same)
              (rw p.first refl);
        } in
        let now = mid_line shape commands bound a line l work is e refl refl may in
        let numbers = right-numbers b.rank.sizes.ranks a.rank.events
        (right_front b.rank.sizes.ranks a.rank.events e f b.rank.events (p.answered.records.noted.events
        ∙ ap (λ (k : List Event). k ++ f ∷ []) p.claims.claimed.events) right) in
        let message = first_is_message b.rank.sizes.ranks a.rank.events from tag ctx x numbers p.first in
        let here : claim_at h' line ≡ Some (record { from = x.env.from; n = x.n }) =
        claim_made line a.rank.events e (record { from = x.env.from; n = x.n })
        (below_line shape commands bound a line l work is) (rw (eqb_self line) refl) in
        let came : message_of h' x.env.from x.n ≡ Some x =
        ap (λ (ms : List Arrival). find (λ a. a.env.from == x.env.from && a.n == x.n) ms)
        (messages-push a.rank.events e ∙ append-nil (messages a.rank.events)) ∙ message in
        works shape commands bound a line l work is p.mid b c h' (seen x) [] [] (line ∷ []) same p.claims.takes.me
        p.claims.takes.sizes p.claims.claimed.events p.answered at now
        (rw (now.message_is m ∙ p.free, here, came) refl) refl now.since.cancels refl
        (kept_names shape commands bound a line l work is p.mid c h' (p.mid.rank.clock + 1) (seen x) [] []
        (line ∷ []) same now (λ k. refl) (λ k. refl)
        (kept_all shape commands bound a b line l work is at p.mid p.claims.requests p.names))
        (claimed_handles shape commands bound a line l work is b c h' (p.mid.rank.clock + 1) (seen x) [] []
        (line ∷ []) m (record { from = x.env.from; n = x.n }) same now refl (λ k. refl)
        (λ k. refl) here
        (record {
          own = ap (λ (v : ProcessView). handled v m) p.answered.others ∙ p.handles.own;
          others = λ k isnt. ap (λ (v : ProcessView). handled v k) p.answered.others
              ∙ p.handles.others k isnt;
        }))

  -- a receive of a claimed message
  matches_one : (q m room : ℕ) → l ≡ command.Mrecv q m room →
      HasTriedMrecv a (record b { at = a.at }) q m room line → IsWorking shape commands (line + 1) b
  matches_one q m room same tried = ⊎_elim taken (λ rest. ⊎_elim nothing matches rest) tried where
    c : Command
    c = command.Mrecv q m room

    taken : IsBusy a (record b { at = a.at }) q line → IsWorking shape commands (line + 1) b
    taken p = alone shape commands bound a b line l work is at c answer.Busy same p.answered
        (by_name (live commands a.rank.events q) (sym (work.requests q))
        (if is_some (live_message commands a.rank.events m) then answer.Started
        else answer.Null) p.taken)
        refl work.cancels.no_others refl (λ k. refl) (λ k. refl) where
          by_name : (o : Option Request) → o ≡ named a q → (z : Answer) → IsSome (named a q) →
              Some (if is_some o then answer.Busy else z) ≡ Some answer.Busy
          by_name (Some r) is z some = refl
          by_name None is z some = absurd
              (false_some (subst (λ (o : Option Request). IsSome o) (sym is) some)) where
                false_some : IsSome {T = Request} None → ⊥
                false_some some = cc

    nothing : IsHandleNull a (record b { at = a.at }) q m line →
        IsWorking shape commands (line + 1) b
    nothing p = alone shape commands bound a b line l work is at c answer.Null same p.answered
        (rw (sym (work.requests q) ∙ p.name, sym (work.handles m) ∙ p.free) refl) refl
        work.cancels.no_others refl (λ k. refl) (λ k. refl)

    matches : HasMatched a (record b { at = a.at }) q m room line →
        IsWorking shape commands (line + 1) b
    matches p =
        let x = p.message in
        let number : ℕ = length (receives a.rank.events) in
        let w : Happened = Match number x.from x.n room line in
        let ws : List Happened = taken_events (message_of a.rank.events x.from x.n) in
        let h' : List Event = a.rank.events ++ stamped a.rank.clock (w ∷ ws) in
        starts shape commands bound a b line l work is at (StartsMatched x.from x.n room line) w ws
        (kind.Receive number) c q (λ s. []) (λ r v is. is.started (λ s. []))
        same p.started refl refl (record { starts = p.claimed; cancels = tt; claims = tt })
        (taken_of_packets (message_of a.rank.events x.from x.n)) (rw (eqb_self line) refl) refl
        refl
        (λ k. refl) (λ k. refl) (λ k. refl) refl
        (λ mid. (
          rw (mid.live_is q ∙ p.started.free, mid.message_is m ∙ p.held) refl,
          rw (mid.message_is m ∙ p.held) refl,
          mid.since.cancels,
          received_handles shape commands bound a line l work is b c h' (p.started.mid.rank.clock + 1)
              answer.Started (w ∷ []) [] [] m same mid refl (λ k. refl) (λ k. refl)
              (record { own = p.handles.own; others = p.handles.others }),
        ))

  -- the next command ran
  pub ran : AreRight b.rank.sizes.ranks [] b.rank.events →
      HasTried a (record b { at = a.at }) l line Took → IsWorking shape commands (line + 1) b
  ran right tried = by_command l refl tried where
    by_command : (c : Command) → l ≡ c → HasTried a (record b { at = a.at }) c
        line Took → IsWorking shape commands (line + 1) b
    by_command (command.Send to q tag ctx sync body) same t = sends_one q to tag ctx body sync same t.1
    by_command (command.Recv q from tag ctx room) same t = receives_one q from tag ctx room same t.1
    by_command (command.Wait q) same t = waits_one q same t
    by_command (command.Test q) same t = tests_one q same t.1
    by_command (command.Probe from tag ctx) same t = probes_one from tag ctx same t.1
    by_command (command.Await from tag ctx) same t = awaits_one from tag ctx same t
    by_command (command.Cancel q) same t = cancels_one q same right t.1
    by_command (command.Mprobe m from tag ctx) same t = claims_one m from tag ctx same right t.1
    by_command (command.Mrecv q m room) same t = matches_one q m room same t.1
