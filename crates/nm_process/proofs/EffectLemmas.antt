-- A process is still at work after what its next command did: an answer alone, a start, the end of a request.
use Rattle.std.specs.Prelude.{if◌then◌else◌}
use Rattle.std.proofs.Common.{◌≡◌, ℕ, ◌+◌, ◌==◌, Bool, true, false, ◌&&◌, Option, Some}
use Rattle.std.proofs.Common.{None, List, [], ◌∷◌, ◌++◌, map, refl, sym, ◌∙◌, ap, subst}
use Rattle.std.specs.Prelude.{IsSome, is_some, nat_eq, option_map}
use Rattle.std.specs.List.{filter, filter_map}
use Rattle.std.specs.Map.{lookup}
use Rattle.nm_types.specs.declared.answers.Answer.{Answer}
use Rattle.nm_types.specs.declared.answers.Answer.TheVariants as answer
use Rattle.nm_types.specs.declared.scripts.Command.{Command}
use Rattle.nm_types.specs.Commands.{Numbered}
use Rattle.nm_types.specs.Sizes.{Sizes}
use Rattle.nm_history.specs.declared.events.Event.{Event}
use Rattle.nm_history.specs.declared.events.Happened.{Happened}
use Rattle.nm_history.specs.declared.events.Happened.TheVariants.{Ran}
use Rattle.nm_history.specs.Answers.{answer_of}
use Rattle.nm_history.specs.Answers.{is_claim_for, is_question_of, is_receive_of, is_result}
use Rattle.nm_history.specs.Answers.{is_seen, is_start_of, is_started, live, live_message}
use Rattle.nm_history.specs.Answers.{without_bytes}
use Rattle.nm_history.specs.Answers as answers
use Rattle.nm_history.specs.Underway.{is_answer}
use Rattle.nm_history.specs.Completion.{Request, result_of}
use Rattle.nm_history.specs.RankRun.{CancelsFor, is_cancelling, is_matched_probe}
use Rattle.nm_history.specs.RankRun.{is_start, line_of_claim, start_of, without_number}
use Rattle.nm_history.specs.Sends.{Sent, receives}
use Rattle.nm_history.specs.Clock.{stamped}
use Rattle.nm_request.specs.declared.Kind.{Kind}
use Rattle.nm_request.specs.declared.Req.{Req}
use Rattle.nm_rank.specs.Calls.{Starts}
use Rattle.nm_rank.specs.Ranks.{RankView, request_of}
use Rattle.nm_rank.proofs.ResultLemmas.{finished_as}
use Rattle.nm_process.specs.Names.{handled, message_with, named, request_named}
use Rattle.nm_process.specs.Work.{IsNext, IsWorking}
use Rattle.nm_process.specs.Processes.{ProcessView}
use Rattle.nm_process.specs.Starts.{Ends, HasAnswered, HasEnded}
use Rattle.nm_process.specs.Starts.{HasStarted, IsBusy}
use Rattle.nm_process.specs.Starts.{IsNull, KeepsHandles}
use Rattle.nm_process.specs.Work.{line_of}
use Rattle.nm_process.proofs.DoingLemmas.{MayDo}
use Rattle.nm_process.proofs.MidLemmas.{Mid, ended_names}
use Rattle.nm_process.proofs.MidLemmas.{kept_handles, kept_names, mid_none}
use Rattle.nm_process.proofs.MidLemmas.{mid_start, request_start, started_names, works}
use Rattle.nm_process.proofs.PacketLemmas.{are_of_packets}
use Rattle.nm_history.proofs.ResultLemmas.{result_is_result, bytes_no_matter}

pub and_false : (b : Bool) → (b && false) ≡ false
and_false true = refl
and_false false = refl

result_not_started : (a : Answer) → is_result a ≡ true → is_started a ≡ false
result_not_started answer.Started is = cc
result_not_started a is = refl

-- a request that ended gave its result
pub ended_result : (a b : ProcessView) (q : ℕ) (x : Answer) (e : Ends a b q x) →
    Some (without_bytes x) ≡ result_of a.rank.events (request_of e.kind)
ended_result a b q x e = (finished_as a.rank b.rank e.request x e.kind e.is e.finished).result

-- how starts are answered
busy_is : (o : Option Request) → IsSome o → Some (if is_some o then answer.Busy else answer.Started)
    ≡ Some answer.Busy
busy_is (Some r) some = refl
busy_is None some = cc

module _ (shape : Sizes) (commands : List Numbered) (bound : ℕ) (a b : ProcessView) (line : ℕ) (l : Command)
    (work : IsWorking shape commands bound a) (is : IsNext commands a.at bound line l)
    (at : b.at ≡ a.at + 1) where
  abbrev h : List Event
  h = a.rank.events

  -- the command has an answer alone
  pub alone : (c : Command) (x : Answer) → l ≡ c →
      HasAnswered a (record b { at = a.at }) line x →
      answer_of commands a.rank.events line c ≡ Some (without_bytes x) →
      is_started x ≡ false → CancelsFor commands a.rank.events c →
      (is_matched_probe c && is_seen x) ≡ false →
      ((q : ℕ) → (is_question_of q c && is_result x) ≡ false) →
      ((m : ℕ) → (is_claim_for m c && is_seen x) ≡ false) → IsWorking shape commands (line + 1) b
  alone c x same has right not_started off no_claim no_end no_handle =
      let none = mid_none shape commands bound a line l work is in
      works shape commands bound a line l work is a b c h x [] [] [] same refl refl refl has at none right
      (rw not_started refl) off (rw no_claim refl)
      (kept_names shape commands bound a line l work is a c h (a.rank.clock + 1) x [] [] [] same none
      (λ q. ap (λ t. is_start_of q c && t) not_started ∙ and_false (is_start_of q c)) no_end
      (λ q. refl))
      (kept_handles shape commands bound a line l work is b c h (a.rank.clock + 1) x [] [] [] same none no_handle
      (λ m. ap (λ t. is_receive_of m c && t) not_started ∙ and_false (is_receive_of m c))
      (λ m. ap (λ (v : ProcessView). handled v m) has.others))

  -- the command started what happened here
  pub starts : (Call : Req → RankView → RankView → Type 0) (w : Happened) (ws : List Happened)
      (k : Kind) (c : Command) (q : ℕ) (bodies : Sent → List ℕ) →
      ((r : Req) (v : RankView) → Call r a.rank v → Starts bodies (w ∷ ws) k a.rank v r) →
      l ≡ c → (p : HasStarted Call k a (record b { at = a.at }) q line) →
      is_answer w ≡ false → line_of w ≡ line →
      MayDo shape.eager commands a.rank.events w → are_of_packets ws ≡ true →
      answers.request_of line w ≡ Some (request_of k) →
      filter is_cancelling (w ∷ []) ≡ [] → filter_map line_of_claim (w ∷ []) ≡ [] →
      ((k : ℕ) → is_start_of k c ≡ (q == k)) → ((k : ℕ) → is_question_of k c ≡ false) →
      ((k : ℕ) → is_claim_for k c ≡ false) → is_matched_probe c ≡ false →
      (Mid shape commands a line (a.rank.events ++ stamped a.rank.clock (w ∷ ws))
      (filter is_start (w ∷ [])) [] [] →
      (answer_of commands (a.rank.events ++ stamped a.rank.clock (w ∷ ws))
      line c ≡ Some answer.Started)
      × (map without_number (filter is_start (w ∷ [])) ≡ start_of shape.eager
      commands (a.rank.events ++ stamped a.rank.clock (w ∷ ws)) line c)
      × CancelsFor commands (a.rank.events ++ stamped a.rank.clock (w ∷ ws)) c
      × ((m : ℕ) → handled b m ≡ live_message commands
      ((a.rank.events ++ stamped a.rank.clock (w ∷ ws)) ++ record {
        stamp = p.mid.rank.clock + 1;
        what =
            Ran line answer.Started;
      } ∷ []) m)) → IsWorking shape commands (line + 1) b
  starts Call w ws k c q bodies opens same p none line_is may packets made no_cancel no_claim
      start_names end_names claim_names no_probe rest =
      let started = opens p.begun.request p.mid.rank p.begun.starts in
      let h' : List Event = h ++ stamped a.rank.clock (w ∷ ws) in
      let mid : Mid shape commands a line h' (filter is_start (w ∷ [])) [] [] =
      subst (λ (cs : List Happened). Mid shape commands a line h' (filter is_start (w ∷ [])) cs []) no_cancel
      (subst (λ (ls : List ℕ). Mid shape commands a line h' (filter is_start (w ∷ []))
      (filter is_cancelling (w ∷ [])) ls) no_claim
      (mid_start shape commands bound a line l work is a.rank.clock w ws none line_is may packets)) in
      let r = rest mid in
      works shape commands bound a line l work is p.mid b c h' answer.Started (filter is_start (w ∷ [])) [] []
      same started.takes.me started.takes.sizes started.happened.events p.answered at mid
      r.0 r.1 r.2 (rw no_probe refl)
      (started_names shape commands bound a line l work is p.mid c h' (p.mid.rank.clock + 1) answer.Started
      (filter is_start (w ∷ [])) [] [] q (request_of k) same mid refl start_names end_names
      (request_start shape commands bound a line l work is a.rank.clock w ws (request_of k) made packets)
      p.begun.names) r.3

  -- the handles after a start that is of none
  pub start_handles : (c : Command) (h' : List Event) (stamp : ℕ) (s cs : List Happened) (ls : List ℕ) →
      l ≡ c → Mid shape commands a line h' s cs ls →
      ((k : ℕ) → is_claim_for k c ≡ false) → ((k : ℕ) → is_receive_of k c ≡ false) →
      KeepsHandles a (record b { at = a.at }) →
      (m : ℕ) → handled b m ≡ live_message commands
      (h' ++ record { stamp = stamp; what = Ran line answer.Started } ∷ []) m
  start_handles c h' stamp s cs ls same mid claims receives keeps =
      kept_handles shape commands bound a line l work is b c h' stamp answer.Started s cs ls same mid
      (λ m. rw (claims m) refl) (λ m. rw (receives m) refl)
      (λ m. ap (λ es. option_map message_with (lookup (nat_eq m) es)) keeps.handles)

  -- the request of a name ended
  pub ends : (c : Command) (q : ℕ) → l ≡ c →
      (p : HasEnded a (record b { at = a.at }) q line) →
      answer_of commands a.rank.events line c ≡ Some
      (without_bytes p.answer) → CancelsFor commands a.rank.events c →
      ((k : ℕ) → is_start_of k c ≡ false) → ((k : ℕ) → is_question_of k c ≡ (q == k)) →
      ((k : ℕ) → is_claim_for k c ≡ false) → is_matched_probe c ≡ false → IsWorking shape commands (line + 1) b
  ends c q same p right off start_names end_names claim_names no_probe =
      let none = mid_none shape commands bound a line l work is in
      let e = p.ends in
      let same' = e.finished.same in
      let result : is_result p.answer ≡ true = sym (bytes_no_matter p.answer)
      ∙ result_is_result h (request_of e.kind) (without_bytes p.answer) (sym (ended_result a p.mid q p.answer e)) in
      let not_started = result_not_started p.answer result in
      works shape commands bound a line l work is p.mid b c h p.answer [] [] [] same
      (ap (λ (v : RankView). v.me) same') (ap (λ (v : RankView). v.sizes) same')
      (ap (λ (v : RankView). v.events) same')
      p.answered at none right (rw not_started refl) off (rw no_probe refl)
      (ended_names shape commands bound a line l work is p.mid c h (p.mid.rank.clock + 1) p.answer [] [] [] q same
      none result start_names end_names e.names)
      (kept_handles shape commands bound a line l work is b c h (p.mid.rank.clock + 1) p.answer [] [] [] same none
      (λ m. rw (claim_names m) refl)
      (λ m. ap (λ t. is_receive_of m c && t) not_started ∙ and_false (is_receive_of m c))
      (λ m. ap (λ (v : ProcessView). handled v m) p.answered.others
      ∙ ap (λ es. option_map message_with (lookup (nat_eq m) es)) e.handles.handles))

  -- a start of a name that is taken
  pub busy : (c : Command) (q : ℕ) → l ≡ c → IsBusy a (record b { at = a.at }) q
      line →
      answer_of commands a.rank.events line c ≡ Some
      (if is_some (live commands a.rank.events q) then answer.Busy
      else answer.Started) →
      CancelsFor commands a.rank.events c → IsWorking shape commands (line + 1) b
  busy c q same p answer_is off =
      alone c answer.Busy same p.answered
      (answer_is ∙ ap (λ (o : Option Request). Some (if is_some o then answer.Busy else answer.Started))
      (sym (work.requests q)) ∙ busy_is (named a q) p.taken)
      refl off (and_false (is_matched_probe c)) (λ k. and_false (is_question_of k c))
      (λ k. and_false (is_claim_for k c))

  pub started_is : (h' : List Event) (s cs : List Happened) (ls : List ℕ) (q : ℕ) →
      Mid shape commands a line h' s cs ls → named a q ≡ None →
      Some (if is_some (live commands h' q) then answer.Busy else answer.Started)
      ≡ Some answer.Started
  started_is h' s cs ls q mid free =
      ap (λ (o : Option Request). Some (if is_some o then answer.Busy else answer.Started)) (mid.live_is q
      ∙ free)

  -- a request that the name doesn't stand for
  pub null : (c : Command) (q : ℕ) → l ≡ c → IsNull a (record b { at = a.at }) q
      line →
      (live commands a.rank.events q ≡ None →
      answer_of commands a.rank.events line c ≡ Some answer.Null) →
      (live commands a.rank.events q ≡ None →
      CancelsFor commands a.rank.events c) → IsWorking shape commands (line + 1) b
  null c q same p right off =
      let none = sym (work.requests q) ∙ p.free in
      alone c answer.Null same p.answered (right none) refl (off none) (and_false (is_matched_probe c))
      (λ k. and_false (is_question_of k c)) (λ k. and_false (is_claim_for k c))

  -- the names of a process of which only the rank changed
  pub kept_all : (mid : ProcessView) → mid.rank.requests ≡ a.rank.requests → mid.names ≡ a.names → (q : ℕ) →
      named mid q ≡ named a q
  kept_all mid requests names q = ap (λ r. request_named r mid.names q) requests
      ∙ ap (λ ns. request_named a.rank.requests ns q) names
