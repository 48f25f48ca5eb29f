-- The rules of a rank's run that speak of commands, one event after another.
use Rattle.std.specs.Prelude.{if◌then◌else◌}
use Rattle.std.proofs.Common.{◌≡◌, ℕ, ◌+◌, true, false, ◌&&◌, Option, Some, List, [], ◌∷◌}
use Rattle.std.proofs.Common.{◌++◌, map, sym, ◌∙◌, ap, subst, append-nil}
use Rattle.std.proofs.Common.{append_assoc, arith}
use Rattle.std.specs.List.{filter, filter_map, cons_option, list_all, slice_get}
use Rattle.std.proofs.lemmas.List.Elements.{filter_map-append, filter-append}
use Rattle.nm_types.specs.declared.answers.Answer.{Answer}
use Rattle.nm_types.specs.Commands.{Numbered, command_at}
use Rattle.nm_history.specs.declared.events.Event.{Event}
use Rattle.nm_history.specs.declared.events.Happened.{Happened}
use Rattle.nm_history.specs.declared.events.Happened.TheVariants.{Send, Post, Arrive, Whole, Out, Cancel}
use Rattle.nm_history.specs.declared.events.Happened.TheVariants.{Recall, Withdraw, Undone, Claim, Match}
use Rattle.nm_history.specs.declared.events.Happened.TheVariants.{Ran}
use Rattle.nm_history.specs.Answers.{answer_of, is_seen, is_started, without_bytes}
use Rattle.nm_history.specs.RankRun.{Always, AnswerAt, Answers, CancelAt, Cancels, CancelsFor, ClaimAt}
use Rattle.nm_history.specs.RankRun.{Claims, StartAt, Starts, cancels_since, claims_since, is_cancelling}
use Rattle.nm_history.specs.RankRun.{is_matched_probe, is_start, line_of_claim, ran_lines}
use Rattle.nm_history.specs.RankRun.{since_command, start_of, starts_since, without_number}
use Rattle.nm_history.specs.Underway.{is_answer, is_of_packet}
use Rattle.nm_history.proofs.RankRunLemmas.{since-push}
use Rattle.nm_history.proofs.RankRunLemmas.{not_answer, no_answer, take_next, always, ran_lines-push}
use Rattle.nm_types.proofs.TruthLemmas.{and_left, and_right}
use Rattle.nm_history.proofs.AppendLemmas.{since_grows}
use Rattle.nm_history.proofs.ResultLemmas.{taken_has_message}

-- a rank's history, in the middle of a command
pub record Doing (eager : ℕ) (commands : List Numbered) (at : ℕ) (h : List Event) : Type 0 where
  pub answers : Answers commands at h
  pub starts : Always (StartAt eager commands) h
  pub cancels : Always (CancelAt commands) h
  pub claims : Always (ClaimAt commands) h

-- what stands since the answer before
pub record Since (h : List Event) (s c : List Happened) (l : List ℕ) : Type 0 where
  pub starts : starts_since h ≡ s
  pub cancels : cancels_since h ≡ c
  pub claims : claims_since h ≡ l

-- what the rules of commands ask of an event
pub record MayDo (eager : ℕ) (commands : List Numbered) (h : List Event) (what : Happened) : Type 0 where
  pub starts : StartAt eager commands h what
  pub cancels : CancelAt commands h what
  pub claims : ClaimAt commands h what

-- a history between two commands
pub record Done (eager : ℕ) (commands : List Numbered) (at : ℕ) (h : List Event) : Type 0 where
  pub answers : Answers commands at h
  pub starts : Starts eager commands h
  pub cancels : Cancels commands h
  pub claims : Claims commands h

no_answer_at : (commands : List Numbered) (h : List Event) (what : Happened) → is_answer what ≡ false →
    AnswerAt commands h what
no_answer_at commands h (Ran line answer) none = cc
no_answer_at commands h (Send to n tag ctx len how line) none = tt
no_answer_at commands h (Post p line) none = tt
no_answer_at commands h (Arrive a) none = tt
no_answer_at commands h (Whole from n) none = tt
no_answer_at commands h (Out to n) none = tt
no_answer_at commands h (Cancel number done) none = tt
no_answer_at commands h (Recall to n) none = tt
no_answer_at commands h (Withdraw from n done) none = tt
no_answer_at commands h (Undone to n done) none = tt
no_answer_at commands h (Claim from n line) none = tt
no_answer_at commands h (Match number from n room line) none = tt

-- one event more, that is no answer
pub doing-push : (eager : ℕ) (commands : List Numbered) (at : ℕ) (h : List Event) (e : Event) →
    is_answer e.what ≡ false → MayDo eager commands h e.what → Doing eager commands at h →
    Doing eager commands at (h ++ e ∷ [])
doing-push eager commands at h e none may doing = record {
  answers = record {
    few = doing.answers.few;
    in_order = ran_lines-push h e ∙ ap (λ (o : Option ℕ). ran_lines h ++ cons_option o [])
        (no_answer e.what none) ∙ append-nil (ran_lines h) ∙ doing.answers.in_order;
    right = always (AnswerAt commands) h e doing.answers.right (no_answer_at commands h e.what none);
  };
  starts = always (StartAt eager commands) h e doing.starts may.starts;
  cancels = always (CancelAt commands) h e doing.cancels may.cancels;
  claims = always (ClaimAt commands) h e doing.claims may.claims;
}

pub since-one : (h : List Event) (s c : List Happened) (l : List ℕ) (e : Event) →
    is_answer e.what ≡ false → Since h s c l →
    Since (h ++ e ∷ []) (s ++ filter is_start (e.what ∷ [])) (c ++ filter is_cancelling (e.what ∷ []))
    (l ++ filter_map line_of_claim (e.what ∷ []))
since-one h s c l e none since =
    let grows = since-push h e ∙ since_grows (since_command h) e.what none in
    record {
      starts = ap (λ (w : List Happened). filter is_start w) grows
          ∙ filter-append is_start (since_command h) (e.what ∷ [])
          ∙ ap (λ (w : List Happened). w ++ filter is_start (e.what ∷ [])) since.starts;
      cancels = ap (λ (w : List Happened). filter is_cancelling w) grows
          ∙ filter-append is_cancelling (since_command h) (e.what ∷ [])
          ∙ ap (λ (w : List Happened). w ++ filter is_cancelling (e.what ∷ [])) since.cancels;
      claims = ap (λ (w : List Happened). filter_map line_of_claim w) grows
          ∙ filter_map-append line_of_claim (since_command h) (e.what ∷ [])
          ∙ ap (λ (w : List ℕ). w ++ filter_map line_of_claim (e.what ∷ [])) since.claims;
    }

-- an event that comes of a packet
packet_may : (eager : ℕ) (commands : List Numbered) (h : List Event) (what : Happened) →
    is_of_packet what ≡ true → MayDo eager commands h what
packet_may eager commands h (Arrive a) p = record { starts = tt; cancels = tt; claims = tt }
packet_may eager commands h (Whole from n) p = record { starts = tt; cancels = tt; claims = tt }
packet_may eager commands h (Out to n) p = record { starts = tt; cancels = tt; claims = tt }
packet_may eager commands h (Withdraw from n done) p = record { starts = tt; cancels = tt; claims = tt }
packet_may eager commands h (Undone to n done) p = record { starts = tt; cancels = tt; claims = tt }
packet_may eager commands h (Send to n tag ctx len how line) p = cc
packet_may eager commands h (Post post line) p = cc
packet_may eager commands h (Cancel number done) p = cc
packet_may eager commands h (Recall to n) p = cc
packet_may eager commands h (Claim from n line) p = cc
packet_may eager commands h (Match number from n room line) p = cc
packet_may eager commands h (Ran line answer) p = cc

since_packet : (h : List Event) (s c : List Happened) (l : List ℕ) (stamp : ℕ) (what : Happened) →
    is_of_packet what ≡ true →
    Since (h ++ record { stamp = stamp; what = what } ∷ []) (s ++ filter is_start (what ∷ []))
    (c ++ filter is_cancelling (what ∷ [])) (l ++ filter_map line_of_claim (what ∷ [])) →
    Since (h ++ record { stamp = stamp; what = what } ∷ []) s c l
since_packet h s c l stamp (Arrive a) p since = rw (append-nil s, append-nil c, append-nil l) at since
since_packet h s c l stamp (Whole from n) p since = rw (append-nil s, append-nil c, append-nil l) at since
since_packet h s c l stamp (Out to n) p since = rw (append-nil s, append-nil c, append-nil l) at since
since_packet h s c l stamp (Withdraw from n done) p since = rw (append-nil s, append-nil c, append-nil l)
    at since
since_packet h s c l stamp (Undone to n done) p since = rw (append-nil s, append-nil c, append-nil l)
    at since
since_packet h s c l stamp (Send to n tag ctx len how line) p since = cc
since_packet h s c l stamp (Post post line) p since = cc
since_packet h s c l stamp (Cancel number done) p since = cc
since_packet h s c l stamp (Recall to n) p since = cc
since_packet h s c l stamp (Claim from n line) p since = cc
since_packet h s c l stamp (Match number from n room line) p since = cc
since_packet h s c l stamp (Ran line answer) p since = cc

-- events that come of packets
pub doing_packets : (eager : ℕ) (commands : List Numbered) (at : ℕ) (h events : List Event) →
    list_all (λ e. is_of_packet e.what) events ≡ true → Doing eager commands at h →
    Doing eager commands at (h ++ events)
doing_packets eager commands at h [] all doing = subst (λ (k : List Event). Doing eager commands at k)
    (sym (append-nil h)) doing
doing_packets eager commands at h (e ∷ events) all doing =
    let packet = and_left (is_of_packet e.what) _ all in
    subst (λ (k : List Event). Doing eager commands at k) (append_assoc h (e ∷ []) events)
    (doing_packets eager commands at (h ++ e ∷ []) events (and_right (is_of_packet e.what) _ all)
    (doing-push eager commands at h e (not_answer e.what packet)
    (packet_may eager commands h e.what packet) doing))

pub since_packets : (h events : List Event) (s c : List Happened) (l : List ℕ) →
    list_all (λ e. is_of_packet e.what) events ≡ true → Since h s c l → Since (h ++ events) s c l
since_packets h [] s c l all since = subst (λ (k : List Event). Since k s c l) (sym (append-nil h)) since
since_packets h (e ∷ events) s c l all since =
    let packet = and_left (is_of_packet e.what) _ all in
    subst (λ (k : List Event). Since k s c l) (append_assoc h (e ∷ []) events)
    (since_packets (h ++ e ∷ []) events s c l (and_right (is_of_packet e.what) _ all)
    (since_packet h s c l e.stamp e.what packet (since-one h s c l e (not_answer e.what packet) since)))

-- the rules of commands hold of a history between two commands while packets and pieces come
pub done_packets : (eager : ℕ) (commands : List Numbered) (at : ℕ) (h events : List Event) →
    list_all (λ e. is_of_packet e.what) events ≡ true → Done eager commands at h →
    Done eager commands at (h ++ events)
done_packets eager commands at h events all done =
    let doing = doing_packets eager commands at h events all
    (record {
      answers = done.answers;
      starts = done.starts.made;
      cancels = done.cancels.made;
      claims =
          done.claims.made;
    }) in
    let since = since_packets h events [] [] [] all
    (record {
      starts = done.starts.no_others;
      cancels = done.cancels.no_others;
      claims =
          done.claims.no_others;
    }) in
    record {
      answers = doing.answers;
      starts = record { made = doing.starts; no_others = since.starts };
      cancels = record { made = doing.cancels; no_others = since.cancels };
      claims = record { made = doing.claims; no_others = since.claims };
    }

-- the answer of the next command
pub answered : (eager : ℕ) (commands : List Numbered) (at stamp : ℕ) (h : List Event) (x : Answer)
    (n : Numbered) (s c : List Happened) (l : List ℕ) →
    Doing eager commands at h → Since h s c l → slice_get commands at ≡ Some n →
    command_at commands n.line ≡ Some n.command →
    answer_of commands h n.line n.command ≡ Some (without_bytes x) →
    map without_number s ≡ (if is_started x then start_of eager commands h n.line n.command else []) →
    CancelsFor commands h n.command →
    l ≡ (if is_matched_probe n.command && is_seen x then n.line ∷ [] else []) →
    Done eager commands (at + 1) (h ++ record { stamp = stamp; what = Ran n.line x } ∷ [])
answered eager commands at stamp h x n s c l doing since here named right made off claimed =
    let e : Event = record { stamp = stamp; what = Ran n.line x } in
    let more = take_next commands at n here in
    record {
      answers = record {
        few = omega (arith, more.0);
        in_order = ran_lines-push h e ∙ ap (λ (ls : List ℕ). ls ++ n.line ∷ []) doing.answers.in_order
            ∙ sym more.1;
        right = always (AnswerAt commands) h e doing.answers.right (rw named right);
      };
      starts = record {
        made = always (StartAt eager commands) h e doing.starts
            (rw named (
              ap (λ (w : List Happened). map without_number w) since.starts ∙ made,
              taken_has_message commands h n.line x n.command right,
            ));
        no_others = ap (λ (w : List Happened). filter is_start w) (since-push h e);
      };
      cancels = record {
        made = always (CancelAt commands) h e doing.cancels (rw named off);
        no_others = ap (λ (w : List Happened). filter is_cancelling w) (since-push h e);
      };
      claims = record {
        made = always (ClaimAt commands) h e doing.claims (rw named (since.claims ∙ claimed));
        no_others = ap (λ (w : List Happened). filter_map line_of_claim w) (since-push h e);
      };
    }
