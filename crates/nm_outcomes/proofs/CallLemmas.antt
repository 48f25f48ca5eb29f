-- At each event of a rank's run, what comes of a command is what its next command calls for.
use Rattle.std.proofs.Common.{◌≡◌, ◌⊎◌, inl, inr, ℕ, Bool, true, false, cond, Option, Some, None, List, [], ◌∷◌, ◌++◌}
use Rattle.std.proofs.Common.{length, map, take, refl, sym, ◌∙◌, ap, subst, arith, append_assoc}
use Rattle.std.specs.Prelude.{MatchOption, ◌&&◌}
use Rattle.std.specs.List.{AllByRecursion, filter, filter_map, slice_get}
use Rattle.std.specs.Option.{option_map_or}
use Rattle.std.proofs.lemmas.List.Elements.{filter-append, filter_map-append, recursion_from_All}
use Rattle.nm_types.specs.declared.answers.Answer.{Answer}
use Rattle.nm_types.specs.declared.scripts.Command.{Command}
use Rattle.nm_types.specs.declared.scripts.Command.TheVariants as command
use Rattle.nm_types.specs.Commands.{Numbered, command_at}
use Rattle.nm_types.specs.Sizes.{Sizes}
use Rattle.nm_history.specs.declared.events.Event.{Event}
use Rattle.nm_history.specs.declared.events.Happened.{Happened}
use Rattle.nm_history.specs.declared.events.Happened.TheVariants as event
use Rattle.nm_history.specs.Answers.{Message, is_seen, is_started}
use Rattle.nm_history.specs.Answers.{live, live_message}
use Rattle.nm_history.specs.Completion.{Request}
use Rattle.nm_history.specs.Completion.Request.{Receiving, Sending}
use Rattle.nm_history.specs.RankRun.{CancelAt, CancelsFor, CancelsOf, ClaimAt, IsRankRun, StartAt, cancels_since}
use Rattle.nm_history.specs.RankRun.{claims_since}
use Rattle.nm_history.specs.RankRun.{is_cancelling, is_matched_probe, is_start, line_of_claim, ran_lines}
use Rattle.nm_history.specs.RankRun.{since_command, start_of, starts_since, without_number}
use Rattle.nm_history.proofs.AtEachLemmas.{AtEach-from_splits}
use Rattle.nm_history.proofs.RankRunLemmas.{rank_run-split}
use Rattle.nm_history.specs.Underway.{is_answer}
use Rattle.nm_outcomes.specs.Due.{AreAtLines, EventsAreDue, IsAnswerOf, IsCancelOf, IsDue, IsMatchOf}
use Rattle.nm_outcomes.proofs.DueLemmas.{few_starts, next_answer, one_only, started}
use Rattle.nm_outcomes.proofs.QuietLemmas.{AreQuiet, HasAnswer, first_answer, since_quiet}
use Rattle.nm_outcomes.proofs.QuietLemmas.{first_one, none_before, ran_quiet}
use Rattle.nm_outcomes.proofs.QuietLemmas.{back_empty, live_quiet, message_quiet, not_kept, one_in}
use Rattle.nm_outcomes.proofs.QuietLemmas.{all_in, claim_among, middle_empty, middle_one, nothing_mapped}
use Rattle.nm_outcomes.proofs.QuietLemmas.{either_none}

-- what a cancel or a recall is of
abbrev IsOf : Happened → Request → Type 0
IsOf (event.Cancel number done) (Receiving k) = number ≡ k
IsOf (event.Recall to n) (Sending j m) = (to ≡ j) × (n ≡ m)
IsOf _ _ = ⊥

-- no cancel stands before that of a receive
abbrev IsFirst : List Event → Request → Type 0
IsFirst before (Receiving number) = cancels_since before ≡ []
IsFirst before (Sending to n) = Unit {0}

module _ (shape : Sizes) (commands : List Numbered) (at : ℕ) (h : List Event) (stand : AreAtLines commands)
    (run : IsRankRun shape commands at h) where
  -- what holds at the next answer behind an event that is none
  record Next (before : List Event) (stamp : ℕ) (w : Happened) : Type 0 where
    mid : List Event
    line : ℕ
    answer : Answer
    starts : StartAt shape.eager commands (before ++ record { stamp = stamp; what = w } ∷ mid) (event.Ran line answer)
    cancels : CancelAt commands (before ++ record { stamp = stamp; what = w } ∷ mid) (event.Ran line answer)
    claims : ClaimAt commands (before ++ record { stamp = stamp; what = w } ∷ mid) (event.Ran line answer)
    since : since_command (before ++ record { stamp = stamp; what = w } ∷ mid)
        ≡ since_command before ++ w ∷ map (λ (e : Event). e.what) mid
    due : IsAnswerOf commands before line
    here : command_at commands line ≡ Some due.command.command
    quiet : AreQuiet (record { stamp = stamp; what = w } ∷ mid)

  -- it comes, where what happened is none of what is left at the end
  next_at : (before : List Event) (stamp : ℕ) (w : Happened) (after : List Event) →
      h ≡ before ++ record { stamp = stamp; what = w } ∷ after → is_answer w ≡ false →
      (since_command h ≡ since_command before ++ w ∷ map (λ (e : Event). e.what) after → ⊥) → Next before stamp w
  next_at before stamp w after split no_answer not_last = by_answer (first_answer after)
    where
      by_answer : HasAnswer after ⊎ AreQuiet after → Next before stamp w
      by_answer (inr quiet) =
          absurd (not_last (ap (λ (k : List Event). since_command k) split
          ∙ since_quiet before (record { stamp = stamp; what = w } ∷ after) (no_answer, quiet)))
      by_answer (inl found) =
          let e : Event = record { stamp = stamp; what = w } in
          let ran : Event = record { stamp = found.stamp; what = event.Ran found.line found.answer } in
          let whole : h ≡ (before ++ e ∷ found.mid) ++ ran ∷ found.rest =
          split ∙ ap (λ (k : List Event). before ++ e ∷ k) found.split
          ∙ sym (append_assoc before (e ∷ found.mid) (ran ∷ found.rest)) in
          let follow = rank_run-split shape commands at (before ++ e ∷ found.mid) ran found.rest
          (subst (λ (k : List Event). IsRankRun shape commands at k) whole run) in
          let due = next_answer commands at (before ++ e ∷ found.mid) found.rest found.stamp found.line found.answer
          (subst (λ (k : List Event). ran_lines k ≡ map (λ c. c.line)
          (take at commands)) whole run.answers.in_order) in
          record {
            mid = found.mid;
            line = found.line;
            answer = found.answer;
            starts = follow.starts;
            cancels = follow.cancels;
            claims = follow.claims;
            since = since_quiet before (e ∷ found.mid) (no_answer, found.quiet);
            due = record {
              command = due.command;
              next = ap (λ (ls : List ℕ). slice_get commands (length ls))
                  (sym (ran_quiet before (e ∷ found.mid) (no_answer, found.quiet))) ∙ due.next;
              line_is = due.line_is;
            };
            here = ap (λ (l : ℕ). command_at commands l) (sym due.line_is)
                ∙ stand (length (ran_lines (before ++ e ∷ found.mid))) due.command due.next;
            quiet = (no_answer, found.quiet);
          }

  module _ (before : List Event) (stamp : ℕ) (w : Happened) (next : Next before stamp w) where
    front : List Event
    front = before ++ record { stamp = stamp; what = w } ∷ next.mid

    -- a command that starts nothing left no start since
    no_start : (c : Command) → next.due.command.command ≡ c →
        ((k : List Event) (l : ℕ) → start_of shape.eager commands k l c ≡ []) →
        filter is_start (map (λ (e : Event). e.what) (record { stamp = stamp; what = w } ∷ next.mid)) ≡ []
    no_start c is none =
        back_empty (filter is_start (since_command before)) (filter is_start (w ∷ map (λ
        (e : Event). e.what) next.mid))
        (sym (filter-append is_start (since_command before) (w ∷ map (λ (e : Event). e.what) next.mid))
        ∙ ap (λ (ws : List Happened). filter is_start ws) (sym next.since)
        ∙ nothing_mapped (starts_since (before ++ record { stamp = stamp; what = w } ∷ next.mid))
        (next.starts.0
        ∙ ap (λ (o : Option Command). cond (is_started next.answer) (option_map_or (start_of shape.eager commands
        (before ++ record { stamp = stamp; what = w } ∷ next.mid) next.line) o []) []) (next.here
        ∙ ap (λ (c : Command). Some c) is)
        ∙ ap (λ (ws : List Happened). cond (is_started next.answer) ws [])
        (none (before ++ record { stamp = stamp; what = w } ∷ next.mid) next.line)
        ∙ either_none (is_started next.answer)))

    cancelling : is_cancelling w ≡ true → (r : Request) × IsCancelOf commands before r × IsOf w r × IsFirst before r
    cancelling passes =
        by_command next.due.command.command refl
        (subst (λ (o : Option Command). MatchOption o
        (cancels_since (before ++ record { stamp = stamp; what = w } ∷ next.mid) ≡ [])
        (CancelsFor commands (before ++ record { stamp = stamp; what = w } ∷ next.mid))) next.here next.cancels)
      where
        some_cancel : cancels_since (before ++ record { stamp = stamp; what = w } ∷ next.mid) ≡ [] → ⊥
        some_cancel none =
            not_kept is_cancelling (since_command before) (map (λ (e : Event). e.what) next.mid) w passes
            (ap (λ (ws : List Happened). filter is_cancelling ws) (sym next.since) ∙ none)

        found : (q : ℕ) (r : Request) → next.due.command.command ≡ command.Cancel q →
            live commands (before ++ record { stamp = stamp; what = w } ∷ next.mid) q ≡ Some r →
            IsCancelOf commands before r
        found q r is live_is = record {
          command = next.due.command;
          next = next.due.next;
          name = q;
          cancels = is;
          live_is = sym (live_quiet commands q before (record { stamp = stamp; what = w } ∷ next.mid) next.quiet
              (no_start (command.Cancel q) is (λ k l. refl))) ∙ live_is;
        }

        of_receive : (w z : Happened) (number : ℕ) (done : Bool) → w ≡ z → z ≡ event.Cancel number done →
            IsOf w (Receiving number)
        of_receive w z number done one two =
            subst (λ (x : Happened). IsOf x (Receiving number)) (sym (one ∙ two)) refl

        of_send : (w : Happened) (to n : ℕ) → w ≡ event.Recall to n → IsOf w (Sending to n)
        of_send w to n one = subst (λ (x : Happened). IsOf x (Sending to n)) (sym one) (refl, refl)

        by_live : (q : ℕ) → next.due.command.command ≡ command.Cancel q → (o : Option Request) →
            live commands (before ++ record { stamp = stamp; what = w } ∷ next.mid) q ≡ o →
            CancelsOf (before ++ record { stamp = stamp; what = w } ∷ next.mid) o →
            (r : Request) × IsCancelOf commands before r × IsOf w r × IsFirst before r
        by_live q is None live_is cancels = absurd (some_cancel cancels)
        by_live q is (Some (Receiving number)) live_is cancels = (
          Receiving number,
          found q (Receiving number) is live_is,
          of_receive w _ number _ (one_in is_cancelling (since_command before)
              (map (λ (e : Event). e.what) next.mid) w _
              passes
              (ap (λ (ws : List Happened). filter is_cancelling ws) (sym next.since) ∙ cancels)) refl,
          none_before is_cancelling (since_command before) (map (λ (e : Event). e.what) next.mid) w _ passes
              (ap (λ (ws : List Happened). filter is_cancelling ws) (sym next.since) ∙ cancels),
        )
        by_live q is (Some (Sending to n)) live_is cancels = (
          Sending to n,
          found q (Sending to n) is live_is,
          of_send w to n (all_in (λ (what : Happened). what ≡ event.Recall to n) is_cancelling (since_command before)
              (map (λ (e : Event). e.what) next.mid) w passes
              (subst (λ (ws : List Happened). AllByRecursion (λ (what : Happened). what ≡ event.Recall to n)
              (filter is_cancelling ws)) next.since
              (recursion_from_All (λ (what : Happened). what ≡ event.Recall to n)
              (cancels_since (before ++ record { stamp = stamp; what = w } ∷ next.mid)) cancels.1))),
          tt,
        )

        by_command : (c : Command) → next.due.command.command ≡ c →
            CancelsFor commands (before ++ record { stamp = stamp; what = w } ∷ next.mid) c →
            (r : Request) × IsCancelOf commands before r × IsOf w r × IsFirst before r
        by_command (command.Cancel q) is cancels =
            by_live q is (live commands (before ++ record { stamp = stamp; what = w } ∷ next.mid) q) refl cancels
        by_command c is cancels = absurd (some_cancel cancels)

  claiming : (before : List Event) (stamp from n line : ℕ) → Next before stamp (event.Claim from n line) →
      IsAnswerOf commands before line × (claims_since before ≡ [])
  claiming before stamp from n line next =
      let one = sym (claim_among (since_command before) (map (λ (e : Event). e.what) next.mid) from n line)
      ∙ ap (λ (ws : List Happened). filter_map line_of_claim ws) (sym next.since) ∙ next.claims in
      let same : line ≡ next.line = by_test (option_map_or is_matched_probe (command_at commands next.line) false
      && is_seen next.answer) one in (
        record { command = next.due.command; next = next.due.next; line_is = next.due.line_is ∙ sym same },
        first (option_map_or is_matched_probe (command_at commands next.line) false && is_seen next.answer) one,
      )
    where
      by_test : (b : Bool) →
          filter_map line_of_claim (since_command before) ++ line
          ∷ filter_map line_of_claim (map (λ (e : Event). e.what) next.mid) ≡ cond b (next.line ∷ []) [] →
          line ≡ next.line
      by_test true one = middle_one _ _ line next.line one
      by_test false none = absurd (middle_empty _ _ line none)

      first : (b : Bool) →
          filter_map line_of_claim (since_command before) ++ line
          ∷ filter_map line_of_claim (map (λ (e : Event). e.what) next.mid) ≡ cond b (next.line ∷ []) [] →
          claims_since before ≡ []
      first true one = first_one _ _ line next.line one
      first false none = absurd (middle_empty _ _ line none)

  matching : (before : List Event) (stamp number from n cap line : ℕ) →
      Next before stamp (event.Match number from n cap line) → IsMatchOf commands before from n cap line
  matching before stamp number from n cap line next =
      by_started (is_started next.answer)
      (ap (λ (ws : List Happened). map without_number (filter is_start ws)) (sym next.since) ∙ next.starts.0
      ∙ ap (λ (o : Option Command). cond (is_started next.answer) (option_map_or (start_of shape.eager commands
      (before ++ e ∷ next.mid) next.line) o []) []) next.here)
    where
      e : Event
      e = record { stamp = stamp; what = event.Match number from n cap line }

      mids : List Happened
      mids = map (λ (e : Event). e.what) next.mid

      kept : filter is_start (since_command before ++ event.Match number from n cap line
          ∷ map (λ (e : Event). e.what) next.mid)
          ≡ filter is_start (since_command before)
          ++ event.Match number from n cap line ∷ filter is_start (map (λ (e : Event). e.what) next.mid)
      kept = filter-append is_start (since_command before)
          (event.Match number from n cap line ∷ map (λ (e : Event). e.what) next.mid)

      no_claim : (q m cap' : ℕ) → next.due.command.command ≡ command.Mrecv q m cap' →
          filter_map line_of_claim (map (λ (e : Event). e.what)
          (record { stamp = stamp; what = event.Match number from n cap line } ∷ next.mid)) ≡ []
      no_claim q m cap' is =
          back_empty (filter_map line_of_claim (since_command before)) _
          (sym (filter_map-append line_of_claim (since_command before)
          (event.Match number from n cap line ∷ map (λ (e : Event). e.what) next.mid))
          ∙ ap (λ (ws : List Happened). filter_map line_of_claim ws) (sym next.since) ∙ next.claims
          ∙ ap (λ (o : Option Command). cond (option_map_or is_matched_probe o false && is_seen next.answer)
          (next.line ∷ []) []) (next.here ∙ ap (λ (c : Command). Some c) is))

      by_message : (q m cap' : ℕ) → next.due.command.command ≡ command.Mrecv q m cap' → (o : Option Message) →
          live_message commands
          (before ++ record { stamp = stamp; what = event.Match number from n cap line } ∷ next.mid)
          m ≡ o →
          event.Match 0 from n cap line ∷ []
          ≡ option_map_or (λ (x : Message). event.Match 0 x.from x.n cap' next.line ∷ []) o [] →
          IsMatchOf commands before from n cap line
      by_message q m cap' is None live_is same = absurd (grind arith)
      by_message q m cap' is (Some x) live_is same =
          let a : from ≡ x.from = cc in
          let b : n ≡ x.n = cc in
          let c : cap ≡ cap' = cc in
          let d : line ≡ next.line = cc in
          record {
            command = next.due.command;
            next = next.due.next;
            line_is = next.due.line_is ∙ sym d;
            name = q;
            handle = m;
            receives = is ∙ ap (λ (k : ℕ). command.Mrecv q m k) (sym c);
            message_is = sym (message_quiet commands m before
                (record { stamp = stamp; what = event.Match number from n cap line } ∷ next.mid) next.quiet
                (no_claim q m cap' is)) ∙ live_is ∙ message_same x a b;
          }
        where
          message_same : (x : Message) → from ≡ x.from → n ≡ x.n → Some x ≡ Some (record { from = from; n = n })
          message_same x a b = rw (a, b) refl

      by_command : (c : Command) → next.due.command.command ≡ c →
          event.Match 0 from n cap line ∷ []
          ≡ start_of shape.eager commands
          (before ++ record { stamp = stamp; what = event.Match number from n cap line } ∷ next.mid) next.line c →
          IsMatchOf commands before from n cap line
      by_command (command.Mrecv q m cap') is same =
          by_message q m cap' is (live_message commands
          (before ++ record { stamp = stamp; what = event.Match number from n cap line } ∷ next.mid) m) refl same
      by_command (command.Send to q tag ctx sync body) is same = absurd (grind arith)
      by_command (command.Recv q from' tag ctx cap') is same = absurd (grind arith)
      by_command (command.Wait q) is same = absurd (grind arith)
      by_command (command.Test q) is same = absurd (grind arith)
      by_command (command.Probe from' tag ctx) is same = absurd (grind arith)
      by_command (command.Await from' tag ctx) is same = absurd (grind arith)
      by_command (command.Cancel q) is same = absurd (grind arith)
      by_command (command.Mprobe m from' tag ctx) is same = absurd (grind arith)

      by_started : (b : Bool) →
          map without_number (filter is_start (since_command before ++ event.Match number from n cap line
          ∷ map (λ (e : Event). e.what) next.mid))
          ≡ cond b (start_of shape.eager commands
          (before ++ record { stamp = stamp; what = event.Match number from n cap line } ∷ next.mid) next.line
          next.due.command.command) [] → IsMatchOf commands before from n cap line
      by_started false same =
          absurd (one_more (filter is_start (since_command before))
          (filter is_start (map (λ (e : Event). e.what) next.mid))
          (ap (λ (ws : List Happened). map without_number ws) (sym kept) ∙ same))
        where
          one_more : (xs ys : List Happened) →
              map without_number (xs ++ event.Match number from n cap line ∷ ys) ≡ [] → ⊥
          one_more [] ys none = grind arith
          one_more (x ∷ xs) ys none = grind arith
      by_started true same =
          let one = one_only (filter is_start (since_command before))
          (filter is_start (map (λ (e : Event). e.what) next.mid))
          (event.Match number from n cap line) _
          (few_starts shape.eager next.line commands
          (before ++ record { stamp = stamp; what = event.Match number from n cap line } ∷ next.mid)
          next.due.command.command)
          (ap (λ (ws : List Happened). map without_number ws) (sym kept) ∙ same) in
          by_command next.due.command.command refl one.1

  due_at : (before : List Event) (stamp : ℕ) (what : Happened) (after : List Event) →
      h ≡ before ++ record { stamp = stamp; what = what } ∷ after → IsDue shape.eager commands before what
  due_at before stamp (event.Send to n tag ctx len how line) after split =
      started shape commands at h stand run before stamp
      (event.Send to n tag ctx len how line) after split refl refl refl
  due_at before stamp (event.Post p line) after split =
      started shape commands at h stand run before stamp (event.Post p line) after split refl refl refl
  due_at before stamp (event.Match number from n cap line) after split =
      matching before stamp number from n cap line
      (next_at before stamp (event.Match number from n cap line) after split refl
      (λ last. not_kept is_start (since_command before) (map (λ (e : Event). e.what) after)
      (event.Match number from n cap line) refl
      (ap (λ (ws : List Happened). filter is_start ws) (sym last) ∙ run.starts.no_others)))
  due_at before stamp (event.Cancel number done) after split =
      by_request (cancelling before stamp (event.Cancel number done)
      (next_at before stamp (event.Cancel number done) after split refl
      (λ last. not_kept is_cancelling (since_command before) (map (λ (e : Event). e.what) after)
      (event.Cancel number done) refl
      (ap (λ (ws : List Happened). filter is_cancelling ws) (sym last) ∙ run.cancels.no_others))) refl)
    where
      by_request : (r : Request) × IsCancelOf commands before r × IsOf (event.Cancel number done) r
          × IsFirst before r → IsCancelOf commands before (Receiving number) × (cancels_since before ≡ [])
      by_request (Receiving k, is, same, first) =
          (subst (λ (x : ℕ). IsCancelOf commands before (Receiving x)) (sym same) is, first)
      by_request (Sending to n, is, same, first) = absurd same
  due_at before stamp (event.Recall to n) after split =
      by_request (cancelling before stamp (event.Recall to n)
      (next_at before stamp (event.Recall to n) after split refl
      (λ last. not_kept is_cancelling (since_command before) (map (λ (e : Event). e.what) after)
      (event.Recall to n) refl
      (ap (λ (ws : List Happened). filter is_cancelling ws) (sym last) ∙ run.cancels.no_others))) refl)
    where
      by_request : (r : Request) × IsCancelOf commands before r × IsOf (event.Recall to n) r × IsFirst before r →
          IsCancelOf commands before (Sending to n)
      by_request (Receiving k, is, same, first) = absurd same
      by_request (Sending j m, is, same, first) =
          subst (λ (x : ℕ). IsCancelOf commands before (Sending x n)) (sym same.0)
          (subst (λ (x : ℕ). IsCancelOf commands before (Sending j x)) (sym same.1) is)
  due_at before stamp (event.Claim from n line) after split =
      claiming before stamp from n line
      (next_at before stamp (event.Claim from n line) after split refl
      (λ last. middle_empty (filter_map line_of_claim (since_command before)) _ line
      (sym (claim_among (since_command before) (map (λ (e : Event). e.what) after) from n line)
      ∙ ap (λ (ws : List Happened). filter_map line_of_claim ws) (sym last) ∙ run.claims.no_others)))
  due_at before stamp (event.Ran line answer) after split =
      next_answer commands at before after stamp line answer
      (subst (λ (k : List Event). ran_lines k ≡ map (λ c. c.line) (take at commands)) split run.answers.in_order)
  due_at before stamp what after split = tt

pub events_are_due : EventsAreDue
events_are_due shape commands at h stand run =
    AtEach-from_splits (λ before e. IsDue shape.eager commands before e.what) h
    (λ before e after split. due_at shape commands at h stand run before e.stamp e.what after split)
