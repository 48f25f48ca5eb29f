-- A command that has taken effect answers behind it, so what a report tells of it is known. MPI 3.1, 3.7.2, 3.8.4.
use Rattle.std.proofs.Common.{◌≡◌, ℕ, suc, ◌+◌, ◌-◌, ◌==◌, ◌&&◌, ◌||◌, Bool, true, false, cond, Option, Some, None}
use Rattle.std.proofs.Common.{List, [], ◌∷◌, ◌++◌, length, map, refl, sym, ◌∙◌, ap, subst, arith, append-nil}
use Rattle.std.proofs.Common.{append_assoc}
use Rattle.std.specs.Prelude.{IsSomeAnd, MatchOption, option_and_then}
use Rattle.std.specs.List.{cons_option, filter, filter_map, list_any, slice_get}
use Rattle.std.specs.Option.{option_map_or}
use Rattle.std.proofs.lemmas.Bool.{false≢true}
use Rattle.std.proofs.lemmas.List.Elements.{filter-append, filter_map-append}
use Rattle.std.proofs.lemmas.List.Folds.{list_any-append}
use Rattle.nm_types.specs.declared.answers.Answer.{Answer}
use Rattle.nm_types.specs.declared.answers.Answer.TheVariants as answer
use Rattle.nm_types.specs.declared.scripts.Command.{Command}
use Rattle.nm_types.specs.declared.scripts.Command.TheVariants as command
use Rattle.nm_types.specs.declared.scripts.Line.{Line}
use Rattle.nm_types.specs.Commands.{Numbered, command_at, commands_of}
use Rattle.nm_types.specs.Sizes.{Sizes}
use Rattle.nm_types.proofs.ListLemmas.{front_empty}
use Rattle.nm_types.proofs.OptionLemmas.{no_some, same_some}
use Rattle.nm_types.proofs.TruthLemmas.{or_left, or_right}
use Rattle.nm_history.specs.declared.events.Event.{Event}
use Rattle.nm_history.specs.declared.events.Happened.{Happened}
use Rattle.nm_history.specs.declared.events.Happened.TheVariants as event
use Rattle.nm_history.specs.Answers.{answer_of, is_seen, is_started}
use Rattle.nm_history.specs.Answers.{line_of_name, live, request_at, request_of, without_bytes}
use Rattle.nm_history.specs.AtEach.{AtEach}
use Rattle.nm_history.specs.Completion.{Request as asked}
use Rattle.nm_history.specs.Quiescence.{Ended, Packets, history_of}
use Rattle.nm_history.specs.RankRun.{AnswerAt, CancelAt, CancelsFor, ClaimAt, StartAt, cancels_since, claims_since}
use Rattle.nm_history.specs.RankRun.{is_canceller, is_matched_probe, line_of_claim}
use Rattle.nm_history.specs.RankRun.{is_cancelling}
use Rattle.nm_history.specs.RankRun.{is_start, ran_lines}
use Rattle.nm_history.specs.RankRun.{since_command, start_of, starts_since, without_number}
use Rattle.nm_history.specs.Underway.{is_answer}
use Rattle.nm_history.proofs.AnswerLemmas.{line-push, line_kept}
use Rattle.nm_history.proofs.AppendLemmas.{since_grows}
use Rattle.nm_history.proofs.AtEachLemmas.{AtEach-split}
use Rattle.nm_history.proofs.RankRunLemmas.{no_answer, ran_lines-push, since-push}
use Rattle.nm_outcomes.specs.Due.{IsAnswerOf, IsDue, IsNextCommand}
use Rattle.nm_outcomes.proofs.CallLemmas.{events_are_due}
use Rattle.nm_outcomes.proofs.DueLemmas.{few_starts, one_only}
use Rattle.nm_outcomes.proofs.LogLemmas.{at_of, own_run}
use Rattle.nm_lawful.specs.Moves.{Report, told_at_lem}
use Rattle.nm_runs_lawful.specs.Runs.{answer_by}
use Rattle.nm_runs_lawful.specs.Stands.{IsRunTold, effects}
use Rattle.nm_runs_lawful.proofs.AnsweredLemmas.{and_nothing, begun_effects, idle_effects, neither_kind, nothing_mapped}
use Rattle.nm_runs_lawful.proofs.NextLemmas.{line_there}
use Rattle.nm_runs_lawful.proofs.ToldLemmas.{line_told, told_once}

-- none that passes is kept where none is kept
pub none_kept : (keep test : Happened → Bool) → ((x : Happened) → test x ≡ true → keep x ≡ true) →
    (ws : List Happened) →
    filter keep ws ≡ [] → list_any test ws ≡ false
none_kept keep test passes [] none = refl
none_kept keep test passes (x ∷ ws) none = by_keep (keep x) refl none (none_kept keep test passes ws)
  where
    failed : keep x ≡ false → (b : Bool) → test x ≡ b → b ≡ false
    failed not_kept false is = refl
    failed not_kept true is = absurd (false≢true (sym not_kept ∙ passes x is))

    by_keep : (b : Bool) → keep x ≡ b → cond b (x ∷ filter keep ws) (filter keep ws) ≡ [] →
        (filter keep ws ≡ [] → list_any test ws ≡ false) → (test x || list_any test ws) ≡ false
    by_keep true is none rest = absurd (grind arith)
    by_keep false is none rest = rw (failed is (test x) refl, rest none) refl

-- The first answer behind some events, and what stays so up to it.
pub record HasRan (b t : List Event) : Type 0 where
  pub mid : List Event
  pub ran : Event
  pub rest : List Event
  pub line : ℕ
  pub answer : Answer
  pub more : List Happened
  pub split : t ≡ mid ++ ran ∷ rest
  pub is_ran : ran.what ≡ event.Ran line answer
  pub since : since_command (b ++ mid) ≡ since_command b ++ more
  pub lines : ran_lines (b ++ mid) ≡ ran_lines b
  pub names : (commands : List Numbered) (q : ℕ) → line_of_name commands (b ++ mid) q ≡ line_of_name commands b q

-- what has begun and not ended is answered
pub ran_behind : (test : Happened → Bool) (b t : List Event) → list_any test (since_command b) ≡ true →
    list_any test (since_command (b ++ t)) ≡ false → HasRan b t
ran_behind test b [] some none =
    absurd (false≢true (sym none ∙ ap (λ (k : List Event). list_any test (since_command k)) (append-nil b) ∙ some))
ran_behind test b (e ∷ t) some none =
    by_event e.what refl
    (λ quiet. ran_behind test (b ++ e ∷ []) t (grown quiet)
    (ap (λ (k : List Event). list_any test (since_command k)) (append_assoc b (e ∷ []) t) ∙ none))
  where
    since_is : is_answer e.what ≡ false → since_command (b ++ e ∷ []) ≡ since_command b ++ e.what ∷ []
    since_is quiet = since-push b e ∙ since_grows (since_command b) e.what quiet

    grown : is_answer e.what ≡ false → list_any test (since_command (b ++ e ∷ [])) ≡ true
    grown quiet =
        ap (λ (ws : List Happened). list_any test ws) (since_is quiet)
        ∙ list_any-append test (since_command b) (e.what ∷ [])
        ∙ or_left (list_any test (since_command b)) (list_any test (e.what ∷ [])) some

    behind : is_answer e.what ≡ false → HasRan (b ++ e ∷ []) t → HasRan b (e ∷ t)
    behind quiet found =
        let append = append_assoc b (e ∷ []) found.mid in
        record {
          mid = e ∷ found.mid;
          ran = found.ran;
          rest = found.rest;
          line = found.line;
          answer = found.answer;
          more = e.what ∷ found.more;
          split = ap (λ (k : List Event). e ∷ k) found.split;
          is_ran = found.is_ran;
          since = ap since_command (sym append) ∙ found.since
              ∙ ap (λ (ws : List Happened). ws ++ found.more) (since_is quiet)
              ∙ append_assoc (since_command b) (e.what ∷ []) found.more;
          lines = ap ran_lines (sym append) ∙ found.lines ∙ ran_lines-push b e
              ∙ ap (λ (o : Option ℕ). ran_lines b ++ cons_option o []) (no_answer e.what quiet)
              ∙ append-nil (ran_lines b);
          names = λ commands q. ap (λ (k : List Event). line_of_name commands k q) (sym append)
              ∙ found.names commands q ∙ line-push commands b e q
              ∙ line_kept commands q (line_of_name commands b q) e.what quiet;
        }

    by_event : (what : Happened) → e.what ≡ what →
        (is_answer e.what ≡ false → HasRan (b ++ e ∷ []) t) → HasRan b (e ∷ t)
    by_event (event.Ran line a) is later =
        record {
          mid = [];
          ran = e;
          rest = t;
          line = line;
          answer = a;
          more = [];
          split = refl;
          is_ran = is;
          since = ap since_command (append-nil b) ∙ sym (append-nil (since_command b));
          lines = ap ran_lines (append-nil b);
          names = λ commands q. ap (λ (k : List Event). line_of_name commands k q) (append-nil b);
        }
    by_event what is later = let quiet = ap is_answer is in behind quiet (later quiet)

-- a request that is not there was not there before
earlier_request : (line : ℕ) (h more : List Event) → request_at (h ++ more) line ≡ None → request_at h line ≡ None
earlier_request line [] more none = refl
earlier_request line (e ∷ h) more none = by_request (request_of line e.what) none (earlier_request line h more)
  where
    by_request : (o : Option asked) →
        slice_get (cons_option o (filter_map (λ (e : Event). request_of line e.what) (h ++ more))) 0 ≡ None →
        (request_at (h ++ more) line ≡ None → request_at h line ≡ None) →
        slice_get (cons_option o (filter_map (λ (e : Event). request_of line e.what) h)) 0 ≡ None
    by_request None none later = later none
    by_request (Some r) none later = absurd (no_some r (sym none))

-- An event of a rank's history, at which this command is the next one.
module _ (shape : Sizes) (lines : List Line) (ranks : List Ended) (packets : List Packets) (told : Report)
    (is : IsRunTold shape lines ranks packets told) (i : ℕ) (b : List Event) (e : Event) (t : List Event)
    (whole_is : history_of ranks i ≡ b ++ e ∷ t) (c : Numbered) (due : IsNextCommand (commands_of i lines) b c)
    (quiet : is_answer e.what ≡ false)
  where
    abbrev commands : List Numbered
    commands = commands_of i lines

    abbrev grown : List Event
    grown = b ++ e ∷ []

    abbrev whole : List Event
    whole = history_of ranks i

    whole_grown : whole ≡ grown ++ t
    whole_grown = whole_is ∙ sym (append_assoc b (e ∷ []) t)

    since_now : since_command grown ≡ since_command b ++ e.what ∷ []
    since_now = since-push b e ∙ since_grows (since_command b) e.what quiet

    pub lines_now : ran_lines grown ≡ ran_lines b
    lines_now =
        ran_lines-push b e ∙ ap (λ (o : Option ℕ). ran_lines b ++ cons_option o []) (no_answer e.what quiet)
        ∙ append-nil (ran_lines b)

    -- the answer of the command, which comes behind
    pub record HasAnswer : Type 0 where
      pub front : List Event
      pub answer : Answer
      pub more : List Happened
      pub answered : AnswerAt (commands_of i lines) front (event.Ran c.line answer)
      pub started : StartAt shape.eager (commands_of i lines) front (event.Ran c.line answer)
      pub cancelled : CancelAt (commands_of i lines) front (event.Ran c.line answer)
      pub claimed : ClaimAt (commands_of i lines) front (event.Ran c.line answer)
      pub since : since_command front ≡ since_command b ++ e.what ∷ more
      pub names : (q : ℕ) → line_of_name (commands_of i lines) front q ≡ line_of_name (commands_of i lines) b q
      pub requests : (line : ℕ) → request_at front line ≡ None → request_at b line ≡ None
      pub is_told : told_at_lem told None (c.line - 2) ≡ answer_by c.line (event.Ran c.line answer)

    has_answer : HasRan grown t → HasAnswer
    has_answer found =
        record {
          front = grown ++ found.mid;
          answer = found.answer;
          more = found.more;
          answered = subst (λ (what : Happened). AnswerAt commands (grown ++ found.mid) what) is_ran
              (AtEach-split (λ b e. AnswerAt commands b e.what) (grown ++ found.mid) found.ran found.rest
              (subst (λ (k : List Event). AtEach (λ b e. AnswerAt commands b e.what) k) splits
              (own_run shape lines ranks packets is.run i).answers.right));
          started = subst (λ (what : Happened). StartAt shape.eager commands (grown ++ found.mid) what) is_ran
              (AtEach-split (λ b e. StartAt shape.eager commands b e.what) (grown ++ found.mid) found.ran found.rest
              (subst (λ (k : List Event). AtEach (λ b e. StartAt shape.eager commands b e.what) k) splits
              (own_run shape lines ranks packets is.run i).starts.made));
          cancelled = subst (λ (what : Happened). CancelAt commands (grown ++ found.mid) what) is_ran
              (AtEach-split (λ b e. CancelAt commands b e.what) (grown ++ found.mid) found.ran found.rest
              (subst (λ (k : List Event). AtEach (λ b e. CancelAt commands b e.what) k) splits
              (own_run shape lines ranks packets is.run i).cancels.made));
          claimed = subst (λ (what : Happened). ClaimAt commands (grown ++ found.mid) what) is_ran
              (AtEach-split (λ b e. ClaimAt commands b e.what) (grown ++ found.mid) found.ran found.rest
              (subst (λ (k : List Event). AtEach (λ b e. ClaimAt commands b e.what) k) splits
              (own_run shape lines ranks packets is.run i).claims.made));
          since = found.since ∙ ap (λ (ws : List Happened). ws ++ found.more) since_now
              ∙ append_assoc (since_command b) (e.what ∷ []) found.more;
          names = λ q. found.names commands q ∙ line-push commands b e q
              ∙ line_kept commands q (line_of_name commands b q) e.what quiet;
          requests = λ line none. earlier_request line b (e ∷ found.mid)
              (ap (λ (k : List Event). request_at k line) (sym (append_assoc b (e ∷ []) found.mid)) ∙ none);
          is_told = line_told shape lines ranks packets told is i (length (ran_lines b)) c due
              ∙ told_once i lines (at_of shape lines ranks packets is.run i) whole (grown ++ found.mid) found.rest
              found.ran c.line found.answer (own_run shape lines ranks packets is.run i).answers splits is_ran;
        }
      where
        splits : whole ≡ (grown ++ found.mid) ++ found.ran ∷ found.rest
        splits =
            whole_grown ∙ ap (λ (k : List Event). grown ++ k) found.split
            ∙ sym (append_assoc grown found.mid (found.ran ∷ found.rest))

        due_then : IsAnswerOf commands (grown ++ found.mid) found.line
        due_then =
            subst (λ (what : Happened). IsDue shape.eager commands (grown ++ found.mid) what) found.is_ran
            (AtEach-split (λ b e. IsDue shape.eager commands b e.what) (grown ++ found.mid) found.ran found.rest
            (subst (λ (k : List Event). AtEach (λ b e. IsDue shape.eager commands b e.what) k) splits
            (events_are_due shape commands (at_of shape lines ranks packets is.run i) whole
            (is.commands.stand i) (own_run shape lines ranks packets is.run i))))

        line_is : found.line ≡ c.line
        line_is =
            sym due_then.line_is
            ∙ ap (λ (d : Numbered). d.line)
            (same_some due_then.command c (sym due_then.next
            ∙ ap (λ (ls : List ℕ). slice_get commands (length ls)) (found.lines ∙ lines_now) ∙ due))

        is_ran : found.ran.what ≡ event.Ran c.line found.answer
        is_ran = found.is_ran ∙ ap (λ (l : ℕ). event.Ran l found.answer) line_is

    -- a start or a cancel has its answer
    pub answer_behind : (keep test : Happened → Bool) → ((x : Happened) → test x ≡ true → keep x ≡ true) →
        test e.what ≡ true → filter keep (since_command whole) ≡ [] → HasAnswer
    answer_behind keep test passes own none =
        has_answer (ran_behind test grown t
        (ap (λ (ws : List Happened). list_any test ws) since_now
        ∙ list_any-append test (since_command b) (e.what ∷ [])
        ∙ or_right (list_any test (since_command b)) (test e.what || false)
        (or_left (test e.what) false own))
        (ap (λ (k : List Event). list_any test (since_command k)) (sym whole_grown)
        ∙ none_kept keep test passes (since_command whole) none))

    pub command_is : command_at (commands_of i lines) c.line ≡ Some c.command
    command_is = is.commands.stand i (length (ran_lines b)) c due

    pub place_on : c.line - 1 ≡ c.line - 2 + 1
    place_on = let low = (line_there i lines (length (ran_lines b)) c due).0 in omega (arith, low)

    -- what has begun before, if none of its kind has behind
    pub none_before : (keep : Happened → Bool) (a : HasAnswer) → filter keep (since_command a.front) ≡ [] →
        filter keep (since_command b) ≡ []
    none_before keep a none =
        front_empty (filter keep (since_command b)) (filter keep (e.what ∷ a.more))
        (sym (ap (λ (ws : List Happened). filter keep ws) a.since
        ∙ filter-append keep (since_command b) (e.what ∷ a.more)) ∙ none)

    -- how many commands have taken effect, before the event and behind it
    pub effects_before : starts_since b ≡ [] → cancels_since b ≡ [] → effects b ≡ length (ran_lines b)
    effects_before none nor = idle_effects b (neither_kind is_start is_cancelling (since_command b) none nor)

    pub effects_behind : (is_start e.what || is_cancelling e.what) ≡ true →
        effects (b ++ e ∷ []) ≡ suc (length (ran_lines b))
    effects_behind own =
        begun_effects grown
        (ap (λ (ws : List Happened). list_any (λ what. is_start what || is_cancelling what) ws) since_now
        ∙ list_any-append (λ (what : Happened). is_start what || is_cancelling what) (since_command b) (e.what ∷ [])
        ∙ or_right (list_any (λ (what : Happened). is_start what || is_cancelling what) (since_command b))
        ((is_start e.what || is_cancelling e.what) || false)
        (or_left (is_start e.what || is_cancelling e.what) false own))
        ∙ ap (λ (ls : List ℕ). suc (length ls)) lines_now

    -- a name has no request where it has none behind
    pub free_before : (a : HasAnswer) (q : ℕ) → live (commands_of i lines) a.front q ≡ None →
        live (commands_of i lines) b q ≡ None
    free_before a q none =
        by_line (line_of_name commands b q)
        (ap (λ (o : Option ℕ). option_and_then (request_at a.front) o) (sym (a.names q)) ∙ none)
      where
        by_line : (o : Option ℕ) → option_and_then (request_at a.front) o ≡ None →
            option_and_then (request_at b) o ≡ None
        by_line None none = refl
        by_line (Some l) none = a.requests l none

    -- a start says so
    started_then : (a : HasAnswer) → is_start e.what ≡ true → a.answer ≡ answer.Started
    started_then a own = by_started (is_started a.answer) refl
      where
        only : (x : Answer) → is_started x ≡ true → x ≡ answer.Started
        only answer.Started is = refl
        only x is = absurd (false≢true is)

        some : list_any is_start (since_command a.front) ≡ true
        some =
            ap (λ (ws : List Happened). list_any is_start ws) a.since
            ∙ list_any-append is_start (since_command b) (e.what ∷ a.more)
            ∙ or_right (list_any is_start (since_command b)) (is_start e.what || list_any is_start a.more)
            (or_left (is_start e.what) (list_any is_start a.more) own)

        by_started : (x : Bool) → is_started a.answer ≡ x → a.answer ≡ answer.Started
        by_started true is = only a.answer is
        by_started false is =
            absurd (false≢true (sym (none_kept is_start is_start (λ x start. start) (since_command a.front)
            (nothing_mapped without_number (starts_since a.front)
            (a.started.0 ∙ ap (λ (x : Bool). cond x
            (option_map_or (start_of shape.eager commands a.front c.line) (command_at commands c.line) []) []) is)))
            ∙ some))

    -- The answer of a start: nothing is told of it, and it is the first of its command.
    pub record IsStartAnswered : Type 0 where
      pub behind : HasAnswer
      pub is_told : told_at_lem told None (c.line - 2) ≡ None
      pub may : answer_of (commands_of i lines) behind.front c.line c.command ≡ Some answer.Started
      pub first : starts_since b ≡ []
      pub start : without_number e.what ∷ [] ≡ start_of shape.eager (commands_of i lines) behind.front c.line c.command
      pub not_cancel : is_canceller c.command ≡ false → cancels_since b ≡ []
      pub not_claimed : claims_since b ≡ []

    pub start_answered : is_start e.what ≡ true → IsStartAnswered
    start_answered own =
        let a = answer_behind is_start is_start (λ x start. start) own
        (own_run shape lines ranks packets is.run i).starts.no_others in
        let so = started_then a own in
        let starts : map without_number (starts_since b ++ e.what ∷ filter is_start a.more)
        ≡ start_of shape.eager commands a.front c.line c.command =
        ap (λ (ws : List Happened). map without_number ws)
        (sym (ap (λ (ws : List Happened). filter is_start ws) a.since
        ∙ filter-append is_start (since_command b) (e.what ∷ a.more)
        ∙ ap (λ (x : Bool). starts_since b ++ cond x (e.what ∷ filter is_start a.more) (filter is_start a.more)) own))
        ∙ a.started.0
        ∙ ap (λ (x : Answer). cond (is_started x)
        (option_map_or (start_of shape.eager commands a.front c.line) (command_at commands c.line) []) []) so
        ∙ ap (λ (o : Option Command). option_map_or (start_of shape.eager commands a.front c.line) o []) command_is in
        let one = one_only (starts_since b) (filter is_start a.more) e.what
        (start_of shape.eager commands a.front c.line c.command)
        (few_starts shape.eager c.line commands a.front c.command) starts in
        record {
          behind = a;
          is_told = a.is_told ∙ ap (λ (x : Answer). answer_by c.line (event.Ran c.line x)) so
              ∙ ap (λ (x : Bool). cond x (Some answer.Started) None) (and_nothing (c.line == c.line));
          may = subst (λ (x : Answer). answer_of commands a.front c.line c.command ≡ Some (without_bytes x)) so
              (subst (λ (o : Option Command). IsSomeAnd o
              (λ x. answer_of commands a.front c.line x ≡ Some (without_bytes a.answer))) command_is a.answered);
          first = one.0;
          start = one.1;
          not_cancel = λ other. none_before is_cancelling a (no_cancels a.front c.command other
              (subst (λ (o : Option Command). MatchOption o (cancels_since a.front ≡ [])
              (CancelsFor commands a.front)) command_is a.cancelled));
          not_claimed = front_empty (claims_since b) (filter_map line_of_claim (e.what ∷ a.more))
              (sym (ap (λ (ws : List Happened). filter_map line_of_claim ws) a.since
              ∙ filter_map-append line_of_claim (since_command b) (e.what ∷ a.more))
              ∙ a.claimed
              ∙ ap (λ (x : Answer). cond (option_map_or is_matched_probe (command_at commands c.line) false
              && is_seen x) (c.line ∷ []) []) so
              ∙ ap (λ (x : Bool). cond x (c.line ∷ []) [])
              (and_nothing (option_map_or is_matched_probe (command_at commands c.line) false)));
        }
      where
        no_cancels : (front : List Event) (x : Command) → is_canceller x ≡ false → CancelsFor commands front x →
            cancels_since front ≡ []
        no_cancels front (command.Cancel q) other cancels = absurd (false≢true (sym other))
        no_cancels front x other cancels = cancels
