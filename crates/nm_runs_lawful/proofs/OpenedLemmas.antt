-- A receive that is open has its live request, and that stands open. MPI 3.1, 3.5, 3.7.2.
use Rattle.std.proofs.Common.{◌≡◌, ℕ, ◌-◌, ◌==◌, ◌&&◌, ◌||◌, Bool, true, false, cond, Option, Some, None}
use Rattle.std.proofs.Common.{List, [], ◌∷◌, ◌++◌, length, refl, sym, ◌∙◌, ap, subst, append-nil}
use Rattle.std.proofs.Common.{append_assoc}
use Rattle.std.specs.Prelude.{option_and_then, option_map}
use Rattle.std.specs.List.{cons_option, list_any, slice_get}
use Rattle.std.specs.Option.{option_map_or}
use Rattle.std.proofs.lemmas.Bool.{false≢true}
use Rattle.std.proofs.lemmas.List.Folds.{list_any-append}
use Rattle.nm_types.specs.declared.answers.Answer.TheVariants as answer
use Rattle.nm_types.specs.declared.messages.Post as post
use Rattle.nm_types.specs.declared.scripts.Command.{Command}
use Rattle.nm_types.specs.declared.scripts.Command.TheVariants as command
use Rattle.nm_types.specs.declared.scripts.Line.{Line}
use Rattle.nm_types.specs.Commands.{Numbered, command_at, commands_of}
use Rattle.nm_types.specs.Sizes.{Sizes}
use Rattle.nm_types.proofs.ListLemmas.{find_nothing}
use Rattle.nm_types.proofs.NumberLemmas.{eq_true}
use Rattle.nm_types.proofs.OptionLemmas.{same_some}
use Rattle.nm_types.proofs.TruthLemmas.{or_left, or_right}
use Rattle.nm_history.specs.declared.events.Event.{Event}
use Rattle.nm_history.specs.declared.events.Happened.{Happened}
use Rattle.nm_history.specs.declared.events.Happened.TheVariants as event
use Rattle.nm_history.specs.declared.plain.Pair.{Pair}
use Rattle.nm_history.specs.Answers.{is_question_of, is_result, is_start_of, is_started}
use Rattle.nm_history.specs.Answers.{line_after, line_of_name, request_at}
use Rattle.nm_history.specs.Completion.{is_here, pair_of_receive, result_of, shown}
use Rattle.nm_history.specs.Completion.Request.{Receiving}
use Rattle.nm_history.specs.Happens.{happened, is_cancel}
use Rattle.nm_history.specs.Matching.{is_of_receive, is_open, matched_pairs}
use Rattle.nm_history.specs.Quiescence.{Ended, Packets}
use Rattle.nm_history.specs.RankRun.{StartAt, is_start, ran_lines, ran_of, since_command, start_of}
use Rattle.nm_history.specs.RankRun.{starts_since, without_number}
use Rattle.nm_history.specs.Underway.{is_answer}
use Rattle.nm_history.proofs.AnswerLemmas.{line-push}
use Rattle.nm_history.proofs.AppendLemmas.{since_grows}
use Rattle.nm_history.proofs.RankRunLemmas.{ran_lines-push, since-push}
use Rattle.nm_match.proofs.QueueLemmas.{open_means}
use Rattle.nm_outcomes.specs.Due.{IsAnswerOf, IsDue, IsStartOf}
use Rattle.nm_outcomes.specs.Logs.{Step, history_in}
use Rattle.nm_outcomes.specs.Places.{RankPoint}
use Rattle.nm_outcomes.proofs.LogLemmas.{own_run}
use Rattle.nm_lawful.specs.declared.messages.Standing.{Standing}
use Rattle.nm_lawful.specs.declared.messages.Standing.TheVariants as standing
use Rattle.nm_lawful.specs.Moves.{Report}
use Rattle.nm_lawful.specs.Replies.{pattern_lem}
use Rattle.nm_runs_lawful.specs.Stands.{IsRunTold, IsSoFar, is_live_at, line_of, name_of, request_by, standing_of}
use Rattle.nm_runs_lawful.specs.Stands.{taken_by}
use Rattle.nm_runs_lawful.proofs.AlikeLemmas.{live_request, started_at}
use Rattle.nm_runs_lawful.proofs.AnsweredLemmas.{nothing_mapped}
use Rattle.nm_runs_lawful.proofs.CancelLemmas.{any_kept}
use Rattle.nm_runs_lawful.proofs.EffectLemmas.{HasRan, ran_behind}
use Rattle.nm_runs_lawful.proofs.LiveLemmas.{request_from, request_in_start, start_in}
use Rattle.nm_runs_lawful.proofs.OnceLemmas.{due_at, first_here, fresh}
use Rattle.nm_runs_lawful.proofs.ShownLemmas.{front_open}
use Rattle.nm_runs_lawful.proofs.StandingLemmas.{at_event}
use Rattle.nm_runs_lawful.proofs.StayLemmas.{IsRecv, named_still, recv_command}

module _ (shape : Sizes) (lines : List Line) (ranks : List Ended) (packets : List Packets) (told : Report)
    (is : IsRunTold shape lines ranks packets told) (before : List Step) (later : List Step)
    (w : ℕ → RankPoint) (next : IsSoFar shape lines ranks before later w) (i : ℕ)
  where
    abbrev commands : List Numbered
    commands = commands_of i lines

    abbrev h : List Event
    h = history_in before i

    -- A receive that is open.
    module _ (p : post.Post) (line : ℕ) (b : List Event) (e : Event) (t : List Event)
        (split : history_in before i ≡ b ++ e ∷ t) (posted : e.what ≡ event.Post p line)
        (opened : is_open (history_in before i) (matched_pairs (history_in before i)) p ≡ true)
      where
        abbrev number : ℕ
        number = p.number

        abbrev grown : List Event
        grown = b ++ e ∷ []

        abbrev test : Happened → Bool
        test what = option_map_or (λ x. x == line) (line_of what) false

        pub starts : IsStartOf shape.eager (commands_of i lines) b (event.Post p line)
        starts =
            subst (λ (what : Happened). IsDue shape.eager commands b what) posted
            (due_at shape lines ranks packets told is before later w next i b e t split)

        abbrev c : Numbered
        c = starts.command

        pub recv : IsRecv starts.command.line p line starts.command.command
        recv = recv_command shape.eager c.line commands b p line c.command starts.start

        at : line_of e.what ≡ Some line
        at = ap line_of posted

        quiet : is_answer e.what ≡ false
        quiet = ap is_answer posted

        command_is : command_at commands line ≡ Some (command.Recv recv.q p.from p.tag p.ctx p.cap)
        command_is =
            ap (command_at commands) recv.line_is
            ∙ is.commands.stand i (length (ran_lines b)) c starts.next ∙ ap (λ (x : Command). Some x) recv.is

        name_is : option_and_then name_of (command_at commands line) ≡ Some recv.q
        name_is = ap (λ (o : Option Command). option_and_then name_of o) command_is

        -- it has no result at any moment
        open_then : (x more : List Event) → h ≡ x ++ more → is_open x (matched_pairs x) p ≡ true
        open_then x more so =
            front_open x more p (subst (λ (k : List Event). is_open k (matched_pairs k) p ≡ true) so opened)

        no_pair : (x more : List Event) → h ≡ x ++ more → pair_of_receive x number ≡ None
        no_pair x more so =
            find_nothing (is_of_receive number) (matched_pairs x)
            (open_means x (matched_pairs x) p (open_then x more so)).0

        not_off : (x more : List Event) → h ≡ x ++ more → happened (is_cancel number) x ≡ false
        not_off x more so = (open_means x (matched_pairs x) p (open_then x more so)).1

        unended : (x more : List Event) → h ≡ x ++ more → result_of x (Receiving number) ≡ None
        unended x more so =
            ap (λ (z : Bool). cond z (Some answer.Cancelled)
            (option_and_then (λ (pair : Pair). cond (is_here x pair) (Some (shown pair)) None)
            (pair_of_receive x number))) (not_off x more so)
            ∙ ap (λ (o : Option Pair). option_and_then
            (λ (pair : Pair). cond (is_here x pair) (Some (shown pair)) None) o) (no_pair x more so)

        begun : list_any test (since_command grown) ≡ true
        begun =
            ap (λ (ws : List Happened). list_any test ws)
            (since-push b e ∙ since_grows (since_command b) e.what quiet)
            ∙ list_any-append test (since_command b) (e.what ∷ [])
            ∙ or_right (list_any test (since_command b)) (test e.what || false)
            (or_left (test e.what) false
            (ap (λ (o : Option ℕ). option_map_or (λ x. x == line) o false) at ∙ eq_true line line refl))

        starts_so : (z : Happened) → test z ≡ true → is_start z ≡ true
        starts_so (event.Send to n tag ctx len how own) so = refl
        starts_so (event.Post x own) so = refl
        starts_so (event.Match k from n cap own) so = refl
        starts_so z so = absurd (false≢true so)

        -- where its command has answered
        module _ (found : HasRan grown t) where
          abbrev front : List Event
          front = grown ++ found.mid

          ran_split : h ≡ front ++ found.ran ∷ found.rest
          ran_split =
              split ∙ sym (append_assoc b (e ∷ []) t) ∙ ap (λ (x : List Event). grown ++ x) found.split
              ∙ sym (append_assoc grown found.mid (found.ran ∷ found.rest))

          line_is : found.line ≡ line
          line_is =
              let due_then : IsAnswerOf commands front found.line =
              subst (λ (what : Happened). IsDue shape.eager commands front what) found.is_ran
              (due_at shape lines ranks packets told is before later w next i front found.ran found.rest ran_split) in
              sym due_then.line_is
              ∙ ap (λ (d : Numbered). d.line)
              (same_some due_then.command c (sym due_then.next
              ∙ ap (λ (ls : List ℕ). slice_get commands (length ls))
              (found.lines ∙ ran_lines-push b e
              ∙ ap (λ (what : Happened). ran_lines b ++ cons_option (ran_of what) []) posted
              ∙ append-nil (ran_lines b)) ∙ starts.next))
              ∙ sym recv.line_is

          is_ran : found.ran.what ≡ event.Ran line found.answer
          is_ran = found.is_ran ∙ ap (λ (x : ℕ). event.Ran x found.answer) line_is

          some : list_any test (starts_since front) ≡ true
          some =
              any_kept is_start test starts_so (since_command front)
              ∙ ap (λ (ws : List Happened). list_any test ws) found.since
              ∙ list_any-append test (since_command grown) found.more
              ∙ or_left (list_any test (since_command grown)) (list_any test found.more) begun

          started : is_started found.answer ≡ true
          started = by_started (is_started found.answer) refl
            where
              by_started : (x : Bool) → is_started found.answer ≡ x → x ≡ true
              by_started true so = refl
              by_started false so =
                  absurd (false≢true (sym (ap (λ (ws : List Happened). list_any test ws)
                  (nothing_mapped without_number (starts_since front)
                  ((subst (λ (what : Happened). StartAt shape.eager commands front what) is_ran
                  (at_event shape lines ranks packets told is before later w next i
                  (λ b e. StartAt shape.eager commands b e.what)
                  (own_run shape lines ranks packets is.run i).starts.made front found.ran found.rest ran_split)).0
                  ∙ ap (λ (x : Bool). cond x
                  (option_map_or (start_of shape.eager commands front line) (command_at commands line) []) []) so)))
                  ∙ some))

          abbrev behind : List Event
          behind = front ++ found.ran ∷ []

          stands : line_of_name commands behind recv.q ≡ Some line
          stands =
              line-push commands front found.ran recv.q
              ∙ ap (line_after commands recv.q (line_of_name commands front recv.q)) is_ran
              ∙ ap (λ (o : Option Command). cond (option_map_or (is_start_of recv.q) o false && is_started found.answer)
              (Some line)
              (cond (option_map_or (is_question_of recv.q) (command_at commands line) false && is_result found.answer)
              None (line_of_name commands front recv.q))) command_is
              ∙ ap (λ (x : Bool). cond (x && is_started found.answer) (Some line)
              (cond (option_map_or (is_question_of recv.q) (command_at commands line) false && is_result found.answer)
              None (line_of_name commands front recv.q))) (eq_true recv.q recv.q refl)
              ∙ ap (λ (x : Bool). cond x (Some line)
              (cond (option_map_or (is_question_of recv.q) (command_at commands line) false && is_result found.answer)
              None (line_of_name commands front recv.q))) started

          behind_is : behind ≡ b ++ e ∷ (found.mid ++ found.ran ∷ [])
          behind_is =
              ap (λ (x : List Event). x ++ found.ran ∷ []) (append_assoc b (e ∷ []) found.mid)
              ∙ append_assoc b (e ∷ found.mid) (found.ran ∷ [])

          request : request_at behind line ≡ Some (Receiving number)
          request =
              request_in_start line behind
              ∙ ap (λ (o : Option Happened). option_map request_from o)
              (ap (λ (x : List Event). start_in line x) behind_is
              ∙ first_here line b e (found.mid ++ found.ran ∷ []) at
              (fresh shape lines ranks packets told is before later w next i b e t split line at
              (subst (λ (what : Happened). IsStartOf shape.eager commands b what) (sym posted) starts)))
              ∙ ap (λ (what : Happened). Some (request_from what)) posted

          named_so : (w i).named recv.q ≡ Some line
          named_so =
              named_still shape lines ranks packets told is before later w next i recv.q line (Receiving number) behind
              request (λ z rest so. unended (behind ++ z) rest so) found.rest
              (ran_split ∙ sym (append_assoc front (found.ran ∷ []) found.rest)) stands

        pub live_open : is_live_at (w i) recv.q line ≡ true
        live_open = by_since (list_any test (since_command h)) refl
          where
            by_since : (x : Bool) → list_any test (since_command h) ≡ x → is_live_at (w i) recv.q line ≡ true
            by_since true so =
                or_right (option_map_or (λ x. x == line) ((w i).named recv.q) false) (list_any test (w i).begun)
                (ap (λ (ws : List Happened). list_any test ws) (next.places i).begun
                ∙ any_kept is_start test starts_so (since_command h) ∙ so)
            by_since false so =
                or_left (option_map_or (λ x. x == line) ((w i).named recv.q) false) (list_any test (w i).begun)
                (ap (λ (o : Option ℕ). option_map_or (λ x. x == line) o false)
                (named_so (ran_behind test grown t begun
                (ap (λ (x : List Event). list_any test (since_command x)) (append_assoc b (e ∷ []) t ∙ sym split)
                ∙ so)))
                ∙ eq_true line line refl)

        abbrev pub opened_so : Standing
        opened_so = standing.Open (pattern_lem p.from p.tag p.ctx) p.cap

        -- its request is there, and open
        pub request_open : request_by (commands_of i lines) w i (event.Post p line)
            ≡ Some (record { q = recv.q; place = line - 2; standing = opened_so })
        request_open =
            ap (λ (o : Option ℕ). option_and_then
            (λ (x : ℕ). live_request (w i) (standing_of commands w i (event.Post p line)) line x) o) name_is
            ∙ ap (λ (x : Bool). cond x (started_at (standing_of commands w i (event.Post p line)) line recv.q) None)
            live_open
            ∙ ap (λ (x : Bool). started_at (cond x standing.Off (taken_by w i ((w i).pairs number) opened_so)) line
            recv.q) ((next.places i).off number ∙ not_off h [] (sym (append-nil h)))
            ∙ ap (λ (o : Option Pair). started_at (taken_by w i o opened_so) line recv.q)
            ((next.places i).pairs number ∙ no_pair h [] (sym (append-nil h)))
