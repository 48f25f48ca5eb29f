-- A cancel takes effect. MPI 3.1, 3.8.4.
use Rattle.std.proofs.Common.{◌≡◌, ℕ, ◌-◌, ◌||◌, Bool, true, false, cond, Option, Some, None, List, []}
use Rattle.std.proofs.Common.{◌∷◌, ◌++◌, refl, sym, ◌∙◌, ap, subst}
use Rattle.std.specs.Prelude.{IsSomeAnd, MatchOption}
use Rattle.std.specs.List.{filter, list_any}
use Rattle.std.specs.Option.{option_map_or}
use Rattle.std.proofs.lemmas.Bool.{false≢true}
use Rattle.std.proofs.lemmas.List.Folds.{list_any-append}
use Rattle.nm_types.specs.declared.answers.Answer.{Answer}
use Rattle.nm_types.specs.declared.answers.Answer.TheVariants as answer
use Rattle.nm_types.specs.declared.scripts.Command.{Command}
use Rattle.nm_types.specs.declared.scripts.Command.TheVariants as command
use Rattle.nm_types.specs.declared.scripts.Line.{Line}
use Rattle.nm_types.specs.Commands.{Numbered, command_at, commands_of}
use Rattle.nm_types.specs.Sizes.{Sizes}
use Rattle.nm_types.proofs.NumberLemmas.{eq_true}
use Rattle.nm_types.proofs.TruthLemmas.{or_left, or_right}
use Rattle.nm_history.specs.declared.events.Event.{Event}
use Rattle.nm_history.specs.declared.events.Happened.{Happened}
use Rattle.nm_history.specs.declared.events.Happened.TheVariants as event
use Rattle.nm_history.specs.Answers.{answer_of, cancel_answer, is_started, live, without_bytes}
use Rattle.nm_history.specs.Completion.{Request as asked}
use Rattle.nm_history.specs.Happens.{happened}
use Rattle.nm_history.specs.Quiescence.{Ended, Packets, history_of}
use Rattle.nm_history.specs.RankRun.{CancelsFor, CancelsOf, cancels_since, is_cancelling, is_start, since_after}
use Rattle.nm_history.specs.RankRun.{since_command}
use Rattle.nm_history.specs.RankRun.{start_of, starts_since, without_number}
use Rattle.nm_history.specs.Underway.{is_answer}
use Rattle.nm_history.proofs.AppendLemmas.{happened-push}
use Rattle.nm_history.proofs.AtEachLemmas.{AtEach-from_splits}
use Rattle.nm_history.proofs.RankRunLemmas.{since-push}
use Rattle.nm_outcomes.specs.Due.{IsCancelOf}
use Rattle.nm_outcomes.specs.Logs.{Step, history_in}
use Rattle.nm_outcomes.specs.Moves.{request_now}
use Rattle.nm_outcomes.specs.Paths.{moved}
use Rattle.nm_outcomes.specs.Places.{RankPoint}
use Rattle.nm_outcomes.proofs.HappenedLemmas.{history_induction}
use Rattle.nm_outcomes.proofs.LogLemmas.{own_run}
use Rattle.nm_outcomes.proofs.MoveLemmas.{request_is}
use Rattle.nm_lawful.specs.declared.messages.Act.{Act}
use Rattle.nm_lawful.specs.declared.messages.Request.{Request}
use Rattle.nm_lawful.specs.Moves.{Report, told_at_lem}
use Rattle.nm_lawful.specs.Ranks.{live_lem}
use Rattle.nm_lawful.specs.Replies.{act_of_lem, cancelled_at_lem, nulled_lem}
use Rattle.nm_runs_lawful.specs.Runs.{answer_by}
use Rattle.nm_runs_lawful.specs.Stands.{IsNext, IsRunTold}
use Rattle.nm_runs_lawful.specs.Stands.{rank_of, state_of}
use Rattle.nm_runs_lawful.proofs.AnsweredLemmas.{nothing_mapped}
use Rattle.nm_runs_lawful.proofs.EffectLemmas.{HasAnswer, answer_behind, command_is, none_before}
use Rattle.nm_runs_lawful.proofs.ToldLemmas.{step_split}

-- what passes is kept
pub any_kept : (keep test : Happened → Bool) → ((x : Happened) → test x ≡ true → keep x ≡ true) → (ws : List Happened) →
    list_any test (filter keep ws) ≡ list_any test ws
any_kept keep test passes [] = refl
any_kept keep test passes (x ∷ ws) = by_keep (keep x) refl (any_kept keep test passes ws)
  where
    failed : keep x ≡ false → (b : Bool) → test x ≡ b → b ≡ false
    failed not_kept false is = refl
    failed not_kept true is = absurd (false≢true (sym not_kept ∙ passes x is))

    by_keep : (b : Bool) → keep x ≡ b → list_any test (filter keep ws) ≡ list_any test ws →
        list_any test (cond b (x ∷ filter keep ws) (filter keep ws)) ≡ (test x || list_any test ws)
    by_keep true is rest = ap (λ (b : Bool). test x || b) rest
    by_keep false is rest = rest ∙ sym (ap (λ (b : Bool). b || list_any test ws) (failed is (test x) refl))

-- what happened since the last answer happened
pub since_happened : (test : Happened → Bool) (h : List Event) → list_any test (since_command h) ≡ true →
    happened test h ≡ true
since_happened test h =
    history_induction (λ b e. Unit {0})
    (λ h. list_any test (since_command h) ≡ true → happened test h ≡ true) (λ h e was any. grow h e was)
    (λ none. absurd (false≢true none)) h (AtEach-from_splits (λ b e. Unit {0}) h (λ b e t split. tt))
  where
    grow : (h : List Event) (e : Event) → (list_any test (since_command h) ≡ true → happened test h ≡ true) →
        list_any test (since_command (h ++ e ∷ [])) ≡ true → happened test (h ++ e ∷ []) ≡ true
    grow h e was some =
        happened-push test h e
        ∙ by_event e.what refl (sym (ap (λ (ws : List Happened). list_any test ws) (since-push h e)) ∙ some)
      where
        either : (a b x y : Bool) → (a ≡ true → x ≡ true) → b ≡ y → (a || (b || false)) ≡ true → (x || y) ≡ true
        either true b x y first same some = or_left x y (first refl)
        either false true x y first same some = or_right x y (sym same)
        either false false x y first same some = absurd (false≢true some)

        by_event : (what : Happened) → e.what ≡ what → list_any test (since_after (since_command h) what) ≡ true →
            (happened test h || test e.what) ≡ true
        by_event (event.Ran line a) is some = absurd (false≢true some)
        by_event what is some =
            either (list_any test (since_command h)) (test what) (happened test h) (test e.what) was
            (ap test (sym is))
            (sym (list_any-append test (since_command h) (what ∷ [])) ∙ some)

-- the answer of a cancel is told
answer_told : (line : ℕ) (a : Answer) → is_started a ≡ false → answer_by line (event.Ran line a) ≡ Some a
answer_told line a plain = rw (eq_true line line refl, plain) refl

module _ (shape : Sizes) (lines : List Line) (ranks : List Ended) (packets : List Packets) (told : Report)
    (is : IsRunTold shape lines ranks packets told) (before : List Step) (s : Step) (later : List Step)
    (w : ℕ → RankPoint) (next : IsNext shape lines ranks before s later w)
  where
    abbrev i : ℕ
    i = s.rank

    abbrev commands : List Numbered
    commands = commands_of s.rank lines

    abbrev h : List Event
    h = history_in before s.rank

    abbrev v : ℕ → RankPoint
    v = moved lines w s

    abbrev whole_is : history_of ranks s.rank ≡ h ++ s.event ∷ history_in later s.rank
    whole_is = step_split shape lines ranks packets told is before later s next.so_far.whole

    -- a cancel of a request, by an event that is of it
    module _ (r : asked) (due : IsCancelOf (commands_of s.rank lines) (history_in before s.rank) r)
        (quiet : is_answer s.event.what ≡ false) (test : Happened → Bool)
        (passes : (x : Happened) → test x ≡ true → is_cancelling x ≡ true) (own : test s.event.what ≡ true)
      where
        abbrev pub c : Numbered
        c = due.command

        abbrev pub Behind : Type 0
        Behind = HasAnswer shape lines ranks packets told is i h s.event (history_in later i) whole_is c due.next quiet

        pub behind : Behind
        behind =
            answer_behind shape lines ranks packets told is i h s.event (history_in later i) whole_is c due.next quiet
            is_cancelling test passes own (own_run shape lines ranks packets is.run i).cancels.no_others

        pub calls : command_at commands c.line ≡ Some (command.Cancel due.name)
        calls =
            command_is shape lines ranks packets told is i h s.event (history_in later i) whole_is c due.next quiet
            ∙ ap (λ (x : Command). Some x) due.cancels

        pub cancels_of : CancelsOf behind.front (live commands behind.front due.name)
        cancels_of =
            subst (λ (o : Option Command). MatchOption o (cancels_since behind.front ≡ [])
            (CancelsFor commands behind.front)) calls behind.cancelled

        pub answers : Some (option_map_or (cancel_answer behind.front)
            (live commands behind.front due.name) answer.Null)
            ≡ Some (without_bytes behind.answer)
        answers =
            subst (λ (o : Option Command). IsSomeAnd o
            (λ x. answer_of commands behind.front c.line x ≡ Some (without_bytes behind.answer))) calls behind.answered

        pub some : list_any test (cancels_since behind.front) ≡ true
        some =
            any_kept is_cancelling test passes (since_command behind.front)
            ∙ ap (λ (ws : List Happened). list_any test ws) behind.since
            ∙ list_any-append test (since_command h) (s.event.what ∷ behind.more)
            ∙ or_right (list_any test (since_command h)) (test s.event.what || list_any test behind.more)
            (or_left (test s.event.what) (list_any test behind.more) own)

        pub no_start : is_started behind.answer ≡ false → starts_since h ≡ []
        no_start plain =
            none_before shape lines ranks packets told is i h s.event (history_in later i) whole_is c due.next quiet
            is_start behind
            (nothing_mapped without_number (starts_since behind.front)
            (behind.started.0
            ∙ ap (λ (b : Bool). cond b
            (option_map_or (start_of shape.eager commands behind.front c.line) (command_at commands c.line) []) [])
            plain))

        pub now : request_now (w i) due.name ≡ Some r
        now = request_is i commands h (w i) (next.so_far.places i) due.name ∙ due.live_is

        pub told_is : (a : Answer) → behind.answer ≡ a → is_started a ≡ false →
            told_at_lem told None (c.line - 2) ≡ Some a
        told_is a same plain =
            behind.is_told ∙ ap (λ (x : Answer). answer_by c.line (event.Ran c.line x)) same
            ∙ answer_told c.line a plain

        -- the machine cancels so
        pub cancel_acts : (a : Answer) (told_so : told_at_lem told None (c.line - 2) ≡ Some a) (x : Request) →
            live_lem (rank_of lines w (history_in before) i) due.name ≡ Some x →
            (does : Act) → cancelled_at_lem x.place x.standing a ≡ Some does →
            act_of_lem lines (state_of shape.ranks lines w before) i (rank_of lines w (history_in before) i)
            (c.line - 2) c.command (told_at_lem told None (c.line - 2)) ≡ Some does
        cancel_acts a told_so x lives does at =
            ap (λ (o : Option Answer). act_of_lem lines (state_of shape.ranks lines w before) i
            (rank_of lines w (history_in before) i) (c.line - 2) c.command o) told_so
            ∙ ap (λ (x : Command). act_of_lem lines (state_of shape.ranks lines w before) i
            (rank_of lines w (history_in before) i) (c.line - 2) x (Some a)) due.cancels
            ∙ ap (λ (o : Option Request). option_map_or (λ r. cancelled_at_lem r.place r.standing a) o
            (nulled_lem a)) lives
            ∙ at
