-- A send or a receive takes effect: its line is new, and so is its request. MPI 3.1, 3.7.2.
use Rattle.std.proofs.Common.{◌≡◌, ℕ, ◌-◌, ◌==◌, ◌||◌, Bool, true, false, cond, Option, Some, None, List, [], ◌∷◌}
use Rattle.std.proofs.Common.{◌++◌, refl, sym, ◌∙◌, ap, subst, arith}
use Rattle.std.specs.Prelude.{option_and_then}
use Rattle.std.specs.List.{list_any}
use Rattle.std.specs.Option.{option_map_or}
use Rattle.std.proofs.lemmas.Bool.{false≢true}
use Rattle.std.proofs.lemmas.List.Folds.{list_any-append}
use Rattle.nm_types.specs.declared.scripts.Command.{Command}
use Rattle.nm_types.specs.declared.scripts.Command.TheVariants as command
use Rattle.nm_types.specs.declared.scripts.Line.{Line}
use Rattle.nm_types.specs.Commands.{Numbered, command_at, commands_of}
use Rattle.nm_types.specs.Sizes.{Sizes}
use Rattle.nm_types.proofs.NumberLemmas.{eq_true, same_number}
use Rattle.nm_types.proofs.TruthLemmas.{not_true, or_left, or_right}
use Rattle.nm_history.specs.declared.events.Event.{Event}
use Rattle.nm_history.specs.declared.events.Happened.{Happened}
use Rattle.nm_history.specs.AtEach.{AtEach}
use Rattle.nm_history.specs.Quiescence.{Ended, Packets, history_of}
use Rattle.nm_history.specs.RankRun.{StartAt, cancels_since, is_canceller, is_start, ran_lines, start_of}
use Rattle.nm_history.specs.RankRun.{without_number}
use Rattle.nm_history.specs.Underway.{is_answer}
use Rattle.nm_history.proofs.Basic.{or_false}
use Rattle.nm_history.proofs.EachLemmas.{AtEach-prefix}
use Rattle.nm_outcomes.specs.Due.{IsNextCommand}
use Rattle.nm_outcomes.specs.Logs.{Step, history_in}
use Rattle.nm_outcomes.specs.Paths.{moved}
use Rattle.nm_outcomes.specs.Places.{RankPoint}
use Rattle.nm_outcomes.proofs.LogLemmas.{at_of, own_run}
use Rattle.nm_lawful.specs.Moves.{Report}
use Rattle.nm_runs_lawful.specs.Stands.{IsNext, IsRunTold, is_live_at, line_of, name_of, request_by, standing_of}
use Rattle.nm_runs_lawful.proofs.AlikeLemmas.{live_request}
use Rattle.nm_runs_lawful.proofs.EffectLemmas.{IsStartAnswered, command_is, start_answered}
use Rattle.nm_runs_lawful.proofs.HandleLemmas.{not_yet}
use Rattle.nm_runs_lawful.proofs.OnceLemmas.{lines_known}
use Rattle.nm_runs_lawful.proofs.ToldLemmas.{step_split}

module _ (shape : Sizes) (lines : List Line) (ranks : List Ended) (packets : List Packets) (told : Report)
    (is : IsRunTold shape lines ranks packets told) (before : List Step) (s : Step) (later : List Step)
    (w : ℕ → RankPoint) (next : IsNext shape lines ranks before s later w) (c : Numbered)
    (due : IsNextCommand (commands_of s.rank lines) (history_in before s.rank) c)
    (at : line_of s.event.what ≡ Some c.line) (quiet : is_answer s.event.what ≡ false)
    (own : is_start s.event.what ≡ true)
  where
    abbrev i : ℕ
    i = s.rank

    abbrev commands : List Numbered
    commands = commands_of s.rank lines

    abbrev h : List Event
    h = history_in before s.rank

    abbrev whole_is : history_of ranks i ≡ h ++ s.event ∷ history_in later i
    whole_is = step_split shape lines ranks packets told is before later s next.so_far.whole

    pub begin_answered : IsStartAnswered shape lines ranks packets told is s.rank (history_in before s.rank) s.event
        (history_in later s.rank) (step_split shape lines ranks packets told is before later s next.so_far.whole) c
        due quiet
    begin_answered =
        start_answered shape lines ranks packets told is i h s.event (history_in later i) whole_is c due quiet own

    pub command_here : command_at (commands_of s.rank lines) c.line ≡ Some c.command
    command_here = command_is shape lines ranks packets told is i h s.event (history_in later i) whole_is c due quiet

    pub begun_none : (w s.rank).begun ≡ []
    begun_none = (next.so_far.places i).begun ∙ begin_answered.first

    pub no_cancels : cancels_since (history_in before s.rank) ≡ []
    no_cancels =
        begin_answered.not_cancel (by_command c.command begin_answered.behind.front begin_answered.start)
      where
        by_command : (x : Command) (front : List Event) →
            without_number s.event.what ∷ [] ≡ start_of shape.eager commands front c.line x →
            is_canceller x ≡ false
        by_command (command.Cancel q) front start = absurd (grind arith)
        by_command x front start = refl

    -- no earlier event starts the line
    fresh_line : list_any (λ (e : Event). option_map_or (λ l. l == c.line) (line_of e.what) false) h ≡ false
    fresh_line =
        not_true (list_any (λ (e : Event). option_map_or (λ l. l == c.line) (line_of e.what) false) h)
        (λ some. false≢true (sym (rw (not_ran, begin_answered.first) refl)
        ∙ lines_known shape.eager commands h starts_now c.line some))
      where
        not_ran : list_any (λ l. l == c.line) (ran_lines h) ≡ false
        not_ran =
            not_yet i lines (at_of shape lines ranks packets is.run i) (history_of ranks i) h
            (s.event ∷ history_in later i) c (own_run shape lines ranks packets is.run i).answers whole_is due

        starts_now : AtEach (λ b e. StartAt shape.eager commands b e.what) h
        starts_now =
            AtEach-prefix (λ b e. StartAt shape.eager commands b e.what) h (s.event ∷ history_in later i)
            (subst (λ (k : List Event). AtEach (λ b e. StartAt shape.eager commands b e.what) k) whole_is
            (own_run shape lines ranks packets is.run i).starts.made)

    pub other_line : (b : List Event) (e : Event) (t : List Event) → history_in before s.rank ≡ b ++ e ∷ t → (l : ℕ) →
        line_of e.what ≡ Some l → (l == c.line) ≡ false
    other_line b e t split l of =
        not_true (l == c.line) (λ same. false≢true (sym fresh_line
        ∙ ap (λ (k : List Event). list_any is_at k) split ∙ list_any-append is_at b (e ∷ t)
        ∙ or_right (list_any is_at b) (is_at e || list_any is_at t)
        (or_left (is_at e) (list_any is_at t)
        (ap (λ (o : Option ℕ). option_map_or (λ l. l == c.line) o false) of ∙ same))))
      where
        is_at : Event → Bool
        is_at e = option_map_or (λ l. l == c.line) (line_of e.what) false

    -- the names are the same, and the event is what has begun
    module _ (named : (q : ℕ) → (moved lines w s s.rank).named q ≡ (w s.rank).named q)
        (begun : (moved lines w s s.rank).begun ≡ (w s.rank).begun ++ s.event.what ∷ [])
      where
        abbrev v : ℕ → RankPoint
        v = moved lines w s

        stands : (q l : ℕ) → is_live_at (v i) q l
            ≡ (option_map_or (λ x. x == l) ((w i).named q) false || (c.line == l))
        stands q l =
            ap (λ (o : Option ℕ). option_map_or (λ x. x == l) o false
            || list_any (λ what. option_map_or (λ x. x == l) (line_of what) false) (v i).begun) (named q)
            ∙ ap (λ (ws : List Happened). option_map_or (λ x. x == l) ((w i).named q) false
            || list_any (λ what. option_map_or (λ x. x == l) (line_of what) false) ws)
            (begun ∙ ap (λ (ws : List Happened). ws ++ s.event.what ∷ []) begun_none)
            ∙ ap (λ (o : Option ℕ). option_map_or (λ x. x == l) ((w i).named q) false
            || (option_map_or (λ x. x == l) o false || false)) at
            ∙ ap (λ (b : Bool). option_map_or (λ x. x == l) ((w i).named q) false || b) (or_false (c.line == l))

        stood : (q l : ℕ) → is_live_at (w i) q l ≡ option_map_or (λ x. x == l) ((w i).named q) false
        stood q l =
            ap (λ (ws : List Happened). option_map_or (λ x. x == l) ((w i).named q) false
            || list_any (λ what. option_map_or (λ x. x == l) (line_of what) false) ws) begun_none
            ∙ or_false (option_map_or (λ x. x == l) ((w i).named q) false)

        -- the other names are live as before
        pub live_others : (q l : ℕ) → (l == c.line) ≡ false →
            is_live_at (moved lines w s s.rank) q l ≡ is_live_at (w s.rank) q l
        live_others q l other =
            stands q l
            ∙ ap (λ (b : Bool). option_map_or (λ x. x == l) ((w i).named q) false || b)
            (not_true (c.line == l) (λ same. false≢true (sym other ∙ eq_true l c.line
            (sym (same_number c.line l same)))))
            ∙ or_false (option_map_or (λ x. x == l) ((w i).named q) false) ∙ sym (stood q l)

        live_new : (q : ℕ) → is_live_at (v i) q c.line ≡ true
        live_new q =
            stands q c.line
            ∙ or_right (option_map_or (λ x. x == c.line) ((w i).named q) false) (c.line == c.line)
            (eq_true c.line c.line refl)

        -- the new request
        pub request_new : (q : ℕ) → name_of c.command ≡ Some q →
            request_by (commands_of s.rank lines) (moved lines w s) s.rank s.event.what
            ≡ Some (record {
              q = q;
              place = c.line - 2;
              standing = standing_of (commands_of s.rank lines) (moved lines w s) s.rank s.event.what;
            })
        request_new q names =
            ap (λ (o : Option ℕ). option_and_then (λ (line : ℕ). option_and_then
            (λ (q : ℕ). live_request (v i) (standing_of commands v i s.event.what) line q)
            (option_and_then name_of (command_at commands line))) o) at
            ∙ ap (λ (o : Option Command). option_and_then
            (λ (q : ℕ). live_request (v i) (standing_of commands v i s.event.what) c.line q)
            (option_and_then name_of o)) command_here
            ∙ ap (λ (o : Option ℕ). option_and_then
            (λ (q : ℕ). live_request (v i) (standing_of commands v i s.event.what) c.line q) o) names
            ∙ ap (λ (b : Bool). cond b (Some (record {
              q = q;
              place = c.line - 2;
              standing = standing_of commands v i s.event.what;
            })) None) (live_new q)
