-- An answer that a send or a receive has started, of which the machine learned by the start. MPI 3.1, 3.7.2.
use Rattle.std.proofs.Common.{◌≡◌, ℕ, ◌==◌, ◌&&◌, ◌||◌, Bool, true, false, cond, Option, Some, None, List, []}
use Rattle.std.proofs.Common.{◌∷◌, ◌++◌, map, refl, sym, ◌∙◌, ap, subst, arith, append-nil}
use Rattle.std.specs.Prelude.{is_some, option_and_then, option_map}
use Rattle.std.specs.List.{cons_option, filter_map, list_any, slice_get}
use Rattle.std.specs.Option.{option_map_or}
use Rattle.std.proofs.lemmas.Bool.{false≢true}
use Rattle.nm_types.specs.declared.answers.Answer.TheVariants as answer
use Rattle.nm_types.specs.declared.messages.Peer.{Peer}
use Rattle.nm_types.specs.declared.messages.TagPick.{TagPick}
use Rattle.nm_types.specs.declared.scripts.Body.{Body}
use Rattle.nm_types.specs.declared.scripts.Command.{Command}
use Rattle.nm_types.specs.declared.scripts.Command.TheVariants as command
use Rattle.nm_types.specs.declared.scripts.Line.{Line}
use Rattle.nm_types.specs.Commands.{Numbered, command_at, commands_of}
use Rattle.nm_types.specs.Sizes.{Sizes}
use Rattle.nm_types.proofs.NumberLemmas.{eq_true, same_number}
use Rattle.nm_types.proofs.OptionLemmas.{same_some}
use Rattle.nm_types.proofs.TruthLemmas.{not_true}
use Rattle.nm_history.specs.declared.events.Event.{Event}
use Rattle.nm_history.specs.declared.events.Happened.{Happened}
use Rattle.nm_history.specs.declared.events.Happened.TheVariants as event
use Rattle.nm_history.specs.Answers.{is_claim_for, is_question_of, is_receive_of, is_start_of, line_after, request_at}
use Rattle.nm_history.specs.Completion.{Request as asked}
use Rattle.nm_history.specs.Quiescence.{Ended, Packets}
use Rattle.nm_history.specs.RankRun.{StartAt, is_cancelling, is_start, since_command, start_of, starts_since}
use Rattle.nm_history.specs.RankRun.{without_number}
use Rattle.nm_history.proofs.Basic.{all_of, or_false}
use Rattle.nm_history.proofs.Lasting.{by_splits}
use Rattle.nm_outcomes.specs.Logs.{Step, history_in}
use Rattle.nm_outcomes.specs.Moves.{MayAnswer, request_now}
use Rattle.nm_outcomes.specs.Paths.{moved}
use Rattle.nm_outcomes.specs.Places.{RankPoint, after}
use Rattle.nm_outcomes.proofs.LogLemmas.{grown_here}
use Rattle.nm_lawful.specs.Moves.{Report}
use Rattle.nm_lawful.specs.Ranks.{RankState}
use Rattle.nm_runs_lawful.specs.Stands.{IsNext, IsRunTold, OwnAlike, SeenAlike, StepLeads, behind, claim_by, effects}
use Rattle.nm_runs_lawful.specs.Stands.{is_begun}
use Rattle.nm_runs_lawful.specs.Stands.{is_live_at, is_match_of, line_of, message_by, name_of, rank_of, request_by}
use Rattle.nm_runs_lawful.specs.Stands.{standing_of}
use Rattle.nm_runs_lawful.proofs.AlikeLemmas.{claim_alike, rows_kept}
use Rattle.nm_runs_lawful.proofs.AnsweredLemmas.{and_nothing, begun_effects, here, ran_effects}
use Rattle.nm_runs_lawful.proofs.ChangeLemmas.{grown_map, request_as, row_is, standing_as}
use Rattle.nm_runs_lawful.proofs.EndedLemmas.{moved_other, moved_own, moved_seen, ran_seen}
use Rattle.nm_runs_lawful.proofs.LiveLemmas.{request_from, request_in_start, start_at}
use Rattle.nm_runs_lawful.proofs.NamedLemmas.{command_due, may_here}
use Rattle.nm_runs_lawful.proofs.OwnLemmas.{message_seen, pending_seen}
use Rattle.nm_runs_lawful.proofs.QuietLemmas.{first_alone}
use Rattle.nm_runs_lawful.proofs.StepLemmas.{no_first, some_first}

-- a list of which one event is made
one_of : (ws : List Happened) (x : Happened) → map without_number ws ≡ x ∷ [] →
    (y : Happened) × (ws ≡ y ∷ []) × (without_number y ≡ x)
one_of [] x is = absurd (grind arith)
one_of (y ∷ []) x is = (y, refl, cc)
one_of (y ∷ z ∷ ws) x is = absurd (grind arith)

same_line : (what : Happened) → line_of (without_number what) ≡ line_of what
same_line (event.Send to n tag ctx len how line) = refl
same_line (event.Post p line) = refl
same_line (event.Match number from n cap line) = refl
same_line what = refl

pub same_match : (from n : ℕ) (what : Happened) → is_match_of from n (without_number what) ≡ is_match_of from n what
same_match from n (event.Send to k tag ctx len how line) = refl
same_match from n (event.Post p line) = refl
same_match from n (event.Match number f k cap line) = refl
same_match from n what = refl

-- a line that an event starts has a request
has_request : (b later : List Event) (e : Event) (line : ℕ) → line_of e.what ≡ Some line →
    is_some (request_at (b ++ e ∷ later) line) ≡ true
has_request b later e line starts =
    ap (λ (o : Option asked). is_some o) (request_in_start line (b ++ e ∷ later))
    ∙ by_start (slice_get (filter_map (λ (e : Event). start_at line e.what) (b ++ e ∷ later)) 0)
    ∙ among b
  where
    by_start : (o : Option Happened) → is_some (option_map request_from o) ≡ is_some o
    by_start None = refl
    by_start (Some what) = refl

    own : start_at line e.what ≡ Some e.what
    own =
        ap (λ (o : Option ℕ). option_and_then (λ l. cond (l == line) (Some e.what) None) o) starts
        ∙ ap (λ (b : Bool). cond b (Some e.what) None) (eq_true line line refl)

    more : (o : Option Happened) (xs : List Happened) → is_some (slice_get xs 0) ≡ true →
        is_some (slice_get (cons_option o xs) 0) ≡ true
    more None xs some = some
    more (Some what) xs some = refl

    among : (b : List Event) →
        is_some (slice_get (filter_map (λ (e : Event). start_at line e.what) (b ++ e ∷ later)) 0) ≡ true
    among [] =
        ap (λ (o : Option Happened). is_some (slice_get (cons_option o
        (filter_map (λ (e : Event). start_at line e.what) later)) 0)) own
    among (x ∷ b) =
        more (start_at line x.what) (filter_map (λ (e : Event). start_at line e.what) (b ++ e ∷ later)) (among b)

module _ (shape : Sizes) (lines : List Line) (ranks : List Ended) (packets : List Packets) (told : Report)
    (is : IsRunTold shape lines ranks packets told) (before : List Step) (s : Step) (later : List Step)
    (w : ℕ → RankPoint) (next : IsNext shape lines ranks before s later w) (line : ℕ)
    (ran : s.event.what ≡ event.Ran line answer.Started)
  where
    abbrev i : ℕ
    i = s.rank

    abbrev commands : List Numbered
    commands = commands_of s.rank lines

    abbrev v : ℕ → RankPoint
    v = moved lines w s

    abbrev h : List Event
    h = history_in before s.rank

    abbrev due_command : Command
    due_command = command_due shape lines ranks packets told is before s later w next line answer.Started ran

    -- the command starts a request of this name, and its start is known
    module _ (c : Command) (calls : due_command ≡ c) (q : ℕ) (names : name_of c ≡ Some q)
        (starts : (name : ℕ) → is_start_of name c ≡ (q == name))
        (free : request_now (w i) q ≡ None) (start : Happened)
        (made : start_of shape.eager commands h line c ≡ start ∷ []) (of_line : line_of start ≡ Some line)
      where
        pub command_is : command_at commands line ≡ Some c
        command_is =
            here shape lines ranks packets told is before s later w next line answer.Started ran
            ∙ ap (λ (c : Command). Some c) calls

        pub one : (y : Happened) × (starts_since h ≡ y ∷ []) × (without_number y ≡ start)
        one =
            one_of (starts_since h) start
            ((subst (λ (what : Happened). StartAt shape.eager commands h what) ran next.comes.own.starts).0
            ∙ ap (λ (o : Option Command). option_map_or (start_of shape.eager commands h line) o []) command_is ∙ made)

        one_line : line_of one.0 ≡ Some line
        one_line = sym (same_line one.0) ∙ ap line_of one.2 ∙ of_line

        pub begun_is : (w i).begun ≡ one.0 ∷ []
        begun_is = (next.so_far.places i).begun ∙ one.1

        began : is_begun h ≡ true
        began = by_begun (is_begun h) refl
          where
            by_begun : (b : Bool) → is_begun h ≡ b → b ≡ true
            by_begun true is = refl
            by_begun false is =
                absurd (some_first (sym one.1 ∙ no_first is_start is_cancelling (since_command h) is))

        pub own_is : v i ≡ after i commands (w i) (event.Ran line answer.Started)
        own_is = moved_own lines w s ∙ ap (λ (what : Happened). after i commands (w i) what) ran

        pub seen : (r : ℕ) → SeenAlike (w r) (v r)
        seen =
            moved_seen lines w s
            (subst (λ (what : Happened). SeenAlike (w i) (after i commands (w i) what)) (sym ran)
            (ran_seen i commands (w i) line answer.Started))

        -- the line of a start is that of a name whose request is free only if it is the new one
        named_same : (name : ℕ) (was : Option ℕ) →
            line_after commands name was (event.Ran line answer.Started) ≡ cond (q == name) (Some line) was
        named_same name was =
            ap (λ (o : Option Command). cond (option_map_or (is_start_of name) o false && true) (Some line)
            (cond (option_map_or (is_question_of name) (command_at commands line) false && false) None was)) command_is
            ∙ ap (λ (b : Bool). cond (b && true) (Some line)
            (cond (option_map_or (is_question_of name) (command_at commands line) false && false) None was))
            (starts name)
            ∙ ap (λ (b : Bool). cond ((q == name) && true) (Some line) (cond b None was))
            (and_nothing (option_map_or (is_question_of name) (command_at commands line) false))
            ∙ by_name (q == name)
          where
            by_name : (b : Bool) → cond (b && true) (Some line) was ≡ cond b (Some line) was
            by_name true = refl
            by_name false = refl

        stands : (name l : ℕ) → is_live_at (v i) name l
            ≡ option_map_or (λ x. x == l) (cond (q == name) (Some line) ((w i).named name)) false
        stands name l =
            ap (λ (p : RankPoint). is_live_at p name l) own_is
            ∙ or_false (option_map_or (λ x. x == l)
            (line_after commands name ((w i).named name) (event.Ran line answer.Started)) false)
            ∙ ap (λ (o : Option ℕ). option_map_or (λ x. x == l) o false) (named_same name ((w i).named name))

        stood : (name l : ℕ) → is_live_at (w i) name l
            ≡ (option_map_or (λ x. x == l) ((w i).named name) false || (line == l))
        stood name l =
            ap (λ (ws : List Happened). option_map_or (λ x. x == l) ((w i).named name) false
            || list_any (λ what. option_map_or (λ x. x == l) (line_of what) false) ws) begun_is
            ∙ ap (λ (o : Option ℕ). option_map_or (λ x. x == l) ((w i).named name) false
            || (option_map_or (λ x. x == l) o false || false)) one_line
            ∙ ap (λ (b : Bool). option_map_or (λ x. x == l) ((w i).named name) false || b) (or_false (line == l))

        -- no line that has a request is that of the free name
        not_named : (l : ℕ) → is_some (request_at h l) ≡ true →
            option_map_or (λ x. x == l) ((w i).named q) false ≡ false
        not_named l some = by_named ((w i).named q) refl
          where
            by_named : (o : Option ℕ) → (w i).named q ≡ o → option_map_or (λ x. x == l) o false ≡ false
            by_named None at = refl
            by_named (Some x) at =
                not_true (x == l) (λ same. false≢true
                (ap (λ (o : Option asked). is_some o)
                (sym free ∙ ap (λ (o : Option ℕ). option_and_then (w i).requests o) at
                ∙ (next.so_far.places i).requests x)
                ∙ ap (λ (n : ℕ). is_some (request_at h n)) (same_number x l same) ∙ some))

        live_same : (l name : ℕ) → is_some (request_at h l) ≡ true →
            option_and_then name_of (command_at commands l) ≡ Some name →
            is_live_at (v i) name l ≡ is_live_at (w i) name l
        live_same l name some is_name =
            stands name l ∙ by_name (q == name) refl ∙ sym (stood name l)
          where
            by_name : (b : Bool) → (q == name) ≡ b →
                option_map_or (λ x. x == l) (cond b (Some line) ((w i).named name)) false
                ≡ (option_map_or (λ x. x == l) ((w i).named name) false || (line == l))
            by_name true same =
                ap (λ (b : Bool). b || (line == l))
                (sym (ap (λ (n : ℕ). option_map_or (λ x. x == l) ((w i).named n) false) (sym (same_number q name same))
                ∙ not_named l some))
            by_name false other =
                sym (ap (λ (b : Bool). option_map_or (λ x. x == l) ((w i).named name) false || b)
                (not_true (line == l) (λ same. false≢true (sym other ∙ eq_true q name
                (same_some q name (sym names
                ∙ ap (λ (o : Option Command). option_and_then name_of o) (sym command_is)
                ∙ ap (λ (n : ℕ). option_and_then name_of (command_at commands n)) (same_number line l same)
                ∙ is_name)))))
                ∙ or_false (option_map_or (λ x. x == l) ((w i).named name) false))

        stands_same : (what : Happened) → standing_of commands v i what ≡ standing_of commands w i what
        stands_same what =
            standing_as w v i commands what (λ t k of. (seen t).withdrawn i k)
            (λ t k of. ap (λ (p : RankPoint). p.recalled t k) own_is ∙ or_false ((w i).recalled t k))
            (λ k of. ap (λ (p : RankPoint). p.off k) own_is ∙ or_false ((w i).off k))
            (λ k of. ap (λ (p : RankPoint). p.pairs k) own_is ∙ first_alone ((w i).pairs k))
            (λ k pair of paired. message_seen w v i seen pair.arrival)

        abbrev row : RankState
        row = rank_of lines w (history_in before) s.rank

        -- where the claims are the same, moves lead on
        pub start_leads_by : ((b : List Event) (e : Event) (t : List Event) → history_in before s.rank ≡ b ++ e ∷ t →
            claim_by (commands_of s.rank lines) (moved lines w s) s.rank e.what
            ≡ claim_by (commands_of s.rank lines) w s.rank e.what) → StepLeads shape lines told before s w
        start_leads_by claims = (
          0,
          sym (rows_kept shape.ranks lines w before s (moved_other lines w s) seen
              (row_is lines v (history_in (before ++ s ∷ [])) i row.at row.requests row.outgoing row.claims
              (ap (λ (k : List Event). behind commands (effects k)) (grown_here before s)
              ∙ ap (behind commands) (ran_effects h s.event line answer.Started ran ∙ sym (begun_effects h began)))
              (ap (λ (k : List Event). filter_map (λ (e : Event). request_by commands v i e.what) k)
              (grown_here before s)
              ∙ grown_map (λ (e : Event). request_by commands w i e.what)
              (λ (e : Event). request_by commands v i e.what)
              h s.event
              (by_splits (λ e. request_by commands v i e.what ≡ request_by commands w i e.what) h [] h refl
              (λ b e rest split. request_as w v i commands e.what
              (λ name l at is_name. live_same l name
              (ap (λ (h : List Event). is_some (request_at h l)) split ∙ has_request b rest e l at) is_name)
              (stands_same e.what)))
              ∙ ap (λ (what : Happened). row.requests ++ cons_option (request_by commands v i what) []) ran
              ∙ append-nil row.requests)
              (ap (λ (k : List Event). filter_map (λ (e : Event). message_by v i e.what) k) (grown_here before s)
              ∙ grown_map (λ (e : Event). message_by w i e.what) (λ (e : Event). message_by v i e.what) h s.event
              (all_of (λ e. message_by v i e.what ≡ message_by w i e.what) h (λ e. pending_seen w v i seen e.what))
              ∙ ap (λ (what : Happened). row.outgoing ++ cons_option (message_by v i what) []) ran
              ∙ append-nil row.outgoing)
              (ap (λ (k : List Event). filter_map (λ (e : Event). claim_by commands v i e.what) k) (grown_here before s)
              ∙ grown_map (λ (e : Event). claim_by commands w i e.what) (λ (e : Event). claim_by commands v i e.what) h
              s.event
              (by_splits (λ e. claim_by commands v i e.what ≡ claim_by commands w i e.what) h [] h refl
              (λ b e t split. claims b e t split))
              ∙ ap (λ (what : Happened). row.claims ++ cons_option (claim_by commands v i what) []) ran
              ∙ append-nil row.claims))),
        )

        -- a command that receives no claimed message
        module _ (receives : (m : ℕ) → is_receive_of m c ≡ false)
            (unmatched : (from n : ℕ) → is_match_of from n start ≡ false)
          where
            handle_same : (m : ℕ) (o : Option ℕ) →
                cond (option_map_or (is_claim_for m) (command_at commands line) false && false) (Some line)
                (cond (option_map_or (is_receive_of m) (command_at commands line) false && true) None o) ≡ o
            handle_same m o =
                ap (λ (b : Bool). cond b (Some line)
                (cond (option_map_or (is_receive_of m) (command_at commands line) false && true) None o))
                (and_nothing (option_map_or (is_claim_for m) (command_at commands line) false))
                ∙ ap (λ (c : Option Command). cond (option_map_or (is_receive_of m) c false && true) None o) command_is
                ∙ ap (λ (b : Bool). cond (b && true) None o) (receives m)

            own : OwnAlike (w i) (v i)
            own = subst (λ (p : RankPoint). OwnAlike (w i) p) (sym own_is) (record {
              handled = λ m. handle_same m ((w i).handled m);
              matched = λ from n.
                  sym (ap (λ (ws : List Happened). list_any (is_match_of from n) ws) begun_is
                  ∙ or_false (is_match_of from n one.0) ∙ sym (same_match from n one.0)
                  ∙ ap (is_match_of from n) one.2 ∙ unmatched from n);
              known = λ from n. first_alone ((w i).known from n);
              pairs = λ number. first_alone ((w i).pairs number);
              off = λ number. or_false ((w i).off number);
              recalled = λ to n. or_false ((w i).recalled to n);
            })

            pub start_leads : StepLeads shape lines told before s w
            start_leads =
                start_leads_by (λ b e t split. claim_alike w v i own seen commands e.what)

    free_now : (q : ℕ) (o : Option asked) → Some (cond (is_some o) answer.Busy answer.Started)
        ≡ Some answer.Started → o ≡ None
    free_now q None may = refl
    free_now q (Some r) may = absurd (grind arith)

    pub send_started : (to q tag ctx : ℕ) (sync : Bool) (body : Body) →
        due_command ≡ command.Send to q tag ctx sync body → StepLeads shape lines told before s w
    send_started to q tag ctx sync body sends =
        start_leads (command.Send to q tag ctx sync body) sends q refl (λ name. refl)
        (free_now q (request_now (w i) q) (subst (λ (c : Command). MayAnswer w i line c answer.Started) sends
        (may_here shape lines ranks packets told is before s later w next line answer.Started ran))) _ refl refl
        (λ m. refl) (λ from n. refl)

    pub recv_started : (q : ℕ) (from : Peer) (tag : TagPick) (ctx room : ℕ) →
        due_command ≡ command.Recv q from tag ctx room → StepLeads shape lines told before s w
    recv_started q from tag ctx room receives =
        start_leads (command.Recv q from tag ctx room) receives q refl (λ name. refl)
        (free_now q (request_now (w i) q) (subst (λ (c : Command). MayAnswer w i line c answer.Started) receives
        (may_here shape lines ranks packets told is before s later w next line answer.Started ran))) _ refl refl
        (λ m. refl) (λ from n. refl)
