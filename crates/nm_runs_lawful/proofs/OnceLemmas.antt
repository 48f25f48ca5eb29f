-- A line starts once, so a synchronous send that a receive has does not wait for one. MPI 3.4, 3.7.2.
use Rattle.std.proofs.Common.{◌≡◌, ℕ, zero, suc, ◌-◌, ◌≤◌, ◌==◌, ◌||◌, Bool, true, false, cond, Option, Some, None}
use Rattle.std.proofs.Common.{List, []}
use Rattle.std.proofs.Common.{◌∷◌, ◌++◌, length, map, refl, sym, ◌∙◌, ap, subst, arith, append-nil, append_assoc}
use Rattle.std.specs.Prelude.{not, option_and_then}
use Rattle.std.specs.List.{AllByRecursion}
use Rattle.std.specs.List.{cons_option, filter, filter_map, list_any, slice_get}
use Rattle.std.specs.Option.{option_map_or}
use Rattle.std.proofs.lemmas.Bool.{false≢true}
use Rattle.std.proofs.lemmas.List.Elements.{filter-append}
use Rattle.std.proofs.lemmas.List.Folds.{list_any-append}
use Rattle.nm_types.specs.declared.answers.Answer.{Answer}
use Rattle.nm_types.specs.declared.messages.How.{How}
use Rattle.nm_types.specs.declared.scripts.Command.{Command}
use Rattle.nm_types.specs.declared.scripts.Command.TheVariants as command
use Rattle.nm_types.specs.declared.scripts.Line.{Line}
use Rattle.nm_types.specs.Commands.{Numbered, command_at, commands_of}
use Rattle.nm_types.specs.Bodies.{body_len}
use Rattle.nm_types.specs.Sizes.{Sizes}
use Rattle.nm_types.proofs.ListLemmas.{get_behind}
use Rattle.nm_types.proofs.NumberLemmas.{eq_true, same_number}
use Rattle.nm_types.proofs.OptionLemmas.{no_some, same_some}
use Rattle.nm_types.proofs.TruthLemmas.{neither, not_true, or_left}
use Rattle.nm_history.specs.declared.events.Event.{Event}
use Rattle.nm_history.specs.declared.events.Happened.{Happened}
use Rattle.nm_history.specs.declared.events.Happened.TheVariants as event
use Rattle.nm_history.specs.Answers.{Message, is_started, live_message}
use Rattle.nm_history.specs.AtEach.{AtEach}
use Rattle.nm_history.specs.Quiescence.{Ended, Packets, history_of}
use Rattle.nm_history.specs.RankRun.{NumberAt, StartAt, how_of, is_start, ran_lines, ran_of, since_after, since_command}
use Rattle.nm_history.specs.RankRun.{start_of, starts_since, without_number}
use Rattle.nm_history.specs.Sends.{Sent, is_ask, sends, sent_of}
use Rattle.nm_history.specs.Underway.{is_answer}
use Rattle.nm_history.proofs.AppendLemmas.{sends-append, since_grows}
use Rattle.nm_history.proofs.AtEachLemmas.{AtEach-split}
use Rattle.nm_history.proofs.Basic.{or_false}
use Rattle.nm_history.proofs.EachLemmas.{AtEach-prefix}
use Rattle.nm_history.proofs.Lasting.{by_splits}
use Rattle.nm_history.proofs.OnceLemmas.{eqb_self}
use Rattle.nm_history.proofs.RankRunLemmas.{no_answer, ran_lines-push, since-push}
use Rattle.nm_history.proofs.Sent.{any_at, sends_numbered}
use Rattle.nm_outcomes.specs.Due.{IsDue, IsStartOf}
use Rattle.nm_outcomes.specs.Logs.{Step, history_in}
use Rattle.nm_outcomes.specs.Places.{RankPoint}
use Rattle.nm_outcomes.proofs.CallLemmas.{events_are_due}
use Rattle.nm_outcomes.proofs.HappenedLemmas.{history_induction}
use Rattle.nm_outcomes.proofs.LogLemmas.{at_of, own_run}
use Rattle.nm_outcomes.proofs.PathLemmas.{history_split}
use Rattle.nm_lawful.specs.declared.messages.Message.{Message as pending}
use Rattle.nm_lawful.specs.Moves.{Report}
use Rattle.nm_lawful.specs.Ranks.{is_waiting_lem}
use Rattle.nm_runs_lawful.specs.Stands.{IsSoFar, IsRunTold, is_sync, line_of, message_by, rank_of}
use Rattle.nm_runs_lawful.proofs.EndedLemmas.{HasLeft}
use Rattle.nm_runs_lawful.proofs.HandleLemmas.{not_yet}
use Rattle.nm_runs_lawful.proofs.LiveLemmas.{start_at, start_in}
use Rattle.nm_runs_lawful.proofs.NextLemmas.{line_there}

-- a command sends
abbrev pub is_sending : Command → Bool
is_sending (command.Send to q tag ctx sync body) = true
is_sending _ = false

-- a command that sends stands at the line
pub record IsSendAt (commands : List Numbered) (line : ℕ) : Type 0 where
  pub place : ℕ
  pub command : Numbered
  pub next : slice_get commands place ≡ Some command
  pub line_is : command.line ≡ line
  pub sends : is_sending command.command ≡ true

-- an event starts a line
abbrev is_at : ℕ → Happened → Bool
is_at line what = option_map_or (λ l. l == line) (line_of what) false

-- what has started ran, or is what starts now
abbrev AreKnown : List Event → Type 0
AreKnown h =
    (line : ℕ) → list_any (λ (e : Event). is_at line e.what) h ≡ true →
    (list_any (λ l. l == line) (ran_lines h) || list_any (λ (what : Happened). is_at line what) (starts_since h)) ≡ true

at_without : (line : ℕ) (what : Happened) → is_at line (without_number what) ≡ is_at line what
at_without line (event.Send to n tag ctx len how own) = refl
at_without line (event.Post p own) = refl
at_without line (event.Match number from n cap own) = refl
at_without line what = refl

any_without : (line : ℕ) (ws : List Happened) → list_any (λ (what : Happened). is_at line what) (map without_number ws)
    ≡ list_any (λ (what : Happened). is_at line what) ws
any_without line [] = refl
any_without line (w ∷ ws) = rw (at_without line w, any_without line ws) refl

-- a command starts its own line alone
own_line : (eager line own : ℕ) (commands : List Numbered) (h : List Event) (c : Command) →
    list_any (λ (what : Happened). is_at line what) (start_of eager commands h own c) ≡ true → (own == line) ≡ true
own_line eager line own commands h (command.Send to q tag ctx sync body) is = sym (or_false (own == line)) ∙ is
own_line eager line own commands h (command.Recv q from tag ctx cap) is = sym (or_false (own == line)) ∙ is
own_line eager line own commands h (command.Mrecv q m cap) is = by_message (live_message commands h m) is
  where
    by_message : (o : Option Message) → list_any (λ (what : Happened). is_at line what)
        (option_map_or (λ (message : Message). event.Match 0 message.from message.n cap own ∷ []) o []) ≡ true →
        (own == line) ≡ true
    by_message None is = absurd (false≢true is)
    by_message (Some message) is = sym (or_false (own == line)) ∙ is
own_line eager line own commands h c is = absurd (false≢true is)

start_kept : (line : ℕ) (what : Happened) →
    list_any (λ (what : Happened). is_at line what) (filter is_start (what ∷ [])) ≡ is_at line what
start_kept line (event.Send to n tag ctx len how own) = or_false (own == line)
start_kept line (event.Post p own) = or_false (own == line)
start_kept line (event.Match number from n cap own) = or_false (own == line)
start_kept line what = refl

one_more : (a x r s : Bool) → (a || (x || false)) ≡ true → (a ≡ true → (r || s) ≡ true) → (r || (s || x)) ≡ true
one_more a x true s some was = refl
one_more a x false true some was = refl
one_more a true false false some was = refl
one_more true false false false some was = was refl
one_more false false false false some was = some

now_ran : (a r s o : Bool) → (a || false) ≡ true → (a ≡ true → (r || s) ≡ true) → (s ≡ true → o ≡ true) →
    (r || (o || false)) ≡ true
now_ran a true s o some was ran = refl
now_ran a false s true some was ran = refl
now_ran true false s false some was ran = ran (was refl)
now_ran false false s false some was ran = some

pub lines_known : (eager : ℕ) (commands : List Numbered) (h : List Event) →
    AtEach (λ b e. StartAt eager commands b e.what) h → AreKnown h
lines_known eager commands h =
    history_induction (λ b e. StartAt eager commands b e.what) AreKnown grow (λ line some. absurd (false≢true some)) h
  where
    by_ran : (h : List Event) (e : Event) (own : ℕ) (a : Answer) → e.what ≡ event.Ran own a → AreKnown h →
        StartAt eager commands h (event.Ran own a) → AreKnown (h ++ e ∷ [])
    by_ran h e own a is was starts line some =
        ap (λ (ls : List ℕ). list_any (λ l. l == line) ls
        || list_any (λ (what : Happened). is_at line what) (starts_since (h ++ e ∷ [])))
        (ran_lines-push h e ∙ ap (λ (what : Happened). ran_lines h ++ cons_option (ran_of what) []) is)
        ∙ ap (λ (ws : List Happened). list_any (λ l. l == line) (ran_lines h ++ own ∷ [])
        || list_any (λ (what : Happened). is_at line what) (filter is_start ws))
        (since-push h e ∙ ap (λ (what : Happened). since_after (since_command h) what) is)
        ∙ or_false (list_any (λ l. l == line) (ran_lines h ++ own ∷ []))
        ∙ list_any-append (λ l. l == line) (ran_lines h) (own ∷ [])
        ∙ now_ran (list_any (λ (e : Event). is_at line e.what) h) (list_any (λ l. l == line) (ran_lines h))
        (list_any (λ (what : Happened). is_at line what) (starts_since h)) (own == line)
        (sym (list_any-append (λ (e : Event). is_at line e.what) h (e ∷ [])
        ∙ ap (λ (what : Happened). list_any (λ (e : Event). is_at line e.what) h || (is_at line what || false)) is)
        ∙ some) (was line)
        (λ now. by_command (is_started a) (command_at commands own)
        (ap (λ (ws : List Happened). list_any (λ (what : Happened). is_at line what) ws) (sym starts.0)
        ∙ any_without line (starts_since h) ∙ now))
      where
        by_command : (b : Bool) (o : Option Command) → list_any (λ (what : Happened). is_at line what)
            (cond b (option_map_or (start_of eager commands h own) o []) []) ≡ true → (own == line) ≡ true
        by_command true (Some c) some = own_line eager line own commands h c some
        by_command true None some = absurd (false≢true some)
        by_command false o some = absurd (false≢true some)

    by_other : (h : List Event) (e : Event) → is_answer e.what ≡ false → AreKnown h → AreKnown (h ++ e ∷ [])
    by_other h e none was line some =
        ap (λ (ls : List ℕ). list_any (λ l. l == line) ls
        || list_any (λ (what : Happened). is_at line what) (starts_since (h ++ e ∷ [])))
        (ran_lines-push h e ∙ ap (λ (o : Option ℕ). ran_lines h ++ cons_option o []) (no_answer e.what none)
        ∙ append-nil (ran_lines h))
        ∙ ap (λ (ws : List Happened). list_any (λ l. l == line) (ran_lines h)
        || list_any (λ (what : Happened). is_at line what) ws)
        (ap (λ (ws : List Happened). filter is_start ws) (since-push h e ∙ since_grows (since_command h) e.what none)
        ∙ filter-append is_start (since_command h) (e.what ∷ []))
        ∙ ap (λ (b : Bool). list_any (λ l. l == line) (ran_lines h) || b)
        (list_any-append (λ (what : Happened). is_at line what) (starts_since h) (filter is_start (e.what ∷ []))
        ∙ ap (λ (b : Bool). list_any (λ (what : Happened). is_at line what) (starts_since h) || b)
        (start_kept line e.what))
        ∙ one_more (list_any (λ (e : Event). is_at line e.what) h) (is_at line e.what)
        (list_any (λ l. l == line) (ran_lines h))
        (list_any (λ (what : Happened). is_at line what) (starts_since h))
        (sym (list_any-append (λ (e : Event). is_at line e.what) h (e ∷ [])) ∙ some) (was line)

    grow : (h : List Event) (e : Event) → AreKnown h → StartAt eager commands h e.what → AreKnown (h ++ e ∷ [])
    grow h e was starts = by_event e.what refl starts
      where
        by_event : (what : Happened) → e.what ≡ what → StartAt eager commands h what → AreKnown (h ++ e ∷ [])
        by_event (event.Ran own a) is starts = by_ran h e own a is was starts
        by_event (event.Send to n tag ctx len how own) is starts = by_other h e (ap is_answer is) was
        by_event (event.Post p own) is starts = by_other h e (ap is_answer is) was
        by_event (event.Arrive a) is starts = by_other h e (ap is_answer is) was
        by_event (event.Whole from n) is starts = by_other h e (ap is_answer is) was
        by_event (event.Out to n) is starts = by_other h e (ap is_answer is) was
        by_event (event.Cancel number done) is starts = by_other h e (ap is_answer is) was
        by_event (event.Recall to n) is starts = by_other h e (ap is_answer is) was
        by_event (event.Withdraw from n done) is starts = by_other h e (ap is_answer is) was
        by_event (event.Undone to n done) is starts = by_other h e (ap is_answer is) was
        by_event (event.Claim from n own) is starts = by_other h e (ap is_answer is) was
        by_event (event.Match number from n cap own) is starts = by_other h e (ap is_answer is) was

-- the first start of a line is there
pub found_at : (line : ℕ) (h : List Event) (what : Happened) → start_in line h ≡ Some what →
    (b : List Event) × (e : Event) × (t : List Event) × (h ≡ b ++ e ∷ t) × (e.what ≡ what)
found_at line [] what is = absurd (no_some what is)
found_at line (e ∷ h) what is = by_start (start_at line e.what) refl is (found_at line h what)
  where
    by_own : (o : Option ℕ) (x : Happened) → option_and_then (λ l. cond (l == line) (Some e.what) None) o ≡ Some x →
        e.what ≡ x
    by_own None x is = absurd (no_some x is)
    by_own (Some own) x is = by_test (own == line) is
      where
        by_test : (b : Bool) → cond b (Some e.what) None ≡ Some x → e.what ≡ x
        by_test true is = same_some e.what x is
        by_test false is = absurd (no_some x is)

    by_start : (o : Option Happened) → start_at line e.what ≡ o →
        slice_get (cons_option o (filter_map (λ (e : Event). start_at line e.what) h)) 0 ≡ Some what →
        (start_in line h ≡ Some what →
        (b : List Event) × (e : Event) × (t : List Event) × (h ≡ b ++ e ∷ t) × (e.what ≡ what)) →
        (b : List Event) × (x : Event) × (t : List Event) × ((e ∷ h) ≡ b ++ x ∷ t) × (x.what ≡ what)
    by_start None at is later =
        let more = later is in (e ∷ more.0, more.1, more.2, ap (λ (h : List Event). e ∷ h) more.3, more.4)
    by_start (Some x) at is later =
        ([], e, h, refl, by_own (line_of e.what) x at ∙ same_some x what is)

-- a line that starts here, and not before, starts by this first
pub first_here : (line : ℕ) (b : List Event) (e : Event) (t : List Event) → line_of e.what ≡ Some line →
    list_any (λ (e : Event). is_at line e.what) b ≡ false → start_in line (b ++ e ∷ t) ≡ Some e.what
first_here line [] e t at none =
    ap (λ (o : Option Happened). slice_get (cons_option o
    (filter_map (λ (e : Event). start_at line e.what) t)) 0)
    (ap (λ (o : Option ℕ). option_and_then (λ l. cond (l == line) (Some e.what) None) o) at
    ∙ ap (λ (b : Bool). cond b (Some e.what) None) (eq_true line line refl))
first_here line (x ∷ b) e t at none =
    let two = neither (is_at line x.what) (list_any (λ (e : Event). is_at line e.what) b) none in
    ap (λ (o : Option Happened). slice_get (cons_option o
    (filter_map (λ (e : Event). start_at line e.what) (b ++ e ∷ t))) 0) (by_line (line_of x.what) two.0)
    ∙ first_here line b e t at two.1
  where
    by_line : (o : Option ℕ) → option_map_or (λ l. l == line) o false ≡ false →
        option_and_then (λ l. cond (l == line) (Some x.what) None) o ≡ None
    by_line None other = refl
    by_line (Some l) other = ap (λ (b : Bool). cond b (Some x.what) None) other

module _ (shape : Sizes) (lines : List Line) (ranks : List Ended) (packets : List Packets) (told : Report)
    (is : IsRunTold shape lines ranks packets told) (before : List Step) (later : List Step)
    (w : ℕ → RankPoint) (next : IsSoFar shape lines ranks before later w) (i : ℕ)
  where
    abbrev commands : List Numbered
    commands = commands_of i lines

    abbrev h : List Event
    h = history_in before i

    abbrev rest : List Event
    rest = history_in later i

    whole_is : history_of ranks i ≡ h ++ rest
    whole_is = sym (next.whole.histories i) ∙ history_split before later i

    -- an event of the history so far
    module _ (b : List Event) (e : Event) (t : List Event) (split : h ≡ b ++ e ∷ t) where
      pub whole_splits : history_of ranks i ≡ b ++ e ∷ (t ++ rest)
      whole_splits = whole_is ∙ ap (λ (h : List Event). h ++ rest) split ∙ append_assoc b (e ∷ t) rest

      pub due_at : IsDue shape.eager commands b e.what
      due_at =
          AtEach-split (λ b e. IsDue shape.eager commands b e.what) b e (t ++ rest)
          (subst (λ (h : List Event). AtEach (λ b e. IsDue shape.eager commands b e.what) h) whole_splits
          (events_are_due shape commands (at_of shape lines ranks packets is.run i) (history_of ranks i)
          (is.commands.stand i) (own_run shape lines ranks packets is.run i)))

      pub number_at : NumberAt shape.ranks b e.what
      number_at =
          AtEach-split (λ b e. NumberAt shape.ranks b e.what) b e (t ++ rest)
          (subst (λ (h : List Event). AtEach (λ b e. NumberAt shape.ranks b e.what) h) whole_splits
          (own_run shape lines ranks packets is.run i).numbers)

      starts_at : AtEach (λ b e. StartAt shape.eager commands b e.what) b
      starts_at =
          AtEach-prefix (λ b e. StartAt shape.eager commands b e.what) b (e ∷ (t ++ rest))
          (subst (λ (h : List Event). AtEach (λ b e. StartAt shape.eager commands b e.what) h) whole_splits
          (own_run shape lines ranks packets is.run i).starts.made)

      -- .. that starts a command
      module _ (line : ℕ) (at : line_of e.what ≡ Some line) (starts : IsStartOf shape.eager commands b e.what) where
        line_is : starts.command.line ≡ line
        line_is =
            same_number starts.command.line line
            (own_line shape.eager line starts.command.line commands b starts.command.command
            (ap (λ (ws : List Happened). list_any (λ (what : Happened). is_at line what) ws) (sym starts.start)
            ∙ or_false (is_at line (without_number e.what)) ∙ at_without line e.what
            ∙ ap (λ (o : Option ℕ). option_map_or (λ l. l == line) o false) at ∙ eq_true line line refl))

        pub least : 2 ≤ line
        least =
            subst (λ (n : ℕ). 2 ≤ n) line_is
            (line_there i lines (length (ran_lines b)) starts.command starts.next).0

        pub command_is : command_at commands line ≡ Some starts.command.command
        command_is =
            ap (λ (n : ℕ). command_at commands n) (sym line_is)
            ∙ is.commands.stand i (length (ran_lines b)) starts.command starts.next

        -- the line did not start before
        pub fresh : list_any (λ (e : Event). is_at line e.what) b ≡ false
        fresh =
            not_true (list_any (λ (e : Event). is_at line e.what) b) (λ some. false≢true
            (sym (rw (not_ran, starts.first) refl) ∙ lines_known shape.eager commands b starts_at line some))
          where
            not_ran : list_any (λ l. l == line) (ran_lines b) ≡ false
            not_ran =
                subst (λ (n : ℕ). list_any (λ l. l == n) (ran_lines b) ≡ false) line_is
                (not_yet i lines (at_of shape lines ranks packets is.run i) (history_of ranks i) b
                (e ∷ (t ++ rest)) starts.command (own_run shape lines ranks packets is.run i).answers whole_splits
                starts.next)

        pub first_start : start_in line h ≡ Some e.what
        first_start = ap (λ (h : List Event). start_in line h) split ∙ first_here line b e t at fresh

    -- what a command starts by a send is a send
    send_start : (eager l to tag ctx len : ℕ) (how : How) (line : ℕ) (b : List Event) (c : Command) →
        event.Send to 0 tag ctx len how line ∷ [] ≡ start_of eager commands b l c → is_sending c ≡ true
    send_start eager l to tag ctx len how line b (command.Send to' q tag' ctx' sync body) same = refl
    send_start eager l to tag ctx len how line b (command.Recv q from tag' ctx' cap) same = absurd (grind arith)
    send_start eager l to tag ctx len how line b (command.Mrecv q m cap) same =
        absurd (by_message (live_message commands b m) same)
      where
        by_message : (o : Option Message) → event.Send to 0 tag ctx len how line ∷ []
            ≡ option_map_or (λ (message : Message). event.Match 0 message.from message.n cap l ∷ []) o [] → ⊥
        by_message None same = grind arith
        by_message (Some message) same = grind arith
    send_start eager l to tag ctx len how line b c same = absurd (grind arith)

    sent_by : (k n l : ℕ) (xs : List Event) →
        AllByRecursion (λ e. (x : Sent) → sent_of e.stamp e.what ≡ Some x → IsSendAt commands x.line) xs →
        slice_get (map (λ (x : Sent). x.line) (sends xs k)) n ≡ Some l → IsSendAt commands l
    sent_by k n l [] each here = absurd (no_some l here)
    sent_by k n l (e ∷ xs) each here =
        by_sent (sent_of e.stamp e.what) each.0 (λ n. sent_by k n l xs each.1) here
      where
        by_to : (x : Sent) (b : Bool) (n : ℕ) → IsSendAt commands x.line →
            ((n : ℕ) → slice_get (map (λ (x : Sent). x.line) (sends xs k)) n ≡ Some l → IsSendAt commands l) →
            slice_get (map (λ (x : Sent). x.line) (cond b (x ∷ sends xs k) (sends xs k))) n ≡ Some l →
            IsSendAt commands l
        by_to x true zero first later here =
            subst (λ (l : ℕ). IsSendAt commands l) (same_some x.line l here) first
        by_to x true (suc n) first later here = later n here
        by_to x false n first later here = later n here

        by_sent : (o : Option Sent) → ((x : Sent) → o ≡ Some x → IsSendAt commands x.line) →
            ((n : ℕ) → slice_get (map (λ (x : Sent). x.line) (sends xs k)) n ≡ Some l → IsSendAt commands l) →
            slice_get (map (λ (x : Sent). x.line) (filter (λ s. s.to == k) (cons_option o
            (filter_map (λ (e : Event). sent_of e.stamp e.what) xs)))) n ≡ Some l → IsSendAt commands l
        by_sent None first later here = later n here
        by_sent (Some x) first later here = by_to x (x.to == k) n (first x refl) later here

    -- the lines of sends are those of commands that send
    pub sends_at : (k n l : ℕ) → slice_get ((w i).lines k) n ≡ Some l → IsSendAt commands l
    sends_at k n l here =
        sent_by k n l h (by_splits (λ e. (x : Sent) → sent_of e.stamp e.what ≡ Some x → IsSendAt commands x.line) h [] h
        refl (λ b e t split x sent. by_event b e t split e.what refl x sent))
        (ap (λ (ls : List ℕ). slice_get ls n) (sym ((next.places i).lines k)) ∙ here)
      where
        by_event : (b : List Event) (e : Event) (t : List Event) → h ≡ b ++ e ∷ t → (what : Happened) →
            e.what ≡ what → (x : Sent) → sent_of e.stamp what ≡ Some x → IsSendAt commands x.line
        by_event b e t split (event.Send to n tag ctx len how own) is_send x sent =
            let starts : IsStartOf shape.eager commands b (event.Send to n tag ctx len how own) =
            subst (λ (what : Happened). IsDue shape.eager commands b what) is_send (due_at b e t split) in
            let of_event = subst (λ (what : Happened). IsStartOf shape.eager commands b what) (sym is_send) starts in
            record {
              place = length (ran_lines b);
              command = of_event.command;
              next = of_event.next;
              line_is = line_is b e t split own (ap line_of is_send) of_event
                  ∙ ap (λ (s : Sent). s.line) (same_some (record {
                    stamp = e.stamp;
                    to = to;
                    n = n;
                    tag = tag;
                    ctx = ctx;
                    len = len;
                    how = how;
                    line = own;
                  }) x sent);
              sends = send_start shape.eager of_event.command.line to tag ctx len how own b of_event.command.command
                  (ap (λ (what : Happened). without_number what ∷ []) (sym is_send) ∙ of_event.start);
            }
        by_event b e t split what is_send x sent = absurd (no_some x sent)

    pub numbers_now : AtEach (λ b e. NumberAt shape.ranks b e.what) h
    numbers_now =
        AtEach-prefix (λ b e. NumberAt shape.ranks b e.what) h rest
        (subst (λ (h : List Event). AtEach (λ b e. NumberAt shape.ranks b e.what) h) whole_is
        (own_run shape lines ranks packets is.run i).numbers)

    -- a synchronous send asks
    asks : (eager l to tag ctx len : ℕ) (how : How) (line : ℕ) (b : List Event) (c : Command) →
        event.Send to 0 tag ctx len how line ∷ [] ≡ start_of eager commands b l c → is_sync c ≡ true →
        is_ask how ≡ true
    asks eager l to tag ctx len how line b (command.Send to' q tag' ctx' sync body) same is =
        let one : how ≡ how_of eager sync (body_len body) = cc in
        ap is_ask (one ∙ ap (λ (b : Bool). how_of eager b (body_len body)) is)
    asks eager l to tag ctx len how line b c same is = absurd (false≢true is)

    -- .. so it is not one that left without asking
    not_unasked : (b : List Event) (e : Event) (t : List Event) → h ≡ b ++ e ∷ t → (to n tag ctx len : ℕ) (how : How)
        (line : ℕ) → e.what ≡ event.Send to n tag ctx len how line → is_ask how ≡ true →
        (w i).unasked to n ≡ false
    not_unasked b e t split to n tag ctx len how line is_send ask =
        let sent : Sent = record {
          stamp = e.stamp;
          to = to;
          n = n;
          tag = tag;
          ctx = ctx;
          len = len;
          how = how;
          line = line;
        } in
        let grown : sends h to ≡ sends b to ++ sent ∷ sends t to =
        ap (λ (k : List Event). sends k to) split ∙ sends-append b (e ∷ t) to
        ∙ ap (λ (what : Happened). sends b to ++ filter (λ s. s.to == to) (cons_option (sent_of e.stamp what)
        (filter_map (λ (e : Event). sent_of e.stamp e.what) t))) is_send
        ∙ ap (λ (own : Bool). sends b to ++ cond own (sent ∷ sends t to) (sends t to)) (eqb_self to) in
        let number : n ≡ length (sends b to) =
        subst (λ (what : Happened). NumberAt shape.ranks b what) is_send (number_at b e t split) in
        (next.places i).unasked to n
        ∙ any_at (λ (s : Sent). s.n) (λ (s : Sent). not (is_ask s.how)) 0 (length (sends b to)) n (sends h to) sent
        (omega (arith, number))
        (sends_numbered shape.ranks to h
        (AtEach-prefix (λ b e. NumberAt shape.ranks b e.what) h rest
        (subst (λ (h : List Event). AtEach (λ b e. NumberAt shape.ranks b e.what) h) whole_is
        (own_run shape lines ranks packets is.run i).numbers)))
        (ap (λ (xs : List Sent). slice_get xs (length (sends b to))) grown ∙ get_behind (sends b to) (sends t to) sent)
        ∙ ap not ask

    -- no message of a list stands at a place
    none_waits : (place : ℕ) (xs : List Event) →
        AllByRecursion (λ e. (m : pending) → message_by w i e.what ≡ Some m → (m.place == place) ≡ false) xs →
        list_any (λ (m : pending). m.place == place) (filter_map (λ (e : Event). message_by w i e.what) xs) ≡ false
    none_waits place [] each = refl
    none_waits place (e ∷ xs) each =
        by_first (message_by w i e.what) each.0 (none_waits place xs each.1)
      where
        by_first : (o : Option pending) → ((m : pending) → o ≡ Some m → (m.place == place) ≡ false) →
            list_any (λ (m : pending). m.place == place) (filter_map (λ (e : Event). message_by w i e.what) xs)
            ≡ false →
            list_any (λ (m : pending). m.place == place)
            (cons_option o (filter_map (λ (e : Event). message_by w i e.what) xs)) ≡ false
        by_first None here rest = rest
        by_first (Some m) here rest = rw (here m refl, rest) refl

    -- a send that a receive has does not wait
    not_waiting : (to n tag ctx len : ℕ) (how : How) (line : ℕ) →
        start_in line h ≡ Some (event.Send to n tag ctx len how line) → 2 ≤ line → (w to).taken i n ≡ true →
        is_waiting_lem (rank_of lines w (history_in before) i) (line - 2) ≡ false
    not_waiting to n tag ctx len how line start low taken =
        none_waits (line - 2) h (by_splits (λ e. (m : pending) → message_by w i e.what ≡ Some m →
        (m.place == (line - 2)) ≡ false) h [] h refl
        (λ b e t split m here. by_event b e t split e.what refl m here))
      where
        kept : (b : Bool) (x m : pending) → cond b None (Some x) ≡ Some m → (b ≡ false) × (x ≡ m)
        kept true x m here = absurd (no_some m here)
        kept false x m here = (refl, same_some x m here)

        by_event : (b : List Event) (e : Event) (t : List Event) → h ≡ b ++ e ∷ t → (what : Happened) →
            e.what ≡ what → (m : pending) → message_by w i what ≡ Some m → (m.place == (line - 2)) ≡ false
        by_event b e t split (event.Send to' n' tag' ctx' len' how' own) here m pends =
            not_true (m.place == (line - 2)) (λ same.
            let starts : IsStartOf shape.eager commands b (event.Send to' n' tag' ctx' len' how' own) =
            subst (λ (what : Happened). IsDue shape.eager commands b what) here (due_at b e t split) in
            let of_event = subst (λ (what : Happened). IsStartOf shape.eager commands b what) (sym here) starts in
            let two = kept ((w to').taken i n' || (w to').withdrawn i n') (record {
              place = own - 2;
              from = i;
              to = to';
              tag = tag';
              ctx = ctx';
              len = len';
            }) m pends in
            let place : own - 2 ≡ m.place = ap (λ (m : pending). m.place) two.1 in
            let equal : m.place ≡ line - 2 = same_number m.place (line - 2) same in
            let first = least b e t split own (ap line_of here) of_event in
            let lines_same : own ≡ line = omega (arith, place, equal, first, low) in
            let sends_same : event.Send to' n' tag' ctx' len' how' own ≡ event.Send to n tag ctx len how line =
            sym here
            ∙ same_some e.what (event.Send to n tag ctx len how line)
            (sym (first_start b e t split own (ap line_of here) of_event)
            ∙ ap (λ (k : ℕ). start_in k h) lines_same ∙ start) in
            let one : to ≡ to' = cc in
            let number : n ≡ n' = cc in
            false≢true (sym two.0 ∙ or_left ((w to').taken i n') ((w to').withdrawn i n')
            (subst (λ (r : ℕ). (w r).taken i n' ≡ true) one
            (subst (λ (k : ℕ). (w to).taken i k ≡ true) number taken))))
        by_event b e t split what here m pends = absurd (no_some m pends)

    pub has_left : (own : ℕ) (what : Happened) → start_in own h ≡ Some what → line_of what ≡ Some own →
        HasLeft commands w i (is_waiting_lem (rank_of lines w (history_in before) i) (own - 2)) what
    has_left own (event.Send to n tag ctx len how line) start at =
        let same : line ≡ own = same_some line own at in
        let found = found_at own h (event.Send to n tag ctx len how line) start in
        let starts : IsStartOf shape.eager commands found.0 (event.Send to n tag ctx len how line) =
        subst (λ (what : Happened). IsDue shape.eager commands found.0 what) found.4
        (due_at found.0 found.1 found.2 found.3) in
        let of_event = subst (λ (what : Happened). IsStartOf shape.eager commands found.0 what) (sym found.4) starts in
        let here = command_is found.0 found.1 found.2 found.3 line (ap line_of found.4) of_event in
        let low = least found.0 found.1 found.2 found.3 line (ap line_of found.4) of_event in
        λ sync left.
        ap (λ (k : ℕ). is_waiting_lem (rank_of lines w (history_in before) i) (k - 2)) (sym same)
        ∙ not_waiting to n tag ctx len how line
        (ap (λ (k : ℕ). start_in k h) same ∙ start) low
        (ap (λ (b : Bool). b || (w to).taken i n)
        (sym (not_unasked found.0 found.1 found.2 found.3 to n tag ctx len how line found.4
        (asks shape.eager of_event.command.line to tag ctx len how line found.0 of_event.command.command
        (ap (λ (what : Happened). without_number what ∷ []) (sym found.4) ∙ of_event.start)
        (sym (ap (λ (o : Option Command). option_map_or is_sync o false) here) ∙ sync)))) ∙ left)
    has_left own what start at = tt
