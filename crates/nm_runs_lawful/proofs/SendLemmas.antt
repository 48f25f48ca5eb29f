-- A send takes effect: its message is pending from now on. MPI 3.1, 3.4, 3.7.2.
use Rattle.std.proofs.Common.{◌≡◌, ℕ, ◌+◌, ◌-◌, ◌<◌, ◌==◌, ◌||◌, Bool, true, false, cond, not, Option, Some, None}
use Rattle.std.proofs.Common.{List, [], ◌∷◌, ◌++◌, get_or, length, refl, sym, ◌∙◌, ap, subst, arith, append-nil}
use Rattle.std.specs.Prelude.{is_some}
use Rattle.std.specs.List.{cons_option, filter_map, list_any}
use Rattle.std.specs.Option.{option_map_or}
use Rattle.std.proofs.Math.ListN.{get_or-append}
use Rattle.nm_types.specs.declared.answers.Answer.{Answer}
use Rattle.nm_types.specs.declared.answers.Answer.TheVariants as answer
use Rattle.nm_types.specs.declared.messages.Arrival.{Arrival}
use Rattle.nm_types.specs.declared.messages.How.{How}
use Rattle.nm_types.specs.declared.scripts.Body.{Body}
use Rattle.nm_types.specs.declared.scripts.Command.{Command}
use Rattle.nm_types.specs.declared.scripts.Command.TheVariants as command
use Rattle.nm_types.specs.declared.scripts.Line.{Line}
use Rattle.nm_types.specs.Bodies.{body_len}
use Rattle.nm_types.specs.Commands.{Numbered, command_at, commands_of}
use Rattle.nm_types.specs.Sizes.{Sizes}
use Rattle.nm_types.proofs.ListLemmas.{map_length}
use Rattle.nm_types.proofs.TruthLemmas.{not_true}
use Rattle.nm_history.specs.declared.events.Event.{Event}
use Rattle.nm_history.specs.declared.events.Happened.{Happened}
use Rattle.nm_history.specs.declared.events.Happened.TheVariants as event
use Rattle.nm_history.specs.Answers.{Message as claimed, answer_of, live, live_message}
use Rattle.nm_history.specs.Completion.{Request as asked}
use Rattle.nm_history.specs.Quiescence.{Ended, Packets, history_of}
use Rattle.nm_history.specs.RankRun.{NumberAt, cancels_since, is_start, start_of}
use Rattle.nm_history.specs.Sends.{Sent, sends}
use Rattle.nm_history.specs.Underway.{is_answer}
use Rattle.nm_history.proofs.Basic.{all_of, or_false}
use Rattle.nm_history.proofs.Lasting.{by_splits, filter_map_same}
use Rattle.nm_match.specs.Deeds.{is_known_message}
use Rattle.nm_outcomes.specs.Due.{IsDue, IsStartOf}
use Rattle.nm_outcomes.specs.Logs.{Step, history_in}
use Rattle.nm_outcomes.specs.Paths.{moved}
use Rattle.nm_outcomes.specs.Places.{RankPoint, after}
use Rattle.nm_outcomes.proofs.LogLemmas.{grown_here, grown_other}
use Rattle.nm_outcomes.proofs.MoveLemmas.{request_is}
use Rattle.nm_lawful.specs.declared.messages.Act.TheVariants as act
use Rattle.nm_lawful.specs.declared.messages.Claim.{Claim}
use Rattle.nm_lawful.specs.declared.messages.Message.{Message}
use Rattle.nm_lawful.specs.declared.messages.Request.{Request}
use Rattle.nm_lawful.specs.declared.messages.Standing.{Standing}
use Rattle.nm_lawful.specs.declared.messages.Standing.TheVariants as standing
use Rattle.nm_lawful.specs.Moves.{Report, told_at_lem}
use Rattle.nm_lawful.specs.Ranks.{RankState, live_lem}
use Rattle.nm_lawful.specs.Replies.{act_of_lem, message_of_lem}
use Rattle.nm_runs_lawful.specs.Stands.{IsNext, IsRunTold, StepLeads, behind, claim_by, effects, is_live_at}
use Rattle.nm_runs_lawful.specs.Stands.{is_match_of}
use Rattle.nm_runs_lawful.specs.Stands.{is_matched_now, is_sync, line_of, message_at, message_by, name_of, rank_of}
use Rattle.nm_runs_lawful.specs.Stands.{request_by}
use Rattle.nm_runs_lawful.specs.Stands.{standing_of, state_of}
use Rattle.nm_runs_lawful.proofs.BeginLemmas.{begin_answered, begun_none, command_here, live_others, no_cancels}
use Rattle.nm_runs_lawful.proofs.BeginLemmas.{other_line, request_new}
use Rattle.nm_runs_lawful.proofs.ChangeLemmas.{claim_as, grown_map, message_as, moved_each, pending_as, request_as}
use Rattle.nm_runs_lawful.proofs.ChangeLemmas.{row_is}
use Rattle.nm_runs_lawful.proofs.ChangeLemmas.{standing_as}
use Rattle.nm_runs_lawful.proofs.EffectLemmas.{IsStartAnswered, free_before}
use Rattle.nm_runs_lawful.proofs.EndedLemmas.{moved_own}
use Rattle.nm_runs_lawful.proofs.KnownLemmas.{known_named, known_sent, paired_known, recalled_sent, unknown_taken}
use Rattle.nm_runs_lawful.proofs.KnownLemmas.{unknown_withdrawn}
use Rattle.nm_runs_lawful.proofs.LiveLemmas.{none_lives}
use Rattle.nm_runs_lawful.proofs.OwnLemmas.{at_before, at_behind}
use Rattle.nm_runs_lawful.proofs.QuietLemmas.{first_alone}
use Rattle.nm_runs_lawful.proofs.RunLemmas.{run_leads}
use Rattle.nm_runs_lawful.proofs.ToldLemmas.{step_split}

-- what a send changes of a place: its lines to a rank, and what has begun
record SendsAlike (p q : RankPoint) : Type 0 where
  named : (q' : ℕ) → q.named q' ≡ p.named q'
  handled : (m : ℕ) → q.handled m ≡ p.handled m
  matched : (from n : ℕ) → is_matched_now q from n ≡ is_matched_now p from n
  known : (from n : ℕ) → q.known from n ≡ p.known from n
  pairs : (number : ℕ) → q.pairs number ≡ p.pairs number
  off : (number : ℕ) → q.off number ≡ p.off number
  recalled : (to n : ℕ) → q.recalled to n ≡ p.recalled to n
  taken : (from n : ℕ) → q.taken from n ≡ p.taken from n
  withdrawn : (from n : ℕ) → q.withdrawn from n ≡ p.withdrawn from n
  lines : (to n : ℕ) → n < length (p.lines to) → get_or (q.lines to) n 0 ≡ get_or (p.lines to) n 0

-- the command of a send's start
record IsSend (eager l : ℕ) (commands : List Numbered) (h : List Event) (to tag ctx len : ℕ) (how : How) (line : ℕ)
    (c : Command) : Type 0 where
  q : ℕ
  sync : Bool
  body : Body
  is : c ≡ command.Send to q tag ctx sync body
  len_is : len ≡ body_len body
  line_is : line ≡ l

send_command : (eager l : ℕ) (commands : List Numbered) (h : List Event) (to tag ctx len : ℕ) (how : How) (line : ℕ)
    (c : Command) → event.Send to 0 tag ctx len how line ∷ [] ≡ start_of eager commands h l c →
    IsSend eager l commands h to tag ctx len how line c
send_command eager l commands h to tag ctx len how line (command.Send to' q tag' ctx' sync body) same =
    let one : to ≡ to' = cc in
    let two : tag ≡ tag' = cc in
    let three : ctx ≡ ctx' = cc in
    record {
      q = q;
      sync = sync;
      body = body;
      is = rw (one, two, three) refl;
      len_is = cc;
      line_is = cc;
    }
send_command eager l commands h to tag ctx len how line (command.Mrecv q m cap) same =
    absurd (by_message (live_message commands h m) same)
  where
    by_message : (o : Option claimed) → event.Send to 0 tag ctx len how line ∷ []
        ≡ option_map_or (λ (message : claimed). event.Match 0 message.from message.n cap l ∷ []) o [] → ⊥
    by_message None same = grind arith
    by_message (Some message) same = grind arith
send_command eager l commands h to tag ctx len how line c same = absurd (grind arith)

-- a name whose start was taken was free
pub free_of : (o : Option asked) → Some (cond (is_some o) answer.Busy answer.Started) ≡ Some answer.Started → o ≡ None
free_of None may = refl
free_of (Some r) may = absurd (grind arith)

module _ (shape : Sizes) (lines : List Line) (ranks : List Ended) (packets : List Packets) (told : Report)
    (is : IsRunTold shape lines ranks packets told) (before : List Step) (s : Step) (later : List Step)
    (w : ℕ → RankPoint) (next : IsNext shape lines ranks before s later w) (to n tag ctx len : ℕ) (how : How)
    (line : ℕ) (sent : s.event.what ≡ event.Send to n tag ctx len how line)
  where
    abbrev i : ℕ
    i = s.rank

    abbrev commands : List Numbered
    commands = commands_of s.rank lines

    abbrev h : List Event
    h = history_in before s.rank

    abbrev v : ℕ → RankPoint
    v = moved lines w s

    abbrev g : ℕ → List Event
    g = history_in (before ++ s ∷ [])

    due : IsStartOf shape.eager commands h (event.Send to n tag ctx len how line)
    due = subst (λ (what : Happened). IsDue shape.eager commands h what) sent next.due

    abbrev c : Numbered
    c = due.command

    send : IsSend shape.eager c.line commands h to tag ctx len how line c.command
    send = send_command shape.eager c.line commands h to tag ctx len how line c.command due.start

    at : line_of s.event.what ≡ Some c.line
    at = ap line_of sent ∙ ap (λ (l : ℕ). Some l) send.line_is

    quiet : is_answer s.event.what ≡ false
    quiet = ap is_answer sent

    starts : is_start s.event.what ≡ true
    starts = ap is_start sent

    abbrev whole_is : history_of ranks s.rank ≡ h ++ s.event ∷ history_in later s.rank
    whole_is = step_split shape lines ranks packets told is before later s next.so_far.whole

    answered : IsStartAnswered shape lines ranks packets told is s.rank (history_in before s.rank) s.event
        (history_in later s.rank) whole_is c due.next quiet
    answered = begin_answered shape lines ranks packets told is before s later w next c due.next at quiet starts

    nor : cancels_since h ≡ []
    nor = no_cancels shape lines ranks packets told is before s later w next c due.next at quiet starts

    number : n ≡ length (sends h to)
    number = subst (λ (what : Happened). NumberAt shape.ranks h what) sent next.comes.own.numbers

    own_is : v i ≡ after i commands (w i) (event.Send to n tag ctx len how line)
    own_is = moved_own lines w s ∙ ap (λ (what : Happened). after i commands (w i) what) sent

    alike : (r : ℕ) → SendsAlike (w r) (v r)
    alike =
        moved_each SendsAlike (λ p. record {
          named = λ q. refl;
          handled = λ m. refl;
          matched = λ from n. refl;
          known = λ from n. refl;
          pairs = λ number. refl;
          off = λ number. refl;
          recalled = λ to n. refl;
          taken = λ from n. refl;
          withdrawn = λ from n. refl;
          lines = λ to n low. refl;
        }) lines w s
        (subst (λ (what : Happened). SendsAlike (w i) (after i commands (w i) what)) (sym sent) (record {
          named = λ q. refl;
          handled = λ m. refl;
          matched = λ from n'. matched_more from n' (w i).begun;
          known = λ from n. first_alone ((w i).known from n);
          pairs = λ number. first_alone ((w i).pairs number);
          off = λ number. or_false ((w i).off number);
          recalled = λ to n. or_false ((w i).recalled to n);
          taken = λ from n. or_false ((w i).taken from n);
          withdrawn = λ from n. or_false ((w i).withdrawn from n);
          lines = λ to' n' low. get_or-append ((w i).lines to') _ 0 n' low;
        }))
      where
        matched_more : (from n' : ℕ) (ws : List Happened) →
            list_any (is_match_of from n') (ws ++ event.Send to n tag ctx len how line ∷ [])
            ≡ list_any (is_match_of from n') ws
        matched_more from n' [] = refl
        matched_more from n' (x ∷ ws) = ap (λ (b : Bool). is_match_of from n' x || b) (matched_more from n' ws)

    named : (q : ℕ) → (v i).named q ≡ (w i).named q
    named q = (alike i).named q

    begun : (v i).begun ≡ (w i).begun ++ s.event.what ∷ []
    begun =
        ap (λ (p : RankPoint). p.begun) own_is ∙ ap (λ (what : Happened). (w i).begun ++ what ∷ []) (sym sent)

    -- messages of which a rank knows are the same
    same_message : (k : ℕ) (a : Arrival) → is_known_message (history_in before k) a.env.from a.n ≡ true →
        message_at v k a ≡ message_at w k a
    same_message k a known =
        message_as w v k a ((alike a.env.from).lines k a.n
        (known_sent shape lines ranks packets told is before (s ∷ later) w next.so_far k a.env.from a.n known))

    same_standing : (k : ℕ) (what : Happened) →
        standing_of (commands_of k lines) v k what ≡ standing_of (commands_of k lines) w k what
    same_standing k what =
        standing_as w v k (commands_of k lines) what (λ r n' of. (alike r).withdrawn k n')
        (λ r n' of. (alike k).recalled r n') (λ number of. (alike k).off number) (λ number of. (alike k).pairs number)
        (λ number pair of paired. same_message k pair.arrival
        (paired_known shape lines ranks packets told is before (s ∷ later) w next.so_far k number pair paired))

    same_pending : (k : ℕ) (what : Happened) → message_by v k what ≡ message_by w k what
    same_pending k what =
        pending_as w v k what (λ r n'. (alike r).taken k n') (λ r n'. (alike r).withdrawn k n')

    same_claim : (k : ℕ) (what : Happened) →
        claim_by (commands_of k lines) v k what ≡ claim_by (commands_of k lines) w k what
    same_claim k (event.Claim from n' own) =
        claim_as w v k (commands_of k lines) from n' own (alike k).handled ((alike k).matched from n')
        ((alike k).known from n')
        (λ a known. let names = known_named shape lines ranks packets told is before (s ∷ later) w next.so_far k from
        n' a known in
        same_message k a
        (subst (λ (f : ℕ). is_known_message (history_in before k) f a.n ≡ true) (sym names.0)
        (subst (λ (m : ℕ). is_known_message (history_in before k) from m ≡ true) (sym names.1) names.2)))
    same_claim k what = refl

    -- the message is not known where it goes
    unknown : is_known_message (history_in before to) i n ≡ false
    unknown =
        not_true (is_known_message (history_in before to) i n) (λ known.
        let low = known_sent shape lines ranks packets told is before (s ∷ later) w next.so_far to i n known in
        let count : length ((w i).lines to) ≡ length (sends h to) =
        ap length ((next.so_far.places i).lines to) ∙ map_length (λ (s : Sent). s.line) (sends h to) in
        absurd (omega (arith, low, count, number)))

    gone : ((w to).taken i n ≡ false) × ((w to).withdrawn i n ≡ false)
    gone = (
      unknown_taken shape lines ranks packets told is before (s ∷ later) w next.so_far to i n unknown,
      unknown_withdrawn shape lines ranks packets told is before (s ∷ later) w next.so_far to i n unknown,
    )

    not_recalled : (w i).recalled to n ≡ false
    not_recalled =
        not_true ((w i).recalled to n) (λ recalled.
        let low = recalled_sent shape lines ranks packets told is before (s ∷ later) w next.so_far i to n recalled in
        absurd (omega (arith, low, number)))

    abbrev new_request : Request
    new_request = record { q = send.q; place = c.line - 2; standing = standing.Send send.sync }

    abbrev new_message : Message
    new_message = message_of_lem (c.line - 2) i to tag ctx send.body

    request_is_new : request_by commands v i s.event.what ≡ Some new_request
    request_is_new =
        request_new shape lines ranks packets told is before s later w next c due.next at quiet starts named begun
        send.q (ap name_of send.is)
        ∙ ap (λ (x : Standing). Some (record { q = send.q; place = c.line - 2; standing = x })) stands
      where
        sync_is : option_map_or is_sync (command_at commands line) false ≡ send.sync
        sync_is =
            ap (λ (l : ℕ). option_map_or is_sync (command_at commands l) false) send.line_is
            ∙ ap (λ (o : Option Command). option_map_or is_sync o false)
            (command_here shape lines ranks packets told is before s later w next c due.next at quiet starts)
            ∙ ap is_sync send.is

        stands : standing_of commands v i s.event.what ≡ standing.Send send.sync
        stands =
            ap (standing_of commands v i) sent
            ∙ rw ((alike to).withdrawn i n ∙ gone.1, (alike i).recalled to n ∙ not_recalled)
            (ap (λ (b : Bool). standing.Send b) sync_is)

    message_is_new : message_by v i s.event.what ≡ Some new_message
    message_is_new =
        ap (message_by v i) sent
        ∙ ap (λ (b : Bool). cond b None (Some (record {
          place = line - 2;
          from = i;
          to = to;
          tag = tag;
          ctx = ctx;
          len = len;
        })))
        (ap (λ (b : Bool). b || (v to).withdrawn i n) ((alike to).taken i n ∙ gone.0)
        ∙ (alike to).withdrawn i n ∙ gone.1)
        ∙ ap (λ (l : ℕ). Some
        (record { place = l - 2; from = i; to = to; tag = tag; ctx = ctx; len = len })) send.line_is
        ∙ ap (λ (k : ℕ). Some (record { place = c.line - 2; from = i; to = to; tag = tag; ctx = ctx; len = k }))
        send.len_is

    claim_is_none : claim_by commands v i s.event.what ≡ None
    claim_is_none = ap (claim_by commands v i) sent

    abbrev row : RankState
    row = rank_of lines w (history_in before) s.rank

    requests : filter_map (λ (e : Event). request_by commands v i e.what) (g i) ≡ row.requests ++ new_request ∷ []
    requests =
        ap (λ (k : List Event). filter_map (λ (e : Event). request_by commands v i e.what) k) (grown_here before s)
        ∙ grown_map (λ (e : Event). request_by commands w i e.what) (λ (e : Event). request_by commands v i e.what) h
        s.event
        (by_splits (λ e. request_by commands v i e.what ≡ request_by commands w i e.what) h [] h refl
        (λ b e t split. request_as w v i commands e.what
        (λ q l of names. live_others shape lines ranks packets told is before s later w next c due.next at quiet starts
        named begun q l
        (other_line shape lines ranks packets told is before s later w next c due.next at quiet starts b e t split l
        of)) (same_standing i e.what)))
        ∙ ap (λ (o : Option Request). row.requests ++ cons_option o []) request_is_new

    outgoing : filter_map (λ (e : Event). message_by v i e.what) (g i) ≡ row.outgoing ++ new_message ∷ []
    outgoing =
        ap (λ (k : List Event). filter_map (λ (e : Event). message_by v i e.what) k) (grown_here before s)
        ∙ grown_map (λ (e : Event). message_by w i e.what) (λ (e : Event). message_by v i e.what) h s.event
        (all_of (λ e. message_by v i e.what ≡ message_by w i e.what) h (λ e. same_pending i e.what))
        ∙ ap (λ (o : Option Message). row.outgoing ++ cons_option o []) message_is_new

    claims : filter_map (λ (e : Event). claim_by commands v i e.what) (g i) ≡ row.claims
    claims =
        ap (λ (k : List Event). filter_map (λ (e : Event). claim_by commands v i e.what) k) (grown_here before s)
        ∙ grown_map (λ (e : Event). claim_by commands w i e.what) (λ (e : Event). claim_by commands v i e.what) h
        s.event
        (all_of (λ e. claim_by commands v i e.what ≡ claim_by commands w i e.what) h (λ e. same_claim i e.what))
        ∙ ap (λ (o : Option Claim). row.claims ++ cons_option o []) claim_is_none ∙ append-nil row.claims

    free : live_lem row send.q ≡ None
    free =
        none_lives lines w (history_in before) i (next.so_far.places i)
        (begun_none shape lines ranks packets told is before s later w next c due.next at quiet starts) send.q
        (request_is i commands h (w i) (next.so_far.places i) send.q
        ∙ free_before shape lines ranks packets told is i h s.event (history_in later i) whole_is c due.next quiet
        answered.behind send.q
        (free_of (live commands answered.behind.front send.q)
        (sym (ap (answer_of commands answered.behind.front c.line) send.is) ∙ answered.may)))

    acts : act_of_lem lines (state_of shape.ranks lines w before) i row (c.line - 2) c.command
        (told_at_lem told None (c.line - 2)) ≡ Some (act.Send send.q send.sync new_message)
    acts =
        ap (λ (o : Option Answer). act_of_lem lines (state_of shape.ranks lines w before) i row (c.line - 2) c.command
        o) answered.is_told
        ∙ ap (λ (x : Command). act_of_lem lines (state_of shape.ranks lines w before) i row (c.line - 2) x None) send.is
        ∙ ap (λ (o : Option Request). cond (not (is_some o)) (Some (act.Send send.q send.sync new_message)) None) free

    -- other ranks are the same
    other_rows : (k : ℕ) → (s.rank == k) ≡ false → rank_of lines v g k ≡ rank_of lines w (history_in before) k
    other_rows k other =
        let same = grown_other before s k other in
        let f = history_in before k in
        let r = rank_of lines w (history_in before) k in
        row_is lines v g k r.at r.requests r.outgoing r.claims
        (ap (λ (x : List Event). behind (commands_of k lines) (effects x)) same)
        (ap (λ (x : List Event). filter_map (λ (e : Event). request_by (commands_of k lines) v k e.what) x) same
        ∙ filter_map_same (λ (e : Event). request_by (commands_of k lines) v k e.what)
        (λ (e : Event). request_by (commands_of k lines) w k e.what) f
        (all_of (λ e. request_by (commands_of k lines) v k e.what ≡ request_by (commands_of k lines) w k e.what) f
        (λ e. request_as w v k (commands_of k lines) e.what
        (λ q l of names. ap (λ (p : RankPoint). is_live_at p q l) unmoved) (same_standing k e.what))))
        (ap (λ (x : List Event). filter_map (λ (e : Event). message_by v k e.what) x) same
        ∙ filter_map_same (λ (e : Event). message_by v k e.what) (λ (e : Event). message_by w k e.what) f
        (all_of (λ e. message_by v k e.what ≡ message_by w k e.what) f (λ e. same_pending k e.what)))
        (ap (λ (x : List Event). filter_map (λ (e : Event). claim_by (commands_of k lines) v k e.what) x) same
        ∙ filter_map_same (λ (e : Event). claim_by (commands_of k lines) v k e.what)
        (λ (e : Event). claim_by (commands_of k lines) w k e.what) f
        (all_of (λ e. claim_by (commands_of k lines) v k e.what ≡ claim_by (commands_of k lines) w k e.what) f
        (λ e. same_claim k e.what)))
      where
        unmoved : v k ≡ w k
        unmoved = ap (λ (b : Bool). cond b (after k (commands_of k lines) (w k) s.event.what) (w k)) other

    pub send_leads : StepLeads shape lines told before s w
    send_leads =
        run_leads lines told shape.ranks w v (history_in before) g i next.comes.within c
        (at_before shape lines ranks packets told is before s later w next c due.next quiet answered.first nor
        (rw starts refl)) (act.Send send.q send.sync new_message) (λ t. refl) acts
        (row_is lines v g i (c.line - 2 + 1) (row.requests ++ new_request ∷ []) (row.outgoing ++ new_message ∷ [])
        row.claims
        (at_behind shape lines ranks packets told is before s later w next c due.next quiet answered.first nor
        (rw starts refl)) requests outgoing claims)
        other_rows
