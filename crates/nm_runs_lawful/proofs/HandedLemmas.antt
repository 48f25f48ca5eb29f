-- A matched probe that shows its message: its handle has it from then on. MPI 3.1, 3.8.2.
use Rattle.std.proofs.Common.{◌≡◌, ℕ, ◌+◌, ◌-◌, ◌==◌, ◌&&◌, ◌||◌, Bool, true, false, cond, Option, Some, None, List, []}
use Rattle.std.proofs.Common.{◌∷◌, ◌++◌, length, refl, sym, ◌∙◌, ap, subst, arith, append-nil, append_assoc}
use Rattle.std.specs.Prelude.{Contains, is_some, option_and_then, option_map}
use Rattle.std.specs.List.{cons_option, filter_map, list_any, slice_get}
use Rattle.std.specs.Option.{option_map_or}
use Rattle.std.proofs.lemmas.Bool.{false≢true}
use Rattle.std.proofs.lemmas.List.Elements.{filter_map-append}
use Rattle.nm_types.specs.declared.answers.Answer.{Answer}
use Rattle.nm_types.specs.declared.answers.Answer.TheVariants as answer
use Rattle.nm_types.specs.declared.messages.Arrival.{Arrival}
use Rattle.nm_types.specs.declared.messages.Peer.{Peer}
use Rattle.nm_types.specs.declared.messages.Seen.{Seen}
use Rattle.nm_types.specs.declared.messages.TagPick.{TagPick}
use Rattle.nm_types.specs.declared.scripts.Command.{Command}
use Rattle.nm_types.specs.declared.scripts.Command.TheVariants as command
use Rattle.nm_types.specs.declared.scripts.Line.{Line}
use Rattle.nm_types.specs.Commands.{Numbered, command_at, commands_of}
use Rattle.nm_types.specs.Sizes.{Sizes}
use Rattle.nm_types.proofs.ListLemmas.{get_some}
use Rattle.nm_types.proofs.NumberLemmas.{eq_true, same_number}
use Rattle.nm_types.proofs.TruthLemmas.{both, not_true}
use Rattle.nm_history.specs.declared.events.Event.{Event}
use Rattle.nm_history.specs.declared.events.Happened.{Happened}
use Rattle.nm_history.specs.declared.events.Happened.TheVariants as event
use Rattle.nm_history.specs.Answers.{Message as claimed, claim_at, is_claim_for, is_receive_of, message_claimed, seen}
use Rattle.nm_history.specs.Quiescence.{Ended, Packets}
use Rattle.nm_history.specs.RankRun.{is_canceller, ran_lines}
use Rattle.nm_history.specs.Sends.{messages}
use Rattle.nm_history.proofs.Basic.{all_of, or_false}
use Rattle.nm_history.proofs.Lasting.{by_splits, filter_map_same}
use Rattle.nm_history.proofs.SelectionLemmas.{find_contains}
use Rattle.nm_outcomes.specs.Due.{IsAnswerOf}
use Rattle.nm_outcomes.specs.Logs.{Step, history_in}
use Rattle.nm_outcomes.specs.Paths.{moved}
use Rattle.nm_outcomes.specs.Places.{RankPoint, after}
use Rattle.nm_outcomes.proofs.Bodies.{came_known}
use Rattle.nm_outcomes.proofs.LogLemmas.{grown_here, grown_other}
use Rattle.nm_lawful.specs.declared.messages.Act.{Act}
use Rattle.nm_lawful.specs.declared.messages.Act.TheVariants as act
use Rattle.nm_lawful.specs.declared.messages.Claim.{Claim}
use Rattle.nm_lawful.specs.declared.messages.Message.{Message}
use Rattle.nm_lawful.specs.declared.messages.Pattern.{Pattern}
use Rattle.nm_lawful.specs.declared.messages.Request.{Request}
use Rattle.nm_lawful.specs.Moves.{Report}
use Rattle.nm_lawful.specs.Ranks.{RankState, receiver_of_lem, shown_to_lem}
use Rattle.nm_lawful.specs.Replies.{act_of_lem, looked_lem, pattern_lem}
use Rattle.nm_runs_lawful.specs.Stands.{IsNext, IsRunTold, SeenAlike, StepLeads, behind, claim_by, claimed_at, effects}
use Rattle.nm_runs_lawful.specs.Stands.{handle_of, is_live_at, is_match_of, is_matched_now, line_of, message_at}
use Rattle.nm_runs_lawful.specs.Stands.{message_by, rank_of}
use Rattle.nm_runs_lawful.specs.Stands.{request_by, standing_of, state_of}
use Rattle.nm_runs_lawful.proofs.AlikeLemmas.{claim_of, claim_with, kept_rank}
use Rattle.nm_runs_lawful.proofs.AnsweredLemmas.{due, idle, idle_effects, name_kept, ran_effects, told_here}
use Rattle.nm_runs_lawful.proofs.ArrivedLemmas.{message_is, sender_within}
use Rattle.nm_runs_lawful.proofs.ChangeLemmas.{grown_map, request_as, row_is, standing_as}
use Rattle.nm_runs_lawful.proofs.EndedLemmas.{moved_other, moved_own, moved_seen, ran_seen}
use Rattle.nm_runs_lawful.proofs.HandleLemmas.{no_message}
use Rattle.nm_runs_lawful.proofs.HeldLemmas.{twice}
use Rattle.nm_runs_lawful.proofs.KnownLemmas.{known_named, known_sent}
use Rattle.nm_runs_lawful.proofs.LookedLemmas.{no_more_claims, none_mapped}
use Rattle.nm_runs_lawful.proofs.NamedLemmas.{act_at, command_due}
use Rattle.nm_runs_lawful.proofs.NextLemmas.{behind_next, line_there}
use Rattle.nm_runs_lawful.proofs.OwnLemmas.{message_seen, pending_seen}
use Rattle.nm_runs_lawful.proofs.QuietLemmas.{first_alone}
use Rattle.nm_runs_lawful.proofs.RunLemmas.{row_of, run_leads}
use Rattle.nm_runs_lawful.proofs.ShownLemmas.{IsShown, begun, called, claim_there, first_shown, first_then, inside}
use Rattle.nm_runs_lawful.proofs.ShownLemmas.{none_selects, not_held, shown}
use Rattle.nm_runs_lawful.proofs.StandingLemmas.{head_some}
use Rattle.nm_runs_lawful.proofs.TakenLemmas.{IsSentBy, sent_by}

module _ (shape : Sizes) (lines : List Line) (ranks : List Ended) (packets : List Packets) (told : Report)
    (is : IsRunTold shape lines ranks packets told) (before : List Step) (s : Step) (later : List Step)
    (w : ℕ → RankPoint) (next : IsNext shape lines ranks before s later w) (line : ℕ) (x : Seen)
    (ran : s.event.what ≡ event.Ran line (answer.Seen x)) (m : ℕ) (from : Peer) (tag : TagPick) (ctx : ℕ)
    (probes : command_due shape lines ranks packets told is before s later w next line (answer.Seen x) ran
    ≡ command.Mprobe m from tag ctx)
  where
    abbrev i : ℕ
    i = s.rank

    abbrev commands : List Numbered
    commands = commands_of s.rank lines

    abbrev v : ℕ → RankPoint
    v = moved lines w s

    abbrev h : List Event
    h = history_in before s.rank

    abbrev row : RankState
    row = rank_of lines w (history_in before) s.rank

    abbrev Shown : Type 0
    Shown = IsShown shape lines ranks packets told is before s later w next line x ran m from tag ctx probes

    abbrev shows : Shown
    shows = shown shape lines ranks packets told is before s later w next line x ran m from tag ctx probes

    there : (b : List Event) × (e : Event) × (t : List Event) × (h ≡ b ++ e ∷ t)
        × (e.what ≡ event.Claim shows.claim.from shows.claim.n line)
    there = claim_there shape lines ranks packets told is before s later w next line x ran m from tag ctx probes

    abbrev b : List Event
    b = there.0

    abbrev e : Event
    e = there.1

    abbrev t : List Event
    t = there.2

    abbrev a0 : Arrival
    a0 = (first_then shape lines ranks packets told is before s later w next line x ran m from tag ctx probes).0

    from_is : a0.env.from ≡ shows.claim.from
    from_is = (first_then shape lines ranks packets told is before s later w next line x ran m from tag ctx probes).2

    n_is : a0.n ≡ shows.claim.n
    n_is = (first_then shape lines ranks packets told is before s later w next line x ran m from tag ctx probes).3

    in_rank : Contains (messages h) a0
    in_rank = inside shape lines ranks packets told is before s later w next line x ran m from tag ctx probes

    called_is : command_at commands line ≡ Some (command.Mprobe m from tag ctx)
    called_is = called shape lines ranks packets told is before s later w next line x ran m from tag ctx probes

    none_begun : (w i).begun ≡ []
    none_begun = begun shape lines ranks packets told is before s later w next line x ran m from tag ctx probes

    abbrev answers : IsAnswerOf commands h line
    answers = due shape lines ranks packets told is before s later w next line (answer.Seen x) ran

    -- the message that is known is that one
    abbrev a : Arrival
    a = shows.message

    names : (a.env.from ≡ shows.claim.from) × (a.n ≡ shows.claim.n)
    names =
        let all = known_named shape lines ranks packets told is before (s ∷ later) w next.so_far i shows.claim.from
        shows.claim.n a
        shows.known in
        (all.0, all.1)

    from_same : a.env.from ≡ a0.env.from
    from_same = names.0 ∙ sym from_is

    n_same : a.n ≡ a0.n
    n_same = names.1 ∙ sym n_is

    known_inside : Contains (messages h) a
    known_inside =
        find_contains (λ (z : Arrival). z.env.from == shows.claim.from && z.n == shows.claim.n) (messages h) a
        (sym ((next.so_far.places i).known shows.claim.from shows.claim.n) ∙ shows.known)

    own_line : (own : ℕ) × (slice_get ((w a0.env.from).lines i) a0.n ≡ Some own)
    own_line =
        get_some ((w a0.env.from).lines i) a0.n
        (known_sent shape lines ranks packets told is before (s ∷ later) w next.so_far i a0.env.from a0.n
        (came_known h a0 in_rank))

    send : IsSentBy shape lines ranks packets told is before (s ∷ later) w next.so_far a0.env.from i a0.n own_line.0
    send = sent_by shape lines ranks packets told is before (s ∷ later) w next.so_far a0.env.from i a0.n own_line.0
        own_line.1

    abbrev sent_from : ℕ → Message
    sent_from r =
        record { place = own_line.0 - 2; from = r; to = i; tag = send.tag; ctx = send.ctx; len = send.len }

    first_is_sent : sent_from a0.env.from ≡ message_at w i a0
    first_is_sent =
        message_is shape lines ranks packets told is before (s ∷ later) w next.so_far i a0 in_rank send.b send.e
        send.t send.split
        send.tag send.ctx send.len send.how own_line.0 send.sends

    known_is_sent : sent_from a.env.from ≡ message_at w i a
    known_is_sent =
        message_is shape lines ranks packets told is before (s ∷ later) w next.so_far i a known_inside send.b send.e
        send.t
        (ap (λ (r : ℕ). history_in before r) from_same ∙ send.split) send.tag send.ctx send.len send.how own_line.0
        (send.sends
        ∙ ap (λ (k : ℕ). event.Send i k send.tag send.ctx send.len send.how own_line.0) (sym n_same))

    message_same : message_at w i a ≡ message_at w i a0
    message_same = sym known_is_sent ∙ ap sent_from from_same ∙ first_is_sent

    seen_same : seen a ≡ seen a0
    seen_same =
        ap (λ (r : ℕ). answer.Seen (record { from = r; tag = a.env.tag; len = a.env.len })) from_same
        ∙ ap (λ (z : Message). answer.Seen (record { from = a0.env.from; tag = z.tag; len = z.len })) message_same

    -- the machine shows it
    abbrev pattern : Pattern
    pattern = pattern_lem from tag ctx

    abbrev does : Message → Act
    does message = act.Claim m message

    first_is_shown : shown_to_lem (rank_of lines w (history_in before) a0.env.from) i row pattern
        ≡ Some (message_at w i a0)
    first_is_shown =
        ap (λ (o : Option Message). option_map_or
        (λ m. option_map_or (λ r. None) (receiver_of_lem row m) (Some m)) o None)
        (first_shown shape lines ranks packets told is before s later w next line x ran m from tag ctx probes)
        ∙ ap (λ (o : Option Request). option_map_or (λ r. None) o (Some (message_at w i a0)))
        (none_selects shape lines ranks packets told is before s later w next line x ran m from tag ctx probes)

    looked : looked_lem does (state_of shape.ranks lines w before) i row pattern (seen a0)
        ≡ Some (act.Claim m (message_at w i a0))
    looked =
        ap (λ (o : Option RankState). option_map does (option_and_then
        (λ (m : Message). cond (m.tag == a0.env.tag && m.len == a0.env.len) (Some m) None)
        (option_and_then (λ sender. shown_to_lem sender i row pattern) o)))
        (row_of (rank_of lines w (history_in before)) a0.env.from 0 shape.ranks
        (sender_within shape lines ranks packets told is before (s ∷ later) w next.so_far i a0 in_rank)
        ∙ ap (λ (k : ℕ). Some (rank_of lines w (history_in before) k)) (zero_add a0.env.from))
        ∙ ap (λ (o : Option Message). option_map does (option_and_then
        (λ (m : Message). cond (m.tag == a0.env.tag && m.len == a0.env.len) (Some m) None) o)) first_is_shown
        ∙ ap (λ (z : Bool). option_map does (cond z (Some (message_at w i a0)) None))
        (both (a0.env.tag == a0.env.tag) (a0.env.len == a0.env.len) (eq_true a0.env.tag a0.env.tag refl)
        (eq_true a0.env.len a0.env.len refl))
      where
        zero_add : (n : ℕ) → 0 + n ≡ n
        zero_add n = omega arith

    acts : (place : ℕ) → act_at shape lines ranks packets told is before s later w next line place
        (command.Mprobe m from tag ctx) (Some (answer.Seen x)) ≡ Some (act.Claim m (message_at w i a0))
    acts place =
        ap (λ (o : Option Claim). cond (is_some o) None
        (looked_lem does (state_of shape.ranks lines w before) i row pattern (answer.Seen x)))
        (no_message lines w (history_in before) i (next.so_far.places i) m shows.none)
        ∙ ap (looked_lem does (state_of shape.ranks lines w before) i row pattern) (sym shows.shows ∙ seen_same)
        ∙ looked

    -- the places behind it
    own_is : v i ≡ after i commands (w i) (event.Ran line (answer.Seen x))
    own_is = moved_own lines w s ∙ ap (λ (what : Happened). after i commands (w i) what) ran

    all_seen : (r : ℕ) → SeenAlike (w r) (v r)
    all_seen =
        moved_seen lines w s
        (subst (λ (what : Happened). SeenAlike (w i) (after i commands (w i) what)) (sym ran)
        (ran_seen i commands (w i) line (answer.Seen x)))

    handled_is : (z : ℕ) → (v i).handled z ≡ cond (m == z) (Some line) ((w i).handled z)
    handled_is z =
        ap (λ (p : RankPoint). p.handled z) own_is
        ∙ ap (λ (o : Option Command). cond (option_map_or (is_claim_for z) o false && true) (Some line)
        (cond (option_map_or (is_receive_of z) o false && false) None ((w i).handled z))) called_is
        ∙ by_name (m == z)
      where
        by_name : (d : Bool) → cond (d && true) (Some line) ((w i).handled z) ≡ cond d (Some line) ((w i).handled z)
        by_name true = refl
        by_name false = refl

    live_is : (q l : ℕ) → is_live_at (v i) q l ≡ is_live_at (w i) q l
    live_is q l =
        ap (λ (p : RankPoint). is_live_at p q l) own_is
        ∙ ap (λ (o : Option ℕ). option_map_or (λ k. k == l) o false || false)
        (name_kept commands q ((w i).named q) line (answer.Seen x) refl refl)
        ∙ ap (λ (ws : List Happened). option_map_or (λ k. k == l) ((w i).named q) false
        || list_any (λ what. option_map_or (λ k. k == l) (line_of what) false) ws) (sym none_begun)

    stands_same : (what : Happened) → standing_of commands v i what ≡ standing_of commands w i what
    stands_same what =
        standing_as w v i commands what (λ r k of. (all_seen r).withdrawn i k)
        (λ r k of. ap (λ (p : RankPoint). p.recalled r k) own_is ∙ or_false ((w i).recalled r k))
        (λ k of. ap (λ (p : RankPoint). p.off k) own_is ∙ or_false ((w i).off k))
        (λ k of. ap (λ (p : RankPoint). p.pairs k) own_is ∙ first_alone ((w i).pairs k))
        (λ k pair of paired. message_seen w v i all_seen pair.arrival)

    -- a claim that a handle has
    claimed_same : (z f k : ℕ) → claimed_at v i z f k ≡ claimed_at w i z f k
    claimed_same z f k =
        ap (λ (d : Bool). cond d None (option_map (λ (a : Arrival). claim_of v i z a) ((v i).known f k)))
        (ap (λ (p : RankPoint). is_matched_now p f k) own_is)
        ∙ ap (λ (o : Option Arrival). option_map (λ (a : Arrival). claim_of v i z a) o)
        (ap (λ (p : RankPoint). p.known f k) own_is ∙ first_alone ((w i).known f k))
        ∙ by_known ((w i).known f k)
        ∙ sym (ap (λ (d : Bool). cond d None (option_map (λ (a : Arrival). claim_of w i z a) ((w i).known f k)))
        (unmatched f k))
      where
        unmatched : (f k : ℕ) → is_matched_now (w i) f k ≡ false
        unmatched f k = ap (λ (ws : List Happened). list_any (is_match_of f k) ws) none_begun

        by_known : (o : Option Arrival) →
            option_map (λ (a : Arrival). claim_of v i z a) o ≡ option_map (λ (a : Arrival). claim_of w i z a) o
        by_known None = refl
        by_known (Some a) = ap (λ (y : Message). Some (claim_with z y)) (message_seen w v i all_seen a)

    -- an earlier claim is the same: its handle is another one, or has nothing
    claim_same : (b' : List Event) (e' : Event) (t' : List Event) → b ≡ b' ++ e' ∷ t' → (what : Happened) →
        e'.what ≡ what → claim_by commands v i what ≡ claim_by commands w i what
    claim_same b' e' t' split' (event.Claim f k l) at' =
        by_handle (option_and_then handle_of (command_at commands l))
      where
        whole : h ≡ b' ++ e' ∷ (t' ++ e ∷ t)
        whole =
            there.3 ∙ ap (λ (z : List Event). z ++ e ∷ t) split' ∙ append_assoc b' (e' ∷ t') (e ∷ t)

        other : (line == l) ≡ false
        other =
            not_true (line == l) (λ same. twice shape lines ranks packets told is before (s ∷ later) w next.so_far i
            b' e' t' e t
            (there.3 ∙ ap (λ (z : List Event). z ++ e ∷ t) split') f k shows.claim.from shows.claim.n line
            (at' ∙ ap (λ (z : ℕ). event.Claim f k z) (sym (same_number line l same))) there.4)

        not_other : option_map_or (λ z. z == l) ((w i).handled m) false ≡ false
        not_other = by_stands ((w i).handled m) refl
          where
            some : is_some (claim_at h l) ≡ true
            some =
                ap (λ (z : List Event). is_some (claim_at z l)) whole
                ∙ head_some (λ (e : Event). message_claimed l e.what) b' (t' ++ e ∷ t) e'
                (ap (λ (what : Happened). is_some (message_claimed l what)) at'
                ∙ ap (λ (z : Bool). is_some {T = claimed} (cond z (Some (record { from = f; n = k })) None))
                (eq_true l l refl))

            by_stands : (o : Option ℕ) → (w i).handled m ≡ o → option_map_or (λ z. z == l) o false ≡ false
            by_stands None stands = refl
            by_stands (Some z) stands =
                not_true (z == l) (λ same. false≢true
                (ap (λ (o : Option claimed). is_some o)
                (sym shows.none ∙ ap (λ (o : Option ℕ). option_and_then (w i).claims o) stands
                ∙ ap (λ (z : ℕ). (w i).claims z) (same_number z l same) ∙ (next.so_far.places i).claims l)
                ∙ some))

        by_name : (z : ℕ) (d : Bool) → (m == z) ≡ d →
            cond (option_map_or (λ y. y == l) (cond d (Some line) ((w i).handled z)) false) (claimed_at v i z f k) None
            ≡ cond (option_map_or (λ y. y == l) ((w i).handled z) false) (claimed_at w i z f k) None
        by_name z true same =
            ap (λ (d : Bool). cond d (claimed_at v i z f k) None) other
            ∙ sym (ap (λ (d : Bool). cond d (claimed_at w i z f k) None)
            (ap (λ (y : ℕ). option_map_or (λ z. z == l) ((w i).handled y) false) (sym (same_number m z same))
            ∙ not_other))
        by_name z false different =
            ap (λ (o : Option Claim). cond (option_map_or (λ y. y == l) ((w i).handled z) false) o None)
            (claimed_same z f k)

        by_handle : (o : Option ℕ) →
            option_and_then (λ (z : ℕ). cond (option_map_or (λ y. y == l) ((v i).handled z) false)
            (claimed_at v i z f k) None) o
            ≡ option_and_then (λ (z : ℕ). cond (option_map_or (λ y. y == l) ((w i).handled z) false)
            (claimed_at w i z f k) None) o
        by_handle None = refl
        by_handle (Some z) =
            ap (λ (o : Option ℕ). cond (option_map_or (λ y. y == l) o false) (claimed_at v i z f k) None) (handled_is z)
            ∙ by_name z (m == z) refl
    claim_same b' e' t' split' what at' = refl

    -- its own claim is new
    new_claim : claim_by commands v i (event.Claim shows.claim.from shows.claim.n line)
        ≡ Some (claim_with m (message_at w i a0))
    new_claim =
        ap (λ (o : Option Command). option_and_then
        (λ (z : ℕ). cond (option_map_or (λ l. l == line) ((v i).handled z) false)
        (claimed_at v i z shows.claim.from shows.claim.n) None) (option_and_then handle_of o)) called_is
        ∙ ap (λ (o : Option ℕ). cond (option_map_or (λ l. l == line) o false)
        (claimed_at v i m shows.claim.from shows.claim.n) None)
        (handled_is m ∙ ap (λ (z : Bool). cond z (Some line) ((w i).handled m)) (eq_true m m refl))
        ∙ ap (λ (z : Bool). cond z (claimed_at v i m shows.claim.from shows.claim.n) None) (eq_true line line refl)
        ∙ claimed_same m shows.claim.from shows.claim.n
        ∙ ap (λ (z : Bool). cond z None (option_map (λ (a : Arrival). claim_of w i m a)
        ((w i).known shows.claim.from shows.claim.n)))
        (ap (λ (ws : List Happened). list_any (is_match_of shows.claim.from shows.claim.n) ws) none_begun)
        ∙ ap (λ (o : Option Arrival). option_map (λ (a : Arrival). claim_of w i m a) o) shows.known
        ∙ ap (λ (z : Message). Some (claim_with m z)) message_same

    -- no claim comes behind it
    no_claims : (u : ℕ → RankPoint) → filter_map (λ (e : Event). claim_by commands u i e.what) t ≡ []
    no_claims u =
        none_mapped (λ (e : Event). claim_by commands u i e.what) t
        (by_splits (λ e. claim_by commands u i e.what ≡ None) t [] t refl
        (λ z y rest so. by_event z y rest so y.what refl))
      where
        by_event : (z : List Event) (y : Event) (rest : List Event) → t ≡ z ++ y ∷ rest → (what : Happened) →
            y.what ≡ what → claim_by commands u i what ≡ None
        by_event z y rest so (event.Claim f k l) at' =
            absurd (no_more_claims shape lines ranks packets told is before (s ∷ later) w next.so_far i b e t there.3
            shows.claim.from shows.claim.n line there.4 answers.command answers.next answers.line_is z y rest so f k l
            at')
        by_event z y rest so what other = refl

    claims_of_both : (u : ℕ → RankPoint) → filter_map (λ (e : Event). claim_by commands u i e.what) h
        ≡ filter_map (λ (e : Event). claim_by commands u i e.what) b
        ++ cons_option (claim_by commands u i (event.Claim shows.claim.from shows.claim.n line)) []
    claims_of_both u =
        ap (λ (z : List Event). filter_map (λ (e : Event). claim_by commands u i e.what) z) there.3
        ∙ filter_map-append (λ (e : Event). claim_by commands u i e.what) b (e ∷ t)
        ∙ ap (λ (what : Happened). filter_map (λ (e : Event). claim_by commands u i e.what) b
        ++ cons_option (claim_by commands u i what) (filter_map
        (λ (e : Event). claim_by commands u i e.what) t)) there.4
        ∙ ap (λ (cs : List Claim). filter_map (λ (e : Event). claim_by commands u i e.what) b
        ++ cons_option (claim_by commands u i (event.Claim shows.claim.from shows.claim.n line)) cs) (no_claims u)

    claims_before : row.claims ≡ filter_map (λ (e : Event). claim_by commands w i e.what) b
    claims_before =
        claims_of_both w
        ∙ ap (λ (o : Option Claim). filter_map (λ (e : Event). claim_by commands w i e.what) b ++ cons_option o [])
        (not_held shape lines ranks packets told is before s later w next line x ran m from tag ctx probes
        shows.claim.from shows.claim.n)
        ∙ append-nil (filter_map (λ (e : Event). claim_by commands w i e.what) b)

    claims_behind : filter_map (λ (e : Event). claim_by commands v i e.what) (h ++ s.event ∷ [])
        ≡ row.claims ++ claim_with m (message_at w i a0) ∷ []
    claims_behind =
        filter_map-append (λ (e : Event). claim_by commands v i e.what) h (s.event ∷ [])
        ∙ ap (λ (what : Happened). filter_map (λ (e : Event). claim_by commands v i e.what) h
        ++ cons_option (claim_by commands v i what) []) ran
        ∙ append-nil (filter_map (λ (e : Event). claim_by commands v i e.what) h)
        ∙ claims_of_both v
        ∙ ap (λ (o : Option Claim). filter_map (λ (e : Event). claim_by commands v i e.what) b ++ cons_option o [])
        new_claim
        ∙ ap (λ (cs : List Claim). cs ++ claim_with m (message_at w i a0) ∷ [])
        (filter_map_same (λ (e : Event). claim_by commands v i e.what) (λ (e : Event). claim_by commands w i e.what) b
        (by_splits (λ e. claim_by commands v i e.what ≡ claim_by commands w i e.what) b [] b refl
        (λ z y rest so. claim_same z y rest so y.what refl)) ∙ sym claims_before)

    pub mprobe_seen : StepLeads shape lines told before s w
    mprobe_seen =
        let c = answers.command in
        let first = line_there i lines (length (ran_lines h)) c answers.next in
        let low = first.0 in
        let place : c.line - 1 ≡ c.line - 2 + 1 = omega (arith, low) in
        let idle_now = idle shape lines ranks packets told is before s later w next line (answer.Seen x) ran refl
        (ap is_canceller probes) in
        run_leads lines told shape.ranks w v (history_in before) (history_in (before ++ s ∷ [])) i next.comes.within c
        (ap (λ (n : ℕ). slice_get commands n) (idle_effects h idle_now) ∙ answers.next)
        (act.Claim m (message_at w i a0)) (λ z. refl)
        (ap (λ (o : Option Answer). act_of_lem lines (state_of shape.ranks lines w before) i row (c.line - 2) c.command
        o) (told_here shape lines ranks packets told is before s later w next line (answer.Seen x) ran refl)
        ∙ ap (λ (d : Command). act_of_lem lines (state_of shape.ranks lines w before) i row (c.line - 2) d
        (Some (answer.Seen x))) probes
        ∙ acts (c.line - 2))
        (row_is lines v (history_in (before ++ s ∷ [])) i (c.line - 2 + 1) row.requests row.outgoing
        (row.claims ++ claim_with m (message_at w i a0) ∷ [])
        (ap (λ (k : List Event). behind commands (effects k)) (grown_here before s)
        ∙ ap (behind commands) (ran_effects h s.event line (answer.Seen x) ran)
        ∙ behind_next commands (length (ran_lines h)) c answers.next ∙ place)
        (ap (λ (k : List Event). filter_map (λ (e : Event). request_by commands v i e.what) k) (grown_here before s)
        ∙ grown_map (λ (e : Event). request_by commands w i e.what) (λ (e : Event). request_by commands v i e.what) h
        s.event
        (all_of (λ e. request_by commands v i e.what ≡ request_by commands w i e.what) h
        (λ e. request_as w v i commands e.what (λ name l at is_name. live_is name l) (stands_same e.what)))
        ∙ ap (λ (what : Happened). row.requests ++ cons_option (request_by commands v i what) []) ran
        ∙ append-nil row.requests)
        (ap (λ (k : List Event). filter_map (λ (e : Event). message_by v i e.what) k) (grown_here before s)
        ∙ grown_map (λ (e : Event). message_by w i e.what) (λ (e : Event). message_by v i e.what) h s.event
        (all_of (λ e. message_by v i e.what ≡ message_by w i e.what) h (λ e. pending_seen w v i all_seen e.what))
        ∙ ap (λ (what : Happened). row.outgoing ++ cons_option (message_by v i what) []) ran ∙ append-nil row.outgoing)
        (ap (λ (k : List Event). filter_map (λ (e : Event). claim_by commands v i e.what) k) (grown_here before s)
        ∙ claims_behind))
        (λ k other. kept_rank lines w v (history_in before) (history_in (before ++ s ∷ [])) k
        (moved_other lines w s k other) all_seen (grown_other before s k other))
