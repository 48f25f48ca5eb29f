-- Where all ranks are at rest the machine has no move: no line, no pair, no withdrawal. MPI 3.1, 3.5, 3.7.3, 3.8.
use Rattle.std.proofs.Common.{◌≡◌, ℕ, ◌+◌, ◌-◌, ◌<◌, ◌&&◌, Bool, true, false, cond, not, Option, Some, None}
use Rattle.std.proofs.Common.{List, [], length, refl, sym, ◌∙◌, ap, subst, arith, append-nil}
use Rattle.std.specs.Prelude.{option_and_then, option_map}
use Rattle.std.specs.List.{slice_get}
use Rattle.std.specs.Option.{option_map_or}
use Rattle.nm_types.specs.declared.answers.Answer.{Answer}
use Rattle.nm_types.specs.declared.scripts.Command.{Command}
use Rattle.nm_types.specs.declared.scripts.Command.TheVariants as command
use Rattle.nm_types.specs.declared.scripts.Line.{Line}
use Rattle.nm_types.specs.Commands.{Numbered, command_at, commands_of}
use Rattle.nm_types.specs.Sizes.{Sizes}
use Rattle.nm_history.specs.declared.events.Event.{Event}
use Rattle.nm_history.specs.declared.events.Happened.{Happened}
use Rattle.nm_history.specs.declared.events.Happened.TheVariants as event
use Rattle.nm_history.specs.declared.plain.Pair.{Pair}
use Rattle.nm_history.specs.Quiescence.{Ended, Packets, history_of}
use Rattle.nm_history.specs.RankRun.{ran_lines}
use Rattle.nm_outcomes.specs.Logs.{IsLogOf, Step, history_in}
use Rattle.nm_outcomes.specs.Moves.{ArePlaces}
use Rattle.nm_outcomes.specs.Places.{RankPoint}
use Rattle.nm_outcomes.specs.Rests.{AreAtRest, IsHeldUp}
use Rattle.nm_outcomes.proofs.LogLemmas.{at_of, own_run}
use Rattle.nm_lawful.specs.declared.messages.Act.{Act}
use Rattle.nm_lawful.specs.declared.messages.Message.{Message}
use Rattle.nm_lawful.specs.declared.messages.Request.{Request}
use Rattle.nm_lawful.specs.declared.messages.Standing.{Standing}
use Rattle.nm_lawful.specs.declared.messages.Standing.TheVariants as standing
use Rattle.nm_lawful.specs.declared.moves.Move.{Move}
use Rattle.nm_lawful.specs.declared.moves.Move.TheVariants as move
use Rattle.nm_lawful.specs.declared.states.Deed.{Deed}
use Rattle.nm_lawful.specs.declared.states.Deed.TheVariants as deed
use Rattle.nm_lawful.specs.Moves.{Report, deed_of_lem, next_lem, next_of_lem, off_by_lem, pair_by_lem, pair_of_lem}
use Rattle.nm_lawful.specs.Moves.{run_by_lem, told_at_lem, withdrawal_of_lem}
use Rattle.nm_lawful.specs.Ranks.{RankState, is_claimed_lem, receiver_of_lem, request_at_lem}
use Rattle.nm_lawful.specs.Moves.{is_recalled_lem}
use Rattle.nm_lawful.specs.Replies.{act_of_lem, pattern_lem}
use Rattle.nm_lawful.specs.States.{after_lem}
use Rattle.nm_runs_lawful.specs.Stands.{IsRunTold, effects, is_sync, rank_of, request_by, standing_of, state_of}
use Rattle.nm_runs_lawful.specs.Stands.{taken_by}
use Rattle.nm_runs_lawful.proofs.AtRestLemmas.{IsPending, all_behind, effects_are, few_done, from_filter_map, no_pair}
use Rattle.nm_runs_lawful.proofs.AtRestLemmas.{no_withdrawal, pending, row_there}
use Rattle.nm_runs_lawful.proofs.HandleLemmas.{not_yet}
use Rattle.nm_runs_lawful.proofs.NextLemmas.{line_there, next_is, none_is}
use Rattle.nm_runs_lawful.proofs.OpenLemmas.{stands_so}
use Rattle.nm_runs_lawful.proofs.ToldLemmas.{line_told, nothing_told}

-- a start never stands marked
not_marked : (commands : List Numbered) (w : ℕ → RankPoint) (i place : ℕ) (what : Happened) →
    off_by_lem i place (standing_of commands w i what) ≡ None
not_marked commands w i place (event.Send to n tag ctx len how line) =
    by_gone ((w to).withdrawn i n) ((w i).recalled to n)
  where
    by_gone : (x y : Bool) → off_by_lem i place (cond x standing.Withdrawn
        (cond y (standing.Recalled (option_map_or is_sync (command_at commands line) false))
        (standing.Send (option_map_or is_sync (command_at commands line) false)))) ≡ None
    by_gone true y = refl
    by_gone false true = refl
    by_gone false false = refl
not_marked commands w i place (event.Post p line) = by_off ((w i).off p.number) ((w i).pairs p.number)
  where
    by_off : (x : Bool) (o : Option Pair) → off_by_lem i place (cond x standing.Off
        (taken_by w i o (standing.Open (pattern_lem p.from p.tag p.ctx) p.cap))) ≡ None
    by_off true o = refl
    by_off false None = refl
    by_off false (Some pair) = refl
not_marked commands w i place (event.Match number from n cap line) = by_off ((w i).off number) ((w i).pairs number)
  where
    by_off : (x : Bool) (o : Option Pair) →
        off_by_lem i place (cond x standing.Off (taken_by w i o standing.Off)) ≡ None
    by_off true o = refl
    by_off false None = refl
    by_off false (Some pair) = refl
not_marked commands w i place what = refl

module _ (shape : Sizes) (lines : List Line) (ranks : List Ended) (packets : List Packets) (told : Report)
    (is : IsRunTold shape lines ranks packets told) (log : List Step) (w : ℕ → RankPoint)
    (log_of : IsLogOf shape lines ranks log) (are : ArePlaces lines log w) (rest : AreAtRest shape lines w)
  where
    abbrev rows : ℕ → RankState
    rows = rank_of lines w (history_in log)

    abbrev state : List RankState
    state = state_of shape.ranks lines w log

    pub row_is : (i : ℕ) (x : RankState) → slice_get (state_of shape.ranks lines w log) i ≡ Some x →
        (i < shape.ranks) × (x ≡ rank_of lines w (history_in log) i)
    row_is i x here =
        let found = row_there rows i 0 shape.ranks x here in
        (found.0, found.1 ∙ ap (λ (k : ℕ). rows k) (zero_add i))
      where
        zero_add : (n : ℕ) → 0 + n ≡ n
        zero_add n = omega arith

    -- the next line of a rank is that of its next command
    pub next_some : (i : ℕ) (c : Numbered) → slice_get (commands_of i lines) (w i).done ≡ Some c →
        next_of_lem lines i (rank_of lines w (history_in log) i).at ≡ Some (c.line - 2)
    next_some i c next =
        next_is i lines (effects (history_in log i)) c
        (ap (λ (k : ℕ). slice_get (commands_of i lines) k)
        (effects_are shape lines ranks packets told is log w log_of are rest i) ∙ next)

    pub next_none : (i : ℕ) → slice_get (commands_of i lines) (w i).done ≡ None →
        next_of_lem lines i (rank_of lines w (history_in log) i).at ≡ None
    next_none i none =
        let done = effects_are shape lines ranks packets told is log w log_of are rest i in
        let few = few_done shape lines ranks packets told is log w log_of are rest i in
        let low = (own_run shape lines ranks packets is.run i).answers.few in
        none_is i lines (effects (history_in log i))
        (ap (λ (k : ℕ). slice_get (commands_of i lines) k) done ∙ none) (omega (arith, done, few, low))

    -- nothing is told of a command that waits, so its line is not run
    not_told : (i : ℕ) (c : Numbered) → slice_get (commands_of i lines) (w i).done ≡ Some c →
        told_at_lem told None (c.line - 2) ≡ None
    not_told i c next =
        line_told shape lines ranks packets told is i (w i).done c next
        ∙ ap (λ (xs : List Answer). slice_get xs 0)
        (nothing_told c.line (history_of ranks i)
        (not_yet i lines (at_of shape lines ranks packets is.run i) (history_of ranks i) (history_of ranks i) [] c
        (own_run shape lines ranks packets is.run i).answers (sym (append-nil (history_of ranks i)))
        (ap (λ (k : ℕ). slice_get (commands_of i lines) k)
        (sym ((are i).done ∙ ap (λ (h : List Event). length (ran_lines h)) (log_of.histories i))) ∙ next)))

    no_act : (i place : ℕ) (rank : RankState) (c : Command) → IsHeldUp w i c →
        act_of_lem lines state i rank place c None ≡ None
    no_act i place rank (command.Wait q) held = refl
    no_act i place rank (command.Await from tag ctx) held = refl
    no_act i place rank c held = absurd held

    abbrev acts : ℕ → ℕ → Option Line → Option Deed
    acts i place o =
        option_and_then (λ l. option_map (λ a. deed.Run i place (place + 1) a)
        (act_of_lem lines state i (rows i) place l.command (told_at_lem told None place))) o

    no_run : (i : ℕ) → i < shape.ranks → run_by_lem lines told None state i (rows i) ≡ None
    no_run i low = by_next (slice_get (commands_of i lines) (w i).done) refl
      where
        by_next : (o : Option Numbered) → slice_get (commands_of i lines) (w i).done ≡ o →
            run_by_lem lines told None state i (rows i) ≡ None
        by_next None none =
            ap (λ (o : Option ℕ). option_and_then (λ place. acts i place (slice_get lines place)) o) (next_none i none)
        by_next (Some c) next =
            ap (λ (o : Option ℕ). option_and_then (λ place. acts i place (slice_get lines place)) o)
            (next_some i c next)
            ∙ ap (λ (o : Option Line). acts i (c.line - 2) o) (line_there i lines (w i).done c next).1
            ∙ ap (λ (o : Option Answer). option_map (λ a. deed.Run i (c.line - 2) (c.line - 2 + 1) a)
            (act_of_lem lines state i (rows i) (c.line - 2) c.command o)) (not_told i c next)
            ∙ ap (λ (o : Option Act). option_map (λ a. deed.Run i (c.line - 2) (c.line - 2 + 1) a) o)
            (no_act i (c.line - 2) (rows i) c.command (rest.waits i low c next))

    -- what a pending message's receiver does with it
    no_take : (i : ℕ) → i < shape.ranks → (m : Message) → IsPending shape lines ranks packets told is log w log_of are
        rest i m → m.to < shape.ranks →
        option_and_then (pair_by_lem (rows i) (rows m.to) m) (receiver_of_lem (rows m.to) m) ≡ None
    no_take i low m p within =
        subst (λ (m : Message). m.to < shape.ranks →
        option_and_then (pair_by_lem (rows i) (rows m.to) m) (receiver_of_lem (rows m.to) m) ≡ None) p.same
        (λ within. no_pair shape lines ranks packets told is log w log_of are rest i low p.b p.e p.t p.split p.to p.n
        p.tag p.ctx p.len p.how p.own p.at within p.gone) within

    abbrev withdraws : ℕ → Message → RankState → Option Deed
    withdraws i m receiver =
        cond (not (is_claimed_lem receiver m)
        && option_map_or (λ r. is_recalled_lem r.standing) (request_at_lem (rows i) m.place) false)
        (Some (deed.Withdraw m)) None

    none_withdrawn : (i : ℕ) → i < shape.ranks → (m : Message) → IsPending shape lines ranks packets told is log w
        log_of are rest i m → m.to < shape.ranks → withdraws i m (rows m.to) ≡ None
    none_withdrawn i low m p within =
        subst (λ (m : Message). m.to < shape.ranks → withdraws i m (rows m.to) ≡ None) p.same
        (λ within. no_withdrawal shape lines ranks packets told is log w log_of are rest i low p.b p.e p.t p.split p.to
        p.n p.tag p.ctx p.len p.how p.own p.at within p.gone) within

    pair_none : (i : ℕ) → i < shape.ranks → (j : ℕ) (m : Message) → slice_get (rows i).outgoing j ≡ Some m →
        pair_of_lem state (rows i) m ≡ None
    pair_none i low j m here = by_receiver (slice_get state m.to) refl
      where
        by_receiver : (o : Option RankState) → slice_get state m.to ≡ o →
            option_and_then (λ x. option_and_then (pair_by_lem (rows i) x m) (receiver_of_lem x m)) o ≡ None
        by_receiver None at = refl
        by_receiver (Some x) at =
            let found = row_is m.to x at in
            ap (λ (x : RankState). option_and_then (pair_by_lem (rows i) x m) (receiver_of_lem x m)) found.1
            ∙ no_take i low m (pending shape lines ranks packets told is log w log_of are rest i j m here) found.0

    withdrawal_none : (i : ℕ) → i < shape.ranks → (j : ℕ) (m : Message) → slice_get (rows i).outgoing j ≡ Some m →
        withdrawal_of_lem state (rows i) m ≡ None
    withdrawal_none i low j m here = by_receiver (slice_get state m.to) refl
      where
        by_receiver : (o : Option RankState) → slice_get state m.to ≡ o →
            option_and_then (withdraws i m) o ≡ None
        by_receiver None at = refl
        by_receiver (Some x) at =
            let found = row_is m.to x at in
            ap (withdraws i m) found.1
            ∙ none_withdrawn i low m (pending shape lines ranks packets told is log w log_of are rest i j m here)
            found.0

    off_none : (i j : ℕ) → option_and_then (λ (r : Request). off_by_lem i r.place r.standing)
        (slice_get (rows i).requests j) ≡ None
    off_none i j = by_request (slice_get (rows i).requests j) refl
      where
        by_request : (o : Option Request) → slice_get (rows i).requests j ≡ o →
            option_and_then (λ (r : Request). off_by_lem i r.place r.standing) o ≡ None
        by_request None at = refl
        by_request (Some r) at =
            let from = from_filter_map (λ (e : Event). request_by (commands_of i lines) w i e.what) (history_in log i) j
            r at in
            ap (λ (st : Standing). off_by_lem i r.place st)
            (stands_so shape lines ranks packets told is log [] w
            (all_behind shape lines ranks packets told is log w log_of are rest) i from.1.what r from.4)
            ∙ not_marked (commands_of i lines) w i r.place from.1.what

    abbrev messages : (RankState → Message → Option Deed) → ℕ → Option RankState → Option Deed
    messages does j o =
        option_and_then (λ sender. option_and_then (does sender) (slice_get sender.outgoing j)) o

    -- a move of a message
    of_message : (does : RankState → Message → Option Deed) → ((i : ℕ) → i < shape.ranks → (j : ℕ) (m : Message) →
        slice_get (rows i).outgoing j ≡ Some m → does (rows i) m ≡ None) → (i j : ℕ) →
        messages does j (slice_get state i) ≡ None
    of_message does none i j = by_sender (slice_get state i) refl
      where
        by_place : i < shape.ranks → (o : Option Message) → slice_get (rows i).outgoing j ≡ o →
            option_and_then (does (rows i)) o ≡ None
        by_place low None at = refl
        by_place low (Some m) at = none i low j m at

        by_sender : (o : Option RankState) → slice_get state i ≡ o → messages does j o ≡ None
        by_sender None at = refl
        by_sender (Some x) at =
            let found = row_is i x at in
            ap (λ (x : RankState). option_and_then (does x) (slice_get x.outgoing j)) found.1
            ∙ by_place found.0 (slice_get (rows i).outgoing j) refl

    deed_none : (m : Move) → deed_of_lem lines told None state m ≡ None
    deed_none (move.Run i) = by_rank (slice_get state i) refl
      where
        by_rank : (o : Option RankState) → slice_get state i ≡ o →
            option_and_then (run_by_lem lines told None state i) o ≡ None
        by_rank None at = refl
        by_rank (Some x) at =
            let found = row_is i x at in
            ap (run_by_lem lines told None state i) found.1 ∙ no_run i found.0
    deed_none (move.Take i j) = of_message (pair_of_lem state) pair_none i j
    deed_none (move.Withdraw i j) = of_message (withdrawal_of_lem state) withdrawal_none i j
    deed_none (move.Off i j) = by_rank (slice_get state i) refl
      where
        by_rank : (o : Option RankState) → slice_get state i ≡ o →
            option_and_then (λ rank. option_and_then (λ (r : Request). off_by_lem i r.place r.standing)
            (slice_get rank.requests j)) o ≡ None
        by_rank None at = refl
        by_rank (Some x) at =
            ap (λ (x : RankState). option_and_then (λ (r : Request). off_by_lem i r.place r.standing)
            (slice_get x.requests j)) (row_is i x at).1 ∙ off_none i j

    pub still : (m : Move) → next_lem lines told None (state_of shape.ranks lines w log) m ≡ None
    still m = ap (λ (o : Option Deed). option_map (after_lem state) o) (deed_none m)
