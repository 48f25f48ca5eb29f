-- Where all ranks are at rest a command that has no answer is held up in the machine, too. MPI 3.1, 3.7.3, 3.8.1.
use Rattle.std.proofs.Common.{◌≡◌, ◌⊎◌, inl, inr, ℕ, zero, suc, ◌+◌, ◌-◌, ◌<◌, ◌==◌, ◌&&◌, ◌||◌, Bool, true, false}
use Rattle.std.proofs.Common.{cond, not, Option, Some, None, List, [], map, refl, sym, ◌∙◌, ap, subst, arith}
use Rattle.std.specs.Prelude.{is_some, option_map}
use Rattle.std.specs.List.{filter_map, list_any, range_with_len}
use Rattle.std.specs.Option.{option_map_or}
use Rattle.std.proofs.lemmas.Bool.{false≢true}
use Rattle.nm_types.specs.declared.answers.Answer.TheVariants as answer
use Rattle.nm_types.specs.declared.messages.Arrival.{Arrival}
use Rattle.nm_types.specs.declared.messages.Peer.{Peer}
use Rattle.nm_types.specs.declared.messages.TagPick.{TagPick}
use Rattle.nm_types.specs.declared.scripts.Command.{Command}
use Rattle.nm_types.specs.declared.scripts.Command.TheVariants as command
use Rattle.nm_types.specs.declared.scripts.Line.{Line}
use Rattle.nm_types.specs.Commands.{Numbered, command_at, commands_of}
use Rattle.nm_types.specs.Sizes.{Sizes}
use Rattle.nm_types.proofs.ListLemmas.{find_passes}
use Rattle.nm_types.proofs.NumberLemmas.{eq_true, same_number}
use Rattle.nm_types.proofs.OptionLemmas.{no_some, same_some}
use Rattle.nm_types.proofs.TruthLemmas.{and_left, and_right, both, or_right}
use Rattle.nm_history.specs.declared.events.Event.{Event}
use Rattle.nm_history.specs.declared.events.Happened.{Happened}
use Rattle.nm_history.specs.declared.events.Happened.TheVariants as event
use Rattle.nm_history.specs.declared.plain.Pair.{Pair}
use Rattle.nm_history.specs.Completion.{Request as asked, shown}
use Rattle.nm_history.specs.Completion.Request.{Receiving, Sending}
use Rattle.nm_history.specs.Matching.{is_free, is_of_receive, matched_pairs}
use Rattle.nm_history.specs.Quiescence.{Ended, Packets}
use Rattle.nm_history.specs.Selection.{matches}
use Rattle.nm_history.specs.Sends.{messages}
use Rattle.nm_lookups.proofs.ReplayLemmas.{found_any}
use Rattle.nm_match.specs.Deeds.{is_known_message}
use Rattle.nm_match.proofs.NumberLemmas.{is_known_message-arrived}
use Rattle.nm_outcomes.specs.Logs.{IsLogOf, Step, history_in}
use Rattle.nm_outcomes.specs.Moves.{ArePlaces, found_in, is_free_in, may_show, request_now}
use Rattle.nm_outcomes.specs.Places.{RankPoint}
use Rattle.nm_outcomes.specs.Rests.{AreAtRest, IsHeldUp}
use Rattle.nm_outcomes.proofs.MoveLemmas.{found_is}
use Rattle.nm_lawful.specs.declared.messages.Message.{Message}
use Rattle.nm_lawful.specs.declared.messages.Pattern.{Pattern}
use Rattle.nm_lawful.specs.declared.messages.Request.{Request}
use Rattle.nm_lawful.specs.declared.messages.Standing.TheVariants as standing
use Rattle.nm_lawful.specs.Moves.{Report}
use Rattle.nm_lawful.specs.Ranks.{RankState, first_to_lem, is_claimed_lem, is_waiting_lem, receiver_of_lem}
use Rattle.nm_lawful.specs.Ranks.{selects_lem, shown_to_lem}
use Rattle.nm_lawful.specs.Replies.{holds_lem, is_held_lem, pattern_lem}
use Rattle.nm_runs_lawful.specs.Stands.{IsRunTold, is_sync, message_at, message_by, rank_of, standing_of}
use Rattle.nm_runs_lawful.specs.Stands.{state_of, taken_by}
use Rattle.nm_runs_lawful.proofs.AtRestLemmas.{IsFree, IsPending, all_behind, begun_no, claimed_or_free, pending}
use Rattle.nm_runs_lawful.proofs.ThereLemmas.{any_there}
use Rattle.nm_runs_lawful.proofs.KnownLemmas.{unknown_taken}
use Rattle.nm_runs_lawful.proofs.LiveLemmas.{one_lives, request_from, start_in, start_line}
use Rattle.nm_runs_lawful.proofs.OnceLemmas.{found_at}
use Rattle.nm_runs_lawful.proofs.OrderLemmas.{passes_found}
use Rattle.nm_runs_lawful.proofs.StandingLemmas.{match_made}
use Rattle.nm_runs_lawful.proofs.TakeLemmas.{found_place}

-- none of the ranks' states passes
none_of_rows : (f : ℕ → RankState) (test : RankState → Bool) (start n : ℕ) →
    ((k : ℕ) → k < start + n → test (f k) ≡ false) → list_any test (map f (range_with_len start n)) ≡ false
none_of_rows f test start zero each = refl
none_of_rows f test start (suc n) each =
    ap (λ (b : Bool). b || list_any test (map f (range_with_len (start + 1) n))) (each start (omega arith))
    ∙ none_of_rows f test (start + 1) n (λ k low. each k (omega (arith, low)))

module _ (shape : Sizes) (lines : List Line) (ranks : List Ended) (packets : List Packets) (told : Report)
    (is : IsRunTold shape lines ranks packets told) (log : List Step) (w : ℕ → RankPoint)
    (log_of : IsLogOf shape lines ranks log) (are : ArePlaces lines log w) (rest : AreAtRest shape lines w)
  where
    abbrev rows : ℕ → RankState
    rows = rank_of lines w (history_in log)

    abbrev state : List RankState
    state = state_of shape.ranks lines w log

    -- a wait of a request that can't end
    module _ (i q : ℕ) (request : asked) (now : request_now (w i) q ≡ Some request)
        (none : may_show w i request ≡ None)
      where
        abbrev h : List Event
        h = history_in log i

        abbrev commands : List Numbered
        commands = commands_of i lines

        -- a receive that can't end was not cancelled, and has no message
        receive_waits : (number : ℕ) → may_show w i (Receiving number) ≡ None →
            ((w i).off number ≡ false) × ((w i).pairs number ≡ None)
        receive_waits number none = by_off ((w i).off number) ((w i).pairs number) none
          where
            by_off : (x : Bool) (o : Option Pair) → cond x (Some answer.Cancelled) (option_map shown o) ≡ None →
                (x ≡ false) × (o ≡ None)
            by_off true o none = absurd (no_some answer.Cancelled (sym none))
            by_off false (Some pair) none = absurd (no_some (shown pair) (sym none))
            by_off false None none = (refl, refl)

        -- a send that can't end is neither withdrawn nor taken
        send_waits : (to n : ℕ) → may_show w i (Sending to n) ≡ None →
            ((w to).withdrawn i n ≡ false) × ((w to).taken i n ≡ false)
        send_waits to n none =
            by_taken ((w to).withdrawn i n) ((w to).taken i n) refl none
          where
            arrived : (w to).taken i n ≡ true → (w to).arrived i n ≡ true
            arrived taken = by_known (is_known_message (history_in log to) i n) refl
              where
                by_known : (x : Bool) → is_known_message (history_in log to) i n ≡ x → (w to).arrived i n ≡ true
                by_known true known =
                    (are to).arrived i n ∙ sym (is_known_message-arrived (history_in log to) i n) ∙ known
                by_known false unknown =
                    absurd (false≢true (sym (unknown_taken shape lines ranks packets told is log [] w
                    (all_behind shape lines ranks packets told is log w log_of are rest) to i n unknown) ∙ taken))

            may_end : (u r : Bool) → (w to).taken i n ≡ true →
                ((u || (w to).taken i n) && (not r || ((w to).arrived i n && not (is_free_in (w to) i n)))) ≡ true
            may_end u r taken =
                both (u || (w to).taken i n) (not r || ((w to).arrived i n && not (is_free_in (w to) i n)))
                (or_right u ((w to).taken i n) taken)
                (or_right (not r) ((w to).arrived i n && not (is_free_in (w to) i n))
                (both ((w to).arrived i n) (not (is_free_in (w to) i n)) (arrived taken)
                (ap (λ (x : Bool). not (not x && not ((w to).claimed i n) && not ((w to).withdrawn i n))) taken)))

            by_taken : (x y : Bool) → (w to).taken i n ≡ y →
                cond x (Some answer.Cancelled)
                (cond (((w i).unasked to n || (w to).taken i n)
                && (not ((w i).recalled to n) || ((w to).arrived i n && not (is_free_in (w to) i n))))
                (Some answer.Sent) None) ≡ None → (x ≡ false) × (y ≡ false)
            by_taken true y at none = absurd (no_some answer.Cancelled (sym none))
            by_taken false false at none = (refl, refl)
            by_taken false true at none =
                absurd (no_some answer.Sent (sym (sym (ap (λ (z : Bool). cond z (Some answer.Sent) None)
                (may_end ((w i).unasked to n) ((w i).recalled to n) at)) ∙ none)))

        -- so is its standing
        holds : (line : ℕ) (what : Happened) → start_in line h ≡ Some what → request_from what ≡ request →
            holds_lem (is_waiting_lem (rows i) (line - 2)) (standing_of commands w i what) ≡ true
        holds line (event.Send to n tag ctx len how own) start from =
            let found = found_at line h (event.Send to n tag ctx len how own) start in
            let free = send_waits to n (subst (λ (r : asked). may_show w i r ≡ None) (sym from) none) in
            let same : own ≡ line = same_some own line (start_line line h (event.Send to n tag ctx len how own)
            start) in
            let pends : message_by w i found.1.what
            ≡ Some (record { place = own - 2; from = i; to = to; tag = tag; ctx = ctx; len = len }) =
            ap (message_by w i) found.4
            ∙ ap (λ (x : Bool). cond x None (Some (record {
              place = own - 2;
              from = i;
              to = to;
              tag = tag;
              ctx = ctx;
              len = len;
            }))) (ap (λ (x : Bool). x || (w to).withdrawn i n) free.1 ∙ free.0) in
            by_recalled ((w to).withdrawn i n) ((w i).recalled to n) free.0
            (ap (λ (k : List Event). list_any (λ (m : Message). m.place == (line - 2))
            (filter_map (λ (e : Event). message_by w i e.what) k)) found.3
            ∙ any_there (λ (e : Event). message_by w i e.what) (λ (m : Message). m.place == (line - 2)) found.0 found.2
            found.1 (record { place = own - 2; from = i; to = to; tag = tag; ctx = ctx; len = len }) pends
            (eq_true (own - 2) (line - 2) (ap (λ (l : ℕ). l - 2) same)))
          where
            by_recalled : (x y : Bool) → x ≡ false → is_waiting_lem (rows i) (line - 2) ≡ true →
                holds_lem (is_waiting_lem (rows i) (line - 2)) (cond x standing.Withdrawn
                (cond y (standing.Recalled (option_map_or is_sync (command_at commands own) false))
                (standing.Send (option_map_or is_sync (command_at commands own) false)))) ≡ true
            by_recalled true y kept waits = absurd (false≢true (sym kept))
            by_recalled false true kept waits = waits
            by_recalled false false kept waits = waits
        holds line (event.Post p own) start from =
            let closed = receive_waits p.number (subst (λ (r : asked). may_show w i r ≡ None) (sym from) none) in
            ap (λ (x : Bool). holds_lem (is_waiting_lem (rows i) (line - 2)) (cond x standing.Off
            (taken_by w i ((w i).pairs p.number) (standing.Open (pattern_lem p.from p.tag p.ctx) p.cap)))) closed.0
            ∙ ap (λ (o : Option Pair). holds_lem (is_waiting_lem (rows i) (line - 2))
            (taken_by w i o (standing.Open (pattern_lem p.from p.tag p.ctx) p.cap))) closed.1
        holds line (event.Match number f k cap own) start from =
            let closed = receive_waits number (subst (λ (r : asked). may_show w i r ≡ None) (sym from) none) in
            let found = found_at line h (event.Match number f k cap own) start in
            let made = match_made shape lines ranks packets told is log [] w
            (all_behind shape lines ranks packets told is log w log_of are rest) i found.0 found.1 found.2 found.3
            number f k cap own found.4 in
            absurd (false≢true
            (sym (ap (λ (o : Option Pair). is_some o) (sym ((are i).pairs number) ∙ closed.1))
            ∙ found_any (is_of_receive number) (matched_pairs h)
            ∙ made.2 (is_of_receive number) (eq_true number number refl)))
        holds line what start from = absurd (no_some line (start_line line h what start))

        pub wait_held : is_held_lem (state_of shape.ranks lines w log) i (rank_of lines w (history_in log) i)
            (command.Wait q) ≡ true
        wait_held =
            let live = one_lives lines w (history_in log) i (are i)
            (begun_no shape lines ranks packets told is log w log_of are rest i) q request now in
            ap (λ (o : Option Request). option_map_or
            (λ r. holds_lem (is_waiting_lem (rows i) r.place) r.standing) o false) live.lives_so
            ∙ holds live.line live.what live.start live.request

    -- an await that finds nothing
    module _ (i : ℕ) (within : i < shape.ranks) (from : Peer) (tag : TagPick) (ctx : ℕ)
        (none : found_in (w i) from tag ctx ≡ None)
      where
        abbrev pattern : Pattern
        pattern = pattern_lem from tag ctx

        -- no pending message of a rank is there for it
        not_picked : (k : ℕ) → k < shape.ranks → (m : Message) → IsPending shape lines ranks packets told is log w
            log_of are rest k m → (m.to == i && not (is_claimed_lem (rows i) m) && selects_lem pattern m) ≡ true → ⊥
        not_picked k low m p picks =
            subst (λ (m : Message). (m.to == i && not (is_claimed_lem (rows i) m) && selects_lem pattern m) ≡ true →
            ⊥) p.same by_message picks
          where
            x : Message
            x = record { place = p.own - 2; from = k; to = p.to; tag = p.tag; ctx = p.ctx; len = p.len }

            by_message : (p.to == i && not (is_claimed_lem (rows i) x) && selects_lem pattern x) ≡ true → ⊥
            by_message picks =
                by_either (claimed_or_free shape lines ranks packets told is log w log_of are rest k low p.b p.e p.t
                p.split p.to p.n p.tag p.ctx p.len p.how p.own p.at to_within p.gone)
              where
                to_is : p.to ≡ i
                to_is =
                    same_number p.to i (and_left (p.to == i) (not (is_claimed_lem (rows i) x))
                    (and_left (p.to == i && not (is_claimed_lem (rows i) x)) (selects_lem pattern x) picks))

                to_within : p.to < shape.ranks
                to_within = subst (λ (r : ℕ). r < shape.ranks) (sym to_is) within

                unclaimed : not (is_claimed_lem (rows i) x) ≡ true
                unclaimed =
                    and_right (p.to == i) (not (is_claimed_lem (rows i) x))
                    (and_left (p.to == i && not (is_claimed_lem (rows i) x)) (selects_lem pattern x) picks)

                selected : selects_lem pattern x ≡ true
                selected =
                    and_right (p.to == i && not (is_claimed_lem (rows i) x)) (selects_lem pattern x) picks

                by_either : (is_claimed_lem (rows p.to) x ≡ true) ⊎ IsFree shape lines ranks packets told is log w
                    log_of are rest k low p.b p.e p.t p.split p.to p.n p.tag p.ctx p.len p.how p.own p.at to_within
                    p.gone → ⊥
                by_either (inl claimed) =
                    false≢true (sym (ap not (subst (λ (r : ℕ). is_claimed_lem (rows r) x ≡ true) to_is claimed))
                    ∙ unclaimed)
                by_either (inr free) =
                    let its : selects_lem pattern (message_at w p.to free.arrival) ≡ true =
                    ap (selects_lem pattern) (sym free.message) ∙ selected in
                    let fails = passes_found (λ (a : Arrival). matches from tag ctx a.env
                    && is_free (history_in log p.to) (matched_pairs (history_in log p.to)) a)
                    (messages (history_in log p.to)) free.arrival
                    (sym (found_is p.to (commands_of p.to lines) (history_in log p.to) (w p.to) (are p.to) from tag ctx)
                    ∙ ap (λ (r : ℕ). found_in (w r) from tag ctx) to_is ∙ none) free.inside in
                    false≢true (sym fails ∙ both (matches from tag ctx free.arrival.env)
                    (is_free (history_in log p.to) (matched_pairs (history_in log p.to)) free.arrival) its free.free)

        not_shown : (k : ℕ) → k < shape.ranks → is_some (shown_to_lem (rows k) i (rows i) pattern) ≡ false
        not_shown k low = by_first (first_to_lem (rows k) i (rows i) pattern) refl
          where
            by_first : (o : Option Message) → first_to_lem (rows k) i (rows i) pattern ≡ o →
                is_some (option_map_or (λ m. option_map_or (λ r. None) (receiver_of_lem (rows i) m) (Some m)) o None)
                ≡ false
            by_first None found = refl
            by_first (Some m) found =
                let at = found_place (λ (m : Message). m.to == i && not (is_claimed_lem (rows i) m)
                && selects_lem pattern m) (rows k).outgoing m found in
                absurd (not_picked k low m
                (pending shape lines ranks packets told is log w log_of are rest k at.0 m at.1)
                (find_passes (λ (m : Message). m.to == i && not (is_claimed_lem (rows i) m) && selects_lem pattern m)
                (rows k).outgoing m found))

        pub await_held : is_held_lem (state_of shape.ranks lines w log) i (rank_of lines w (history_in log) i)
            (command.Await from tag ctx) ≡ true
        await_held =
            ap not (none_of_rows rows (λ sender. is_some (shown_to_lem sender i (rows i) pattern)) 0 shape.ranks
            (λ k low. not_shown k (let under = low in omega (arith, under))))

    -- .. so is the command that a rank waits in
    pub held_up : (i : ℕ) → i < shape.ranks → (c : Command) → IsHeldUp w i c →
        is_held_lem (state_of shape.ranks lines w log) i (rank_of lines w (history_in log) i) c ≡ true
    held_up i within (command.Wait q) held = wait_held i q held.0 held.1 held.2
    held_up i within (command.Await from tag ctx) held = await_held i within from tag ctx held
    held_up i within c held = absurd held
