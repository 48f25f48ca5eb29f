-- A message is withdrawn, as its sender wanted, and as no receive and no handle has it. MPI 3.1, 3.8.4.
use Rattle.std.proofs.Common.{◌≡◌, ℕ, ◌-◌, ◌<◌, ◌≤◌, ◌==◌, ◌&&◌, ◌||◌, Bool, true, false, cond, not, Option}
use Rattle.std.proofs.Common.{Some, None}
use Rattle.std.proofs.Common.{List, [], ◌∷◌, ◌++◌, get_or, length, map, refl, sym, ◌∙◌, ap, subst, arith, append-nil}
use Rattle.std.proofs.Common.{append_assoc}
use Rattle.std.specs.Prelude.{option_and_then, option_map}
use Rattle.std.specs.List.{AllByRecursion, cons_option, filter, filter_map, find, list_any, slice_get}
use Rattle.std.specs.Option.{option_map_or}
use Rattle.std.proofs.lemmas.Bool.{false≢true}
use Rattle.std.proofs.lemmas.Option.{get_or_from_slice_get}
use Rattle.std.proofs.lemmas.List.Elements.{filter_map-append}
use Rattle.std.proofs.lemmas.List.Folds.{list_any-append}
use Rattle.nm_types.specs.declared.messages.Arrival.{Arrival}
use Rattle.nm_types.specs.declared.messages.How.{How}
use Rattle.nm_types.specs.declared.scripts.Line.{Line}
use Rattle.nm_types.specs.Commands.{Numbered, command_at, commands_of}
use Rattle.nm_types.specs.Sizes.{Sizes}
use Rattle.nm_types.proofs.ListLemmas.{get_behind, get_some}
use Rattle.nm_types.proofs.NumberLemmas.{eq_true, same_number}
use Rattle.nm_types.proofs.OptionLemmas.{no_some, same_some}
use Rattle.nm_types.proofs.TruthLemmas.{and_left, and_right, both, not_true, or_left, or_right}
use Rattle.nm_history.specs.declared.events.Event.{Event}
use Rattle.nm_history.specs.declared.events.Happened.{Happened}
use Rattle.nm_history.specs.declared.events.Happened.TheVariants as event
use Rattle.nm_history.specs.Completion.Request.{Sending}
use Rattle.nm_history.specs.Happens.{happened, is_claim, is_send, is_undone, is_withdraw}
use Rattle.nm_history.specs.Quiescence.{Ended, Packets}
use Rattle.nm_history.specs.RankRun.{EndAt, is_cancelling, is_start}
use Rattle.nm_history.specs.Underway.{is_answer}
use Rattle.nm_history.proofs.Basic.{all_of, or_false}
use Rattle.nm_history.proofs.Lasting.{by_splits, filter_map_same}
use Rattle.nm_history.proofs.Sent.{happened-append}
use Rattle.nm_match.specs.Deeds.{is_known_message}
use Rattle.nm_match.proofs.NumberLemmas.{is_known_message-arrived}
use Rattle.nm_outcomes.specs.Logs.{Step, history_in}
use Rattle.nm_outcomes.specs.Moves.{MayMove}
use Rattle.nm_outcomes.specs.Paths.{moved}
use Rattle.nm_outcomes.specs.Places.{RankPoint, or_else}
use Rattle.nm_outcomes.proofs.EndLemmas.{all_follow, answered}
use Rattle.nm_outcomes.proofs.LogLemmas.{all_delivered, grown_here, grown_other}
use Rattle.nm_outcomes.proofs.PlaceLemmas.{find-append}
use Rattle.nm_lawful.specs.declared.messages.Message.{Message}
use Rattle.nm_lawful.specs.declared.messages.Request.{Request}
use Rattle.nm_lawful.specs.declared.messages.Standing.{Standing}
use Rattle.nm_lawful.specs.declared.messages.Standing.TheVariants as standing
use Rattle.nm_lawful.specs.Moves.{Report}
use Rattle.nm_lawful.specs.Ranks.{RankState, is_claimed_lem, marked_lem, request_at_lem, with_standing, without_message}
use Rattle.nm_runs_lawful.specs.Stands.{IsNext, IsRunTold, StepLeads, behind, claim_by, effects}
use Rattle.nm_runs_lawful.specs.Stands.{is_sync, line_of, message_at, message_by, name_of}
use Rattle.nm_runs_lawful.specs.Stands.{rank_of, request_by, standing_of, state_of}
use Rattle.nm_runs_lawful.proofs.AlikeLemmas.{live_request, started_at}
use Rattle.nm_runs_lawful.proofs.AnsweredLemmas.{and_nothing}
use Rattle.nm_runs_lawful.proofs.ChangeLemmas.{claim_as, message_as, request_as, row_is, standing_as}
use Rattle.nm_runs_lawful.proofs.ThereLemmas.{no_claim}
use Rattle.nm_runs_lawful.proofs.KnownLemmas.{known_sender, known_sent}
use Rattle.nm_runs_lawful.proofs.LiveLemmas.{find_step, request_from, request_in_start, start_in, start_line}
use Rattle.nm_runs_lawful.proofs.OnceLemmas.{found_at, fresh}
use Rattle.nm_runs_lawful.proofs.QuietLemmas.{same_effects}
use Rattle.nm_runs_lawful.proofs.KeptLemmas.{IsKept, recalled_kept}
use Rattle.nm_runs_lawful.proofs.TakeLemmas.{withdraw_leads}
use Rattle.nm_runs_lawful.proofs.TakenLemmas.{IsSentBy, outgoing_taken, sent_by}
use Rattle.nm_runs_lawful.proofs.UniqueLemmas.{line_starts, requests_marked, send_once, start_due}
use Rattle.nm_runs_lawful.proofs.WithdrawnLemmas.{WithdrawnAlike, request_place, withdrawn_each}

module _ (shape : Sizes) (lines : List Line) (ranks : List Ended) (packets : List Packets) (told : Report)
    (is : IsRunTold shape lines ranks packets told) (before : List Step) (s : Step) (later : List Step)
    (w : ℕ → RankPoint) (next : IsNext shape lines ranks before s later w) (from n : ℕ)
    (withdraws : s.event.what ≡ event.Withdraw from n true)
  where
    abbrev i : ℕ
    i = s.rank

    abbrev h : List Event
    h = history_in before s.rank

    abbrev hj : List Event
    hj = history_in before from

    abbrev cj : List Numbered
    cj = commands_of from lines

    abbrev v : ℕ → RankPoint
    v = moved lines w s

    abbrev g : ℕ → List Event
    g = history_in (before ++ s ∷ [])

    abbrev rows : ℕ → RankState
    rows = rank_of lines w (history_in before)

    alike : (r : ℕ) → WithdrawnAlike (s.rank == r) from n (w r) (moved lines w s r)
    alike = withdrawn_each lines w s from n withdraws

    ends : EndAt h (event.Withdraw from n true)
    ends = subst (λ (what : Happened). EndAt h what) withdraws next.comes.own.ends

    moves : MayMove shape lines w i (event.Withdraw from n true)
    moves = subst (λ (what : Happened). MayMove shape lines w i what) withdraws next.moves

    known : is_known_message h from n ≡ true
    known = is_known_message-arrived h from n ∙ ends.2

    within : from < shape.ranks
    within = known_sender shape lines ranks packets told is before (s ∷ later) w next.so_far i from n known

    frees : ((w i).taken from n ≡ false) × ((w i).claimed from n ≡ false) × ((w i).withdrawn from n ≡ false)
    frees = parts ((w i).taken from n) ((w i).claimed from n) ((w i).withdrawn from n) (sym moves.1)
      where
        parts : (x y z : Bool) → (not x && not y && not z) ≡ true → (x ≡ false) × (y ≡ false) × (z ≡ false)
        parts false false false all = (refl, refl, refl)
        parts true y z all = absurd (false≢true all)
        parts false true z all = absurd (false≢true all)
        parts false false true all = absurd (false≢true all)

    recalled : (w from).recalled i n ≡ true
    recalled = moves.2 within

    sent : n < length ((w from).lines i)
    sent = known_sent shape lines ranks packets told is before (s ∷ later) w next.so_far i from n known

    line : (own : ℕ) × (slice_get ((w from).lines i) n ≡ Some own)
    line = get_some ((w from).lines i) n sent

    send : IsSentBy shape lines ranks packets told is before (s ∷ later) w next.so_far from i n line.0
    send = sent_by shape lines ranks packets told is before (s ∷ later) w next.so_far from i n line.0 line.1

    abbrev place : ℕ
    place = line.0 - 2

    abbrev m : Message
    m = record { place = place; from = from; to = i; tag = send.tag; ctx = send.ctx; len = send.len }

    -- its message is pending
    abbrev sends : Event → Option Message
    sends e = message_by w from e.what

    pending : sends send.e ≡ Some m
    pending =
        ap (message_by w from) send.sends
        ∙ ap (λ (x : Bool). cond x None (Some m)) (ap (λ (x : Bool). x || (w i).withdrawn from n) frees.0 ∙ frees.2)

    pends_at : slice_get (rows from).outgoing (length (filter_map sends send.b)) ≡ Some m
    pends_at =
        ap (λ (k : List Event). slice_get (filter_map sends k) (length (filter_map sends send.b))) send.split
        ∙ ap (λ (xs : List Message). slice_get xs (length (filter_map sends send.b)))
        (filter_map-append sends send.b (send.e ∷ send.t)
        ∙ ap (λ (o : Option Message). filter_map sends send.b ++ cons_option o (filter_map sends send.t)) pending)
        ∙ get_behind (filter_map sends send.b) (filter_map sends send.t) m

    -- no handle has it
    unclaimed : is_claimed_lem (rows i) m ≡ false
    unclaimed =
        no_claim shape lines ranks packets told is before (s ∷ later) w next.so_far i from n line.0 line.1
        (λ b e t split l at. absurd (false≢true (sym (sym ((next.so_far.places i).claimed from n) ∙ frees.1)
        ∙ ap (happened (is_claim from n)) split
        ∙ happened-append (is_claim from n) b (e ∷ t)
        ∙ or_right (happened (is_claim from n) b) (is_claim from n e.what || happened (is_claim from n) t)
        (or_left (is_claim from n e.what) (happened (is_claim from n) t)
        (ap (is_claim from n) at
        ∙ both (from == from) (n == n) (eq_true from from refl) (eq_true n n refl)))))) m refl

    -- its send was recalled, and has no answer to that
    not_undone : (d : Bool) → happened (is_withdraw from n d) h ≡ false → happened (is_undone i n d) hj ≡ false
    not_undone d none =
        not_true (happened (is_undone i n d) hj) (λ undone. false≢true (sym none
        ∙ answered shape lines from i hj h (all_follow shape lines before next.so_far.log from)
        (all_follow shape lines before next.so_far.log i)
        (all_delivered shape lines before next.so_far.log from i within next.comes.within) n d undone))

    kept : IsKept shape lines ranks packets told is before (s ∷ later) w next.so_far from i n recalled
        (not_undone true ends.0) (not_undone false ends.1)
    kept =
        recalled_kept shape lines ranks packets told is before (s ∷ later) w next.so_far from i n recalled
        (not_undone true ends.0) (not_undone false ends.1)

    -- a send of this number is this one
    this_send : (b : List Event) (e : Event) (t : List Event) → hj ≡ b ++ e ∷ t → (to k tag ctx len : ℕ) (how : How)
        (own : ℕ) → e.what ≡ event.Send to k tag ctx len how own → to ≡ i → k ≡ n → own ≡ line.0
    this_send b e t split to k tag ctx len how own at one two =
        let at_i : e.what ≡ event.Send i n tag ctx len how own =
        at ∙ ap (λ (x : ℕ). event.Send x k tag ctx len how own) one
        ∙ ap (λ (x : ℕ). event.Send i x tag ctx len how own) two in
        let same = send_once shape lines ranks packets told is before (s ∷ later) w next.so_far from b e t split send.b
        send.e send.t send.split i n tag ctx len how own send.tag send.ctx send.len send.how line.0 at_i send.sends in
        let equal : event.Send i n tag ctx len how own ≡ event.Send i n send.tag send.ctx send.len send.how line.0 =
        sym at_i ∙ ap (λ (x : Event). x.what) same ∙ send.sends in
        cc

    same_line : kept.line ≡ line.0
    same_line =
        by_start (start_in kept.line hj) refl (sym (request_in_start kept.line hj) ∙ kept.request)
      where
        by_what : (what : Happened) → start_in kept.line hj ≡ Some what → request_from what ≡ Sending i n →
            kept.line ≡ line.0
        by_what (event.Send to k tag ctx len how own) start so =
            let found = found_at kept.line hj (event.Send to k tag ctx len how own) start in
            let one : to ≡ i = cc in
            let two : k ≡ n = cc in
            sym (same_some own kept.line (start_line kept.line hj (event.Send to k tag ctx len how own) start))
            ∙ this_send found.0 found.1 found.2 found.3 to k tag ctx len how own found.4 one two
        by_what what start so = absurd (grind arith)

        by_start : (o : Option Happened) → start_in kept.line hj ≡ o → option_map request_from o ≡ Some (Sending i n) →
            kept.line ≡ line.0
        by_start None start so = absurd (no_some (Sending i n) so)
        by_start (Some what) start so = by_what what start (same_some (request_from what) (Sending i n) so)

    abbrev sync : Bool
    sync = option_map_or is_sync (command_at cj line.0) false

    abbrev r : Request
    r = record { q = kept.q; place = place; standing = standing.Recalled sync }

    abbrev asks : Event → Option Request
    asks e = request_by cj w from e.what

    abbrev stood : Standing
    stood = standing_of cj w from (event.Send i n send.tag send.ctx send.len send.how line.0)

    request_is : asks send.e ≡ Some r
    request_is =
        ap (request_by cj w from) send.sends
        ∙ ap (λ (o : Option ℕ). option_and_then (λ (q : ℕ). live_request (w from) stood line.0 q) o)
        (subst (λ (l : ℕ). option_and_then name_of (command_at cj l) ≡ Some kept.q) same_line kept.names)
        ∙ ap (λ (b : Bool). cond b (started_at stood line.0 kept.q) None)
        (or_left (option_map_or (λ l. l == line.0) ((w from).named kept.q) false)
        (list_any (λ what. option_map_or (λ l. l == line.0) (line_of what) false) (w from).begun)
        (ap (λ (o : Option ℕ). option_map_or (λ l. l == line.0) o false) kept.named
        ∙ eq_true kept.line line.0 same_line))
        ∙ ap (λ (b : Bool). started_at (cond b standing.Withdrawn
        (cond ((w from).recalled i n) (standing.Recalled sync) (standing.Send sync))) line.0 kept.q) frees.2
        ∙ ap (λ (b : Bool). started_at (cond b (standing.Recalled sync) (standing.Send sync)) line.0 kept.q) recalled

    line_at : line_of send.e.what ≡ Some line.0
    line_at = ap line_of send.sends

    -- .. and is the only one at its place
    request_found : request_at_lem (rows from) place ≡ Some r
    request_found =
        ap (λ (k : List Event). find (λ x. x.place == place) (filter_map asks k)) send.split
        ∙ ap (λ (rs : List Request). find (λ x. x.place == place) rs)
        (filter_map-append asks send.b (send.e ∷ send.t)
        ∙ ap (λ (o : Option Request). filter_map asks send.b ++ cons_option o (filter_map asks send.t)) request_is)
        ∙ find-append (λ x. x.place == place) (filter_map asks send.b) (r ∷ filter_map asks send.t)
        ∙ ap (λ (o : Option Request). or_else o (find (λ x. x.place == place) (r ∷ filter_map asks send.t)))
        (none_there send.b (by_splits (λ e. (x : Request) → asks e ≡ Some x → (x.place == place) ≡ false) send.b []
        send.b refl other_place))
        ∙ ap (λ (b : Bool). cond b (Some r) (find (λ x. x.place == place) (filter_map asks send.t)))
        (eq_true place place refl)
      where
        none_there : (xs : List Event) →
            AllByRecursion (λ e. (x : Request) → asks e ≡ Some x → (x.place == place) ≡ false) xs →
            find (λ (x : Request). x.place == place) (filter_map asks xs) ≡ None
        none_there [] each = refl
        none_there (e ∷ xs) each =
            find_step (λ x. x.place == place) (asks e) (filter_map asks xs) each.0 ∙ none_there xs each.1

        apart : (x y : ℕ) → 2 ≤ x → 2 ≤ y → x - 2 ≡ y - 2 → x ≡ y
        apart x y first second same = omega (arith, first, second, same)

        other_place : (b : List Event) (e : Event) (t : List Event) → send.b ≡ b ++ e ∷ t → (x : Request) →
            asks e ≡ Some x → (x.place == place) ≡ false
        other_place b e t split x is_one =
            let at = request_place cj w from e.what x is_one in
            let whole : hj ≡ b ++ e ∷ (t ++ send.e ∷ send.t) =
            send.split ∙ ap (λ (k : List Event). k ++ send.e ∷ send.t) split
            ∙ append_assoc b (e ∷ t) (send.e ∷ send.t) in
            let low = (line_starts shape lines ranks packets told is before (s ∷ later) w next.so_far from b e
            (t ++ send.e ∷ send.t) whole at.0 at.1).1 in
            let own_low = (line_starts shape lines ranks packets told is before (s ∷ later) w next.so_far from send.b
            send.e send.t send.split line.0 line_at).1 in
            not_true (x.place == place) (λ same. false≢true
            (sym (fresh shape lines ranks packets told is before (s ∷ later) w next.so_far from send.b send.e send.t
            send.split line.0 line_at
            (start_due shape lines ranks packets told is before (s ∷ later) w next.so_far from send.b send.e send.t
            send.split line.0 line_at))
            ∙ ap (λ (k : List Event). list_any is_there k) split ∙ list_any-append is_there b (e ∷ t)
            ∙ or_right (list_any is_there b) (is_there e || list_any is_there t)
            (or_left (is_there e) (list_any is_there t)
            (ap (λ (o : Option ℕ). option_map_or (λ l. l == line.0) o false) at.1
            ∙ eq_true at.0 line.0 (apart at.0 line.0 low own_low
            (sym at.2 ∙ same_number x.place place same))))))
          where
            is_there : Event → Bool
            is_there e = option_map_or (λ l. l == line.0) (line_of e.what) false

    same_message : (k : ℕ) (y : Arrival) → message_at v k y ≡ message_at w k y
    same_message k y =
        message_as w v k y (ap (λ (ls : List ℕ). get_or ls y.n 0) ((alike y.env.from).lines k))

    gone : (r k y : ℕ) → ((v r).taken k y || (v r).withdrawn k y)
        ≡ (((w r).taken k y || (w r).withdrawn k y) || (i == r && (from == k && n == y)))
    gone r k y =
        ap (λ (b : Bool). b || (v r).withdrawn k y) ((alike r).taken k y)
        ∙ ap (λ (b : Bool). (w r).taken k y || b) ((alike r).withdrawn k y)
        ∙ joined ((w r).taken k y) ((w r).withdrawn k y) (i == r && (from == k && n == y))
      where
        joined : (a b c : Bool) → (a || (b || c)) ≡ ((a || b) || c)
        joined true b c = refl
        joined false b c = refl

    -- the event starts nothing, sends nothing and claims nothing
    grown_by : {X : Type 0} (f : Happened → Option X) → f (event.Withdraw from n true) ≡ None → (k : ℕ) →
        filter_map (λ (e : Event). f e.what) (g k) ≡ filter_map (λ (e : Event). f e.what) (history_in before k)
    grown_by {X} f none k = by_rank (i == k) refl
      where
        by_rank : (b : Bool) → (i == k) ≡ b →
            filter_map (λ (e : Event). f e.what) (g k) ≡ filter_map (λ (e : Event). f e.what) (history_in before k)
        by_rank true same =
            subst (λ (k : ℕ). filter_map (λ (e : Event). f e.what) (g k)
            ≡ filter_map (λ (e : Event). f e.what) (history_in before k)) (same_number i k same)
            (ap (λ (t : List Event). filter_map (λ (e : Event). f e.what) t) (grown_here before s)
            ∙ filter_map-append (λ (e : Event). f e.what) h (s.event ∷ [])
            ∙ ap (λ (o : Option X). filter_map (λ (e : Event). f e.what) h ++ cons_option o [])
            (ap f withdraws ∙ none)
            ∙ append-nil (filter_map (λ (e : Event). f e.what) h))
        by_rank false other =
            ap (λ (t : List Event). filter_map (λ (e : Event). f e.what) t) (grown_other before s k other)

    at_same : (k : ℕ) → behind (commands_of k lines) (effects (g k)) ≡ (rows k).at
    at_same k = by_rank (i == k) refl
      where
        by_rank : (b : Bool) → (i == k) ≡ b → behind (commands_of k lines) (effects (g k)) ≡ (rows k).at
        by_rank true same =
            subst (λ (k : ℕ). behind (commands_of k lines) (effects (g k)) ≡ (rows k).at) (same_number i k same)
            (ap (λ (t : List Event). behind (commands_of i lines) (effects t)) (grown_here before s)
            ∙ ap (behind (commands_of i lines)) (same_effects h s.event (ap is_answer withdraws)
            (ap (λ (what : Happened). is_start what || is_cancelling what) withdraws)))
        by_rank false other =
            ap (λ (t : List Event). behind (commands_of k lines) (effects t)) (grown_other before s k other)

    -- what is not the send stands as before
    stands_still : (k : ℕ) (what : Happened) → ((to y : ℕ) → is_send to y what ≡ true →
        (s.rank == to && (from == k && n == y)) ≡ false) →
        standing_of (commands_of k lines) v k what ≡ standing_of (commands_of k lines) w k what
    stands_still k what other =
        standing_as w v k (commands_of k lines) what
        (λ to y of. (alike to).withdrawn k y ∙ ap (λ (b : Bool). (w to).withdrawn k y || b) (other to y of)
        ∙ or_false ((w to).withdrawn k y))
        (λ to y of. (alike k).recalled to y) (λ y of. (alike k).off y) (λ y of. (alike k).pairs y)
        (λ y pair of paired. same_message k pair.arrival)

    abbrev mark : Request → Request
    mark = marked_lem place standing.Withdrawn

    requests_own : filter_map (λ (e : Event). request_by cj v from e.what) hj ≡ map mark (rows from).requests
    requests_own =
        requests_marked shape lines ranks packets told is before (s ∷ later) w next.so_far from v line.0 send.e.what
        (line_starts shape lines ranks packets told is before (s ∷ later) w next.so_far from send.b send.e send.t
        send.split line.0 line_at).0
        standing.Withdrawn stands_gone others (λ b e t split q l of names. (alike from).live q l)
      where
        stands_gone : standing_of cj v from send.e.what ≡ standing.Withdrawn
        stands_gone =
            ap (standing_of cj v from) send.sends
            ∙ ap (λ (b : Bool). cond b standing.Withdrawn
            (cond ((v from).recalled i n) (standing.Recalled sync) (standing.Send sync)))
            ((alike i).withdrawn from n
            ∙ or_right ((w i).withdrawn from n) (i == i && (from == from && n == n))
            (both (i == i) (from == from && n == n) (eq_true i i refl)
            (both (from == from) (n == n) (eq_true from from refl) (eq_true n n refl))))

        others : (b : List Event) (e : Event) (t : List Event) → hj ≡ b ++ e ∷ t → (other : ℕ) →
            line_of e.what ≡ Some other → (other == line.0) ≡ false →
            standing_of cj v from e.what ≡ standing_of cj w from e.what
        others b e t split other of differ = stands_still from e.what (λ to y sends. by_what e.what refl to y sends)
          where
            by_what : (what : Happened) → e.what ≡ what → (to y : ℕ) → is_send to y what ≡ true →
                (i == to && (from == from && n == y)) ≡ false
            by_what (event.Send to' y' tag ctx len how own) at to y sends =
                not_true (i == to && (from == from && n == y)) (λ same.
                let one : to' ≡ i = same_number to' to (and_left (to' == to) (y' == y) sends)
                ∙ sym (same_number i to (and_left (i == to) (from == from && n == y) same)) in
                let two : y' ≡ n = same_number y' y (and_right (to' == to) (y' == y) sends)
                ∙ sym (same_number n y (and_right (from == from) (n == y)
                (and_right (i == to) (from == from && n == y) same))) in
                let own_is : own ≡ line.0 = this_send b e t split to' y' tag ctx len how own at one two in
                let is_other : own ≡ other = same_some own other (sym (ap line_of at) ∙ of) in
                false≢true (sym differ ∙ eq_true other line.0 (sym is_other ∙ own_is)))
            by_what what at to y sends = absurd (false≢true sends)

    requests_behind : (k : ℕ) →
        filter_map (λ (e : Event). request_by (commands_of k lines) v k e.what) (g k)
        ≡ cond (from == k) (map mark (rows k).requests) (rows k).requests
    requests_behind k = grown_by (request_by (commands_of k lines) v k) refl k ∙ by_rank (from == k) refl
      where
        by_rank : (b : Bool) → (from == k) ≡ b →
            filter_map (λ (e : Event). request_by (commands_of k lines) v k e.what) (history_in before k)
            ≡ cond b (map mark (rows k).requests) (rows k).requests
        by_rank true same =
            subst (λ (k : ℕ). filter_map (λ (e : Event). request_by (commands_of k lines) v k e.what)
            (history_in before k) ≡ map mark (rows k).requests) (same_number from k same) requests_own
        by_rank false other =
            filter_map_same (λ (e : Event). request_by (commands_of k lines) v k e.what)
            (λ (e : Event). request_by (commands_of k lines) w k e.what) (history_in before k)
            (all_of (λ e. request_by (commands_of k lines) v k e.what ≡ request_by (commands_of k lines) w k e.what)
            (history_in before k)
            (λ e. request_as w v k (commands_of k lines) e.what (λ q l of names. (alike k).live q l)
            (stands_still k e.what (λ to y of. ap (λ (b : Bool). s.rank == to && (b && n == y)) other
            ∙ and_nothing (s.rank == to)))))

    outgoing_behind : (k : ℕ) → filter_map (λ (e : Event). message_by v k e.what) (g k)
        ≡ cond (from == k) (filter (λ y. not (y.place == place)) (rows k).outgoing) (rows k).outgoing
    outgoing_behind k =
        grown_by (message_by v k) refl k
        ∙ outgoing_taken shape lines ranks packets told is before (s ∷ later) w next.so_far v i from n sent gone k
        ∙ ap (λ (p : ℕ). cond (from == k) (filter (λ y. not (y.place == p)) (rows k).outgoing) (rows k).outgoing)
        (ap (λ (l : ℕ). l - 2) (get_or_from_slice_get ((w from).lines i) n line.0 0 line.1))

    claims_behind : (k : ℕ) → filter_map (λ (e : Event). claim_by (commands_of k lines) v k e.what) (g k)
        ≡ (rows k).claims
    claims_behind k =
        grown_by (claim_by (commands_of k lines) v k) refl k
        ∙ filter_map_same (λ (e : Event). claim_by (commands_of k lines) v k e.what)
        (λ (e : Event). claim_by (commands_of k lines) w k e.what) (history_in before k)
        (all_of (λ e. claim_by (commands_of k lines) v k e.what ≡ claim_by (commands_of k lines) w k e.what)
        (history_in before k) (λ e. by_event e.what))
      where
        by_event : (what : Happened) → claim_by (commands_of k lines) v k what ≡ claim_by (commands_of k lines) w k what
        by_event (event.Claim f y own) =
            claim_as w v k (commands_of k lines) f y own (alike k).handled ((alike k).matched f y) ((alike k).known f y)
            (λ x so. same_message k x)
        by_event what = refl

    each_behind : (k : ℕ) → rank_of lines v g k
        ≡ cond (from == k) (with_standing place standing.Withdrawn
        (cond (from == k) (without_message place (rows k)) (rows k)))
        (cond (from == k) (without_message place (rows k)) (rows k))
    each_behind k =
        row_is lines v g k (rows k).at (cond (from == k) (map mark (rows k).requests) (rows k).requests)
        (cond (from == k) (filter (λ y. not (y.place == place)) (rows k).outgoing) (rows k).outgoing) (rows k).claims
        (at_same k) (requests_behind k) (outgoing_behind k) (claims_behind k)
        ∙ by_sender (from == k) (rows k)
      where
        by_sender : (b : Bool) (r : RankState) →
            record {
              at = r.at;
              requests = cond b (map mark r.requests) r.requests;
              outgoing = cond b (filter (λ y. not (y.place == place)) r.outgoing) r.outgoing;
              claims = r.claims;
            } ≡ cond b (with_standing place standing.Withdrawn (cond b (without_message place r) r))
            (cond b (without_message place r) r)
        by_sender true r = refl
        by_sender false r = refl

    pub withdrawal_leads : StepLeads shape lines told before s w
    withdrawal_leads = (
      1,
      (
        state_of shape.ranks lines v (before ++ s ∷ []),
        withdraw_leads lines told shape.ranks rows (rank_of lines v g) m (length (filter_map sends send.b)) r
            next.comes.within within pends_at unclaimed request_found refl each_behind,
        refl,
      ),
    )
