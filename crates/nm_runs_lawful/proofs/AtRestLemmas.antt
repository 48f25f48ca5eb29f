-- Where all ranks are at rest: nothing has begun, and each message that is pending came. MPI 3.1, 3.5, 3.8.
use Rattle.std.proofs.Common.{◌≡◌, ◌⊎◌, inl, inr, ℕ, zero, suc, ◌+◌, ◌-◌, ◌<◌, ◌≤◌, ◌==◌, ◌&&◌, ◌||◌, Bool, true, false}
use Rattle.std.proofs.Common.{cond, not, Option, Some, None, List, [], ◌∷◌, ◌++◌, length, length-take-le, map, take}
use Rattle.std.proofs.Common.{refl, sym, ◌∙◌, ap, subst, arith, append-nil}
use Rattle.std.specs.Prelude.{Contains, is_some, option_and_then}
use Rattle.std.specs.List.{cons_option, filter_map, list_any, range_with_len, slice_get}
use Rattle.std.specs.Option.{option_map_or}
use Rattle.std.proofs.lemmas.Bool.{false≢true, lt-ltb}
use Rattle.std.proofs.lemmas.List.{length-map}
use Rattle.nm_types.specs.declared.messages.Arrival.{Arrival}
use Rattle.nm_types.specs.declared.messages.Envelope.{Envelope}
use Rattle.nm_types.specs.declared.messages.How.{How}
use Rattle.nm_types.specs.declared.scripts.Line.{Line}
use Rattle.nm_types.specs.Commands.{Numbered, command_at, commands_of}
use Rattle.nm_types.specs.Sizes.{Sizes}
use Rattle.nm_types.proofs.ListLemmas.{find_passes, map_length, place_below}
use Rattle.nm_types.proofs.NumberLemmas.{same_number}
use Rattle.nm_types.proofs.OptionLemmas.{no_some, same_some}
use Rattle.nm_types.proofs.TruthLemmas.{and_left, and_right, neither, not_true}
use Rattle.nm_history.specs.declared.events.Event.{Event}
use Rattle.nm_history.specs.declared.events.Happened.{Happened}
use Rattle.nm_history.specs.declared.events.Happened.TheVariants as event
use Rattle.nm_history.specs.Happens.{happened, is_claim}
use Rattle.nm_history.specs.Matching.{is_free, is_free_message, matched_pairs}
use Rattle.nm_history.specs.Quiescence.{Ended, Packets}
use Rattle.nm_history.specs.RankRun.{cancels_since, claims_since, is_cancelling, is_start, ran_lines, since_command}
use Rattle.nm_history.specs.RankRun.{starts_since}
use Rattle.nm_history.specs.Sends.{arrivals, envelope, message_of, messages, sends}
use Rattle.nm_history.proofs.SelectionLemmas.{find_contains, none_missed}
use Rattle.nm_lookups.proofs.ReplayLemmas.{is_some-message_of}
use Rattle.nm_match.proofs.NumberLemmas.{messages_numbered}
use Rattle.nm_outcomes.specs.Logs.{IsLogOf, Step, history_in}
use Rattle.nm_outcomes.specs.Moves.{ArePlaces, is_free_in}
use Rattle.nm_outcomes.specs.Places.{RankPoint}
use Rattle.nm_outcomes.specs.Rests.{AreAtRest}
use Rattle.nm_outcomes.proofs.LogLemmas.{at_of, own_run}
use Rattle.nm_outcomes.proofs.MoveLemmas.{free_is}
use Rattle.nm_lawful.specs.declared.messages.Claim.{Claim}
use Rattle.nm_lawful.specs.declared.messages.Message.{Message}
use Rattle.nm_lawful.specs.declared.messages.Pattern.{Pattern}
use Rattle.nm_lawful.specs.declared.messages.Request.{Request}
use Rattle.nm_lawful.specs.declared.messages.Standing.TheVariants as standing
use Rattle.nm_lawful.specs.declared.states.Deed.{Deed}
use Rattle.nm_lawful.specs.declared.states.Deed.TheVariants as deed
use Rattle.nm_lawful.specs.Moves.{Report, is_first_lem, is_recalled_lem, pair_by_lem}
use Rattle.nm_lawful.specs.Ranks.{RankState, cap_of_lem, first_to_lem, is_claimed_lem, pattern_of_lem}
use Rattle.nm_lawful.specs.Ranks.{receiver_of_lem, request_at_lem, selects_lem}
use Rattle.nm_runs_lawful.specs.Stands.{IsRunTold, IsSoFar, effects, is_sync, line_of, message_at, message_by, rank_of}
use Rattle.nm_runs_lawful.specs.Stands.{request_by, standing_of}
use Rattle.nm_runs_lawful.proofs.AnsweredLemmas.{and_nothing, idle_effects, neither_kind}
use Rattle.nm_runs_lawful.proofs.ArrivedLemmas.{message_is}
use Rattle.nm_runs_lawful.proofs.ThereLemmas.{claim_there}
use Rattle.nm_runs_lawful.proofs.HeldLemmas.{none_claims}
use Rattle.nm_runs_lawful.proofs.LiveLemmas.{start_in}
use Rattle.nm_runs_lawful.proofs.OnceLemmas.{numbers_now}
use Rattle.nm_runs_lawful.proofs.OpenLemmas.{no_receiver, stands_so}
use Rattle.nm_runs_lawful.proofs.TakeLemmas.{found_place}
use Rattle.nm_runs_lawful.proofs.UniqueLemmas.{line_of_send, line_starts, send_stands, sent_as}
use Rattle.nm_runs_lawful.proofs.WithdrawnLemmas.{request_place}

-- what stands in a mapped list comes of an element
pub from_filter_map : {X Y : Type 0} (f : X → Option Y) (xs : List X) (k : ℕ) (y : Y) →
    slice_get (filter_map f xs) k ≡ Some y →
    (b : List X) × (x : X) × (t : List X) × (xs ≡ b ++ x ∷ t) × (f x ≡ Some y)
from_filter_map f [] k y here = absurd (no_some y here)
from_filter_map {X} {Y} f (x ∷ xs) k y here =
    by_first (f x) refl k here (λ k here. from_filter_map f xs k y here)
  where
    later : (b : List X) × (z : X) × (t : List X) × (xs ≡ b ++ z ∷ t) × (f z ≡ Some y) →
        (b : List X) × (z : X) × (t : List X) × ((x ∷ xs) ≡ b ++ z ∷ t) × (f z ≡ Some y)
    later found = (x ∷ found.0, found.1, found.2, ap (λ (l : List X). x ∷ l) found.3, found.4)

    by_first : (o : Option Y) → f x ≡ o → (k : ℕ) → slice_get (cons_option o (filter_map f xs)) k ≡ Some y →
        ((k : ℕ) → slice_get (filter_map f xs) k ≡ Some y →
        (b : List X) × (z : X) × (t : List X) × (xs ≡ b ++ z ∷ t) × (f z ≡ Some y)) →
        (b : List X) × (z : X) × (t : List X) × ((x ∷ xs) ≡ b ++ z ∷ t) × (f z ≡ Some y)
    by_first None at k here rest = later (rest k here)
    by_first (Some z) at zero here rest = ([], x, xs, refl, at ∙ here)
    by_first (Some z) at (suc k) here rest = later (rest k here)

-- a state that stands among those of the ranks is that of one of them
pub row_there : (f : ℕ → RankState) (i start n : ℕ) (x : RankState) →
    slice_get (map f (range_with_len start n)) i ≡ Some x → (i < n) × (x ≡ f (start + i))
row_there f i start zero x here = absurd (no_some x here)
row_there f zero start (suc n) x here =
    (omega arith, sym (same_some (f start) x here) ∙ ap (λ (k : ℕ). f k) (omega arith))
row_there f (suc i) start (suc n) x here =
    let more = row_there f i (start + 1) n x here in
    (let low = more.0 in omega (arith, low), more.1 ∙ ap (λ (k : ℕ). f k) (omega arith))

module _ (shape : Sizes) (lines : List Line) (ranks : List Ended) (packets : List Packets) (told : Report)
    (is : IsRunTold shape lines ranks packets told) (log : List Step) (w : ℕ → RankPoint)
    (log_of : IsLogOf shape lines ranks log) (are : ArePlaces lines log w) (rest : AreAtRest shape lines w)
  where
    pub all_behind : IsSoFar shape lines ranks log [] w
    all_behind = record {
      whole = subst (λ (l : List Step). IsLogOf shape lines ranks l) (sym (append-nil log)) log_of;
      log = log_of.steps;
      places = are;
    }

    abbrev rows : ℕ → RankState
    rows = rank_of lines w (history_in log)

    -- nothing has begun
    pub no_starts : (i : ℕ) → starts_since (history_in log i) ≡ []
    no_starts i = ap starts_since (log_of.histories i) ∙ (own_run shape lines ranks packets is.run i).starts.no_others

    no_cancels : (i : ℕ) → cancels_since (history_in log i) ≡ []
    no_cancels i =
        ap cancels_since (log_of.histories i) ∙ (own_run shape lines ranks packets is.run i).cancels.no_others

    no_claims : (i : ℕ) → claims_since (history_in log i) ≡ []
    no_claims i = ap claims_since (log_of.histories i) ∙ (own_run shape lines ranks packets is.run i).claims.no_others

    pub begun_no : (i : ℕ) → (w i).begun ≡ []
    begun_no i = (are i).begun ∙ no_starts i

    pub effects_are : (i : ℕ) → effects (history_in log i) ≡ (w i).done
    effects_are i =
        idle_effects (history_in log i)
        (neither_kind is_start is_cancelling (since_command (history_in log i)) (no_starts i) (no_cancels i))
        ∙ sym (are i).done

    pub few_done : (i : ℕ) → (w i).done ≡ at_of shape lines ranks packets is.run i
    few_done i =
        let answers = (own_run shape lines ranks packets is.run i).answers in
        (are i).done ∙ ap (λ (h : List Event). length (ran_lines h)) (log_of.histories i)
        ∙ ap (λ (ls : List ℕ). length ls) answers.in_order
        ∙ length-map (take (at_of shape lines ranks packets is.run i) (commands_of i lines)) (λ c. c.line)
        ∙ length-take-le (at_of shape lines ranks packets is.run i) (commands_of i lines) answers.few

    -- A message that is pending, whose receiver is a rank of the run: it came.
    module _ (i : ℕ) (low : i < shape.ranks) (b : List Event) (e : Event) (t : List Event)
        (split : history_in log i ≡ b ++ e ∷ t) (to n tag ctx len : ℕ) (how : How) (own : ℕ)
        (at : e.what ≡ event.Send to n tag ctx len how own) (within : to < shape.ranks)
        (gone : ((w to).taken i n ≡ false) × ((w to).withdrawn i n ≡ false))
      where
        abbrev h : List Event
        h = history_in log to

        abbrev m : Message
        m = record { place = own - 2; from = i; to = to; tag = tag; ctx = ctx; len = len }

        count : length (arrivals h i) ≡ length (sends (history_in log i) to)
        count =
            sym ((are to).came i) ∙ rest.came i to low within ∙ ap (λ (es : List Envelope). length es) ((are i).sent to)
            ∙ map_length (envelope i) (sends (history_in log i) to)

        came : (a : Arrival) × (message_of h i n ≡ Some a)
        came =
            by_message (message_of h i n) refl
            (is_some-message_of h i n
            ∙ messages_numbered shape.ranks h
            (numbers_now shape lines ranks packets told is log [] w all_behind to) i n
            ∙ lt-ltb n (length (arrivals h i))
            (let here = place_below (sends (history_in log i) to) n (sent_as e to n tag ctx len how own)
            (send_stands shape lines ranks packets told is log [] w all_behind i b e t split to n tag ctx len how own
            at) in
            let same = count in omega (arith, here, same)))
          where
            by_message : (o : Option Arrival) → message_of h i n ≡ o → is_some o ≡ true →
                (a : Arrival) × (message_of h i n ≡ Some a)
            by_message None found some = absurd (false≢true some)
            by_message (Some a) found some = (a, found)

        names : (came.0.env.from ≡ i) × (came.0.n ≡ n)
        names =
            let its = find_passes (λ (x : Arrival). x.env.from == i && x.n == n) (messages h) came.0 came.1 in (
              same_number came.0.env.from i (and_left (came.0.env.from == i) (came.0.n == n) its),
              same_number came.0.n n (and_right (came.0.env.from == i) (came.0.n == n) its),
            )

        there : Contains (messages h) came.0
        there = find_contains (λ (x : Arrival). x.env.from == i && x.n == n) (messages h) came.0 came.1

        same : m ≡ message_at w to came.0
        same =
            ap (λ (x : ℕ). record { place = own - 2; from = x; to = to; tag = tag; ctx = ctx; len = len }) (sym names.0)
            ∙ message_is shape lines ranks packets told is log [] w all_behind to came.0 there b e t
            (ap (λ (x : ℕ). history_in log x) names.0 ∙ split) tag ctx len how own
            (at ∙ ap (λ (x : ℕ). event.Send to x tag ctx len how own) (sym names.1))

        free_in : happened (is_claim i n) h ≡ false → is_free_in (w to) i n ≡ true
        free_in unclaimed = rw (gone.0, (are to).claimed i n ∙ unclaimed, gone.1) refl

        -- a handle has it, or it is free
        pub record IsFree : Type 0 where
          pub arrival : Arrival
          pub inside : Contains (messages (history_in log to)) arrival
          pub free : is_free (history_in log to) (matched_pairs (history_in log to)) arrival ≡ true
          pub message : ◌≡◌ {A = Message}
              (record { place = own - 2; from = i; to = to; tag = tag; ctx = ctx; len = len })
              (message_at w to arrival)
          pub now : is_free_in (w to) i n ≡ true

        pub claimed_or_free : (is_claimed_lem (rank_of lines w (history_in log) to)
            (record { place = own - 2; from = i; to = to; tag = tag; ctx = ctx; len = len }) ≡ true) ⊎ IsFree
        claimed_or_free = by_claim (happened (is_claim i n) h) refl
          where
            by_claim : (x : Bool) → happened (is_claim i n) h ≡ x → (is_claimed_lem (rows to) m ≡ true) ⊎ IsFree
            by_claim true claimed =
                inl (claim_there shape lines ranks packets told is log [] w all_behind to i n own
                (line_of_send shape lines ranks packets told is log [] w all_behind i b e t split to n tag ctx len how
                own at)
                gone.0 (λ b' e' t' split' l at'. none_claims l (since_command h) (no_claims to)) claimed m refl)
            by_claim false unclaimed =
                inr (record {
                  arrival = came.0;
                  inside = there;
                  free = ap (λ (x : ℕ). is_free_message h (matched_pairs h) x came.0.n) names.0
                      ∙ ap (λ (x : ℕ). is_free_message h (matched_pairs h) i x) names.1
                      ∙ sym (free_is to (commands_of to lines) h (w to) (are to) i n) ∙ free_in unclaimed;
                  message = same;
                  now = free_in unclaimed;
                })

        -- so no receive takes it
        pub no_pair : option_and_then (pair_by_lem (rank_of lines w (history_in log) i)
            (rank_of lines w (history_in log) to)
            (record { place = own - 2; from = i; to = to; tag = tag; ctx = ctx; len = len }))
            (receiver_of_lem (rank_of lines w (history_in log) to)
            (record { place = own - 2; from = i; to = to; tag = tag; ctx = ctx; len = len })) ≡ None
        no_pair = by_either claimed_or_free
          where
            not_first : is_claimed_lem (rows to) m ≡ true → (p : Pattern) →
                is_first_lem (rows i) (rows to) m p ≡ false
            not_first claimed p = by_first (first_to_lem (rows i) to (rows to) p) refl
              where
                by_first : (o : Option Message) → first_to_lem (rows i) to (rows to) p ≡ o →
                    option_map_or (λ x. x.place == m.place) o false ≡ false
                by_first None found = refl
                by_first (Some x) found =
                    let passes = find_passes (λ (x : Message). x.to == to && not (is_claimed_lem (rows to) x)
                    && selects_lem p x) (rows i).outgoing x found in
                    let unclaimed = and_right (x.to == to) (not (is_claimed_lem (rows to) x))
                    (and_left (x.to == to && not (is_claimed_lem (rows to) x)) (selects_lem p x) passes) in
                    not_true (x.place == m.place) (λ equal. false≢true (sym (ap not
                    (ap (λ (k : ℕ). list_any (λ (c : Claim). c.message.place == k) (rows to).claims)
                    (same_number x.place m.place equal) ∙ claimed)) ∙ unclaimed))

            by_pattern : is_claimed_lem (rows to) m ≡ true → (r : Request) (o : Option Pattern) →
                option_and_then (λ p. cond (is_first_lem (rows i) (rows to) m p)
                (Some (deed.Pair m r.place (cap_of_lem r.standing))) None) o ≡ None
            by_pattern claimed r None = refl
            by_pattern claimed r (Some p) =
                ap (λ (x : Bool). cond {A = Option Deed} x (Some (deed.Pair m r.place (cap_of_lem r.standing))) None)
                (not_first claimed p)

            by_receiver : is_claimed_lem (rows to) m ≡ true → (o : Option Request) →
                option_and_then (pair_by_lem (rows i) (rows to) m) o ≡ None
            by_receiver claimed None = refl
            by_receiver claimed (Some r) = by_pattern claimed r (pattern_of_lem r.standing)

            by_either : (is_claimed_lem (rows to) m ≡ true) ⊎ IsFree →
                option_and_then (pair_by_lem (rows i) (rows to) m) (receiver_of_lem (rows to) m) ≡ None
            by_either (inl claimed) = by_receiver claimed (receiver_of_lem (rows to) m)
            by_either (inr free) =
                ap (λ (o : Option Request). option_and_then (pair_by_lem (rows i) (rows to) m) o)
                (ap (λ (x : Message). receiver_of_lem (rows to) x) free.message
                ∙ no_receiver shape lines ranks packets told is log [] w all_behind to free.arrival
                (λ p posted opened. none_missed h p free.arrival posted free.inside opened free.free))

        -- and it is not withdrawn
        pub no_withdrawal : cond (not (is_claimed_lem (rank_of lines w (history_in log) to)
            (record { place = own - 2; from = i; to = to; tag = tag; ctx = ctx; len = len }))
            && option_map_or (λ r. is_recalled_lem r.standing)
            (request_at_lem (rank_of lines w (history_in log) i) (own - 2)) false)
            (Some (deed.Withdraw (record {
              place = own - 2;
              from = i;
              to = to;
              tag = tag;
              ctx = ctx;
              len = len;
            }))) None ≡ None
        no_withdrawal = by_either claimed_or_free
          where
            commands : List Numbered
            commands = commands_of i lines

            ends : Bool → Bool → Option Deed
            ends x y = cond (not x && y) (Some (deed.Withdraw m)) None

            apart : (x y : ℕ) → 2 ≤ x → 2 ≤ y → x - 2 ≡ y - 2 → x ≡ y
            apart x y first second same = omega (arith, first, second, same)

            -- the request at its place is that of its send
            stands : (r : Request) → request_at_lem (rows i) (own - 2) ≡ Some r →
                r.standing ≡ standing_of commands w i (event.Send to n tag ctx len how own)
            stands r found =
                let at_place = found_place (λ (x : Request). x.place == (own - 2)) (rows i).requests r found in
                let from = from_filter_map (λ (e : Event). request_by commands w i e.what) (history_in log i) at_place.0
                r at_place.1 in
                let line = request_place commands w i from.1.what r from.4 in
                let first = line_starts shape lines ranks packets told is log [] w all_behind i from.0 from.1 from.2
                from.3 line.0 line.1 in
                let second = line_starts shape lines ranks packets told is log [] w all_behind i b e t split own
                (ap line_of at) in
                let equal : line.0 ≡ own = apart line.0 own first.1 second.1
                (sym line.2 ∙ same_number r.place (own - 2)
                (find_passes (λ (x : Request). x.place == (own - 2)) (rows i).requests r found)) in
                stands_so shape lines ranks packets told is log [] w all_behind i from.1.what r from.4
                ∙ ap (standing_of commands w i)
                (same_some from.1.what e.what
                (sym first.0 ∙ ap (λ (l : ℕ). start_in l (history_in log i)) equal ∙ second.0) ∙ at)

            sync : Bool
            sync = option_map_or is_sync (command_at commands own) false

            recalled : (x y : Bool) → x ≡ false →
                is_recalled_lem (cond x standing.Withdrawn (cond y (standing.Recalled sync) (standing.Send sync)))
                ≡ true → y ≡ true
            recalled x true kept is_so = refl
            recalled true false kept is_so = absurd (false≢true is_so)
            recalled false false kept is_so = absurd (false≢true is_so)

            not_recalled : IsFree → (r : Request) → request_at_lem (rows i) (own - 2) ≡ Some r →
                is_recalled_lem r.standing ≡ false
            not_recalled free r found =
                not_true (is_recalled_lem r.standing) (λ is_so. false≢true
                (sym (rest.recalls i to n low within
                (recalled ((w to).withdrawn i n) ((w i).recalled to n) gone.1
                (ap is_recalled_lem (sym (stands r found)) ∙ is_so)))
                ∙ free.now))

            by_request : IsFree → (o : Option Request) → request_at_lem (rows i) (own - 2) ≡ o →
                ends (is_claimed_lem (rows to) m) (option_map_or (λ r. is_recalled_lem r.standing) o false) ≡ None
            by_request free None found =
                ap (λ (x : Bool). cond x (Some (deed.Withdraw m)) None) (and_nothing (not (is_claimed_lem (rows to) m)))
            by_request free (Some r) found =
                ap (ends (is_claimed_lem (rows to) m)) (not_recalled free r found)
                ∙ ap (λ (x : Bool). cond x (Some (deed.Withdraw m)) None)
                (and_nothing (not (is_claimed_lem (rows to) m)))

            by_either : (is_claimed_lem (rows to) m ≡ true) ⊎ IsFree →
                ends (is_claimed_lem (rows to) m)
                (option_map_or (λ r. is_recalled_lem r.standing) (request_at_lem (rows i) (own - 2)) false) ≡ None
            by_either (inl claimed) =
                ap (λ (x : Bool). ends x
                (option_map_or (λ r. is_recalled_lem r.standing) (request_at_lem (rows i) (own - 2)) false)) claimed
            by_either (inr free) = by_request free (request_at_lem (rows i) (own - 2)) refl

    -- a message that a rank has pending was sent, and is neither taken nor withdrawn
    pub record IsPending (i : ℕ) (m : Message) : Type 0 where
      pub b : List Event
      pub e : Event
      pub t : List Event
      pub split : history_in log i ≡ b ++ e ∷ t
      pub to : ℕ
      pub n : ℕ
      pub tag : ℕ
      pub ctx : ℕ
      pub len : ℕ
      pub how : How
      pub own : ℕ
      pub at : e.what ≡ event.Send to n tag ctx len how own
      pub gone : ((w to).taken i n ≡ false) × ((w to).withdrawn i n ≡ false)
      pub same : ◌≡◌ {A = Message} (record { place = own - 2; from = i; to = to; tag = tag; ctx = ctx; len = len }) m

    pub pending : (i k : ℕ) (m : Message) → slice_get (rank_of lines w (history_in log) i).outgoing k ≡ Some m →
        IsPending i m
    pending i k m here =
        let found = from_filter_map (λ (e : Event). message_by w i e.what) (history_in log i) k m here in
        by_event found.0 found.1 found.2 found.3 found.1.what refl found.4
      where
        by_event : (b : List Event) (e : Event) (t : List Event) → history_in log i ≡ b ++ e ∷ t → (what : Happened) →
            e.what ≡ what → message_by w i what ≡ Some m → IsPending i m
        by_event b e t split (event.Send to n tag ctx len how own) at is_one =
            by_gone ((w to).taken i n || (w to).withdrawn i n) refl is_one
          where
            by_gone : (x : Bool) → ((w to).taken i n || (w to).withdrawn i n) ≡ x →
                cond x None (Some (record {
                  place = own - 2;
                  from = i;
                  to = to;
                  tag = tag;
                  ctx = ctx;
                  len = len;
                })) ≡ Some m → IsPending i m
            by_gone true so is_one = absurd (no_some m is_one)
            by_gone false so is_one =
                record {
                  b = b;
                  e = e;
                  t = t;
                  split = split;
                  to = to;
                  n = n;
                  tag = tag;
                  ctx = ctx;
                  len = len;
                  how = how;
                  own = own;
                  at = at;
                  gone = neither ((w to).taken i n) ((w to).withdrawn i n) so;
                  same = same_some (record {
                    place = own - 2;
                    from = i;
                    to = to;
                    tag = tag;
                    ctx = ctx;
                    len = len;
                  }) m is_one;
                }
        by_event b e t split what at is_one = absurd (no_some m is_one)
