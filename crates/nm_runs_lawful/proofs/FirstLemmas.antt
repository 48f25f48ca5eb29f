-- The first free message of a sender is the first that is pending, in the machine as in the rank. MPI 3.1, 3.5.
use Rattle.std.proofs.Common.{◌≡◌, ℕ, suc, ◌+◌, ◌-◌, ◌<◌, ◌==◌, ◌&&◌, ◌||◌, Bool, true, false, cond, not, Option}
use Rattle.std.proofs.Common.{◌⊎◌, Some, None, inl, inr}
use Rattle.std.proofs.Common.{List, [], ◌∷◌, ◌++◌, get_or, length, refl, sym, ◌∙◌, ap, subst, arith, append_assoc}
use Rattle.std.proofs.Common.{length-append}
use Rattle.std.specs.Prelude.{Contains, is_some}
use Rattle.std.specs.List.{AllByRecursion, cons_option, filter_map, find, list_any, slice_get}
use Rattle.std.specs.Option.{option_map_or}
use Rattle.std.proofs.Math.Dec.{ltb}
use Rattle.std.proofs.lemmas.Bool.{false≢true}
use Rattle.std.proofs.lemmas.Bool.Decides.{nat_tests}
use Rattle.std.proofs.lemmas.Option.{get_or_from_slice_get}
use Rattle.std.proofs.lemmas.List.Elements.{filter_map-append}
use Rattle.nm_types.specs.declared.messages.Arrival.{Arrival}
use Rattle.nm_types.specs.declared.messages.Peer.{Peer}
use Rattle.nm_types.specs.declared.messages.TagPick.{TagPick}
use Rattle.nm_types.specs.declared.scripts.Line.{Line}
use Rattle.nm_types.specs.Commands.{commands_of}
use Rattle.nm_types.specs.Sizes.{Sizes}
use Rattle.nm_types.proofs.ListLemmas.{find_passes, get_some}
use Rattle.nm_types.proofs.NumberLemmas.{eq_less, eq_true, same_number}
use Rattle.nm_types.proofs.OptionLemmas.{no_some, same_some}
use Rattle.nm_types.proofs.TruthLemmas.{and_left, and_right, both, neither}
use Rattle.nm_types.specs.declared.messages.How.{How}
use Rattle.nm_history.specs.declared.events.Event.{Event}
use Rattle.nm_history.specs.declared.events.Happened.{Happened}
use Rattle.nm_history.specs.declared.events.Happened.TheVariants as event
use Rattle.nm_history.specs.Happens.{happened, is_claim}
use Rattle.nm_history.specs.Matching.{is_free, is_free_message, matched_pairs}
use Rattle.nm_history.specs.Quiescence.{Ended, Packets}
use Rattle.nm_history.specs.RankRun.{NumberAt, line_of_claim, since_command}
use Rattle.nm_history.specs.Selection.{matches}
use Rattle.nm_history.specs.Sends.{arrivals, message_of, messages, sends}
use Rattle.nm_history.proofs.Lasting.{by_splits}
use Rattle.nm_history.proofs.SelectionLemmas.{find_contains}
use Rattle.nm_match.specs.Deeds.{is_known_message}
use Rattle.nm_match.proofs.NumberLemmas.{messages_numbered}
use Rattle.nm_lookups.proofs.ReplayLemmas.{is_some-message_of}
use Rattle.nm_outcomes.specs.Logs.{Step, history_in}
use Rattle.nm_outcomes.specs.Places.{RankPoint}
use Rattle.nm_outcomes.specs.Places.{or_else}
use Rattle.nm_outcomes.proofs.Bodies.{came_known}
use Rattle.nm_outcomes.proofs.MoveLemmas.{free_is}
use Rattle.nm_outcomes.proofs.PlaceLemmas.{find-append}
use Rattle.nm_lawful.specs.declared.messages.Message.{Message}
use Rattle.nm_lawful.specs.Moves.{Report}
use Rattle.nm_lawful.specs.Ranks.{first_to_lem, is_claimed_lem, selects_lem}
use Rattle.nm_lawful.specs.Replies.{pattern_lem}
use Rattle.nm_runs_lawful.specs.Stands.{IsSoFar, IsRunTold, claim_by}
use Rattle.nm_runs_lawful.specs.Stands.{message_at}
use Rattle.nm_runs_lawful.specs.Stands.{message_by, rank_of}
use Rattle.nm_runs_lawful.proofs.AnsweredLemmas.{and_nothing}
use Rattle.nm_runs_lawful.proofs.ArrivedLemmas.{message_is}
use Rattle.nm_runs_lawful.proofs.KnownLemmas.{known_sent}
use Rattle.nm_runs_lawful.proofs.LiveLemmas.{find_step}
use Rattle.nm_runs_lawful.proofs.OnceLemmas.{number_at, numbers_now}
use Rattle.nm_runs_lawful.proofs.TakenLemmas.{IsSentBy, sent_by}
use Rattle.nm_runs_lawful.proofs.UniqueLemmas.{sends_with, sent_as}
use Rattle.nm_runs_lawful.proofs.ThereLemmas.{claim_there, no_claim}

below : (a b : ℕ) → a < b → ltb a b ≡ true
below a b low = grind (arith, nat_tests)

above : (a b : ℕ) → ltb a b ≡ true → a < b
above a b is = grind (arith, nat_tests)

module _ (shape : Sizes) (lines : List Line) (ranks : List Ended) (packets : List Packets) (told : Report)
    (is : IsRunTold shape lines ranks packets told) (before : List Step) (later : List Step)
    (w : ℕ → RankPoint) (next : IsSoFar shape lines ranks before later w) (i : ℕ)
  where
    abbrev h : List Event
    h = history_in before i

    abbrev Picks : Message → Peer → TagPick → ℕ → Bool
    Picks m from tag ctx =
        m.to == i && not (is_claimed_lem (rank_of lines w (history_in before) i) m)
        && selects_lem (pattern_lem from tag ctx) m

    no_claimed : (x y : Bool) → (x && not true && y) ≡ false
    no_claimed true y = refl
    no_claimed false y = refl

    -- A message that is pending and selected, and before which none of its sender is.
    module _ (a : Arrival) (own_line : ℕ) (line : slice_get ((w a.env.from).lines i) a.n ≡ Some own_line)
        (same_as : (b : List Event) (e : Event) (t : List Event) → history_in before a.env.from ≡ b ++ e ∷ t →
        (tag ctx len : ℕ) (how : How) → e.what ≡ event.Send i a.n tag ctx len how own_line →
        ◌≡◌ {A = Message} (record { place = own_line - 2; from = a.env.from; to = i; tag = tag; ctx = ctx; len = len })
        (message_at w i a))
        (came_before : (n : ℕ) → n < a.n → n < length (arrivals (history_in before i) a.env.from))
        (gone : ((w i).taken a.env.from a.n ≡ false) × ((w i).withdrawn a.env.from a.n ≡ false))
        (unheld : (b : List Event) (e : Event) (t : List Event) → history_in before i ≡ b ++ e ∷ t → (l : ℕ) →
        e.what ≡ event.Claim a.env.from a.n l → claim_by (commands_of i lines) w i e.what ≡ None) (from : Peer)
        (tag : TagPick) (ctx : ℕ) (selected : matches from tag ctx a.env ≡ true)
        (earlier : (a' : Arrival) → Contains (messages (history_in before i)) a' → a'.env.from ≡ a.env.from →
        a'.n < a.n → ((w i).taken a.env.from a'.n ≡ false) × ((w i).withdrawn a.env.from a'.n ≡ false) →
        (is_claimed_lem (rank_of lines w (history_in before) i) (message_at w i a') ≡ true)
        ⊎ (matches from tag ctx a'.env ≡ false))
      where
        abbrev j : ℕ
        j = a.env.from

        abbrev test : Message → Bool
        test m = Picks m from tag ctx

        send : IsSentBy shape lines ranks packets told is before later w next j i a.n own_line
        send = sent_by shape lines ranks packets told is before later w next j i a.n own_line line

        abbrev own_message : Message
        own_message =
            record { place = own_line - 2; from = j; to = i; tag = send.tag; ctx = send.ctx; len = send.len }

        own_is : own_message ≡ message_at w i a
        own_is = same_as send.b send.e send.t send.split send.tag send.ctx send.len send.how send.sends

        pending : message_by w j send.e.what ≡ Some own_message
        pending =
            ap (message_by w j) send.sends
            ∙ ap (λ (x : Bool). cond x None (Some own_message))
            (ap (λ (x : Bool). x || (w i).withdrawn j a.n) gone.0 ∙ gone.1)

        passes : test own_message ≡ true
        passes =
            both (i == i && not (is_claimed_lem (rank_of lines w (history_in before) i) own_message))
            (selects_lem (pattern_lem from tag ctx) own_message)
            (both (i == i) (not (is_claimed_lem (rank_of lines w (history_in before) i) own_message)) (eq_true i i refl)
            (ap not (no_claim shape lines ranks packets told is before later w next i j a.n own_line line unheld
            own_message refl)))
            (ap (selects_lem (pattern_lem from tag ctx)) own_is ∙ selected)

        -- an earlier send's message is not picked
        not_picked : (b' : List Event) (e' : Event) (t' : List Event) → send.b ≡ b' ++ e' ∷ t' → (what : Happened) →
            e'.what ≡ what → (m : Message) → message_by w j what ≡ Some m → test m ≡ false
        not_picked b' e' t' split' (event.Send to n' tag' ctx' len' how' own') at m is_one =
            by_gone ((w to).taken j n' || (w to).withdrawn j n') refl is_one
          where
            whole : history_in before j ≡ b' ++ e' ∷ (t' ++ send.e ∷ send.t)
            whole =
                send.split ∙ ap (λ (x : List Event). x ++ send.e ∷ send.t) split'
                ∙ append_assoc b' (e' ∷ t') (send.e ∷ send.t)

            by_to : ((w to).taken j n' ≡ false) × ((w to).withdrawn j n' ≡ false) →
                record { place = own' - 2; from = j; to = to; tag = tag'; ctx = ctx'; len = len' } ≡ m → (x : Bool) →
                (to == i) ≡ x → test m ≡ false
            by_to gone' same false other =
                ap (λ (y : Bool). y && not (is_claimed_lem (rank_of lines w (history_in before) i) m)
                && selects_lem (pattern_lem from tag ctx) m)
                (ap (λ (m : Message). m.to == i) (sym same) ∙ other)
            by_to gone' same true own =
                by_earlier (earlier came.0 there names.0 (let number = names.1 in omega (arith, low, number))
                (subst (λ (k : ℕ). ((w i).taken j k ≡ false) × ((w i).withdrawn j k ≡ false)) (sym names.1) gone_i))
              where
                to_is : to ≡ i
                to_is = same_number to i own

                at_i : e'.what ≡ event.Send i n' tag' ctx' len' how' own'
                at_i = at ∙ ap (λ (x : ℕ). event.Send x n' tag' ctx' len' how' own') to_is

                low : n' < a.n
                low =
                    let first : n' ≡ length (sends b' i) = subst
                    (λ (what : Happened). NumberAt shape.ranks b' what) at_i
                    (number_at shape lines ranks packets told is before later w next j b' e' (t' ++ send.e ∷ send.t)
                    whole) in
                    let second : a.n ≡ length (sends send.b i) =
                    subst (λ (what : Happened). NumberAt shape.ranks send.b what) send.sends
                    (number_at shape lines ranks packets told is before later w next j send.b
                    send.e send.t send.split) in
                    let count : length (sends send.b i) ≡ length (sends b' i) + suc (length (sends t' i)) =
                    ap (λ (x : List Event). length (sends x i)) split'
                    ∙ ap length (sends_with b' t' e' i n' tag' ctx' len' how' own' at_i)
                    ∙ length-append (sends b' i) (sent_as e' i n' tag' ctx' len' how' own' ∷ sends t' i) in
                    omega (arith, first, second, count)

                came : (a' : Arrival) × (message_of h j n' ≡ Some a')
                came = by_message (message_of h j n') refl
                    (is_some-message_of h j n'
                    ∙ messages_numbered shape.ranks h
                    (numbers_now shape lines ranks packets told is before later w next i) j n'
                    ∙ below n' (length (arrivals h j)) (came_before n' low))
                  where
                    by_message : (o : Option Arrival) → message_of h j n' ≡ o → is_some o ≡ true →
                        (a' : Arrival) × (message_of h j n' ≡ Some a')
                    by_message None found some = absurd (false≢true some)
                    by_message (Some a') found some = (a', found)

                names : (came.0.env.from ≡ j) × (came.0.n ≡ n')
                names =
                    let its = find_passes (λ (x : Arrival). x.env.from == j && x.n == n')
                    (messages h) came.0 came.1 in (
                      same_number came.0.env.from j (and_left (came.0.env.from == j) (came.0.n == n') its),
                      same_number came.0.n n' (and_right (came.0.env.from == j) (came.0.n == n') its),
                    )

                there : Contains (messages h) came.0
                there = find_contains (λ (x : Arrival). x.env.from == j && x.n == n') (messages h) came.0 came.1

                gone_i : ((w i).taken j n' ≡ false) × ((w i).withdrawn j n' ≡ false)
                gone_i = subst (λ (r : ℕ). ((w r).taken j n' ≡ false) × ((w r).withdrawn j n' ≡ false)) to_is gone'

                m_is : m ≡ message_at w i came.0
                m_is =
                    sym same
                    ∙ ap (λ (x : ℕ). record { place = own' - 2; from = j; to = x; tag = tag'; ctx = ctx'; len = len' })
                    to_is
                    ∙ ap (λ (x : ℕ). record { place = own' - 2; from = x; to = i; tag = tag'; ctx = ctx'; len = len' })
                    (sym names.0)
                    ∙ message_is shape lines ranks packets told is before later w next i came.0 there b' e'
                    (t' ++ send.e ∷ send.t)
                    (ap (λ (x : ℕ). history_in before x) names.0 ∙ whole) tag' ctx' len' how' own'
                    (at_i ∙ ap (λ (x : ℕ). event.Send i x tag' ctx' len' how' own') (sym names.1))

                by_earlier : (is_claimed_lem (rank_of lines w (history_in before) i) (message_at w i came.0) ≡ true)
                    ⊎ (matches from tag ctx came.0.env ≡ false) → test m ≡ false
                by_earlier (inl claimed) =
                    ap (λ (y : Bool). m.to == i && not y && selects_lem (pattern_lem from tag ctx) m)
                    (ap (is_claimed_lem (rank_of lines w (history_in before) i)) m_is ∙ claimed)
                    ∙ no_claimed (m.to == i) (selects_lem (pattern_lem from tag ctx) m)
                by_earlier (inr other) =
                    ap (λ (y : Bool). m.to == i && not (is_claimed_lem (rank_of lines w (history_in before) i) m) && y)
                    (ap (selects_lem (pattern_lem from tag ctx)) m_is ∙ other)
                    ∙ and_nothing (m.to == i && not (is_claimed_lem (rank_of lines w (history_in before) i) m))

            by_gone : (x : Bool) → ((w to).taken j n' || (w to).withdrawn j n') ≡ x →
                cond x None (Some (record {
                  place = own' - 2;
                  from = j;
                  to = to;
                  tag = tag';
                  ctx = ctx';
                  len = len';
                })) ≡ Some m → test m ≡ false
            by_gone true so is_one = absurd (no_some m is_one)
            by_gone false so is_one =
                by_to (neither ((w to).taken j n') ((w to).withdrawn j n') so)
                (same_some (record {
                  place = own' - 2;
                  from = j;
                  to = to;
                  tag = tag';
                  ctx = ctx';
                  len = len';
                }) m is_one) (to == i) refl
        not_picked b' e' t' split' what at m is_one = absurd (no_some m is_one)

        none_picked : (xs : List Event) →
            AllByRecursion (λ e. (m : Message) → message_by w j e.what ≡ Some m → test m ≡ false) xs →
            find test (filter_map (λ (e : Event). message_by w j e.what) xs) ≡ None
        none_picked [] each = refl
        none_picked (e ∷ xs) each =
            find_step test (message_by w j e.what) (filter_map (λ (e : Event). message_by w j e.what) xs) each.0
            ∙ none_picked xs each.1

        pub first_of : first_to_lem (rank_of lines w (history_in before) a.env.from) i
            (rank_of lines w (history_in before) i) (pattern_lem from tag ctx) ≡ Some (message_at w i a)
        first_of =
            ap (λ (x : List Event). find test (filter_map (λ (e : Event). message_by w j e.what) x)) send.split
            ∙ ap (λ (xs : List Message). find test xs)
            (filter_map-append (λ (e : Event). message_by w j e.what) send.b (send.e ∷ send.t)
            ∙ ap (λ (o : Option Message). filter_map (λ (e : Event). message_by w j e.what) send.b
            ++ cons_option o (filter_map (λ (e : Event). message_by w j e.what) send.t)) pending)
            ∙ find-append test (filter_map (λ (e : Event). message_by w j e.what) send.b)
            (own_message ∷ filter_map (λ (e : Event). message_by w j e.what) send.t)
            ∙ ap (λ (o : Option Message). or_else o
            (find test (own_message ∷ filter_map (λ (e : Event). message_by w j e.what) send.t)))
            (none_picked send.b (by_splits (λ e. (m : Message) → message_by w j e.what ≡ Some m → test m ≡ false) send.b
            [] send.b refl (λ b e t split. not_picked b e t split e.what refl)))
            ∙ ap (λ (x : Bool). cond x (Some own_message)
            (find test (filter_map (λ (e : Event). message_by w j e.what) send.t))) passes
            ∙ ap (λ (m : Message). Some m) own_is

    -- A message that came, of which no other claim is under way, and before which none is free and selected.
    module _ (a : Arrival) (inside : Contains (messages (history_in before i)) a)
        (gone : ((w i).taken a.env.from a.n ≡ false) × ((w i).withdrawn a.env.from a.n ≡ false))
        (unheld : (b : List Event) (e : Event) (t : List Event) → history_in before i ≡ b ++ e ∷ t → (l : ℕ) →
        e.what ≡ event.Claim a.env.from a.n l → claim_by (commands_of i lines) w i e.what ≡ None) (from : Peer)
        (tag : TagPick) (ctx : ℕ) (selected : matches from tag ctx a.env ≡ true)
        (ended : (b : List Event) (e : Event) (t : List Event) → history_in before i ≡ b ++ e ∷ t → (f k l : ℕ) →
        e.what ≡ event.Claim f k l → (f == a.env.from && k == a.n) ≡ false →
        list_any (λ (what : Happened). option_map_or (λ x. x == l) (line_of_claim what) false)
        (since_command (history_in before i)) ≡ false)
        (earlier : (a' : Arrival) → Contains (messages (history_in before i)) a' → a'.env.from ≡ a.env.from →
        a'.n < a.n → is_free (history_in before i) (matched_pairs (history_in before i)) a' ≡ true →
        matches from tag ctx a'.env ≡ false)
      where
        abbrev sender : ℕ
        sender = a.env.from

        known : is_known_message h sender a.n ≡ true
        known = came_known h a inside

        line : (own : ℕ) × (slice_get ((w sender).lines i) a.n ≡ Some own)
        line =
            get_some ((w sender).lines i) a.n
            (known_sent shape lines ranks packets told is before later w next i sender a.n known)

        came_before : (n : ℕ) → n < a.n → n < length (arrivals h sender)
        came_before n low =
            let high = above a.n (length (arrivals h sender))
            (sym (messages_numbered shape.ranks h
            (numbers_now shape lines ranks packets told is before later w next i) sender a.n) ∙ known) in
            omega (arith, low, high)

        before_it : (a' : Arrival) → Contains (messages h) a' → a'.env.from ≡ sender → a'.n < a.n →
            ((w i).taken sender a'.n ≡ false) × ((w i).withdrawn sender a'.n ≡ false) →
            (is_claimed_lem (rank_of lines w (history_in before) i) (message_at w i a') ≡ true)
            ⊎ (matches from tag ctx a'.env ≡ false)
        before_it a' there same low gone' = by_claim (happened (is_claim sender a'.n) h) refl
          where
            line' : (own : ℕ) × (slice_get ((w sender).lines i) a'.n ≡ Some own)
            line' =
                get_some ((w sender).lines i) a'.n
                (known_sent shape lines ranks packets told is before later w next i sender a'.n
                (subst (λ (r : ℕ). is_known_message h r a'.n ≡ true) same (came_known h a' there)))

            place : get_or ((w a'.env.from).lines i) a'.n 0 - 2 ≡ line'.0 - 2
            place =
                ap (λ (x : ℕ). x - 2)
                (ap (λ (r : ℕ). get_or ((w r).lines i) a'.n 0) same
                ∙ get_or_from_slice_get ((w sender).lines i) a'.n line'.0 0 line'.1)

            by_claim : (x : Bool) → happened (is_claim sender a'.n) h ≡ x →
                (is_claimed_lem (rank_of lines w (history_in before) i) (message_at w i a') ≡ true)
                ⊎ (matches from tag ctx a'.env ≡ false)
            by_claim true claimed =
                inl (claim_there shape lines ranks packets told is before later w next i sender a'.n line'.0 line'.1
                gone'.0
                (λ b e t split l at. ended b e t split sender a'.n l at
                (ap (λ (y : Bool). sender == sender && y) (eq_less a'.n a.n low) ∙ and_nothing (sender == sender)))
                claimed (message_at w i a') place)
            by_claim false unclaimed =
                inr (earlier a' there same low
                (ap (λ (x : ℕ). is_free_message h (matched_pairs h) x a'.n) same
                ∙ sym (free_is i (commands_of i lines) h (w i) (next.places i) sender a'.n)
                ∙ rw (gone'.0, (next.places i).claimed sender a'.n ∙ unclaimed, gone'.1) refl))

        pub first_is : first_to_lem (rank_of lines w (history_in before) a.env.from) i
            (rank_of lines w (history_in before) i) (pattern_lem from tag ctx) ≡ Some (message_at w i a)
        first_is =
            first_of a line.0 line.1
            (λ b e t split tag ctx len how at. message_is shape lines ranks packets told is before later w next i a
            inside b e t split tag ctx len how line.0 at)
            came_before gone unheld from tag ctx selected before_it
