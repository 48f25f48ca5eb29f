-- What a rank knows of a message came after it was sent, so a message that is sent now is known nowhere. MPI 3.1, 3.5.
use Rattle.std.proofs.Common.{◌≡◌, ◌⊎◌, inl, inr, ℕ, ◌<◌, ◌==◌, ◌&&◌, true, false, Option, Some, None}
use Rattle.std.proofs.Common.{List, [], ◌∷◌, ◌++◌, length, refl, sym, ◌∙◌, ap, subst, arith, length-append}
use Rattle.std.specs.Prelude.{is_some}
use Rattle.std.specs.List.{slice_get}
use Rattle.std.specs.Option.{option_map_or}
use Rattle.std.proofs.Math.Dec.{ltb}
use Rattle.std.proofs.lemmas.Bool.{false≢true}
use Rattle.std.proofs.lemmas.Bool.Decides.{nat_tests}
use Rattle.std.proofs.lemmas.List.Elements.{All-weaker}
use Rattle.std.proofs.lemmas.List.Folds.{list_any_none}
use Rattle.nm_types.specs.declared.messages.Arrival.{Arrival}
use Rattle.nm_types.specs.declared.scripts.Line.{Line}
use Rattle.nm_types.specs.Commands.{commands_of}
use Rattle.nm_types.specs.Sizes.{Sizes}
use Rattle.nm_types.proofs.ListLemmas.{find_passes, front_empty, get_some, map_length, place_below}
use Rattle.nm_types.proofs.NumberLemmas.{same_number}
use Rattle.nm_types.proofs.TruthLemmas.{and_left, and_right, not_true, or_left}
use Rattle.nm_history.specs.declared.events.Event.{Event}
use Rattle.nm_history.specs.declared.events.Happened.{Happened}
use Rattle.nm_history.specs.declared.events.Happened.TheVariants as event
use Rattle.nm_history.specs.declared.plain.Pair.{Pair}
use Rattle.nm_history.specs.AtEach.{AtEach}
use Rattle.nm_history.specs.Happens.{happened, is_arrival, is_recall, is_same, is_send, is_withdraw}
use Rattle.nm_history.specs.Matching.{is_of_message, is_of_receive, matched_pairs}
use Rattle.nm_history.specs.Once.{IsOfReceive}
use Rattle.nm_history.specs.Quiescence.{Ended, Packets, history_of}
use Rattle.nm_history.specs.RankRun.{CancelAt, EndAt, NumberAt}
use Rattle.nm_history.specs.Sends.{Sent, arrivals, sends}
use Rattle.nm_history.proofs.AppendLemmas.{sends-append}
use Rattle.nm_history.proofs.AtEachLemmas.{AtEach-split}
use Rattle.nm_history.proofs.EachLemmas.{AtEach-prefix}
use Rattle.nm_history.proofs.SelectionLemmas.{find_contains, matched_pairs_of_receives}
use Rattle.nm_history.proofs.Sent.{happened-append, sent_number}
use Rattle.nm_match.specs.Deeds.{is_known_message}
use Rattle.nm_match.proofs.NumberLemmas.{is_known_message-arrived, messages_numbered}
use Rattle.nm_lookups.proofs.ReplayLemmas.{is_some-message_of}
use Rattle.nm_outcomes.specs.Logs.{Step, history_in}
use Rattle.nm_outcomes.specs.Places.{RankPoint}
use Rattle.nm_outcomes.proofs.Bodies.{came_known, pair_came}
use Rattle.nm_outcomes.proofs.HappenedLemmas.{split_any}
use Rattle.nm_outcomes.proofs.LogLemmas.{all_delivered, own_run}
use Rattle.nm_outcomes.proofs.PathLemmas.{history_split}
use Rattle.nm_outcomes.proofs.SentLemmas.{came_within}
use Rattle.nm_sure.proofs.Flown.{sent_at}
use Rattle.nm_lawful.specs.Moves.{Report}
use Rattle.nm_runs_lawful.specs.Stands.{IsSoFar, IsRunTold}
use Rattle.nm_runs_lawful.proofs.OnceLemmas.{numbers_now, whole_splits}

below : (a b : ℕ) → ltb a b ≡ true → a < b
below a b is = grind (arith, nat_tests)

module _ (shape : Sizes) (lines : List Line) (ranks : List Ended) (packets : List Packets) (told : Report)
    (is : IsRunTold shape lines ranks packets told) (before : List Step) (later : List Step)
    (w : ℕ → RankPoint) (next : IsSoFar shape lines ranks before later w)
  where
    -- what has happened to a rank has happened to one of the run
    pub rank_within : (k : ℕ) → (history_in before k ≡ []) ⊎ (k < shape.ranks)
    rank_within k = by_rank (slice_get ranks k) refl
      where
        whole_is : history_of ranks k ≡ history_in before k ++ history_in later k
        whole_is = sym (next.whole.histories k) ∙ history_split before later k

        by_rank : (o : Option Ended) → slice_get ranks k ≡ o → (history_in before k ≡ []) ⊎ (k < shape.ranks)
        by_rank None none =
            inl (front_empty (history_in before k) (history_in later k)
            (sym whole_is ∙ ap (λ (o : Option Ended). option_map_or (λ rank. rank.events) o []) none))
        by_rank (Some rank) some =
            let low = place_below ranks k rank some in
            let all = is.run.one_each in inr (omega (arith, low, all))

    -- a message that is known was sent, by a rank of the run
    pub known_sender : (k from n : ℕ) → is_known_message (history_in before k) from n ≡ true → from < shape.ranks
    known_sender k from n known =
        came_within shape.ranks from n (history_in before k)
        (numbers_now shape lines ranks packets told is before later w next k)
        (sym (is_known_message-arrived (history_in before k) from n) ∙ known)

    pub known_sent : (k from n : ℕ) → is_known_message (history_in before k) from n ≡ true →
        n < length ((w from).lines k)
    known_sent k from n known = by_rank (rank_within k)
      where
        by_rank : (history_in before k ≡ []) ⊎ (k < shape.ranks) → n < length ((w from).lines k)
        by_rank (inl none) =
            absurd (false≢true (sym (is_known_message-arrived [] from n)
            ∙ ap (λ (h : List Event). is_known_message h from n) (sym none) ∙ known))
        by_rank (inr low) =
            let came = below n (length (arrivals (history_in before k) from))
            (sym (messages_numbered shape.ranks (history_in before k)
            (numbers_now shape lines ranks packets told is before later w next k) from n) ∙ known) in
            let arrived = get_some (arrivals (history_in before k) from) n came in
            let sent = sent_at from (sends (history_in before from) k) (arrivals (history_in before k) from) n arrived.0
            (all_delivered shape lines before next.log from k (known_sender k from n known) low).messages arrived.1 in
            let few = place_below (sends (history_in before from) k) n sent.0 sent.1 in
            let count : length ((w from).lines k) ≡ length (sends (history_in before from) k) =
            ap length ((next.places from).lines k)
            ∙ map_length (λ (s : Sent). s.line) (sends (history_in before from) k) in
            omega (arith, few, count)

    -- the message of a receive is known
    pub paired_known : (k number : ℕ) (pair : Pair) → (w k).pairs number ≡ Some pair →
        is_known_message (history_in before k) pair.arrival.env.from pair.arrival.n ≡ true
    paired_known k number pair paired =
        came_known (history_in before k) pair.arrival
        (pair_came (history_in before k) pair (find_contains (is_of_receive number) (matched_pairs (history_in before
        k)) pair (sym ((next.places k).pairs number) ∙ paired)))

    -- so is one that the rank knows, under its names
    pub known_named : (k from n : ℕ) (a : Arrival) → (w k).known from n ≡ Some a →
        (a.env.from ≡ from) × (a.n ≡ n) × (is_known_message (history_in before k) from n ≡ true)
    known_named k from n a known =
        let passes = find_passes (λ (a : Arrival). a.env.from == from && a.n == n) _ a
        (sym ((next.places k).known from n) ∙ known) in (
          same_number a.env.from from (and_left (a.env.from == from) (a.n == n) passes),
          same_number a.n n (and_right (a.env.from == from) (a.n == n) passes),
          sym (is_some-message_of (history_in before k) from n)
              ∙ sym (ap (λ (o : Option Arrival). is_some o) ((next.places k).known from n))
              ∙ ap (λ (o : Option Arrival). is_some o) known,
        )

    -- a message that is not known has no receive
    pub unknown_taken : (k from n : ℕ) → is_known_message (history_in before k) from n ≡ false →
        (w k).taken from n ≡ false
    unknown_taken k from n unknown =
        (next.places k).taken from n
        ∙ list_any_none (is_of_message from n) (matched_pairs (history_in before k))
        (All-weaker (IsOfReceive (history_in before k)) (λ (p : Pair). is_of_message from n p ≡ false)
        (λ p of. not_true (is_of_message from n p) (λ same. false≢true (sym unknown
        ∙ subst (λ (f : ℕ). is_known_message (history_in before k) f n ≡ true)
        (same_number p.arrival.env.from from (and_left (p.arrival.env.from == from) (p.arrival.n == n) same))
        (subst (λ (m : ℕ). is_known_message (history_in before k) p.arrival.env.from m ≡ true)
        (same_number p.arrival.n n (and_right (p.arrival.env.from == from) (p.arrival.n == n) same)) (came p of)))))
        (matched_pairs (history_in before k)) (matched_pairs_of_receives (history_in before k)))
      where
        came : (p : Pair) → IsOfReceive (history_in before k) p →
            is_known_message (history_in before k) p.arrival.env.from p.arrival.n ≡ true
        came p (inl posted) = came_known (history_in before k) p.arrival posted.came
        came p (inr matched) = came_known (history_in before k) p.arrival matched.came

    -- .. and was not withdrawn
    pub unknown_withdrawn : (k from n : ℕ) → is_known_message (history_in before k) from n ≡ false →
        (w k).withdrawn from n ≡ false
    unknown_withdrawn k from n unknown =
        not_true ((w k).withdrawn from n) (λ gone.
        let spot = split_any (is_withdraw from n true) (history_in before k)
        (sym ((next.places k).withdrawn from n) ∙ gone) in
        false≢true (sym unknown ∙ is_known_message-arrived (history_in before k) from n
        ∙ ap (happened (is_arrival from n)) spot.3
        ∙ happened-append (is_arrival from n) spot.0 (spot.1 ∷ spot.2)
        ∙ or_left (happened (is_arrival from n) spot.0) (happened (is_arrival from n) (spot.1 ∷ spot.2))
        (by_event spot.0 spot.1.what spot.4
        (AtEach-split (λ b e. EndAt b e.what) spot.0 spot.1 (spot.2 ++ history_in later k)
        (subst (λ (h : List Event). AtEach (λ b e. EndAt b e.what) h)
        (whole_splits shape lines ranks packets told is before later w next k spot.0 spot.1 spot.2 spot.3)
        (own_run shape lines ranks packets is.run k).ends)))))
      where
        by_event : (b : List Event) (what : Happened) → is_withdraw from n true what ≡ true → EndAt b what →
            happened (is_arrival from n) b ≡ true
        by_event b (event.Withdraw from' n' done) same ends =
            let names = and_left (from' == from && n' == n) (is_same true done) same in
            subst (λ (f : ℕ). happened (is_arrival f n) b ≡ true)
            (same_number from' from (and_left (from' == from) (n' == n) names))
            (subst (λ (m : ℕ). happened (is_arrival from' m) b ≡ true)
            (same_number n' n (and_right (from' == from) (n' == n) names)) ends.2)
        by_event b what same ends = absurd (false≢true same)

    -- what was recalled was sent
    pub recalled_sent : (i to n : ℕ) → (w i).recalled to n ≡ true → n < length (sends (history_in before i) to)
    recalled_sent i to n recalled =
        let spot = split_any (is_recall to n) (history_in before i) (sym ((next.places i).recalled to n) ∙ recalled) in
        by_event spot.0 spot.1 spot.2 spot.3 spot.1.what spot.4
        (AtEach-split (λ b e. CancelAt (commands_of i lines) b e.what) spot.0 spot.1
        (spot.2 ++ history_in later i)
        (subst (λ (h : List Event). AtEach (λ b e. CancelAt (commands_of i lines) b e.what) h)
        (whole_splits shape lines ranks packets told is before later w next i spot.0 spot.1 spot.2 spot.3)
        (own_run shape lines ranks packets is.run i).cancels.made))
      where
        more : (b : List Event) (e : Event) (t : List Event) → history_in before i ≡ b ++ e ∷ t →
            n < length (sends b to) → n < length (sends (history_in before i) to)
        more b e t split early =
            let count = ap (λ (h : List Event). length (sends h to)) split ∙ ap length (sends-append b (e ∷ t) to)
            ∙ length-append (sends b to) (sends (e ∷ t) to) in
            omega (arith, early, count)

        by_event : (b : List Event) (e : Event) (t : List Event) → history_in before i ≡ b ++ e ∷ t →
            (what : Happened) → is_recall to n what ≡ true → CancelAt (commands_of i lines) b what →
            n < length (sends (history_in before i) to)
        by_event b e t split (event.Recall to' n') same cancels =
            more b e t split
            (sent_number shape.ranks b to n
            (AtEach-prefix (λ b e. NumberAt shape.ranks b e.what) b (e ∷ t)
            (subst (λ (h : List Event). AtEach (λ b e. NumberAt shape.ranks b e.what) h) split
            (numbers_now shape lines ranks packets told is before later w next i)))
            (subst (λ (r : ℕ). happened (is_send r n) b ≡ true)
            (same_number to' to (and_left (to' == to) (n' == n) same))
            (subst (λ (m : ℕ). happened (is_send to' m) b ≡ true)
            (same_number n' n (and_right (to' == to) (n' == n) same)) cancels.1)))
        by_event b e t split what same cancels = absurd (false≢true same)
