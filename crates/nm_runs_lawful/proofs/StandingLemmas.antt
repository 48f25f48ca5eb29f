-- A handle keeps its message until a matched receive takes it. MPI 3.1, 3.8.2, 3.8.3.
use Rattle.std.proofs.Common.{◌≡◌, ◌⊎◌, inl, inr, ℕ, ◌==◌, ◌&&◌, ◌||◌, Bool, true, false, cond, not, Option, Some, None}
use Rattle.std.proofs.Common.{List, [], ◌∷◌, ◌++◌, length, map, refl, sym, ◌∙◌, ap, subst, arith, append-nil}
use Rattle.std.proofs.Common.{append_assoc}
use Rattle.std.specs.Prelude.{IsSomeAnd, is_some, option_and_then, option_map, option_to_list}
use Rattle.std.specs.List.{cons_option, filter_map, list_any, slice_get}
use Rattle.std.specs.Option.{option_map_or}
use Rattle.std.proofs.lemmas.Bool.{false≢true}
use Rattle.std.proofs.lemmas.List.Folds.{list_any-append}
use Rattle.std.proofs.lemmas.List.Sums.{fold_push}
use Rattle.nm_types.specs.declared.answers.Answer.{Answer}
use Rattle.nm_types.specs.declared.answers.Answer.TheVariants as answer
use Rattle.nm_types.specs.declared.messages.Arrival.{Arrival}
use Rattle.nm_types.specs.declared.scripts.Command.{Command}
use Rattle.nm_types.specs.declared.scripts.Command.TheVariants as command
use Rattle.nm_types.specs.declared.scripts.Line.{Line}
use Rattle.nm_types.specs.Commands.{Numbered, command_at, commands_of}
use Rattle.nm_types.specs.Sizes.{Sizes}
use Rattle.nm_types.proofs.ListLemmas.{find_passes}
use Rattle.nm_types.proofs.NumberLemmas.{eq_true, same_number}
use Rattle.nm_types.proofs.OptionLemmas.{same_some}
use Rattle.nm_types.proofs.TruthLemmas.{and_left, and_right, both, or_left, or_right}
use Rattle.nm_history.specs.declared.events.Event.{Event}
use Rattle.nm_history.specs.declared.events.Happened.{Happened}
use Rattle.nm_history.specs.declared.events.Happened.TheVariants as event
use Rattle.nm_history.specs.declared.plain.Pair.{Pair}
use Rattle.nm_history.specs.Answers.{Message as claimed, answer_of, arrival_claimed, claim_at, claim_line_after}
use Rattle.nm_history.specs.Answers.{is_claim_for}
use Rattle.nm_history.specs.Answers.{is_receive_of, is_seen, is_started, line_of_handle, live_message, message_claimed}
use Rattle.nm_history.specs.Answers.{seen, without_bytes}
use Rattle.nm_history.specs.AtEach.{AtEach}
use Rattle.nm_history.specs.Happens.{happened, is_claim}
use Rattle.nm_history.specs.Matching.{first_message, is_of_message, matched_pairs, new_pair, pair_of_claimed}
use Rattle.nm_history.specs.Quiescence.{Ended, Packets, history_of}
use Rattle.nm_history.specs.RankRun.{AnswerAt, ClaimAt, StartAt, claim_of as claims_of, claims_since}
use Rattle.nm_history.specs.RankRun.{is_matched_probe, is_start}
use Rattle.nm_history.specs.RankRun.{line_of_claim, ran_lines, ran_of, since_command, start_of, starts_since}
use Rattle.nm_history.specs.RankRun.{without_number}
use Rattle.nm_history.specs.Sends.{message_of, messages}
use Rattle.nm_history.specs.Underway.{is_answer}
use Rattle.nm_history.proofs.AppendLemmas.{since_grows}
use Rattle.nm_history.proofs.AtEachLemmas.{AtEach-split}
use Rattle.nm_history.proofs.EachLemmas.{AtEach-prefix}
use Rattle.nm_history.proofs.MatchingLemmas.{matched_pairs-append, matched_pairs-push}
use Rattle.nm_history.proofs.RankRunLemmas.{ran_lines-push, since-push}
use Rattle.nm_lookups.proofs.ReplayLemmas.{is_some-message_of}
use Rattle.nm_outcomes.specs.Due.{IsAnswerOf, IsDue}
use Rattle.nm_outcomes.specs.Logs.{Step, history_in}
use Rattle.nm_outcomes.specs.Places.{RankPoint}
use Rattle.nm_outcomes.proofs.HappenedLemmas.{split_any}
use Rattle.nm_outcomes.proofs.LogLemmas.{own_run}
use Rattle.nm_outcomes.proofs.PathLemmas.{claimed_came}
use Rattle.nm_lawful.specs.Moves.{Report}
use Rattle.nm_runs_lawful.specs.Stands.{IsSoFar, IsRunTold, handle_of, is_match_of}
use Rattle.nm_runs_lawful.proofs.AnsweredLemmas.{and_nothing, no_bytes}
use Rattle.nm_runs_lawful.proofs.CancelLemmas.{any_kept, since_happened}
use Rattle.nm_runs_lawful.proofs.ClaimedLemmas.{claim_split, claims_at}
use Rattle.nm_runs_lawful.proofs.EffectLemmas.{HasRan, ran_behind}
use Rattle.nm_runs_lawful.proofs.HeldLemmas.{none_claims, twice}
use Rattle.nm_runs_lawful.proofs.OnceLemmas.{due_at, whole_splits}
use Rattle.nm_runs_lawful.proofs.StartedLemmas.{same_match}
use Rattle.nm_runs_lawful.proofs.UniqueLemmas.{two_splits}

-- the first of a list is there where one is
pub head_some : {X Y : Type 0} (f : X → Option Y) (b t : List X) (x : X) → is_some (f x) ≡ true →
    is_some (slice_get (filter_map f (b ++ x ∷ t)) 0) ≡ true
head_some {X} {Y} f [] t x some = by_first (f x) some
  where
    by_first : (o : Option Y) → is_some o ≡ true → is_some (slice_get (cons_option o (filter_map f t)) 0) ≡ true
    by_first None some = absurd (false≢true some)
    by_first (Some y) some = refl
head_some {X} {Y} f (z ∷ b) t x some = by_first (f z) (head_some f b t x some)
  where
    by_first : (o : Option Y) → is_some (slice_get (filter_map f (b ++ x ∷ t)) 0) ≡ true →
        is_some (slice_get (cons_option o (filter_map f (b ++ x ∷ t))) 0) ≡ true
    by_first None rest = rest
    by_first (Some y) rest = refl

-- a matched receive that is to start has started
any_without : (from n : ℕ) (ws : List Happened) →
    list_any (is_match_of from n) (map without_number ws) ≡ list_any (is_match_of from n) ws
any_without from n [] = refl
any_without from n (x ∷ ws) =
    ap (λ (b : Bool). b || list_any (is_match_of from n) (map without_number ws)) (same_match from n x)
    ∙ ap (λ (b : Bool). is_match_of from n x || b) (any_without from n ws)

module _ (shape : Sizes) (lines : List Line) (ranks : List Ended) (packets : List Packets) (told : Report)
    (is : IsRunTold shape lines ranks packets told) (before : List Step) (later : List Step)
    (w : ℕ → RankPoint) (next : IsSoFar shape lines ranks before later w) (i : ℕ)
  where
    abbrev commands : List Numbered
    commands = commands_of i lines

    abbrev h : List Event
    h = history_in before i

    -- what is so at each event
    pub at_event : (R : List Event → Event → Type 0) → AtEach R (history_of ranks i) → (b : List Event) (e : Event)
        (t : List Event) → h ≡ b ++ e ∷ t → R b e
    at_event R each b e t split =
        AtEach-split R b e (t ++ history_in later i)
        (subst (λ (k : List Event). AtEach R k)
        (whole_splits shape lines ranks packets told is before later w next i b e t split) each)

    -- a matched receive has its message
    pub match_made : (b : List Event) (e : Event) (t : List Event) → h ≡ b ++ e ∷ t → (number f k cap line : ℕ) →
        e.what ≡ event.Match number f k cap line →
        (a : Arrival) × ((a.env.from == f && a.n == k) ≡ true)
        × ((test : Pair → Bool) → test (pair_of_claimed number cap a) ≡ true →
        list_any test (matched_pairs (history_in before i)) ≡ true)
    match_made b e t split number f k cap line at = by_message (message_of b f k) refl known
      where
        claimed_then : (happened (is_claim f k) b && not (list_any (is_of_message f k) (matched_pairs b))) ≡ true
        claimed_then =
            subst (λ (what : Happened). StartAt shape.eager commands b what) at
            (at_event (λ b e. StartAt shape.eager commands b e.what)
            (own_run shape lines ranks packets is.run i).starts.made
            b e t split)

        known : is_some (message_of b f k) ≡ true
        known =
            is_some-message_of b f k
            ∙ claimed_came commands f k b
            (AtEach-prefix (λ b e. ClaimAt commands b e.what) b (e ∷ (t ++ history_in later i))
            (subst (λ (k : List Event). AtEach (λ b e. ClaimAt commands b e.what) k)
            (whole_splits shape lines ranks packets told is before later w next i b e t split)
            (own_run shape lines ranks packets is.run i).claims.made))
            (and_left (happened (is_claim f k) b) (not (list_any (is_of_message f k)
            (matched_pairs b))) claimed_then)

        by_message : (o : Option Arrival) → message_of b f k ≡ o → is_some o ≡ true →
            (a : Arrival) × ((a.env.from == f && a.n == k) ≡ true)
            × ((test : Pair → Bool) → test (pair_of_claimed number cap a) ≡ true →
            list_any test (matched_pairs h) ≡ true)
        by_message None found some = absurd (false≢true some)
        by_message (Some a) found some = (
          a,
          find_passes (λ (a : Arrival). a.env.from == f && a.n == k) (messages b) a found,
          λ test passes.
              let pairs : matched_pairs (b ++ e ∷ []) ≡ matched_pairs b ++ pair_of_claimed number cap a ∷ [] =
              matched_pairs-push b e
              ∙ ap (λ (what : Happened). matched_pairs b ++ option_to_list (new_pair b (matched_pairs b) what)) at
              ∙ ap (λ (o : Option Arrival). matched_pairs b
              ++ option_to_list (option_map (λ a. pair_of_claimed number cap a) o)) found in
              let all = matched_pairs-append (b ++ e ∷ []) t in
              ap (λ (k : List Event). list_any test (matched_pairs k)) (split ∙ sym (append_assoc b (e ∷ []) t))
              ∙ ap (λ (ps : List Pair). list_any test ps) all.1
              ∙ list_any-append test (matched_pairs (b ++ e ∷ [])) all.0
              ∙ or_left (list_any test (matched_pairs (b ++ e ∷ []))) (list_any test all.0)
              (ap (λ (ps : List Pair). list_any test ps) pairs
              ∙ list_any-append test (matched_pairs b) (pair_of_claimed number cap a ∷ [])
              ∙ or_right (list_any test (matched_pairs b)) (test (pair_of_claimed number cap a) || false)
              (or_left (test (pair_of_claimed number cap a)) false passes)),
        )

    -- .. and takes it
    pub match_takes : (b : List Event) (e : Event) (t : List Event) → h ≡ b ++ e ∷ t → (from n : ℕ) →
        is_match_of from n e.what ≡ true → (w i).taken from n ≡ true
    match_takes b e t split from n matched = by_event e.what refl matched
      where
        by_event : (what : Happened) → e.what ≡ what → is_match_of from n what ≡ true → (w i).taken from n ≡ true
        by_event (event.Match number f k cap line) at same =
            let made = match_made b e t split number f k cap line at in
            (next.places i).taken from n
            ∙ made.2 (is_of_message from n)
            (subst (λ (f : ℕ). (made.0.env.from == f && made.0.n == n) ≡ true)
            (same_number f from (and_left (f == from) (k == n) same))
            (subst (λ (k : ℕ). (made.0.env.from == f && made.0.n == k) ≡ true)
            (same_number k n (and_right (f == from) (k == n) same)) made.1))
        by_event what at same = absurd (false≢true same)

    -- A claim whose command has answered, and whose message no receive has.
    module _ (b : List Event) (e : Event) (t : List Event) (split : h ≡ b ++ e ∷ t) (f k l : ℕ)
        (at : e.what ≡ event.Claim f k l)
        (ended : list_any (λ (what : Happened). option_map_or (λ x. x == l) (line_of_claim what) false)
        (since_command (history_in before i)) ≡ false)
        (free : (w i).taken f k ≡ false)
      where
        abbrev test : Happened → Bool
        test what = option_map_or (λ x. x == l) (line_of_claim what) false

        abbrev grown : List Event
        grown = b ++ e ∷ []

        probe : (m : ℕ) × (option_and_then handle_of (command_at commands l) ≡ Some m)
            × (option_map_or (is_claim_for m) (command_at commands l) false ≡ true)
        probe =
            by_command (command_at commands l)
            (subst (λ (what : Happened). ClaimAt commands b what) at
            (claims_at shape lines ranks packets told is before later w next i b e t split))
          where
            by_command : (o : Option Command) → IsSomeAnd o (λ c. claims_of b l c ≡ event.Claim f k l ∷ []) →
                (m : ℕ) × (option_and_then handle_of o ≡ Some m) × (option_map_or (is_claim_for m) o false ≡ true)
            by_command (Some (command.Mprobe m from tag ctx)) same = (m, refl, eq_true m m refl)
            by_command None same = absurd same
            by_command (Some c) same = absurd (grind arith)

        abbrev m : ℕ
        m = probe.0

        quiet : is_answer e.what ≡ false
        quiet = ap is_answer at

        begun : list_any test (since_command grown) ≡ true
        begun =
            ap (λ (ws : List Happened). list_any test ws)
            (since-push b e ∙ since_grows (since_command b) e.what quiet)
            ∙ list_any-append test (since_command b) (e.what ∷ [])
            ∙ or_right (list_any test (since_command b)) (test e.what || false)
            (or_left (test e.what) false (ap test at ∙ eq_true l l refl))

        found : HasRan grown t
        found =
            ran_behind test grown t begun
            (ap (λ (x : List Event). list_any test (since_command x)) (append_assoc b (e ∷ []) t ∙ sym split) ∙ ended)

        abbrev front : List Event
        front = grown ++ found.mid

        ran_split : h ≡ front ++ found.ran ∷ found.rest
        ran_split =
            split ∙ sym (append_assoc b (e ∷ []) t) ∙ ap (λ (x : List Event). grown ++ x) found.split
            ∙ sym (append_assoc grown found.mid (found.ran ∷ found.rest))

        line_is : found.line ≡ l
        line_is =
            let due : IsAnswerOf commands b l = (subst (λ (what : Happened). IsDue shape.eager commands b what) at
            (due_at shape lines ranks packets told is before later w next i b e t split)).0 in
            let due_then : IsAnswerOf commands front found.line =
            subst (λ (what : Happened). IsDue shape.eager commands front what) found.is_ran
            (due_at shape lines ranks packets told is before later w next i front found.ran found.rest ran_split) in
            sym due_then.line_is
            ∙ ap (λ (d : Numbered). d.line)
            (same_some due_then.command due.command (sym due_then.next
            ∙ ap (λ (ls : List ℕ). slice_get commands (length ls))
            (found.lines ∙ ran_lines-push b e ∙ ap (λ (what : Happened). ran_lines b ++ cons_option (ran_of what) []) at
            ∙ append-nil (ran_lines b)) ∙ due.next))
            ∙ due.line_is

        is_ran : found.ran.what ≡ event.Ran l found.answer
        is_ran = found.is_ran ∙ ap (λ (x : ℕ). event.Ran x found.answer) line_is

        shows : is_seen found.answer ≡ true
        shows = by_seen (is_seen found.answer) refl
          where
            claims : claims_since front
                ≡ cond (option_map_or is_matched_probe (command_at commands l) false && is_seen found.answer) (l
                ∷ []) []
            claims =
                subst (λ (what : Happened). ClaimAt commands front what) is_ran
                (claims_at shape lines ranks packets told is before later w next i front found.ran found.rest
                ran_split)

            some : list_any test (since_command front) ≡ true
            some =
                ap (λ (ws : List Happened). list_any test ws) found.since
                ∙ list_any-append test (since_command grown) found.more
                ∙ or_left (list_any test (since_command grown)) (list_any test found.more) begun

            by_seen : (x : Bool) → is_seen found.answer ≡ x → x ≡ true
            by_seen true so = refl
            by_seen false so =
                absurd (false≢true (sym (none_claims l (since_command front)
                (claims
                ∙ ap (λ (x : Bool). cond (option_map_or is_matched_probe (command_at commands l) false && x) (l
                ∷ []) [])
                so
                ∙ ap (λ (x : Bool). cond x (l ∷ []) [])
                (and_nothing (option_map_or is_matched_probe (command_at commands l) false)))) ∙ some))

        abbrev behind : List Event
        behind = front ++ found.ran ∷ []

        first_stands : line_of_handle commands behind m ≡ Some l
        first_stands =
            fold_push (λ (o : Option ℕ) (e : Event). claim_line_after commands m o e.what) None front found.ran
            ∙ ap (claim_line_after commands m (line_of_handle commands front m)) is_ran
            ∙ ap (λ (x : Bool). cond (x && is_seen found.answer) (Some l)
            (cond (option_map_or (is_receive_of m) (command_at commands l) false && is_started found.answer) None
            (line_of_handle commands front m))) probe.2
            ∙ ap (λ (x : Bool). cond x (Some l)
            (cond (option_map_or (is_receive_of m) (command_at commands l) false && is_started found.answer) None
            (line_of_handle commands front m))) shows

        -- the claim that the line has is this one
        claim_in : (x rest b' t' : List Event) → h ≡ x ++ rest → x ≡ b' ++ e ∷ t' →
            claim_at x l ≡ Some (record { from = f; n = k })
        claim_in x rest b' t' split' own = by_claim (claim_at x l) refl some
          where
            some : is_some (claim_at x l) ≡ true
            some =
                ap (λ (y : List Event). is_some (claim_at y l)) own
                ∙ head_some (λ (e : Event). message_claimed l e.what) b' t' e
                (ap (λ (what : Happened). is_some (message_claimed l what)) at
                ∙ ap (λ (z : Bool). is_some {T = claimed} (cond z (Some (record { from = f; n = k })) None))
                (eq_true l l refl))

            by_claim : (o : Option claimed) → claim_at x l ≡ o → is_some o ≡ true →
                claim_at x l ≡ Some (record { from = f; n = k })
            by_claim None there some = absurd (false≢true some)
            by_claim (Some y) there some =
                let other = claim_split l y x there in
                by_order y there other.0 other.1 other.2 other.3 other.4
                (two_splits b' t' other.0 other.2 e other.1 (sym own ∙ other.3))
              where
                by_order : (y : claimed) → claim_at x l ≡ Some y → (b2 : List Event) (e2 : Event) (t2 : List Event) →
                    x ≡ b2 ++ e2 ∷ t2 → e2.what ≡ event.Claim y.from y.n l →
                    ((z : List Event) × (b2 ≡ b' ++ e ∷ z)) ⊎ (((z : List Event) × (b' ≡ b2 ++ e2 ∷ z)) ⊎ (e ≡ e2)) →
                    claim_at x l ≡ Some (record { from = f; n = k })
                by_order y there b2 e2 t2 split2 at2 (inl after) =
                    absurd (twice shape lines ranks packets told is before later w next i b' e after.0 e2 (t2 ++ rest)
                    (split' ∙ ap (λ (z : List Event). z ++ rest) (split2 ∙ ap (λ (z : List Event). z ++ e2
                    ∷ t2) after.1)
                    ∙ append_assoc (b' ++ e ∷ after.0) (e2 ∷ t2) rest) f k y.from y.n l at at2)
                by_order y there b2 e2 t2 split2 at2 (inr (inl earlier)) =
                    absurd (twice shape lines ranks packets told is before later w next i b2 e2 earlier.0 e
                    (t' ++ rest)
                    (split' ∙ ap (λ (z : List Event). z ++ rest) (own ∙ ap (λ (z : List Event). z ++ e ∷ t') earlier.1)
                    ∙ append_assoc (b2 ++ e2 ∷ earlier.0) (e ∷ t') rest) y.from y.n f k l at2 at)
                by_order y there b2 e2 t2 split2 at2 (inr (inr one)) =
                    let equal : event.Claim y.from y.n l ≡ event.Claim f k l =
                    sym at2 ∙ ap (λ (z : Event). z.what) (sym one) ∙ at in
                    let first : y.from ≡ f = cc in
                    let second : y.n ≡ k = cc in
                    there ∙ ap (λ (z : ℕ). Some (record { from = z; n = y.n })) first
                    ∙ ap (λ (z : ℕ). Some (record { from = f; n = z })) second

        -- no answer takes the handle's message away
        module _ (x : List Event) (y : Event) (rest : List Event) (split' : h ≡ x ++ y ∷ rest) (b' t' : List Event)
            (own : x ≡ b' ++ e ∷ t') (stands : line_of_handle commands x m ≡ Some l)
          where
            live_is : live_message commands x m ≡ Some (record { from = f; n = k })
            live_is =
                ap (λ (o : Option ℕ). option_and_then (claim_at x) o) stands
                ∙ claim_in x (y ∷ rest) b' t' split' own

            not_seen : (l' : ℕ) (a : Answer) → y.what ≡ event.Ran l' a →
                option_map_or (is_claim_for m) (command_at commands l') false ≡ true → is_seen a ≡ true → ⊥
            not_seen l' a ran claims sees =
                by_command (command_at commands l') claims
                (subst (λ (what : Happened). AnswerAt commands x what) ran
                (at_event (λ b e. AnswerAt commands b e.what)
                (own_run shape lines ranks packets is.run i).answers.right x y
                rest split'))
              where
                by_command : (o : Option Command) → option_map_or (is_claim_for m) o false ≡ true →
                    IsSomeAnd o (λ c. answer_of commands x l' c ≡ Some (without_bytes a)) → ⊥
                by_command (Some (command.Mprobe m' from tag ctx)) claims answers =
                    let busy : Some answer.Busy ≡ Some (without_bytes a) =
                    sym (ap (λ (o : Option claimed). cond (is_some o) (Some answer.Busy)
                    (option_map_or (λ (a : Arrival). Some (seen a)) (arrival_claimed x l')
                    (cond (is_some (first_message x (matched_pairs x) from tag ctx)) None (Some answer.Nothing))))
                    (ap (live_message commands x) (same_number m' m claims) ∙ live_is)) ∙ answers in
                    false≢true (sym (ap is_seen (no_bytes answer.Busy a (λ from tag body same. grind arith) busy))
                    ∙ sees)
                by_command (Some (command.Send to q tag ctx sync body)) claims answers = false≢true claims
                by_command (Some (command.Recv q from tag ctx cap)) claims answers = false≢true claims
                by_command (Some (command.Wait q)) claims answers = false≢true claims
                by_command (Some (command.Test q)) claims answers = false≢true claims
                by_command (Some (command.Probe from tag ctx)) claims answers = false≢true claims
                by_command (Some (command.Await from tag ctx)) claims answers = false≢true claims
                by_command (Some (command.Cancel q)) claims answers = false≢true claims
                by_command (Some (command.Mrecv q m' cap)) claims answers = false≢true claims
                by_command None claims answers = false≢true claims

            not_received : (l' : ℕ) (a : Answer) → y.what ≡ event.Ran l' a →
                option_map_or (is_receive_of m) (command_at commands l') false ≡ true → is_started a ≡ true → ⊥
            not_received l' a ran receives started =
                by_command (command_at commands l') receives
                (subst (λ (what : Happened). StartAt shape.eager commands x what) ran
                (at_event (λ b e. StartAt shape.eager commands b e.what)
                (own_run shape lines ranks packets is.run i).starts.made x y rest split')).0
              where
                starts : (z : Happened) → is_match_of f k z ≡ true → is_start z ≡ true
                starts (event.Match number from n cap own) is_one = refl
                starts z is_one = absurd (false≢true is_one)

                is_here : list_any (is_match_of f k) (starts_since x) ≡ true → ⊥
                is_here some =
                    let spot = split_any (is_match_of f k) x (since_happened (is_match_of f k) x
                    (sym (any_kept is_start (is_match_of f k) starts (since_command x)) ∙ some)) in
                    false≢true (sym free ∙ match_takes spot.0 spot.1 (spot.2 ++ y ∷ rest)
                    (split' ∙ ap (λ (z : List Event). z ++ y ∷ rest) spot.3
                    ∙ append_assoc spot.0 (spot.1 ∷ spot.2) (y ∷ rest)) f k spot.4)

                by_command : (o : Option Command) → option_map_or (is_receive_of m) o false ≡ true →
                    map without_number (starts_since x)
                    ≡ cond (is_started a) (option_map_or (start_of shape.eager commands x l') o []) [] → ⊥
                by_command (Some (command.Mrecv q m' cap)) receives made =
                    is_here (sym (any_without f k (starts_since x))
                    ∙ ap (λ (ws : List Happened). list_any (is_match_of f k) ws)
                    (made
                    ∙ ap (λ (z : Bool). cond z (start_of shape.eager commands x l' (command.Mrecv q m' cap)) []) started
                    ∙ ap (λ (o : Option claimed). option_map_or
                    (λ message. event.Match 0 message.from message.n cap l' ∷ []) o [])
                    (ap (live_message commands x) (same_number m' m receives) ∙ live_is))
                    ∙ ap (λ (z : Bool). z || false)
                    (both (f == f) (k == k) (eq_true f f refl) (eq_true k k refl)))
                by_command (Some (command.Send to q tag ctx sync body)) receives made = false≢true receives
                by_command (Some (command.Recv q from tag ctx cap)) receives made = false≢true receives
                by_command (Some (command.Wait q)) receives made = false≢true receives
                by_command (Some (command.Test q)) receives made = false≢true receives
                by_command (Some (command.Probe from tag ctx)) receives made = false≢true receives
                by_command (Some (command.Await from tag ctx)) receives made = false≢true receives
                by_command (Some (command.Cancel q)) receives made = false≢true receives
                by_command (Some (command.Mprobe m' from tag ctx)) receives made = false≢true receives
                by_command None receives made = false≢true receives

            still_stands : line_of_handle commands (x ++ y ∷ []) m ≡ Some l
            still_stands =
                fold_push (λ (o : Option ℕ) (e : Event). claim_line_after commands m o e.what) None x y
                ∙ ap (λ (o : Option ℕ). claim_line_after commands m o y.what) stands ∙ by_event y.what refl
              where
                by_end : (l' : ℕ) (a : Answer) → y.what ≡ event.Ran l' a → (z : Bool) →
                    (option_map_or (is_receive_of m) (command_at commands l') false && is_started a) ≡ z →
                    cond z None (Some l) ≡ Some l
                by_end l' a ran true so =
                    absurd (not_received l' a ran
                    (and_left (option_map_or (is_receive_of m) (command_at commands l') false) (is_started a) so)
                    (and_right (option_map_or (is_receive_of m) (command_at commands l') false) (is_started a) so))
                by_end l' a ran false so = refl

                by_claim : (l' : ℕ) (a : Answer) → y.what ≡ event.Ran l' a → (z : Bool) →
                    (option_map_or (is_claim_for m) (command_at commands l') false && is_seen a) ≡ z →
                    cond z (Some l')
                    (cond (option_map_or (is_receive_of m) (command_at commands l') false && is_started a) None
                    (Some l))
                    ≡ Some l
                by_claim l' a ran true so =
                    absurd (not_seen l' a ran
                    (and_left (option_map_or (is_claim_for m) (command_at commands l') false) (is_seen a) so)
                    (and_right (option_map_or (is_claim_for m) (command_at commands l') false) (is_seen a) so))
                by_claim l' a ran false so =
                    by_end l' a ran (option_map_or (is_receive_of m)
                    (command_at commands l') false && is_started a) refl

                by_event : (what : Happened) → y.what ≡ what → claim_line_after commands m (Some l) what ≡ Some l
                by_event (event.Ran l' a) ran =
                    by_claim l' a ran (option_map_or (is_claim_for m) (command_at commands l') false && is_seen a) refl
                by_event what ran = refl

        walk : (x rest b' t' : List Event) → h ≡ x ++ rest → x ≡ b' ++ e ∷ t' →
            line_of_handle commands x m ≡ Some l → line_of_handle commands (x ++ rest) m ≡ Some l
        walk x [] b' t' split' own stands = ap (λ (z : List Event). line_of_handle commands z m) (append-nil x) ∙ stands
        walk x (y ∷ rest) b' t' split' own stands =
            ap (λ (z : List Event). line_of_handle commands z m) (sym (append_assoc x (y ∷ []) rest))
            ∙ walk (x ++ y ∷ []) rest b' (t' ++ y ∷ []) (split' ∙ sym (append_assoc x (y ∷ []) rest))
            (ap (λ (z : List Event). z ++ y ∷ []) own ∙ append_assoc b' (e ∷ t') (y ∷ []))
            (still_stands x y rest split' b' t' own stands)

        -- its handle has it still
        pub claim_stands : (m : ℕ) × (option_and_then handle_of (command_at (commands_of i lines) l) ≡ Some m)
            × ((w i).handled m ≡ Some l)
        claim_stands = (
          m,
          probe.1,
          (next.places i).handled m
              ∙ ap (λ (z : List Event). line_of_handle commands z m)
              (ran_split ∙ sym (append_assoc front (found.ran ∷ []) found.rest))
              ∙ walk behind found.rest b (found.mid ++ found.ran ∷ [])
              (ran_split ∙ sym (append_assoc front (found.ran ∷ []) found.rest))
              (ap (λ (z : List Event). z ++ found.ran ∷ []) (append_assoc b (e ∷ []) found.mid)
              ∙ append_assoc b (e ∷ found.mid) (found.ran ∷ [])) first_stands,
        )
