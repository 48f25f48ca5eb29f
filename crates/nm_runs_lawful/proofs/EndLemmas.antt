-- The state behind a whole log is an end of the machine: all is told, and each rank rests as is said. MPI 3.1, 3.7.3.
use Rattle.std.proofs.Common.{◌≡◌, ℕ, ◌+◌, ◌-◌, ◌<◌, ◌≤◌, ◌==◌, ◌||◌, Bool, true, false, Option, Some, None, List}
use Rattle.std.proofs.Common.{[]}
use Rattle.std.proofs.Common.{◌∷◌, fold, map, refl, sym, ◌∙◌, ap, subst, take, arith}
use Rattle.std.specs.Prelude.{IsTrue, is_some, nat_lt, option_and_then, option_map}
use Rattle.std.specs.List.{list_any, slice_get}
use Rattle.std.specs.Option.{option_map_or}
use Rattle.std.proofs.lemmas.Bool.{false≢true}
use Rattle.std.proofs.lemmas.Bool.Decides.{nat_tests}
use Rattle.nm_types.specs.declared.answers.Answer.{Answer}
use Rattle.nm_types.specs.declared.scripts.Line.{Line}
use Rattle.nm_types.specs.Commands.{Numbered, commands_of}
use Rattle.nm_types.specs.Sizes.{Sizes}
use Rattle.nm_types.proofs.ListLemmas.{get_from_map, place_below}
use Rattle.nm_types.proofs.NumberLemmas.{eq_true, same_number}
use Rattle.nm_types.proofs.TruthLemmas.{both}
use Rattle.nm_history.specs.declared.events.Event.{Event}
use Rattle.nm_history.specs.Quiescence.{Ended, Packets, history_of}
use Rattle.nm_history.specs.RankRun.{ran_lines}
use Rattle.nm_outcomes.specs.Logs.{IsLogOf, Step, history_in}
use Rattle.nm_outcomes.specs.Moves.{ArePlaces}
use Rattle.nm_outcomes.specs.Places.{IsPlaceOf, RankPoint}
use Rattle.nm_outcomes.specs.Rests.{AreAtRest}
use Rattle.nm_outcomes.proofs.LogLemmas.{at_of, own_run}
use Rattle.nm_outcomes.proofs.RestLemmas.{waits_is}
use Rattle.nm_lawful.specs.Lawful.{has_run_lem, rests_at_lem, rests_lem}
use Rattle.nm_lawful.specs.Moves.{Report, next_of_lem, told_at_lem}
use Rattle.nm_lawful.specs.Ranks.{RankState}
use Rattle.nm_lawful.specs.Replies.{is_held_lem}
use Rattle.nm_runs_lawful.specs.Runs.{answer_in}
use Rattle.nm_runs_lawful.specs.Stands.{EndsAreEnds, IsRunTold, behind, rank_of, state_of}
use Rattle.nm_runs_lawful.proofs.AtRestLemmas.{effects_are, few_done}
use Rattle.nm_runs_lawful.proofs.HeldUpLemmas.{held_up}
use Rattle.nm_runs_lawful.proofs.NextLemmas.{line_there}
use Rattle.nm_runs_lawful.proofs.StillLemmas.{next_none, next_some, still}
use Rattle.nm_runs_lawful.proofs.TakeLemmas.{row_at}
use Rattle.nm_runs_lawful.proofs.ToldLemmas.{IsRising, first_rise, lines_rise, nothing_told}

-- the place behind commands is past each of their lines
at_least : (m s : ℕ) (cs : List Numbered) → s + 1 ≤ m → IsRising m (map (λ (c : Numbered). c.line) cs) →
    s ≤ fold (λ (place : ℕ) (c : Numbered). c.line - 1) s cs
at_least m s [] low rise = omega arith
at_least m s (c ∷ cs) low rise =
    let least = rise.0 in
    let rest = at_least (c.line + 1) (c.line - 1) cs (omega (arith, low, least)) rise.1 in
    omega (arith, low, least, rest)

reached : (m x s : ℕ) (cs : List Numbered) → IsRising m (map (λ (c : Numbered). c.line) cs) →
    list_any (λ l. l == x) (map (λ (c : Numbered). c.line) cs) ≡ true →
    x - 1 ≤ fold (λ (place : ℕ) (c : Numbered). c.line - 1) s cs
reached m x s [] rise some = absurd (false≢true some)
reached m x s (c ∷ cs) rise some = by_line (c.line == x) refl some (reached (c.line + 1) x (c.line - 1) cs rise.1)
  where
    by_line : (b : Bool) → (c.line == x) ≡ b →
        (b || list_any (λ l. l == x) (map (λ (c : Numbered). c.line) cs)) ≡ true →
        (list_any (λ l. l == x) (map (λ (c : Numbered). c.line) cs) ≡ true →
        x - 1 ≤ fold (λ (place : ℕ) (c : Numbered). c.line - 1) (c.line - 1) cs) →
        x - 1 ≤ fold (λ (place : ℕ) (c : Numbered). c.line - 1) (c.line - 1) cs
    by_line true same some later =
        let one : c.line ≡ x = same_number c.line x same in
        let rest = at_least (c.line + 1) (c.line - 1) cs (let least = rise.0 in omega arith) rise.1 in
        omega (arith, one, rest)
    by_line false other some later = later some

below_so : (a b : ℕ) → a < b → nat_lt a b ≡ true
below_so a b low = grind (arith, nat_tests)

module _ (shape : Sizes) (lines : List Line) (ranks : List Ended) (packets : List Packets) (told : Report)
    (is : IsRunTold shape lines ranks packets told) (log : List Step) (w : ℕ → RankPoint)
    (log_of : IsLogOf shape lines ranks log) (are : ArePlaces lines log w) (rest : AreAtRest shape lines w)
  where
    abbrev rows : ℕ → RankState
    rows = rank_of lines w (history_in log)

    abbrev state : List RankState
    state = state_of shape.ranks lines w log

    within : (i : ℕ) (rank : Ended) → slice_get ranks i ≡ Some rank → i < shape.ranks
    within i rank here =
        let low = place_below ranks i rank here in
        let all = is.run.one_each in omega (arith, low, all)

    -- what a rank told, its lines have run
    told_ran : (i place : ℕ) → i < shape.ranks → is_some (answer_in (place + 2) (history_of ranks i)) ≡ true →
        place < (rows i).at
    told_ran i place low some =
        let answers = (own_run shape lines ranks packets is.run i).answers in
        let at : ℕ = at_of shape lines ranks packets is.run i in
        let far = reached 2 (place + 2) 0 (take at (commands_of i lines))
        (first_rise 2 at (commands_of i lines) (lines_rise i 2 lines))
        (ap (λ (ls : List ℕ). list_any (λ l. l == (place + 2)) ls) (sym answers.in_order) ∙ by_ran
        (list_any (λ l. l == (place + 2)) (ran_lines (history_of ranks i))) refl) in
        let here : (rows i).at ≡ fold (λ (place : ℕ) (c : Numbered). c.line - 1) 0 (take at (commands_of i lines)) =
        ap (behind (commands_of i lines)) (effects_are shape lines ranks packets told is log w log_of are rest i
        ∙ few_done shape lines ranks packets told is log w log_of are rest i) in
        subst (λ (n : ℕ). place < n) (sym here) (omega (arith, far))
      where
        by_ran : (b : Bool) → list_any (λ l. l == (place + 2)) (ran_lines (history_of ranks i)) ≡ b → b ≡ true
        by_ran true so = refl
        by_ran false so =
            absurd (false≢true (ap (λ (xs : List Answer). is_some (slice_get xs 0))
            (sym (nothing_told (place + 2) (history_of ranks i) so)) ∙ some))

    all_told : (place : ℕ) → IsTrue (is_some (told_at_lem told None place)) → IsTrue (has_run_lem lines state place)
    all_told place some =
        by_line (slice_get lines place) (sym (ap (λ (o : Option Answer). is_some o) (is.told_by.said place)) ∙ some)
      where
        by_rank : (l : Line) → is_some (answer_in (place + 2) (history_of ranks l.rank)) ≡ true →
            (o : Option Ended) → slice_get ranks l.rank ≡ o →
            option_map_or (λ rank. nat_lt place rank.at) (slice_get state l.rank) false ≡ true
        by_rank l some None none =
            absurd (false≢true (ap (λ (o : Option Ended). is_some (answer_in (place + 2)
            (option_map_or (λ rank. rank.events) o []))) (sym none) ∙ some))
        by_rank l some (Some rank) here =
            let low = within l.rank rank here in
            ap (λ (o : Option RankState). option_map_or (λ rank. nat_lt place rank.at) o false)
            (row_at lines told shape.ranks rows l.rank low)
            ∙ below_so place (rows l.rank).at (told_ran l.rank place low some)

        by_line : (o : Option Line) →
            is_some (option_and_then (λ l. answer_in (place + 2) (history_of ranks l.rank)) o) ≡ true →
            option_map_or (λ l. option_map_or (λ rank. nat_lt place rank.at) (slice_get state l.rank) false) o false
            ≡ true
        by_line None some = absurd (false≢true some)
        by_line (Some l) some = by_rank l some (slice_get ranks l.rank) refl

    ends : (i : ℕ) → IsPlaceOf i (commands_of i lines) (history_of ranks i) (w i)
    ends i = subst (λ (h : List Event). IsPlaceOf i (commands_of i lines) h (w i)) (log_of.histories i) (are i)

    -- each rank rests as is said
    held : (i : ℕ) → IsTrue (rests_lem lines told state i)
    held i = by_wait (slice_get told.waits i) refl
      where
        rests : Option ℕ → Option RankState → Bool
        rests wait o =
            option_map_or (λ rank. rests_at_lem lines state i rank (next_of_lem lines i rank.at) wait) o true

        by_next : i < shape.ranks → (o : Option Numbered) → slice_get (commands_of i lines) (w i).done ≡ o →
            rests_at_lem lines state i (rows i) (next_of_lem lines i (rows i).at)
            (option_map (λ line. line - 2) (option_map (λ (c : Numbered). c.line) o)) ≡ true
        by_next low None none =
            ap (λ (n : Option ℕ). rests_at_lem lines state i (rows i) n None)
            (next_none shape lines ranks packets told is log w log_of are rest i none)
        by_next low (Some c) next =
            ap (λ (n : Option ℕ). rests_at_lem lines state i (rows i) n (Some (c.line - 2)))
            (next_some shape lines ranks packets told is log w log_of are rest i c next)
            ∙ both ((c.line - 2) == (c.line - 2))
            (option_map_or (λ l. is_held_lem state i (rows i) l.command) (slice_get lines (c.line - 2)) false)
            (eq_true (c.line - 2) (c.line - 2) refl)
            (ap (λ (o : Option Line). option_map_or (λ l. is_held_lem state i (rows i) l.command) o false)
            (line_there i lines (w i).done c next).1
            ∙ held_up shape lines ranks packets told is log w log_of are rest i low c.command
            (rest.waits i low c next))

        by_rank : (wait : Option ℕ) (rank : Ended) → slice_get ranks i ≡ Some rank →
            option_map (λ line. line - 2) rank.waits ≡ wait → rests wait (slice_get state i) ≡ true
        by_rank wait rank here same =
            let low = within i rank here in
            ap (rests wait) (row_at lines told shape.ranks rows i low)
            ∙ ap (λ (o : Option ℕ). rests_at_lem lines state i (rows i) (next_of_lem lines i (rows i).at) o)
            (sym same
            ∙ ap (λ (o : Option ℕ). option_map (λ line. line - 2) o)
            (waits_is shape lines ranks packets is.commands is.run log log_of w ends i rank here))
            ∙ by_next low (slice_get (commands_of i lines) (w i).done) refl

        by_wait : (o : Option (Option ℕ)) → slice_get told.waits i ≡ o →
            option_map_or (λ wait. rests wait (slice_get state i)) o true ≡ true
        by_wait None at = refl
        by_wait (Some wait) at =
            let found = get_from_map (λ (rank : Ended). option_map (λ line. line - 2) rank.waits) ranks i wait
            (sym (ap (λ (ws : List (Option ℕ)). slice_get ws i) is.told_by.waits) ∙ at) in
            by_rank wait found.0 found.1 found.2

pub ends_are_ends : EndsAreEnds
ends_are_ends shape lines ranks packets told log w is log_of are rest = (
  all_told shape lines ranks packets told is log w log_of are rest,
  record {
    still = still shape lines ranks packets told is log w log_of are rest;
    held = held shape lines ranks packets told is log w log_of are rest;
  },
)
