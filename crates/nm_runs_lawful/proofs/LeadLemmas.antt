-- Where each step leads on, a run leads to its end.
use Rattle.std.proofs.Common.{◌≡◌, ℕ, zero, suc, ◌+◌, ◌==◌, Bool, true, false, cond, None, List, [], ◌∷◌}
use Rattle.std.proofs.Common.{◌++◌, map, refl, sym, ◌∙◌, ap, subst, append-nil, append_assoc}
use Rattle.std.specs.Prelude.{replicate}
use Rattle.std.specs.List.{range_with_len}
use Rattle.nm_types.specs.declared.scripts.Line.{Line}
use Rattle.nm_types.specs.Commands.{StandAtLines, commands_of}
use Rattle.nm_types.specs.Sizes.{Sizes}
use Rattle.nm_types.proofs.NumberLemmas.{same_number}
use Rattle.nm_history.specs.declared.events.Event.{Event}
use Rattle.nm_history.specs.AtEach.{AtEach}
use Rattle.nm_history.specs.Matching.{matched_pairs}
use Rattle.nm_history.specs.Quiescence.{Ended, Packets, history_of}
use Rattle.nm_history.proofs.AtEachLemmas.{AtEach-split}
use Rattle.nm_report.specs.Ends.{ends_of, packets_of}
use Rattle.nm_outcomes.specs.Due.{IsDue}
use Rattle.nm_outcomes.specs.Logs.{IsLog, IsLogOf, MayCome, MayComeAfter, Step, history_in}
use Rattle.nm_outcomes.specs.Moves.{ArePlaces}
use Rattle.nm_outcomes.specs.Paths.{AreMoves, first_place, moved, moved_by}
use Rattle.nm_outcomes.specs.Places.{IsPlaceOf, RankPoint, after}
use Rattle.nm_outcomes.proofs.CallLemmas.{events_are_due}
use Rattle.nm_outcomes.proofs.EndLemmas.{all_follow}
use Rattle.nm_outcomes.proofs.FoundLemmas.{script_commands}
use Rattle.nm_outcomes.proofs.LogLemmas.{at_of, grown_here, grown_other, log-push, own_run}
use Rattle.nm_outcomes.proofs.PathLemmas.{history_at, history_split, proper}
use Rattle.nm_outcomes.proofs.PlaceLemmas.{places_follow}
use Rattle.nm_outcomes.proofs.RestLemmas.{runs_come_to_rest}
use Rattle.nm_lawful.specs.declared.judging.Judged.TheVariants as judged
use Rattle.nm_lawful.specs.Lawful.{IsPath}
use Rattle.nm_lawful.specs.Moves.{Report}
use Rattle.nm_lawful.specs.Ranks.{RankState, first_rank}
use Rattle.nm_runs_lawful.specs.Runs.{RunsAreLawful, RunsAreNotRefused}
use Rattle.nm_runs_lawful.specs.Stands.{EndsAreEnds, IsNext, IsRunTold, Leads, StepsLead, rank_of, state_of}

-- two paths are one
pub joined : (lines : List Line) (told : Report) (n : ℕ) (s t u : List RankState) → IsPath lines told None n s t →
    Leads lines told t u → Leads lines told s u
joined lines told zero s t u is more = subst (λ (x : List RankState). Leads lines told x u) (sym is) more
joined lines told (suc n) s t u path more =
    let rest = joined lines told n path.0 t u path.2 more in (suc rest.0, (path.0, path.1, rest.1))

-- all ranks have done nothing
all_first : (lines : List Line) (start ranks : ℕ) →
    map (rank_of lines (λ i. first_place) (history_in [])) (range_with_len start ranks) ≡ replicate ranks first_rank
all_first lines start zero = refl
all_first lines start (suc n) = ap (λ (rs : List RankState). first_rank ∷ rs) (all_first lines (start + 1) n)

-- nothing has happened
none_are : (lines : List Line) → ArePlaces lines [] (λ i. first_place)
unfolding matched_pairs
none_are lines i = record {
  told = refl;
  done = refl;
  begun = refl;
  named = λ q. refl;
  requests = λ line. refl;
  handled = λ m. refl;
  claims = λ line. refl;
  receives = refl;
  messages = refl;
  pairs = λ number. refl;
  off = λ number. refl;
  known = λ from n. refl;
  arrived = λ from n. refl;
  taken = λ from n. refl;
  claimed = λ from n. refl;
  withdrawn = λ from n. refl;
  sent = λ to. refl;
  lines = λ to. refl;
  unasked = λ to n. refl;
  recalled = λ to n. refl;
  came = λ from. refl;
}

module _ (shape : Sizes) (lines : List Line) (ranks : List Ended) (packets : List Packets) (told : Report)
    (is : IsRunTold shape lines ranks packets told)
  where
    -- the places behind the next step of a log
    places_on : (before : List Step) (s : Step) (w : ℕ → RankPoint) → IsLog shape lines before →
        ArePlaces lines before w → MayCome shape lines (history_in before) s.rank s.event →
        ArePlaces lines (before ++ s ∷ []) (moved lines w s)
    places_on before s w log are next i = by_rank (s.rank == i) refl
      where
        here : IsPlaceOf s.rank (commands_of s.rank lines) (history_in (before ++ s ∷ []) s.rank)
            (after s.rank (commands_of s.rank lines) (w s.rank) s.event.what)
        here =
            subst (λ (h : List Event). IsPlaceOf s.rank (commands_of s.rank lines) h
            (after s.rank (commands_of s.rank lines) (w s.rank) s.event.what)) (sym (grown_here before s))
            (places_follow s.rank (commands_of s.rank lines) (history_in before s.rank) s.event (w s.rank)
            (proper shape (commands_of s.rank lines) (history_in before s.rank) s.event.stamp s.event.what
            (all_follow shape lines before log s.rank) next.own) (are s.rank))

        by_rank : (b : Bool) → (s.rank == i) ≡ b →
            IsPlaceOf i (commands_of i lines) (history_in (before ++ s ∷ []) i)
            (cond b (after i (commands_of i lines) (w i) s.event.what) (w i))
        by_rank true same =
            subst (λ (k : ℕ). IsPlaceOf k (commands_of k lines) (history_in (before ++ s ∷ []) k)
            (after k (commands_of k lines) (w k) s.event.what)) (same_number s.rank i same) here
        by_rank false other =
            subst (λ (h : List Event). IsPlaceOf i (commands_of i lines) h (w i)) (sym (grown_other before s i other))
            (are i)

    -- what each event is due to
    due_in : (before : List Step) (s : Step) (steps : List Step) → IsLogOf shape lines ranks (before ++ s ∷ steps) →
        IsDue shape.eager (commands_of s.rank lines) (history_in before s.rank) s.event.what
    due_in before s steps whole =
        AtEach-split (λ b e. IsDue shape.eager (commands_of s.rank lines) b e.what) (history_in before s.rank) s.event
        (history_in steps s.rank)
        (subst (λ (h : List Event). AtEach (λ b e. IsDue shape.eager (commands_of s.rank lines) b e.what) h)
        (sym (whole.histories s.rank) ∙ history_split before (s ∷ steps) s.rank
        ∙ ap (λ (h : List Event). history_in before s.rank ++ h) (history_at s steps))
        (events_are_due shape (commands_of s.rank lines) (at_of shape lines ranks packets is.run s.rank)
        (history_of ranks s.rank) (is.commands.stand s.rank) (own_run shape lines ranks packets is.run s.rank)))

    -- moves lead from the state behind the first steps to the one behind all
    along : StepsLead → (before steps : List Step) (w : ℕ → RankPoint) →
        IsLogOf shape lines ranks (before ++ steps) → IsLog shape lines before → MayComeAfter shape lines before steps →
        ArePlaces lines before w → AreMoves shape lines w steps →
        Leads lines told (state_of shape.ranks lines w before)
        (state_of shape.ranks lines (moved_by lines w steps) (before ++ steps))
    along leads before [] w whole log each are moves =
        (0, ap (λ (steps : List Step). state_of shape.ranks lines w steps) (sym (append-nil before)))
    along leads before (s ∷ steps) w whole log each are moves =
        let next : IsNext shape lines ranks before s steps w = record {
          so_far = record { whole = whole; log = log; places = are };
          comes = each.0;
          moves = moves.0;
          due = due_in before s steps whole;
        } in
        let first = leads shape lines ranks packets told before s steps w is next in
        let append = append_assoc before (s ∷ []) steps in
        let rest = along leads (before ++ s ∷ []) steps (moved lines w s)
        (subst (λ (log : List Step). IsLogOf shape lines ranks log) (sym append) whole)
        (log-push shape lines [] before s log each.0) each.1 (places_on before s w log are each.0) moves.1 in
        joined lines told first.0 (state_of shape.ranks lines w before)
        (state_of shape.ranks lines (moved lines w s) (before ++ s ∷ []))
        (state_of shape.ranks lines (moved_by lines (moved lines w s) steps) (before ++ s ∷ steps)) first.1
        (subst (λ (log : List Step). Leads lines told
        (state_of shape.ranks lines (moved lines w s) (before ++ s ∷ []))
        (state_of shape.ranks lines (moved_by lines (moved lines w s) steps) log)) append rest)

pub runs_are_lawful : StandAtLines → StepsLead → EndsAreEnds → RunsAreLawful
runs_are_lawful stand leads ends shape lines run told script is told_by =
    let commands = script_commands shape.ranks lines stand script in
    let rest = runs_come_to_rest shape lines (ends_of run.ranks) (packets_of run.pairs) commands is.lawful in
    let all : IsRunTold shape lines (ends_of run.ranks) (packets_of run.pairs) told =
    record { commands = commands; run = is.lawful; told_by = told_by } in
    let w : ℕ → RankPoint = moved_by lines (λ i. first_place) rest.0 in
    let led = along shape lines (ends_of run.ranks) (packets_of run.pairs) told all leads [] rest.0 (λ i.
    first_place)
    rest.1.log_of tt rest.1.log_of.steps (none_are lines) rest.1.moves in
    record {
      moves = led.0;
      state = state_of shape.ranks lines w rest.0;
      path = subst (λ (s : List RankState). IsPath lines told None led.0 s (state_of shape.ranks lines w rest.0))
          (all_first lines 0 shape.ranks) led.1;
      end = ends shape lines (ends_of run.ranks) (packets_of run.pairs) told rest.0 w all rest.1.log_of
          (λ i. subst (λ (h : List Event). IsPlaceOf i (commands_of i lines) h (w i))
          (sym (rest.1.log_of.histories i)) (rest.1.ends i)) rest.2;
    }

-- so a judge does not refuse what a run tells
pub runs_are_not_refused : RunsAreLawful → RunsAreNotRefused
runs_are_not_refused lawful shape lines run told count limit judged.Lawful script is told_by says = refl
runs_are_not_refused lawful shape lines run told count limit (judged.Unlawful moment) script is told_by says =
    absurd (says.0 (lawful shape lines run told script is told_by))
runs_are_not_refused lawful shape lines run told count limit (judged.NoRest i) script is told_by says =
    absurd (says.0 (lawful shape lines run told script is told_by))
runs_are_not_refused lawful shape lines run told count limit judged.TooMany script is told_by says = refl
