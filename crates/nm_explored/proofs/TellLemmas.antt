-- What each run tells is told at one of the ends.
use Rattle.std.proofs.Common.{◌≡◌, ℕ, ◌<◌, Option, Some, List, [], map, refl, sym, ◌∙◌, ap, subst, arith}
use Rattle.std.proofs.Common.{◌∷◌, zero, suc, length}
use Rattle.std.specs.Prelude.{Contains, IfOk, Result, Ok, Err, option_map, slice_index_or}
use Rattle.std.specs.List.{range_with_len, slice_get}
use Rattle.nm_types.specs.declared.scripts.Line.{Line}
use Rattle.nm_types.specs.Commands.{StandAtLines, commands_of}
use Rattle.nm_types.specs.declared.limits.TheConstants.{MAX_LINES}
use Rattle.nm_types.specs.Limits.{IsScript}
use Rattle.nm_types.specs.Sizes.{Sizes}
use Rattle.nm_history.specs.declared.events.Event.{Event}
use Rattle.nm_history.specs.AtEach.{AtEach}
use Rattle.nm_history.specs.Quiescence.{history_of}
use Rattle.nm_report.specs.declared.records.RunRecord.{RunRecord}
use Rattle.nm_report.specs.Ends.{ends_of, packets_of}
use Rattle.nm_report.specs.Lawful.{IsRunIn}
use Rattle.nm_report.specs.Told.{RankTold, told_of}
use Rattle.nm_types.proofs.ListLemmas.{no_item, place_below}
use Rattle.nm_types.proofs.OptionLemmas.{same_some}
use Rattle.nm_outcomes.specs.Due.{IsDue}
use Rattle.nm_outcomes.specs.Logs.{history_in}
use Rattle.nm_outcomes.specs.Outcomes.{told_at}
use Rattle.nm_outcomes.specs.Places.{IsPlaceOf}
use Rattle.nm_outcomes.specs.Searches as searches
use Rattle.nm_outcomes.proofs.CallLemmas.{events_are_due}
use Rattle.nm_outcomes.proofs.FoundLemmas.{all_told as run_told, commands_in_range, script_commands}
use Rattle.nm_outcomes.proofs.LogLemmas.{at_of, own_run, runs_have_logs}
use Rattle.nm_outcomes.proofs.PathLemmas.{sent_within}
use Rattle.nm_outcomes.proofs.RestLemmas.{at_rest as places_at_rest}
use Rattle.nm_outcomes.proofs.SearchLemmas.{ends_found}
use Rattle.nm_outcomes.specs.RankStates.{Spot, first_spot}
use Rattle.nm_explored.specs.Successors.{spot_in}
use Rattle.nm_search.specs.Lists.{Has}
use Rattle.nm_explored.specs.Settings.{IsAt}
use Rattle.nm_explored.proofs.ChoiceLemmas.{sends_short}
use Rattle.nm_explored.proofs.PlacedLemmas.{are_placed, placed}
use Rattle.nm_explored.specs.Chosen.{Goes}
use Rattle.nm_explored.specs.Coming.{AreEnoughAt, Makes}
use Rattle.nm_explored.specs.declared.ends.End.{End}
use Rattle.nm_explored.specs.declared.ends.Explored.{Explored}
use Rattle.nm_explored.specs.declared.ends.Explored.TheVariants.{All, TooMany}
use Rattle.nm_explored.specs.Ends.{AreEnds, AreShort, IfAll, TellsAll, all_told, told_at_end, told_in}
use Rattle.nm_explored.specs.Rests.{AreAtRest}
use Rattle.nm_explored.specs.Stores.{IsExplored, IsThere, Store, states_in}
use Rattle.nm_explored.proofs.ComeLemmas.{choices_are_enough}
use Rattle.nm_explored.proofs.MetLemmas.{state_at}
use Rattle.nm_explored.proofs.RestLemmas.{at_rest, told_each, told_here}
use Rattle.nm_explored.proofs.WalkLemmas.{first_is_spot, walk}

get_is : {X : Type 0} (xs : List X) (k : ℕ) (x : X) → slice_get xs k ≡ Some x → slice_index_or xs k x ≡ x
get_is [] k x here = absurd (no_item k x here)
get_is (y ∷ ys) zero x here = same_some y x here
get_is (y ∷ ys) (suc k) x here = get_is ys k x here

contains : {X : Type 0} (xs : List X) (x y : X) → Has xs x → y ≡ x → Contains xs y
contains {X} xs x y at same =
    subst (λ (z : X). Contains xs z) (sym same)
    (at.0, place_below xs at.0 x at.1, get_is xs at.0 x at.1)

-- a state that is there is explored
there_explored : (eager ranks : ℕ) (lines : List Line) (store : Store) → IsExplored eager ranks lines store →
    (s : List Spot) → IsThere store s →
    searches.IsExplored (Goes eager ranks lines) (AreEnoughAt ranks lines) (Makes eager ranks lines) (IsThere store) s
there_explored eager ranks lines store explored s there =
    let e = explored.expanded there.1.0 there.0 there.1.1 in
    subst (λ (u : List Spot). searches.IsExplored (Goes eager ranks lines) (AreEnoughAt ranks lines)
    (Makes eager ranks lines) (IsThere store) u) (sym e.is ∙ there.3) e.leads

-- what is told at a state at rest that is there
end_told : (ranks : ℕ) (lines : List Line) (store : Store) (ends : List End) → AreEnds ranks lines store ends →
    (s : List Spot) → IsThere store s → AreAtRest ranks lines (λ i. slice_get s i) →
    Has (map told_at_end ends) (all_told lines (λ i. slice_get s i) ranks)
end_told ranks lines store ends are s there rest =
    subst (λ (v : ℕ → Option Spot). Has (map told_at_end ends) (all_told lines v ranks)) (λ k i. same i k)
    (are there.1.0 there.0 there.1.1
    (subst (λ (v : ℕ → Option Spot). AreAtRest ranks lines v) (λ k i. sym (same i) k) rest))
  where
    same : (i : ℕ) → spot_in store.table there.0 i ≡ slice_get s i
    same i =
        sym (state_at store.table there.0 there.2 i) ∙ ap (λ (u : List Spot). slice_get u i) there.3

-- what a run tells is told at a state at rest that is found, where all that is found is explored
pub rest_among : StandAtLines → (shape : Sizes) (lines : List Line) → IsScript shape.ranks lines →
    (Found : List Spot → Type 0) → ((s : List Spot) → Found s →
    searches.IsExplored (Goes shape.eager shape.ranks lines) (AreEnoughAt shape.ranks lines)
    (Makes shape.eager shape.ranks lines) Found s) → (start : List Spot) → Found start →
    ((j : ℕ) → j < shape.ranks → slice_get start j ≡ Some first_spot) → (run : RunRecord) → IsRunIn shape lines run →
    (s : List Spot) × Found s × AreAtRest shape.ranks lines (λ i. slice_get s i)
    × (told_of run ≡ all_told lines (λ i. slice_get s i) shape.ranks)
rest_among stand shape lines script Found explored start found_start idle run is =
    let commands = script_commands shape.ranks lines stand script in
    let log = runs_have_logs shape lines (ends_of run.ranks) (packets_of run.pairs) is.lawful in
    let due : (i : ℕ) → AtEach (λ b e. IsDue shape.eager (commands_of i lines) b e.what) (history_in log.0 i) =
    λ i. subst (λ (h : List Event). AtEach (λ b e. IsDue shape.eager (commands_of i lines) b e.what) h)
    (sym (log.1.histories i))
    (events_are_due shape (commands_of i lines)
    (at_of shape lines (ends_of run.ranks) (packets_of run.pairs) is.lawful i) (history_of (ends_of run.ranks) i)
    (commands.stand i) (own_run shape lines (ends_of run.ranks) (packets_of run.pairs) is.lawful i)) in
    let path = walk shape lines commands script [] log.0 start tt log.1.steps due
    (λ j low. (first_spot, idle j low, first_is_spot lines)) in
    let v : ℕ → Option Spot = λ i. slice_get path.1 i in
    let ends_are : (i : ℕ) → IsPlaceOf i (commands_of i lines) (history_of (ends_of run.ranks) i)
    (placed lines log.0 i) =
    λ i. subst (λ (h : List Event). IsPlaceOf i (commands_of i lines) h (placed lines log.0 i))
    (log.1.histories i) (are_placed lines log.0 i) in
    let rest = places_at_rest shape lines (ends_of run.ranks) (packets_of run.pairs) commands is.lawful log.0 log.1
    (placed lines log.0) ends_are in
    let at : (i : ℕ) → i < shape.ranks → (s : Spot) × IsAt shape lines log.0 v i s =
    λ i low. (
      (path.3 i low).0,
      record {
        script = script;
        is_log = log.1.steps;
        stands = path.3;
        stand = commands.stand i;
        within = sent_within shape.ranks shape.eager (commands_of i lines) (commands.stand i) (commands.addressed i)
            (history_in log.0 i) (due i);
        low = low;
        here = (path.3 i low).1;
        is = (path.3 i low).2;
      },
    ) in
    let quiet : AreAtRest shape.ranks lines v =
    λ i low. at_rest shape lines log.0 v i (at i low).0 (at i low).1 rest in
    let told : all_told lines v shape.ranks ≡ map (told_at lines (placed lines log.0)) (range_with_len 0 shape.ranks) =
    told_each (λ i. option_map (told_in lines i) (v i)) (told_at lines (placed lines log.0)) 0 shape.ranks
    (λ i first last.
    let low : i < shape.ranks = omega (arith, last) in
    ap (λ (o : Option Spot). option_map (told_in lines i) o) (at i low).1.here
    ∙ ap (λ (t : RankTold). Some t) (told_here shape lines log.0 v i (at i low).0 (at i low).1 rest)) in
    let run_is : told_of run ≡ map (told_at lines (placed lines log.0)) (range_with_len 0 shape.ranks) =
    run_told shape lines run commands is log.0 log.1 (placed lines log.0) ends_are in
    let found = ends_found (Goes shape.eager shape.ranks lines)
    (λ s. AreAtRest shape.ranks lines (λ i. slice_get s i)) (AreEnoughAt shape.ranks lines)
    (Makes shape.eager shape.ranks lines)
    (choices_are_enough shape.eager shape.ranks lines) Found explored path.0 start path.1 found_start path.2 quiet in
    (path.1, found, quiet, run_is ∙ sym told)

-- .. at a state that is there
pub rest_found : StandAtLines → (shape : Sizes) (lines : List Line) → IsScript shape.ranks lines → (store : Store) →
    IsExplored shape.eager shape.ranks lines store → (run : RunRecord) → IsRunIn shape lines run →
    (s : List Spot) × IsThere store s × AreAtRest shape.ranks lines (λ i. slice_get s i)
    × (told_of run ≡ all_told lines (λ i. slice_get s i) shape.ranks)
rest_found stand shape lines script store explored run is =
    let first = explored.expanded explored.found.0 explored.first explored.found.1 in
    rest_among stand shape lines script (IsThere store)
    (λ s there. there_explored shape.eager shape.ranks lines store explored s there)
    (states_in store.table explored.first) (explored.first, explored.found, first.low, refl)
    (λ j low. state_at store.table explored.first first.low j ∙ explored.idle j low) run is

pub tells_all : StandAtLines → (shape : Sizes) (lines : List Line) → IsScript shape.ranks lines → (store : Store) →
    IsExplored shape.eager shape.ranks lines store → (ends : List End) → AreEnds shape.ranks lines store ends →
    TellsAll shape lines ends
tells_all stand shape lines script store explored ends are run is =
    let rest = rest_found stand shape lines script store explored run is in
    contains (map told_at_end ends) (all_told lines (λ i. slice_get rest.0 i) shape.ranks) (told_of run)
    (end_told shape.ranks lines store ends are rest.0 rest.1 rest.2) rest.3

-- a script is short, and so is what it sends at once
pub script_short : (ranks : ℕ) (lines : List Line) → IsScript ranks lines → AreShort lines
script_short ranks lines script =
    record {
      sends = λ i line c here. sends_short ranks c (commands_in_range ranks lines script i line c here);
      count = let few : length lines < MAX_LINES = script.few_lines in omega (arith, few);
    }

-- what follows of all ends
pub all_weaker : (P Q : List End → Type 0) → ((ends : List End) → P ends → Q ends) → (e : Explored) → IfAll P e →
    IfAll Q e
all_weaker P Q follows (All ends) all = follows ends all
all_weaker P Q follows TooMany all = tt

pub ok_weaker : {X E : Type 0} (P Q : X → Type 0) → ((x : X) → P x → Q x) → (r : Result X E) → IfOk r P → IfOk r Q
ok_weaker P Q follows (Ok x) right = follows x right
ok_weaker P Q follows (Err e) right = tt

-- .. of the ends of a search that found all states
pub explore_tells : StandAtLines → (shape : Sizes) (lines : List Line) → IsScript shape.ranks lines →
    (eager ranks : ℕ) (own : List Line) (store : Store) → eager ≡ shape.eager → ranks ≡ shape.ranks → own ≡ lines →
    IsExplored eager ranks own store → (ends : List End) → AreEnds ranks own store ends → TellsAll shape lines ends
explore_tells stand shape lines script eager ranks own store a b c explored ends are =
    tells_all stand shape lines script store
    (subst (λ (x : ℕ). IsExplored x shape.ranks lines store) a
    (subst (λ (x : ℕ). IsExplored eager x lines store) b
    (subst (λ (x : List Line). IsExplored eager ranks x store) c explored)))
    ends
    (subst (λ (x : ℕ). AreEnds x lines store ends) b
    (subst (λ (x : List Line). AreEnds ranks x store ends) c are))
