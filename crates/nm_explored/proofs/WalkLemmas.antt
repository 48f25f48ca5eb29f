-- A run is a path of moves over the states of its ranks.
use Rattle.std.proofs.Common.{◌≡◌, ◌⊎◌, inl, inr, ℕ, suc, ◌<◌, ◌==◌, ◌&&◌, ◌||◌, Bool, true, false, Option, Some, None}
use Rattle.std.proofs.Common.{List, [], ◌∷◌, ◌++◌, map, refl, sym, ◌∙◌, ap, subst, append-nil, append_assoc}
use Rattle.std.specs.List.{slice_get, slice_set}
use Rattle.std.proofs.lemmas.Bool.{false≢true}
use Rattle.std.proofs.Math.Bool.{or-false}
use Rattle.nm_types.specs.declared.scripts.Line.{Line}
use Rattle.nm_types.specs.Commands.{commands_of}
use Rattle.nm_types.specs.Limits.{IsScript}
use Rattle.nm_types.specs.Sizes.{Sizes}
use Rattle.nm_history.specs.declared.events.Event.{Event}
use Rattle.nm_history.specs.declared.events.Happened.{Happened}
use Rattle.nm_history.specs.declared.events.Happened.TheVariants as event
use Rattle.nm_history.specs.AtEach.{AtEach}
use Rattle.nm_history.specs.Happens.{happened, is_withdraw}
use Rattle.nm_history.specs.Matching.{matched_pairs}
use Rattle.nm_history.specs.Sends.{arrival_of}
use Rattle.nm_history.specs.Underway.{is_of_packet}
use Rattle.nm_history.proofs.AtEachLemmas.{AtEach-split}
use Rattle.nm_history.proofs.EachLemmas.{AtEach-prefix}
use Rattle.nm_lookups.specs.Queues.{free_messages, open_receives}
use Rattle.nm_types.proofs.ListLemmas.{get_set_other, get_set_same, place_below}
use Rattle.nm_types.proofs.NumberLemmas.{differ, same_number}
use Rattle.nm_outcomes.specs.Due.{IsDue}
use Rattle.nm_outcomes.specs.Logs.{IsLog, MayCome, MayComeAfter, Step, history_in}
use Rattle.nm_outcomes.specs.Paths.{AreCommands}
use Rattle.nm_outcomes.specs.Places.{IsProper, is_quiet, pair_by}
use Rattle.nm_outcomes.specs.Searches.{IsPath}
use Rattle.nm_outcomes.proofs.LogLemmas.{grown_here, grown_other, log-push}
use Rattle.nm_outcomes.proofs.PathLemmas.{history_at, history_split, sent_within}
use Rattle.nm_outcomes.specs.Deeds.{post_of_lem}
use Rattle.nm_outcomes.specs.RankStates.{IsSpotOf, Spot, first_spot}
use Rattle.nm_outcomes.proofs.SpotLemmas.{came_next, deeds_same, known_next, next, paired_next, place_at, taken_next}
use Rattle.nm_explored.specs.Moves.{AreSpots, moved_at}
use Rattle.nm_explored.proofs.ChoiceLemmas.{events_are_choices}
use Rattle.nm_explored.specs.Chosen.{Goes}

and_none : (a b : Bool) → b ≡ false → (a && b) ≡ false
and_none true b none = none
and_none false b none = refl

-- an event that is quiet changes no state
module _ (lines : List Line) (h : List Event) (spot : Spot) (is : IsSpotOf lines h spot) (stamp : ℕ) where
  still : (what : Happened) → IsProper h what → is_of_packet what ≡ true → pair_by (place_at h) what ≡ None →
      arrival_of what ≡ None → ((from n : ℕ) → is_withdraw from n true what ≡ false) →
      map post_of_lem spot.receives ≡ open_receives (h ++ record { stamp = stamp; what = what } ∷ []) →
      spot.free ≡ free_messages (h ++ record { stamp = stamp; what = what } ∷ []) →
      IsSpotOf lines (h ++ record { stamp = stamp; what = what } ∷ []) spot
  still what fine packet none no_arrival stays opens frees = record {
    deeds = deeds_same lines h spot is stamp what fine packet;
    receives = opens;
    free = frees;
    paired = paired_next lines h spot is stamp what fine None none;
    taken = taken_next lines h spot is stamp what fine None none;
    known = known_next lines h spot is stamp what fine None no_arrival;
    came = came_next lines h spot is stamp what fine None no_arrival;
    withdrawn = λ from n. is.withdrawn from n ∙ sym (or-false _)
        ∙ ap (λ (b : Bool). happened (is_withdraw from n true) h || b) (sym (stays from n))
        ∙ (next lines h spot is stamp what fine).withdrawn from n;
  }

  pub quiet_spot : (what : Happened) → is_quiet what ≡ true →
      IsSpotOf lines (h ++ record { stamp = stamp; what = what } ∷ []) spot
  quiet_spot (event.Whole from n) quiet =
      still (event.Whole from n) tt refl refl refl (λ i m. refl)
      (is.receives ∙ (next lines h spot is stamp (event.Whole from n) tt).receives)
      (is.free ∙ (next lines h spot is stamp (event.Whole from n) tt).messages)
  quiet_spot (event.Out to n) quiet =
      still (event.Out to n) tt refl refl refl (λ i m. refl)
      (is.receives ∙ (next lines h spot is stamp (event.Out to n) tt).receives)
      (is.free ∙ (next lines h spot is stamp (event.Out to n) tt).messages)
  quiet_spot (event.Undone to n done) quiet =
      still (event.Undone to n done) tt refl refl refl (λ i m. refl)
      (is.receives ∙ (next lines h spot is stamp (event.Undone to n done) tt).receives)
      (is.free ∙ (next lines h spot is stamp (event.Undone to n done) tt).messages)
  quiet_spot (event.Withdraw from n false) quiet =
      still (event.Withdraw from n false) tt refl refl refl (λ i m. and_none (from == i && n == m) false refl)
      (is.receives ∙ (next lines h spot is stamp (event.Withdraw from n false) tt).receives)
      (is.free ∙ (next lines h spot is stamp (event.Withdraw from n false) tt).messages)
  quiet_spot (event.Withdraw from n true) quiet = absurd (false≢true quiet)
  quiet_spot (event.Send to n tag ctx len how line) quiet = absurd (false≢true quiet)
  quiet_spot (event.Post p line) quiet = absurd (false≢true quiet)
  quiet_spot (event.Match number from n cap line) quiet = absurd (false≢true quiet)
  quiet_spot (event.Cancel number done) quiet = absurd (false≢true quiet)
  quiet_spot (event.Recall to n) quiet = absurd (false≢true quiet)
  quiet_spot (event.Claim from n line) quiet = absurd (false≢true quiet)
  quiet_spot (event.Ran line a) quiet = absurd (false≢true quiet)
  quiet_spot (event.Arrive a) quiet = absurd (false≢true quiet)

-- a rank of which nothing has happened
pub first_is_spot : (lines : List Line) → IsSpotOf lines [] first_spot
unfolding matched_pairs
first_is_spot lines = record {
  deeds = refl;
  receives = refl;
  free = refl;
  paired = λ number. refl;
  taken = λ from n. refl;
  known = λ from n. refl;
  came = λ from. refl;
  withdrawn = λ from n. refl;
}

module _ (shape : Sizes) (lines : List Line) (commands : AreCommands shape.ranks lines)
    (script : IsScript shape.ranks lines) where
  abbrev pub AllDue : List Step → Type 0
  AllDue log = (i : ℕ) → AtEach (λ b e. IsDue shape.eager (commands_of i lines) b e.what) (history_in log i)

  -- the ranks are in these states after a log
  abbrev pub AreHere : List Step → List Spot → Type 0
  AreHere log s = AreSpots shape.ranks lines log (λ i. slice_get s i)

  -- so many moves lead from these states to those
  abbrev pub IsPathOf : ℕ → List Spot → List Spot → Type 0
  IsPathOf n s e = IsPath (Goes shape.eager shape.ranks lines) n s e

  -- a rank went into another state
  moved : (before : List Step) (s : Step) (states : List Spot) (t : Spot) → s.rank < shape.ranks →
      AreHere before states →
      IsSpotOf lines (history_in before s.rank ++ s.event ∷ []) t →
      AreHere (before ++ s ∷ []) (slice_set states s.rank t)
  moved before s states t inside are is j low = by_rank (s.rank == j) refl
    where
      at_rank : (x : Spot) × (slice_get (slice_set states s.rank t) s.rank ≡ Some x)
          × IsSpotOf lines (history_in (before ++ s ∷ []) s.rank) x
      at_rank = (
        t,
        get_set_same states s.rank t (let at = are s.rank inside in place_below states s.rank at.0 at.1),
        subst (λ (h : List Event). IsSpotOf lines h t) (sym (grown_here before s)) is,
      )

      by_rank : (b : Bool) → (s.rank == j) ≡ b →
          (x : Spot) × (slice_get (slice_set states s.rank t) j ≡ Some x)
          × IsSpotOf lines (history_in (before ++ s ∷ []) j) x
      by_rank true same =
          subst (λ (k : ℕ). (x : Spot) × (slice_get (slice_set states s.rank t) k ≡ Some x)
          × IsSpotOf lines (history_in (before ++ s ∷ []) k) x) (same_number s.rank j same) at_rank
      by_rank false other =
          let x = are j low in (
            x.0,
            get_set_other states s.rank j t (differ s.rank j other) ∙ x.1,
            subst (λ (h : List Event). IsSpotOf lines h x.0) (sym (grown_other before s j other)) x.2,
          )

  quiet_are : (before : List Step) (s : Step) (v : ℕ → Option Spot) → is_quiet s.event.what ≡ true →
      AreSpots shape.ranks lines before v → AreSpots shape.ranks lines (before ++ s ∷ []) v
  quiet_are before s v quiet are j low = by_rank (s.rank == j) refl (are j low)
    where
      by_rank : (b : Bool) → (s.rank == j) ≡ b →
          (x : Spot) × (v j ≡ Some x) × IsSpotOf lines (history_in before j) x →
          (x : Spot) × (v j ≡ Some x) × IsSpotOf lines (history_in (before ++ s ∷ []) j) x
      by_rank true same at = (
        at.0,
        at.1,
        subst (λ (k : ℕ). IsSpotOf lines (history_in (before ++ s ∷ []) k) at.0) (same_number s.rank j same)
            (subst (λ (h : List Event). IsSpotOf lines h at.0) (sym (grown_here before s))
            (quiet_spot lines (history_in before s.rank) at.0
            (subst (λ (k : ℕ). IsSpotOf lines (history_in before k) at.0) (sym (same_number s.rank j same)) at.2)
            s.event.stamp s.event.what quiet)),
      )
      by_rank false other at =
          (at.0, at.1, subst (λ (h : List Event). IsSpotOf lines h at.0) (sym (grown_other before s j other)) at.2)

  -- no move or one leads to the states after one step more
  step : (before : List Step) (s : Step) (states : List Spot) → IsLog shape lines before →
      MayCome shape lines (history_in before) s.rank s.event →
      ((i : ℕ) → AtEach (λ b e. IsDue shape.eager (commands_of i lines) b e.what) (history_in before i)) →
      IsDue shape.eager (commands_of s.rank lines) (history_in before s.rank) s.event.what →
      AreHere before states →
      AreHere (before ++ s ∷ []) states
      ⊎ ((u : List Spot) × Goes shape.eager shape.ranks lines states u × AreHere (before ++ s ∷ []) u)
  step before s states is may front due are = by_kind (is_quiet s.event.what) refl
    where
      by_kind : (b : Bool) → is_quiet s.event.what ≡ b →
          AreHere (before ++ s ∷ []) states
          ⊎ ((u : List Spot) × Goes shape.eager shape.ranks lines states u × AreHere (before ++ s ∷ []) u)
      by_kind true quiet = inl (quiet_are before s (λ i. slice_get states i) quiet are)
      by_kind false loud =
          let sp = are s.rank may.within in
          let chosen = events_are_choices shape lines before (λ i. slice_get states i) s.rank s.event sp.0 script is are
          (commands.stand s.rank)
          (sent_within shape.ranks shape.eager (commands_of s.rank lines) (commands.stand s.rank)
          (commands.addressed s.rank) (history_in before s.rank) (front s.rank)) may due loud sp.1 in
          inr (
            slice_set states s.rank (moved_at sp.0 chosen.by),
            (
              record { rank = s.rank; by = chosen.by },
              may.within,
              record { spot = sp.0; here = sp.1; choice = chosen.choice },
              refl,
            ),
            moved before s states (moved_at sp.0 chosen.by) may.within are chosen.state,
          )

  -- moves lead to the states after all steps
  pub walk : (before steps : List Step) (states : List Spot) → IsLog shape lines before →
      MayComeAfter shape lines before steps → AllDue (before ++ steps) → AreHere before states →
      (n : ℕ) × (u : List Spot) × IsPathOf n states u × AreHere (before ++ steps) u
  walk before [] states is each due are =
      (0, states, refl, subst (λ (log : List Step). AreHere log states) (sym (append-nil before)) are)
  walk before (s ∷ steps) states is each due are =
      let front : (i : ℕ) → AtEach (λ b e. IsDue shape.eager (commands_of i lines) b e.what) (history_in before i) =
      λ i. AtEach-prefix (λ b e. IsDue shape.eager (commands_of i lines) b e.what) (history_in before i)
      (history_in (s ∷ steps) i)
      (subst (λ (h : List Event). AtEach (λ b e. IsDue shape.eager (commands_of i lines) b e.what) h)
      (history_split before (s ∷ steps) i) (due i)) in
      let now : IsDue shape.eager (commands_of s.rank lines) (history_in before s.rank) s.event.what =
      AtEach-split (λ b e. IsDue shape.eager (commands_of s.rank lines) b e.what) (history_in before s.rank) s.event
      (history_in steps s.rank)
      (subst (λ (h : List Event). AtEach (λ b e. IsDue shape.eager (commands_of s.rank lines) b e.what) h)
      (history_split before (s ∷ steps) s.rank
      ∙ ap (λ (h : List Event). history_in before s.rank ++ h) (history_at s steps)) (due s.rank)) in
      by_step (step before s states is each.0 front now are)
      (λ u here. walk (before ++ s ∷ []) steps u (log-push shape lines [] before s is each.0) each.1
      (λ i. subst (λ (log : List Step). AtEach (λ b e. IsDue shape.eager (commands_of i lines) b e.what)
      (history_in log i)) (sym (append_assoc before (s ∷ []) steps)) (due i)) here)
    where
      by_step : AreHere (before ++ s ∷ []) states
          ⊎ ((u : List Spot) × Goes shape.eager shape.ranks lines states u × AreHere (before ++ s ∷ []) u) →
          ((u : List Spot) → AreHere (before ++ s ∷ []) u →
          (n : ℕ) × (w : List Spot) × IsPathOf n u w × AreHere ((before ++ s ∷ []) ++ steps) w) →
          (n : ℕ) × (u : List Spot) × IsPathOf n states u × AreHere (before ++ s ∷ steps) u
      by_step (inl quiet) later =
          let rest = later states quiet in (
            rest.0,
            rest.1,
            rest.2,
            subst (λ (log : List Step). AreHere log rest.1) (append_assoc before (s ∷ []) steps) rest.3,
          )
      by_step (inr go) later =
          let rest = later go.0 go.2 in (
            suc rest.0,
            rest.1,
            (go.0, go.1, rest.2),
            subst (λ (log : List Step). AreHere log rest.1) (append_assoc before (s ∷ []) steps) rest.3,
          )
