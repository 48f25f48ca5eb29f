-- How all runs of a script end, by the ends of a search that tell what they tell.
use Rattle.std.proofs.Common.{◌≡◌, ◌+◌, ◌<◌, ◌&&◌, ◌||◌, inl, inr, ℕ, suc, Bool, true, false, List, [], ◌∷◌, map}
use Rattle.std.proofs.Common.{ap, get_or, length, refl, subst, sym, take, ◌∙◌}
use Rattle.std.specs.Prelude.{Option, None, Some, is_none, is_some, not}
use Rattle.std.specs.List.{list_all, list_any}
use Rattle.std.proofs.lemmas.Bool.{false≢true}
use Rattle.std.proofs.lemmas.List.{length-replicate, length-set}
use Rattle.std.proofs.lemmas.Option.{slice_get_read}
use Rattle.nm_types.proofs.ListLemmas.{get_from_map, get_map, take_next}
use Rattle.nm_search.proofs.ListLemmas.{more_only}
use Rattle.nm_types.specs.declared.scripts.Line.{Line}
use Rattle.nm_types.specs.Limits.{IsScript}
use Rattle.nm_types.specs.Sizes.{Sizes}
use Rattle.nm_outcomes.specs.RankStates.{Spot, first_spot}
use Rattle.nm_report.specs.declared.accounts.RankAccount.{RankAccount}
use Rattle.nm_report.specs.declared.records.RunRecord.{RunRecord}
use Rattle.nm_report.specs.Lawful.{IsRunIn}
use Rattle.nm_report.specs.Told.{RankTold, told_of, told_of_rank}
use Rattle.nm_explored.specs.declared.ends.End.{End}
use Rattle.nm_explored.specs.Ends.{AreEndsByWay, TellsAll, TellsOnly, told_at_end}
use Rattle.nm_explored.specs.Met.{IsWay}
use Rattle.nm_explored.specs.Moves.{moved_at}
use Rattle.nm_explored.specs.declared.choices.moves.Turn.{Turn}
use Rattle.nm_search.specs.Lists.{Has}
use Rattle.nm_hangs.specs.Found.{HasNoHang, IsHangTrace}
use Rattle.nm_listed.proofs.ToldLemmas.{done_by_ends}
use Rattle.nm_listed.specs.Ends.{EndsAreRuns}
use Rattle.nm_why.specs.Hangs.{CanEnd, CanHang, is_hung}
use Rattle.nm_why_top.specs.Answers.{IsStuck, NoneHangs}

-- a run ends as one of the ends
pub run_end : (shape : Sizes) (lines : List Line) (ends : List End) → TellsAll shape lines ends →
    (run : RunRecord) → IsRunIn shape lines run → (end : End) × Has ends end × (told_at_end end ≡ told_of run)
run_end shape lines ends tells run lawful =
    let at = tells run lawful in
    let end = get_from_map told_at_end ends at.0 (told_of run)
    (slice_get_read (map told_at_end ends) (length (map told_at_end ends)) at.0 (told_of run) refl at.1 (sym at.2)) in
    (end.0, (at.0, end.1), end.2)

-- where no end hangs, no run does
pub none_hangs : (shape : Sizes) (lines : List Line) (ends : List End) → TellsAll shape lines ends → NoneHangs ends →
    ¬ (CanHang shape lines)
none_hangs shape lines ends tells none (run, lawful, hung) =
    let end = run_end shape lines ends tells run lawful in
    let quiet : is_hung (told_of run) ≡ false =
    sym (ap (λ (told : List RankTold). is_hung told) end.2) ∙ none end.0 end.1 in
    cc

-- an end is that of a run
pub end_run : EndsAreRuns → (shape : Sizes) (lines : List Line) (ends : List End) → IsScript shape.ranks lines →
    TellsOnly shape lines ends → (end : End) → Has ends end →
    (run : RunRecord) × IsRunIn shape lines run × (told_of run ≡ told_at_end end)
end_run runs shape lines ends script only end at =
    let rest = only (told_at_end end) (at.0, get_map told_at_end ends at.0 end at.1) in
    let run = runs shape lines rest.state script rest.met rest.rest in
    (run.0, run.1, run.2 ∙ sym rest.told_is)

-- so it ends as the end does
pub end_ends : EndsAreRuns → (shape : Sizes) (lines : List Line) (ends : List End) → IsScript shape.ranks lines →
    TellsOnly shape lines ends → (end : End) → Has ends end → is_hung (told_at_end end) ≡ false → CanEnd shape lines
end_ends runs shape lines ends script only end at quiet =
    let run = end_run runs shape lines ends script only end at in
    (run.0, run.1, ap (λ (told : List RankTold). is_hung told) run.2 ∙ quiet)

-- states in which a rank waits and nothing can happen any more are those of a run that hangs
pub stuck_hangs : EndsAreRuns → (shape : Sizes) (lines : List Line) → IsScript shape.ranks lines →
    (states : List Spot) → IsStuck shape lines states → CanHang shape lines
stuck_hangs runs shape lines script states stuck =
    let run = runs shape lines states script (stuck.path, stuck.way) stuck.rest in
    (run.0, run.1, ap (λ (told : List RankTold). is_hung told) run.2 ∙ stuck.hung)

-- a rank waits at an end where it waits by its account
pub hung_told : (accounts : List RankAccount) →
    list_any (λ (account : RankAccount). is_some account.waits) accounts ≡ is_hung (map told_of_rank accounts)
hung_told [] = refl
hung_told (account ∷ accounts) = ap (λ (b : Bool). is_some account.waits || b) (hung_told accounts)

-- where one of some elements passes a test, there is one
passing : {X : Type 0} (test : X → Bool) (xs : List X) → list_any test xs ≡ true →
    (x : X) × Has xs x × (test x ≡ true)
passing test [] h = absurd (false≢true h)
passing {X} test (x ∷ xs) h = by_first (test x) refl h (λ more. passing test xs more)
  where
    by_first : (b : Bool) → test x ≡ b → (b || list_any test xs) ≡ true →
        (list_any test xs ≡ true → (y : X) × Has xs y × (test y ≡ true)) →
        (y : X) × Has (x ∷ xs) y × (test y ≡ true)
    by_first true is so later = (x, (0, refl), is)
    by_first false is so later = let rest = later so in (rest.0, (suc rest.1.0, rest.1.1), rest.2)

-- an end at which no rank waits
abbrev pub ends_at : End → Bool
ends_at end = not (is_hung (told_at_end end))

quiet_from : (b : Bool) → not b ≡ true → b ≡ false
quiet_from true h = cc
quiet_from false h = refl

-- one ends where an end does
pub some_ends : EndsAreRuns → (shape : Sizes) (lines : List Line) (ends : List End) → IsScript shape.ranks lines →
    TellsOnly shape lines ends → list_any ends_at ends ≡ true → CanEnd shape lines
some_ends runs shape lines ends script only some =
    let end = passing ends_at ends some in
    end_ends runs shape lines ends script only end.0 end.1 (quiet_from (is_hung (told_at_end end.0)) end.2)

-- the states after the moves of an end are stuck where a rank waits at the end
pub stuck_at : (shape : Sizes) (lines : List Line) (ends : List End) (end : End) (states : List Spot) →
    AreEndsByWay shape lines ends → Has ends end → is_hung (told_at_end end) ≡ true →
    ((state : List Spot) → IsWay shape.eager shape.ranks lines end.path.items state → states ≡ state) →
    IsStuck shape lines states
stuck_at shape lines ends end states ways at hung only =
    let by = ways end at in
    subst (λ (s : List Spot). IsStuck shape lines s) (sym (only by.state by.way))
    (record {
      path = end.path.items;
      way = by.way;
      rest = by.rest;
      hung = ap (λ (told : List RankTold). is_hung told) (sym by.told) ∙ hung;
    })

-- one end more at which no rank waits
pub quiet_more : (ends : List End) (k : ℕ) (end : End) → k < length ends → end ≡ get_or ends k end →
    is_hung (told_at_end end) ≡ false → NoneHangs (take k ends) → NoneHangs (take (k + 1) ends)
quiet_more ends k end low is quiet none other at =
    elim (more_only (take k ends) (take (k + 1) ends) end (take_next ends k end low is) other at) [
      | inl before ↦ none other before
      | inr last ↦ subst (λ (e : End). is_hung (told_at_end e) ≡ false) last quiet
    ]

-- a way leads to states of as many ranks
way_count : (eager ranks : ℕ) (lines : List Line) (turns : List Turn) (state : List Spot) →
    IsWay eager ranks lines turns state → length state ≡ ranks
way_count eager ranks lines [] state way = ap (λ (s : List Spot). length s) way ∙ length-replicate ranks first_spot
way_count eager ranks lines (t ∷ turns) state way =
    ap (λ (s : List Spot). length s) way.3
    ∙ length-set way.0 t.rank (moved_at way.2.spot t.by) ∙ way_count eager ranks lines turns way.0 way.1

pub stuck_count : (shape : Sizes) (lines : List Line) (states : List Spot) → IsStuck shape lines states →
    length states ≡ shape.ranks
stuck_count shape lines states stuck = way_count shape.eager shape.ranks lines stuck.path states stuck.way

-- no rank waits where none is hung
none_waits : (told : List RankTold) →
    list_all (λ (rank : RankTold). is_none rank.waits) told ≡ not (is_hung told)
none_waits [] = refl
none_waits (rank ∷ told) = by_rank rank.waits (none_waits told)
  where
    by_rank : (o : Option ℕ) → list_all (λ (r : RankTold). is_none r.waits) told ≡ not (is_hung told) →
        (is_none o && list_all (λ (r : RankTold). is_none r.waits) told) ≡ not (is_some o || is_hung told)
    by_rank None rest = rest
    by_rank (Some line) rest = refl

-- a lawful run is done where no rank waits at its end
done_is : (shape : Sizes) (lines : List Line) (run : RunRecord) → IsRunIn shape lines run →
    run.done ≡ not (is_hung (told_of run))
done_is shape lines run lawful = lawful.ended ∙ done_by_ends run.ranks ∙ none_waits (told_of run)

-- where a run's trace shows that it hangs, one does
pub trace_hangs : (shape : Sizes) (lines : List Line) (trace : List ℕ) → IsHangTrace shape lines trace →
    CanHang shape lines
trace_hangs shape lines trace is = (is.run, is.lawful, hung (is_hung (told_of is.run)) refl)
  where
    hung : (b : Bool) → is_hung (told_of is.run) ≡ b → is_hung (told_of is.run) ≡ true
    hung true so = so
    hung false so =
        absurd (false≢true (sym is.hung ∙ done_is shape lines is.run is.lawful ∙ ap (λ (b : Bool). not b) so))

-- .. and where each lawful run is done, none does
pub never_hung : (shape : Sizes) (lines : List Line) → HasNoHang shape lines → ¬ (CanHang shape lines)
never_hung shape lines never (run, lawful, hung) =
    false≢true (sym (ap (λ (b : Bool). not b) hung) ∙ sym (done_is shape lines run lawful) ∙ never run lawful)
