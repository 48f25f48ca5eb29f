-- What a search has found.
use Rattle.std.proofs.Common.{◌≡◌, ◌⊎◌, inl, inr, ℕ, zero, suc, ◌+◌, ◌<◌, ◌≤◌, Option, Some, List, [], ◌∷◌, ◌++◌}
use Rattle.std.proofs.Common.{get_or, length, refl, sym, ◌∙◌, subst, arith}
use Rattle.std.proofs.lemmas.Option.{get_or_from_slice_get}
use Rattle.std.specs.Prelude.{option_and_then}
use Rattle.std.specs.List.{slice_get}
use Rattle.nm_types.specs.declared.scripts.Line.{Line}
use Rattle.nm_types.proofs.ListLemmas.{place_below}
use Rattle.nm_types.proofs.OptionLemmas.{mapped_some}
use Rattle.nm_lawful.specs.declared.messages.Request.{Request}
use Rattle.nm_lawful.specs.declared.moves.Move.{Move}
use Rattle.nm_lawful.specs.declared.moves.Move.TheVariants as move
use Rattle.nm_lawful.specs.declared.searches.Step.{Step}
use Rattle.nm_lawful.specs.declared.searches.Step.TheVariants as step
use Rattle.nm_lawful.specs.declared.states.Deed.{Deed}
use Rattle.nm_lawful.specs.Lawful.{CanTell, IsEnd, IsPath}
use Rattle.nm_search.specs.Lists.{AddsOnly, Extends, Has}
use Rattle.nm_lawful.specs.Moves.{Goes, Report, deed_of_lem, next_lem, off_by_lem, pair_of_lem, run_by_lem}
use Rattle.nm_lawful.specs.Moves.{withdrawal_of_lem}
use Rattle.nm_lawful.specs.Ranks.{RankState}
use Rattle.nm_lawful.specs.Searches.{HasAllMoves, HasMoves, HasMovesOf, IsExpanded, IsMet, IsSearched, StepSays}
use Rattle.nm_lawful.specs.States.{after_lem, first_state}
use Rattle.nm_search.proofs.ListLemmas.{each_next, has_kept, has_nothing, more_only, or_more, same_before}
use Rattle.nm_search.proofs.ListLemmas.{then_some}

-- moves stay there
pub moves_kept : (i j : ℕ) (xs ys : List Move) → Extends xs ys → HasMoves i j xs → HasMoves i j ys
moves_kept i j xs ys kept has =
    record {
      take = has_kept xs ys (move.Take i j) kept has.take;
      withdraw = has_kept xs ys (move.Withdraw i j) kept has.withdraw;
      off = has_kept xs ys (move.Off i j) kept has.off;
    }

pub rank_kept : (i : ℕ) (rank : RankState) (xs ys : List Move) → Extends xs ys → HasMovesOf i rank xs →
    HasMovesOf i rank ys
rank_kept i rank xs ys kept has =
    record {
      run = has_kept xs ys (move.Run i) kept has.run;
      outgoing = λ j low. moves_kept i j xs ys kept (has.outgoing j low);
      requests = λ j low. moves_kept i j xs ys kept (has.requests j low);
    }

-- .. of a rank, by those at the first places
pub rank_moves : (i width : ℕ) (rank : RankState) (xs ys : List Move) → Extends xs ys → Has xs (move.Run i) →
    length rank.outgoing ≤ width → length rank.requests ≤ width → ((j : ℕ) → j < width → HasMoves i j ys) →
    HasMovesOf i rank ys
rank_moves i width rank xs ys kept run wide wider each =
    record {
      run = has_kept xs ys (move.Run i) kept run;
      outgoing = λ j low. each j (omega (arith, low, wide));
      requests = λ j low. each j (omega (arith, low, wider));
    }

-- a move that can be made is among all moves
has_move : (lines : List Line) (told : Report) (until : Option ℕ) (state : List RankState) (moves : List Move) →
    HasAllMoves state moves → (m : Move) (d : Deed) → deed_of_lem lines told until state m ≡ Some d → Has moves m
has_move lines told until state moves all (move.Run i) d is =
    let rank = then_some (run_by_lem lines told until state i) (slice_get state i) d is in
    (all i rank.0 rank.1).run
has_move lines told until state moves all (move.Take i j) d is =
    let rank = then_some
    (λ (sender : RankState). option_and_then (pair_of_lem state sender) (slice_get sender.outgoing j))
    (slice_get state i) d is in
    let m = then_some (pair_of_lem state rank.0) (slice_get rank.0.outgoing j) d rank.2 in
    ((all i rank.0 rank.1).outgoing j (place_below rank.0.outgoing j m.0 m.1)).take
has_move lines told until state moves all (move.Withdraw i j) d is =
    let rank = then_some
    (λ (sender : RankState). option_and_then (withdrawal_of_lem state sender) (slice_get sender.outgoing j))
    (slice_get state i) d is in
    let m = then_some (withdrawal_of_lem state rank.0) (slice_get rank.0.outgoing j) d rank.2 in
    ((all i rank.0 rank.1).outgoing j (place_below rank.0.outgoing j m.0 m.1)).withdraw
has_move lines told until state moves all (move.Off i j) d is =
    let rank = then_some
    (λ (rank : RankState). option_and_then (λ (r : Request). off_by_lem i r.place r.standing) (slice_get rank.requests j))
    (slice_get state i) d is in
    let r = then_some (λ (r : Request). off_by_lem i r.place r.standing) (slice_get rank.0.requests j) d rank.2 in
    ((all i rank.0 rank.1).requests j (place_below rank.0.requests j r.0 r.1)).off

pub moves_complete : (lines : List Line) (told : Report) (until : Option ℕ) (state : List RankState)
    (moves : List Move) → HasAllMoves state moves → (m : Move) (t : List RankState) →
    next_lem lines told until state m ≡ Some t → Has moves m
moves_complete lines told until state moves all m t is =
    let d = mapped_some (after_lem state) (deed_of_lem lines told until state m) t is in
    has_move lines told until state moves all m d.0 d.1

-- a path with one move more
pub more_path : (lines : List Line) (told : Report) (until : Option ℕ) (n : ℕ) (s t u : List RankState) →
    IsPath lines told until n s t → Goes lines told until t u → IsPath lines told until (suc n) s u
more_path lines told until zero s t u is goes =
    (u, subst (λ (x : List RankState). Goes lines told until x u) (sym is) goes, refl)
more_path lines told until (suc n) s t u path goes =
    (path.0, path.1, more_path lines told until n path.0 t u path.2 goes)

-- where all that was found is expanded, each state that a path leads to was found
reached : (lines : List Line) (told : Report) (until : Option ℕ) (states : List (List RankState)) →
    ((s : List RankState) → Has states s → IsExpanded lines told until states s) → (n : ℕ) (s e : List RankState) →
    Has states s → IsPath lines told until n s e → Has states e
reached lines told until states each zero s e at is = subst (λ (x : List RankState). Has states x) is at
reached lines told until states each (suc n) s e at path =
    reached lines told until states each n path.0 e ((each s at).leads path.0 path.1) path.2

no_end : (lines : List Line) (told : Report) (ranks : ℕ) (until : Option ℕ) (states : List (List RankState))
    (k : ℕ) → IsSearched lines told ranks until states k → length states ≤ k → CanTell lines told ranks until → ⊥
no_end lines told ranks until states k is short can = (each can.state there).no_end can.end
  where
    each : (s : List RankState) → Has states s → IsExpanded lines told until states s
    each s at = is.expanded at.0 s (let low = place_below states at.0 s at.1 in omega (arith, low, short)) at.1

    there : Has states can.state
    there = reached lines told until states each can.moves (first_state ranks) can.state is.first can.path

-- the first state
pub first_searched : (lines : List Line) (told : Report) (ranks : ℕ) (until : Option ℕ)
    (old new : List (List RankState)) (state : List RankState) → old ≡ [] → state ≡ first_state ranks →
    Has new state → (new ≡ old) ⊎ (new ≡ old ++ state ∷ []) → IsSearched lines told ranks until new 0
first_searched lines told ranks until old new state none is at (inl same) =
    absurd (has_nothing new state (same ∙ none) at)
first_searched lines told ranks until old new state none is at (inr more) =
    record {
      first = subst (λ (s : List RankState). Has new s) is at;
      met = or_more (IsMet lines told ranks until) old new (λ s before. absurd (has_nothing old s none before)) only;
      expanded = λ j s low here. absurd (omega (arith, low));
    }
  where
    by_place : (x : List RankState) → Has old x ⊎ (state ≡ x) → Has old x ⊎ IsMet lines told ranks until x
    by_place x (inl before) = inl before
    by_place x (inr same) = inr (0, sym is ∙ same)

    only : AddsOnly (IsMet lines told ranks until) old new
    only x there = by_place x (more_only old new state more x there)

-- a search with one step more
step_searched : (lines : List Line) (told : Report) (ranks : ℕ) (until : Option ℕ)
    (old new : List (List RankState)) (k : ℕ) → IsSearched lines told ranks until old k →
    StepSays lines told until old new k step.On → IsSearched lines told ranks until new (k + 1)
step_searched lines told ranks until old new k is on =
    record {
      first = has_kept old new (first_state ranks) on.1 is.first;
      met = or_more (IsMet lines told ranks until) old new is.met only;
      expanded = λ j s low here. each_next
          (λ (j : ℕ). (s : List RankState) → slice_get new j ≡ Some s → IsExpanded lines told until new s) k before
          (λ s here. on.3 s (same_before old new k s on.1 on.0 here)) j low s here;
    }
  where
    by_place : (x : List RankState) →
        Has old x
        ⊎ ((s : List RankState) × (slice_get old k ≡ Some s) × Goes lines told until s x) →
        Has old x ⊎ IsMet lines told ranks until x
    by_place x (inl before) = inl before
    by_place x (inr by) =
        let m = is.met by.0 (k, by.1) in
        inr (suc m.0, more_path lines told until m.0 (first_state ranks) by.0 x m.1 by.2)

    only : AddsOnly (IsMet lines told ranks until) old new
    only x there = by_place x (on.2 x there)

    before : (j : ℕ) → j < k → (s : List RankState) → slice_get new j ≡ Some s → IsExpanded lines told until new s
    before j low s here =
        let below : j < length old = omega (arith, low, on.0) in
        let was = is.expanded j s low (same_before old new j s on.1 below here) in
        record { no_end = was.no_end; leads = λ t goes. has_kept old new t on.1 (was.leads t goes) }

-- an end that was found can be told
end_told : (lines : List Line) (told : Report) (ranks : ℕ) (until : Option ℕ) (states : List (List RankState))
    (k j : ℕ) → IsSearched lines told ranks until states k →
    (s : List RankState) × (slice_get states j ≡ Some s) × IsEnd lines told until s → CanTell lines told ranks until
end_told lines told ranks until states k j is end =
    let m = is.met end.0 (j, end.1) in record { moves = m.0; state = end.0; path = m.1; end = end.2 }

-- the moves of the rank at a place
pub moved_rank : (i : ℕ) (found rank : RankState) (state : List RankState) (moves : List Move) →
    found ≡ get_or state i found → slice_get state i ≡ Some rank → HasMovesOf i found moves → HasMovesOf i rank moves
moved_rank i found rank state moves is here has =
    subst (λ (r : RankState). HasMovesOf i r moves) (is ∙ get_or_from_slice_get state i rank found here) has

-- .. by what a step says
pub searched_on : (lines : List Line) (told : Report) (ranks : ℕ) (until : Option ℕ)
    (old new : List (List RankState)) (k : ℕ) (s : Step) → s ≡ step.On → StepSays lines told until old new k s →
    IsSearched lines told ranks until old k → IsSearched lines told ranks until new (k + 1)
searched_on lines told ranks until old new k s is says searched =
    step_searched lines told ranks until old new k searched
    (subst (λ (x : Step). StepSays lines told until old new k x) is says)

pub told_by_end : (lines : List Line) (told : Report) (ranks : ℕ) (until : Option ℕ)
    (old new : List (List RankState)) (k : ℕ) (s : Step) → s ≡ step.End → StepSays lines told until old new k s →
    IsSearched lines told ranks until old k → CanTell lines told ranks until
told_by_end lines told ranks until old new k s is says searched =
    end_told lines told ranks until old k k searched
    (subst (λ (x : Step). StepSays lines told until old new k x) is says)

pub none_past : (lines : List Line) (told : Report) (ranks : ℕ) (until : Option ℕ)
    (old new : List (List RankState)) (k : ℕ) (s : Step) → s ≡ step.Past → StepSays lines told until old new k s →
    IsSearched lines told ranks until old k → CanTell lines told ranks until → ⊥
none_past lines told ranks until old new k s is says searched =
    no_end lines told ranks until old k searched
    (subst (λ (x : Step). StepSays lines told until old new k x) is says).0

-- .. and where all that was found is expanded
pub none_found : (lines : List Line) (told : Report) (ranks : ℕ) (until : Option ℕ) (states : List (List RankState))
    (k limit : ℕ) → IsSearched lines told ranks until states k → length states ≤ limit → limit ≤ k →
    CanTell lines told ranks until → ⊥
none_found lines told ranks until states k limit searched few past =
    no_end lines told ranks until states k searched (omega (arith, few, past))

-- what the moves so far lead to
pub goes_more : (lines : List Line) (told : Report) (until : Option ℕ) (s : List RankState) (moves : List Move)
    (k : ℕ) (d : Move) (xs ys : List (List RankState)) →
    ((t : List RankState) → Has xs t → Goes lines told until s t) →
    AddsOnly (λ (t : List RankState). next_lem lines told until s (get_or moves k d) ≡ Some t) xs ys → (t : List RankState) → Has ys t →
    Goes lines told until s t
goes_more lines told until s moves k d xs ys each only t at = by_place (only t at)
  where
    by_place : Has xs t ⊎ (next_lem lines told until s (get_or moves k d) ≡ Some t) → Goes lines told until s t
    by_place (inl before) = each t before
    by_place (inr is) = (get_or moves k d, is)
