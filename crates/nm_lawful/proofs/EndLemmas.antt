-- Ends, and what is said of them.
use Rattle.std.proofs.Common.{◌≡◌, ◌⊎◌, inl, inr, ℕ, ◌+◌, ◌-◌, ◌<◌, ◌≤◌, Bool, true, false, Option, Some, None}
use Rattle.std.proofs.Common.{List, [], ◌∷◌, length, refl, sym, ◌∙◌, ap, subst, arith}
use Rattle.std.specs.Prelude.{IsTrue, if◌then◌else◌, is_some, nat_lt, option_and_then}
use Rattle.std.specs.List.{slice_get}
use Rattle.std.specs.Option.{option_map_or}
use Rattle.std.proofs.lemmas.Bool.{cases_lt, false≢true}
use Rattle.std.proofs.lemmas.Bool.Decides.{nat_tests}
use Rattle.std.proofs.lemmas.List.{take_all}
use Rattle.std.proofs.lemmas.Option.{slice_get_past}
use Rattle.nm_types.proofs.OptionLemmas.{no_some}
use Rattle.nm_types.specs.declared.answers.Answer.{Answer}
use Rattle.nm_types.specs.declared.scripts.Line.{Line}
use Rattle.nm_lawful.specs.declared.moves.Move.{Move}
use Rattle.nm_lawful.specs.declared.moves.Said.{Said}
use Rattle.nm_lawful.specs.declared.searches.Found.{Found}
use Rattle.nm_lawful.specs.declared.searches.Found.TheVariants as found
use Rattle.nm_lawful.specs.Lawful.{AllTold, CanTell, IsEnd, IsLawful, MayRest, MayTell, RestsBelow, has_run_lem}
use Rattle.nm_lawful.specs.Lawful.{rests_at_lem, rests_lem}
use Rattle.nm_search.specs.Lists.{Has}
use Rattle.nm_lawful.specs.Moves.{Goes, Report, counted_lem, next_lem, next_of_lem, report_lem, told_at_lem}
use Rattle.nm_lawful.specs.Ranks.{RankState}
use Rattle.nm_lawful.specs.Searches.{AreBounds, AreTooMany, IsStill, SearchSays, halved_lem, is_too_many_lem}
use Rattle.nm_lawful.specs.States.{first_state}
use Rattle.nm_search.proofs.ListLemmas.{has_nothing}

-- no move can be made where none leads to a state
no_move : (lines : List Line) (told : Report) (state : List RankState) (states : List (List RankState)) →
    states ≡ [] → ((t : List RankState) → Goes lines told None state t → Has states t) → (m : Move) →
    next_lem lines told None state m ≡ None
no_move lines told state states none all m = by_next (next_lem lines told None state m) refl
  where
    by_next : (o : Option (List RankState)) → next_lem lines told None state m ≡ o →
        next_lem lines told None state m ≡ None
    by_next None is = is
    by_next (Some t) is = absurd (has_nothing states t none (all t (m, is)))

-- .. and the other way round
nothing_next : (lines : List Line) (told : Report) (state : List RankState) (states : List (List RankState)) →
    ((m : Move) → next_lem lines told None state m ≡ None) →
    ((t : List RankState) → Has states t → Goes lines told None state t) → states ≡ []
nothing_next lines told state [] still only = refl
nothing_next lines told state (t ∷ ts) still only =
    let goes = only t (0, refl) in absurd (no_some t (sym (still goes.0) ∙ goes.1))

-- a state is an end where all is told, if only the answers before a moment count
pub moment_end : (lines : List Line) (told : Report) (until : Option ℕ) (state : List RankState) →
    is_some until ≡ true → AllTold lines told until state → IsEnd lines told until state
moment_end lines told None state counted all = absurd (false≢true counted)
moment_end lines told (Some moment) state counted all = all

pub end_moment : (lines : List Line) (told : Report) (until : Option ℕ) (state : List RankState) →
    is_some until ≡ true → IsEnd lines told until state → AllTold lines told until state
end_moment lines told None state counted end = absurd (false≢true counted)
end_moment lines told (Some moment) state counted end = end

-- .. else where it is also at rest
pub rest_end : (lines : List Line) (told : Report) (until : Option ℕ) (state : List RankState)
    (states : List (List RankState)) → is_some until ≡ false → AllTold lines told until state →
    IsStill lines told state states → ((t : List RankState) → Goes lines told until state t → Has states t) →
    IsEnd lines told until state
rest_end lines told (Some moment) state states all told_all still goes = absurd (false≢true (sym all))
rest_end lines told None state states all told_all still goes =
    (told_all, record { still = no_move lines told state states still.none goes; held = still.held })

pub end_told : (lines : List Line) (told : Report) (until : Option ℕ) (state : List RankState) →
    is_some until ≡ false → IsEnd lines told until state → AllTold lines told until state
end_told lines told (Some moment) state all end = absurd (false≢true (sym all))
end_told lines told None state all end = end.0

pub end_still : (lines : List Line) (told : Report) (until : Option ℕ) (state : List RankState)
    (states : List (List RankState)) → is_some until ≡ false → IsEnd lines told until state →
    ((t : List RankState) → Has states t → Goes lines told until state t) → IsStill lines told state states
end_still lines told (Some moment) state states all end goes = absurd (false≢true (sym all))
end_still lines told None state states all end goes =
    record { none = nothing_next lines told state states end.1.still goes; held = end.1.held }

-- before the first moment nothing is told
pub none_told : (lines : List Line) (told : Report) (ranks : ℕ) → MayTell lines told ranks 0
none_told lines told ranks =
    record {
      moves = 0;
      state = first_state ranks;
      path = refl;
      end = λ place is. by_told place (slice_get told.said place) refl is;
    }
  where
    never : (said : Said) → counted_lem (Some 0) said ≡ None
    never said = by_test (nat_lt said.at 0) refl
      where
        by_test : (b : Bool) → nat_lt said.at 0 ≡ b → counted_lem (Some 0) said ≡ None
        by_test true is = absurd (grind (arith, nat_tests))
        by_test false is = ap (λ (b : Bool). if b then Some said.answer else None) is

    by_told : (place : ℕ) (o : Option (Option Said)) → slice_get told.said place ≡ o →
        IsTrue (is_some (told_at_lem told (Some 0) place)) → IsTrue (has_run_lem lines (first_state ranks) place)
    by_told place None at is =
        absurd (false≢true
        (ap (λ (o : Option (Option Said)). is_some (option_and_then (λ o. option_and_then (counted_lem (Some 0)) o) o))
        (sym at) ∙ is))
    by_told place (Some None) at is =
        absurd (false≢true
        (ap (λ (o : Option (Option Said)). is_some (option_and_then (λ o. option_and_then (counted_lem (Some 0)) o) o))
        (sym at) ∙ is))
    by_told place (Some (Some said)) at is =
        absurd (false≢true
        (sym (ap (λ (o : Option Answer). is_some o) (never said))
        ∙ ap (λ (o : Option (Option Said)). is_some (option_and_then (λ o. option_and_then (counted_lem (Some 0)) o) o))
        (sym at) ∙ is))

-- what a search says, by what it found
pub says_end : (lines : List Line) (told : Report) (ranks : ℕ) (until : Option ℕ) (limit : ℕ) (f : Found) →
    f ≡ found.End → SearchSays lines told ranks until limit f → CanTell lines told ranks until
says_end lines told ranks until limit f is says =
    subst (λ (x : Found). SearchSays lines told ranks until limit x) is says

pub says_none : (lines : List Line) (told : Report) (ranks : ℕ) (until : Option ℕ) (limit : ℕ) (f : Found) →
    f ≡ found.NoEnd → SearchSays lines told ranks until limit f → CanTell lines told ranks until → ⊥
says_none lines told ranks until limit f is says =
    subst (λ (x : Found). SearchSays lines told ranks until limit x) is says

pub says_many : (lines : List Line) (told : Report) (ranks : ℕ) (until : Option ℕ) (limit : ℕ) (f : Found) →
    f ≡ found.TooMany → SearchSays lines told ranks until limit f → AreTooMany lines told ranks until limit
says_many lines told ranks until limit f is says =
    subst (λ (x : Found). SearchSays lines told ranks until limit x) is says

pub gave_up : (lines : List Line) (told : Report) (ranks : ℕ) (until : Option ℕ) (limit : ℕ) (f : Found) →
    is_too_many_lem f ≡ true → SearchSays lines told ranks until limit f → AreTooMany lines told ranks until limit
gave_up lines told ranks until limit found.End many says = absurd (false≢true many)
gave_up lines told ranks until limit found.NoEnd many says = absurd (false≢true many)
gave_up lines told ranks until limit found.TooMany many says = says

-- bounds that a search leaves
pub halved_bounds : (lines : List Line) (told : Report) (ranks limit low middle high : ℕ) (f : Found)
    (next : ℕ × ℕ) → next ≡ halved_lem f low middle high → is_too_many_lem f ≡ false → low ≤ middle →
    middle ≤ high → SearchSays lines told ranks (Some middle) limit f → AreBounds lines told ranks low high →
    AreBounds lines told ranks next.0 next.1
halved_bounds lines told ranks limit low middle high f next is few below above says bounds =
    subst (λ (n : ℕ × ℕ). AreBounds lines told ranks n.0 n.1) (sym is) (by_found f few says)
  where
    by_found : (f : Found) → is_too_many_lem f ≡ false → SearchSays lines told ranks (Some middle) limit f →
        AreBounds lines told ranks (halved_lem f low middle high).0 (halved_lem f low middle high).1
    by_found found.End few says = record { order = above; early = says; late = bounds.late }
    by_found found.NoEnd few says = record { order = below; early = bounds.early; late = says }
    by_found found.TooMany few says = absurd (false≢true (sym few))

pub halved_less : (f : Found) (low middle high : ℕ) (next : ℕ × ℕ) → next ≡ halved_lem f low middle high →
    low < middle → middle < high → next.1 - next.0 < high - low
halved_less f low middle high next is below above =
    subst (λ (n : ℕ × ℕ). n.1 - n.0 < high - low) (sym is) (by_found f)
  where
    by_found : (f : Found) → (halved_lem f low middle high).1 - (halved_lem f low middle high).0 < high - low
    by_found found.End = omega (arith, below, above)
    by_found found.NoEnd = omega (arith, below, above)
    by_found found.TooMany = omega (arith, below, above)

-- bounds that are neighbours
pub late_next : (lines : List Line) (told : Report) (ranks low high : ℕ) → AreBounds lines told ranks low high →
    high - low ≤ 1 → MayTell lines told ranks (low + 1) → ⊥
late_next lines told ranks low high bounds near may = by_order (cases_lt low high)
  where
    by_order : (low < high) ⊎ (high ≤ low) → ⊥
    by_order (inl less) =
        let is : low + 1 ≡ high = omega (arith, near, less) in
        bounds.late (subst (λ (n : ℕ). MayTell lines told ranks n) is may)
    by_order (inr more) =
        let order = bounds.order in
        let is : low ≡ high = omega (arith, more, order) in
        bounds.late (subst (λ (n : ℕ). MayTell lines told ranks n) is bounds.early)

-- where the ranks that there are rest, each one does
map_or_none : {X : Type 0} (f : X → Bool) (o : Option X) → o ≡ None → option_map_or f o true ≡ true
map_or_none f None is = refl
map_or_none f (Some x) is = absurd (no_some x (sym is))

pub rest_behind : (lines : List Line) (told : Report) (state ranks : List RankState) (k i : ℕ) → ranks ≡ state →
    length ranks ≤ k → ((i : ℕ) → i < k → IsTrue (rests_lem lines told state i)) → IsTrue (rests_lem lines told state i)
rest_behind lines told state ranks k i same past each = by_order (cases_lt i k)
  where
    by_wait : (o : Option (Option ℕ)) → slice_get state i ≡ None →
        option_map_or
        (λ (wait : Option ℕ). option_map_or
        (λ (rank : RankState). rests_at_lem lines state i rank (next_of_lem lines i rank.at) wait) (slice_get state i) true)
        o true ≡ true
    by_wait None none = refl
    by_wait (Some wait) none =
        map_or_none (λ (rank : RankState). rests_at_lem lines state i rank (next_of_lem lines i rank.at) wait)
        (slice_get state i) none

    by_order : (i < k) ⊎ (k ≤ i) → IsTrue (rests_lem lines told state i)
    by_order (inl low) = each i low
    by_order (inr high) =
        let long = ap (λ (xs : List RankState). length xs) same in
        by_wait (slice_get told.waits i) (slice_get_past state i (omega (arith, past, high, long)))

-- .. below all, where those below as many or more can
pub rests_end : (lines : List Line) (told : Report) (ranks i n : ℕ) → n ≡ length told.waits → n ≤ i →
    RestsBelow lines told ranks i → RestsBelow lines told ranks n
rests_end lines told ranks i n is past (inl none) = inl (omega (arith, none, past))
rests_end lines told ranks i n is past (inr may) =
    inr (subst (λ (waits : List (Option ℕ)). IsLawful lines (report_lem told.said waits) ranks)
    (take_all i told.waits (omega (arith, is, past)) ∙ sym (take_all n told.waits (omega (arith, is)))) may)

-- where the ranks below one more than all can rest as is said, all can
pub rests_all : (lines : List Line) (said : List (Option Said)) (waits : List (Option ℕ)) (ranks i : ℕ) →
    length waits ≤ i → MayRest lines (report_lem said waits) ranks (i + 1) → IsLawful lines (report_lem said waits) ranks
rests_all lines said waits ranks i past may =
    subst (λ (w : List (Option ℕ)). IsLawful lines (report_lem said w) ranks)
    (take_all (i + 1) waits (omega (arith, past))) may
