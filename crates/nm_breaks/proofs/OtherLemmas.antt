-- The event of the other rank that an event is held against.
use Rattle.std.proofs.Common.{◌≡◌, ℕ, ◌<◌, ◌≤◌, Option, Some, None, Bool, List, [], refl, sym, ◌∙◌, ap, subst}
use Rattle.std.proofs.Common.{cond, get_or, length, true, false, arith}
use Rattle.std.specs.Prelude.{IsSomeAnd, option_map, position, slice_get}
use Rattle.std.specs.Option.{option_map_or}
use Rattle.std.proofs.lemmas.Option.{slice_get_within}
use Rattle.std.proofs.lemmas.List.Quantifiers.{position-Some}
use Rattle.nm_types.specs.declared.answers.Answer.{Answer}
use Rattle.nm_types.specs.declared.scripts.Line.{Line}
use Rattle.nm_history.specs.declared.events.Event.{Event}
use Rattle.nm_history.specs.declared.events.Happened.{Happened}
use Rattle.nm_history.specs.declared.events.Happened.TheVariants.{Out, Ran}
use Rattle.nm_history.specs.Quiescence.{Ended, history_of}
use Rattle.nm_report.specs.declared.accounts.RankAccount.{RankAccount}
use Rattle.nm_report.specs.Ends.{ends_of}
use Rattle.nm_check_rank.specs.Tabled.{AreRankTables}
use Rattle.nm_check_rank.specs.declared.paired.tables.Tables.{Tables}
use Rattle.nm_check.specs.Tabled.{EachTabled}
use Rattle.nm_check.proofs.TableLemmas.{table_inside}
use Rattle.nm_breaks.specs.Others.{IsHeldAgainst, first_held, held_at, is_mate}
use Rattle.nm_breaks.specs.Places.{events_in}
use Rattle.nm_breaks.specs.declared.places.EventLine.{EventLine}
use Rattle.nm_breaks.proofs.SpotLemmas.{history_le, many_ends}

-- an event of another kind is held against its mate
pub against_mate : (lines : List Line) (ranks : List Ended) (x : ℕ) (before : List Event) (what : Happened) (y : ℕ)
    (other : Option EventLine) → ((to n : ℕ) → what ≡ Out to n → ⊥) →
    ((line : ℕ) (answer : Answer) → what ≡ Ran line answer → ⊥) →
    other ≡ first_held ranks y (is_mate x what) → IsHeldAgainst lines ranks x before what y other
against_mate lines ranks x before (Out to n) y other not_out not_ran is = absurd (not_out to n refl)
against_mate lines ranks x before (Ran line answer) y other not_out not_ran is = absurd (not_ran line answer refl)
against_mate lines ranks x before what y other not_out not_ran is = is

-- one of two numbers is less, as both are
pub one_of : (b : Bool) (j i n : ℕ) → j < n → i < n → cond b j i < n
one_of true j i n low_j low_i = low_j
one_of false j i n low_j low_i = low_i

-- what is looked up of a rank, by its history
pub tables_here : (lines : List Line) (ranks : List RankAccount) (tables : List Tables) (y : ℕ) (t : Tables) →
    EachTabled lines (ends_of ranks) tables → y < length ranks → t ≡ get_or tables y t →
    AreRankTables y lines (history_of (ends_of ranks) y) t
tables_here lines ranks tables y t tabled inside is =
    by_rank (slice_get (ends_of ranks) y)
    (tabled.each y t (table_inside ranks tables y (lines, tabled) inside) is)
  where
    by_rank : (o : Option Ended) → IsSomeAnd o (λ rank. AreRankTables y lines rank.events t) →
        AreRankTables y lines (option_map_or (λ rank. rank.events) o []) t
    by_rank None there = absurd there
    by_rank (Some rank) there = there

-- a rank that has an event is one of the ranks
pub known_by : (ranks : List Ended) (y k : ℕ) → k < length (history_of ranks y) → y < length ranks
known_by ranks y k = by_rank (slice_get ranks y) refl
  where
    by_rank : (o : Option Ended) → slice_get ranks y ≡ o →
        k < length (option_map_or (λ rank. rank.events) o []) → y < length ranks
    by_rank None is inside = absurd (omega (arith, inside))
    by_rank (Some rank) is inside = slice_get_within ranks y rank is

module _ (ranks : List RankAccount) (y : ℕ) where
  -- a place of its history is early
  pub early_in : (k : ℕ) → k < length (history_of (ends_of ranks) y) → events_in (ends_of ranks) ≤ 67108864 →
      k < 67108864
  early_in k inside short =
      let all : length (history_of (ends_of ranks) y) ≤ events_in (ends_of ranks) = history_le (ends_of ranks) y in
      omega (arith, inside, all, short)

  -- and it is one of the ranks
  pub known_in : (k : ℕ) → k < length (history_of (ends_of ranks) y) → y < length ranks
  known_in k inside =
      let low : y < length (ends_of ranks) = known_by (ends_of ranks) y k inside in
      let many : length (ends_of ranks) ≡ length ranks = many_ends ranks in
      omega (arith, low, many)

  -- a first event is found inside
  pub first_inside : (test : Happened → Bool) (es : List Event) (at : Option ℕ) → es ≡ history_of (ends_of ranks) y →
      at ≡ position (λ (e : Event). test e.what) es → (k : ℕ) → at ≡ Some k → k < length (history_of (ends_of ranks) y)
  first_inside test es at same found k is =
      let none : Event = record { stamp = 0; what = Out 0 0 } in
      subst (λ (h : List Event). k < length h) same
      (position-Some (λ (e : Event). test e.what) es k none (sym found ∙ is)).0

  -- and is this one
  pub first_at : (test : Happened → Bool) (es : List Event) (at : Option ℕ) (held : Option EventLine) →
      es ≡ history_of (ends_of ranks) y → at ≡ position (λ (e : Event). test e.what) es →
      held ≡ option_map (held_at (ends_of ranks) y) at → held ≡ first_held (ends_of ranks) y test
  first_at test es at held same found is =
      is ∙ ap (λ (o : Option ℕ). option_map (held_at (ends_of ranks) y) o) found
      ∙ ap (λ (h : List Event). option_map (held_at (ends_of ranks) y) (position (λ e. test e.what) h)) same
