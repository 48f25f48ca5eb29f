-- Handles taken from ranks, one by one.
use Rattle.std.proofs.Common.{◌≡◌, ◌≢◌, ℕ, ◌+◌, ◌<◌, ◌≤◌, List, [], ◌∷◌, ◌++◌, length, length-set, set, take}
use Rattle.std.proofs.Common.{get_or, get_or-set_other, refl, sym, ap, subst, ◌∙◌, arith}
use Rattle.std.specs.List.{All, AllByRecursion}
use Rattle.std.proofs.lemmas.List.{take_all, take_more, take_more_set}
use Rattle.std.proofs.lemmas.List.Elements.{All-get_or, All-nil, All-push, All-set}
use Rattle.nm_types.specs.Sizes.{Sizes}
use Rattle.nm_handle.specs.declared.handles.Handle.{Handle}
use Rattle.nm_handle.specs.declared.states.State.TheVariants as state
use Rattle.nm_handle.specs.Standing.{AreNew, Stands}
use Rattle.nm_c.specs.Whole.{AreClosed}

-- the first k of xs were taken, closed ones are in their places, and the others are as they were, of these and of those
-- that are put there
pub record TakenTo (k : ℕ) (xs ys gs hs : List Handle) : Type 0 where
  pub many : length ys ≡ length xs
  pub long : length hs ≡ length xs
  pub rest : (j : ℕ) (d : Handle) → k ≤ j → get_or ys j d ≡ get_or xs j d
  pub later : (j : ℕ) (d : Handle) → k ≤ j → get_or hs j d ≡ get_or gs j d
  pub taken : take k hs ≡ take k xs
  pub closed : AreClosed (take k ys)
  pub stands : All Stands ys
  pub others : All Stands hs

pub taken_start : (xs hs : List Handle) → length hs ≡ length xs → All Stands xs → All Stands hs →
    TakenTo 0 xs xs hs hs
taken_start xs hs long stands others = record {
  many = refl;
  long = long;
  rest = λ j d low. refl;
  later = λ j d low. refl;
  taken = refl;
  closed = All-nil (λ (h : Handle). h.state ≡ state.Closed);
  stands = stands;
  others = others;
}

-- the next one is open
pub still_open : (k : ℕ) (xs ys gs hs : List Handle) (d : Handle) → TakenTo k xs ys gs hs → length gs ≡ length xs →
    k < length hs → All (λ (h : Handle). h.state ≡ state.Open) gs → (get_or hs k d).state ≡ state.Open
still_open k xs ys gs hs d t as_many low opened =
    let long = t.long in
    ap (λ (h : Handle). h.state) (t.later k d (omega arith))
    ∙ All-get_or (λ (h : Handle). h.state ≡ state.Open) gs k d (omega (arith, low, long, as_many)) opened

pub taken_step : (k : ℕ) (xs ys gs hs : List Handle) (d b h : Handle) → TakenTo k xs ys gs hs → k < length hs →
    h ≡ get_or ys k d → b.state ≡ state.Closed → Stands b → TakenTo (k + 1) xs (set ys k b) gs (set hs k h)
taken_step k xs ys gs hs d b h t low same closed stands =
    let many = t.many in
    let long = t.long in
    let here : get_or ys k d ≡ get_or xs k d = t.rest k d (omega arith) in
    let below : k < length ys = omega (arith, low, many, long) in
    record {
      many = length-set ys k b ∙ many;
      long = length-set hs k h ∙ long;
      rest = λ j e past. let differs : j ≢ k = omega (arith, past) in
          get_or-set_other ys k j b e differs ∙ t.rest j e (omega (arith, past));
      later = λ j e past. let differs : j ≢ k = omega (arith, past) in
          get_or-set_other hs k j h e differs ∙ t.later j e (omega (arith, past));
      taken = take_more_set hs k h low
          ∙ ap (λ (x : Handle). take k hs ++ x ∷ []) (same ∙ here)
          ∙ ap (λ (gs : List Handle). gs ++ get_or xs k d ∷ []) t.taken
          ∙ sym (take_more xs k d (omega (arith, low, long)));
      closed = subst AreClosed (sym (take_more_set ys k b below))
          (All-push (λ (x : Handle). x.state ≡ state.Closed) (take k ys) b t.closed closed);
      stands = All-set Stands ys k b stands t.stands;
      others = All-set Stands hs k h (subst Stands (sym same) (All-get_or Stands ys k d below t.stands)) t.others;
    }

pub taken_end : (k : ℕ) (xs ys gs hs : List Handle) → TakenTo k xs ys gs hs → length hs ≤ k →
    (hs ≡ xs) × AreClosed ys
taken_end k xs ys gs hs t past =
    let many = t.many in
    let long = t.long in (
      sym (take_all k hs past) ∙ t.taken ∙ take_all k xs (omega (arith, past, long)),
      subst AreClosed (take_all k ys (omega (arith, past, long, many))) t.closed,
    )

-- ranks of which no call ran stand
pub new_stand : (shape : Sizes) (k : ℕ) (hs : List Handle) → AreNew shape k hs → AllByRecursion Stands hs
new_stand shape k [] new = tt
new_stand shape k (h ∷ hs) new = (new.0.stands, new_stand shape (k + 1) hs new.1)

-- and are open
pub new_open : (shape : Sizes) (k : ℕ) (hs : List Handle) → AreNew shape k hs →
    AllByRecursion (λ (h : Handle). h.state ≡ state.Open) hs
new_open shape k [] new = tt
new_open shape k (h ∷ hs) new = (new.0.opened, new_open shape (k + 1) hs new.1)
