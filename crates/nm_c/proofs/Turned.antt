-- Ranks that make a turn each, one by one.
use Rattle.std.proofs.Common.{◌≡◌, ◌≢◌, ℕ, zero, suc, ◌+◌, ◌<◌, ◌≤◌, Some, List, [], ◌∷◌, ◌++◌, length, length-set}
use Rattle.std.proofs.Common.{set, get_or, get_or-set_other, take, inl, inr, refl, sym, ap, subst, ◌∙◌, arith}
use Rattle.std.specs.Prelude.{slice_get}
use Rattle.std.specs.List.{All, AllZip}
use Rattle.std.proofs.lemmas.List.{length-take-le, take_all, take_more, take_more_set}
use Rattle.std.proofs.lemmas.List.Elements.{All-set, AllZip-push}
use Rattle.nm_types.specs.Sizes.{Sizes}
use Rattle.nm_types.proofs.ListLemmas.{get_set_same}
use Rattle.nm_world.specs.Actors.{seat_of}
use Rattle.nm_handle.specs.declared.ends.Unended.{Unended}
use Rattle.nm_handle.specs.declared.ends.Unended.TheVariants as unended
use Rattle.nm_handle.specs.declared.handles.Handle.{Handle}
use Rattle.nm_handle.specs.declared.states.State.TheVariants as state
use Rattle.nm_handle.specs.Ends.{HasMoved, IsRestless, SomeFailed}
use Rattle.nm_handle.specs.Standing.{HasTurned, Stands}
use Rattle.nm_handle.specs.Worlds.{AreInOrder, AreOfOneWorld, AreWorld, IsSameRank}
use Rattle.nm_c.specs.Ranks.{handles_in}
use Rattle.nm_c.specs.Whole.{IsUnended}
use Rattle.nm_c.specs.declared.Rank.{Rank}
use Rattle.nm_c.proofs.Behind.{get_behind, many_behind, set_behind}

same_rank : (h : Handle) → IsSameRank h h
same_rank h = record { fabric = refl; rings = refl; shape = refl; seat = refl }

same_ranks : (hs : List Handle) → AllZip IsSameRank hs hs
same_ranks [] = tt
same_ranks (h ∷ hs) = (same_rank h, same_ranks hs)

-- another one at a place that is the same rank
same_set : (xs ys : List Handle) (k : ℕ) (d b : Handle) → AllZip IsSameRank xs ys → k < length xs →
    IsSameRank (get_or xs k d) b → AllZip IsSameRank xs (set ys k b)
same_set [] ys k d b same low one = absurd (omega (arith, low))
same_set (x ∷ xs) [] k d b same low one = absurd same
same_set (x ∷ xs) (y ∷ ys) zero d b same low one = (one, same.1)
same_set (x ∷ xs) (y ∷ ys) (suc k) d b same low one =
    (same.0, same_set xs ys k d b same.1 (omega (arith, low)) one)

-- one rank more in order
order_push : (k : ℕ) (hs : List Handle) (h : Handle) → AreInOrder k hs →
    (seat_of h.player.actor).rank ≡ k + length hs → AreInOrder k (hs ++ h ∷ [])
order_push k [] h order at = (at ∙ omega arith, tt)
order_push k (x ∷ hs) h order at = (order.0, order_push (k + 1) hs h order.1 (at ∙ omega arith))

failed_at : (hs : List Handle) (k : ℕ) (d : Handle) → k < length hs → (get_or hs k d).state ≡ state.Failed →
    SomeFailed hs
failed_at [] k d low failed = absurd (omega (arith, low))
failed_at (h ∷ hs) zero d low failed = inl failed
failed_at (h ∷ hs) (suc k) d low failed = inr (failed_at hs k d (omega (arith, low)) failed)

got : (hs : List Handle) (k : ℕ) (d : Handle) → k < length hs → slice_get hs k ≡ Some (get_or hs k d)
got [] k d low = absurd (omega (arith, low))
got (h ∷ hs) zero d low = refl
got (h ∷ hs) (suc k) d low = got hs k d (omega (arith, low))

-- the first k made a turn and are in order, and the others are as they were
pub record TurnedTo (k : ℕ) (xs ys : List Handle) : Type 0 where
  pub many : length ys ≡ length xs
  pub rest : (j : ℕ) (d : Handle) → k ≤ j → get_or ys j d ≡ get_or xs j d
  pub turned : AllZip HasTurned (take k xs) (take k ys)
  pub order : AreInOrder 0 (take k ys)
  pub stands : All Stands ys
  pub same : AllZip IsSameRank xs ys

pub turned_start : (xs : List Handle) → All Stands xs → TurnedTo 0 xs xs
turned_start xs stands = record {
  many = refl;
  rest = λ j d low. refl;
  turned = tt;
  order = tt;
  stands = stands;
  same = same_ranks xs;
}

pub turned_step : (k : ℕ) (xs ys : List Handle) (d b : Handle) → TurnedTo k xs ys → k < length ys →
    HasTurned (get_or ys k d) b → (seat_of b.player.actor).rank ≡ k → Stands b → TurnedTo (k + 1) xs (set ys k b)
turned_step k xs ys d b t low turned at stands =
    let many = t.many in
    let here : get_or ys k d ≡ get_or xs k d = t.rest k d (omega arith) in
    let was = take_more xs k d (omega (arith, low, many)) in
    let is = take_more_set ys k b low in
    let one = subst (λ (h : Handle). HasTurned h b) here turned in
    let so_many = length-take-le k ys (omega (arith, low)) in
    let place : (seat_of b.player.actor).rank ≡ 0 + length (take k ys) = at ∙ omega (arith, so_many) in
    record {
      many = length-set ys k b ∙ many;
      rest = λ j e past. let differs : j ≢ k = omega (arith, past) in
          get_or-set_other ys k j b e differs ∙ t.rest j e (omega (arith, past));
      turned = subst (λ (hs : List Handle). AllZip HasTurned hs (take (k + 1) (set ys k b))) (sym was)
          (subst (λ (hs : List Handle). AllZip HasTurned (take k xs ++ get_or xs k d ∷ []) hs) (sym is)
          (AllZip-push HasTurned (take k xs) (take k ys) (get_or xs k d) b t.turned one));
      order = subst (λ (hs : List Handle). AreInOrder 0 hs) (sym is) (order_push 0 (take k ys) b t.order place);
      stands = All-set Stands ys k b stands t.stands;
      same = same_set xs ys k d b t.same (omega (arith, low, many)) one.same;
    }

pub turned_end : (k : ℕ) (xs ys : List Handle) → TurnedTo k xs ys → length ys ≤ k →
    AllZip HasTurned xs ys × AreInOrder 0 ys
turned_end k xs ys t past =
    let many = t.many in
    let front = take_all k xs (omega (arith, past, many)) in
    let back = take_all k ys past in (
      subst (λ (hs : List Handle). AllZip HasTurned hs ys) front
          (subst (λ (hs : List Handle). AllZip HasTurned (take k xs) hs) back t.turned),
      subst (λ (hs : List Handle). AreInOrder 0 hs) back t.order,
    )

-- one is not at rest
pub turned_not : (k : ℕ) (xs ys : List Handle) (d b : Handle) (e : Unended) → TurnedTo k xs ys → k < length ys →
    IsRestless (get_or ys k d) b e → IsUnended xs (set ys k b) e
turned_not k xs ys d b unended.Failed t low why =
    let many = t.many in
    let here : get_or ys k d ≡ get_or xs k d = t.rest k d (omega arith) in
    let below : k < length xs = omega (arith, low, many) in (
      failed_at xs k d below (ap (λ (h : Handle). h.state) (sym here) ∙ why.0),
      same_set xs ys k d b t.same below
          (subst (IsSameRank (get_or xs k d)) (sym (why.1 ∙ here)) (same_rank (get_or xs k d))),
    )
turned_not k xs ys d b unended.Moves t low why =
    let many = t.many in
    let here : get_or ys k d ≡ get_or xs k d = t.rest k d (omega arith) in
    let below : k < length xs = omega (arith, low, many) in
    let moved = subst (λ (h : Handle). HasMoved h b) here why in (
      record {
        place = k;
        before = get_or xs k d;
        after = b;
        was = got xs k d below;
        is = get_set_same ys k b low;
        moved = moved;
      },
      same_set xs ys k d b t.same below moved.turned.same,
    )
turned_not k xs ys d b unended.Shared t low why = tt
turned_not k xs ys d b unended.Memory t low why = tt

-- nor is the rank that has it
pub not_behind : (k : ℕ) (xs : List Handle) (rs : List Rank) (d b : Rank) (e : Unended) →
    TurnedTo k xs (handles_in rs) → k < length rs → IsRestless (get_or rs k d).value b.value e →
    IsUnended xs (handles_in (set rs k b)) e
not_behind k xs rs d b e t low why =
    let behind = many_behind rs in
    subst (λ (hs : List Handle). IsUnended xs hs e) (sym (set_behind rs k b))
    (turned_not k xs (handles_in rs) d.value b.value e t (omega (arith, low, behind))
    (subst (λ (h : Handle). IsRestless h b.value e) (get_behind rs k d) why))

-- as many ranks of one world as it has, each after a turn, in order, are all of it
pub whole : ((old new : List Handle) (w : AreOfOneWorld old) → AllZip HasTurned old new → AreInOrder 0 new →
    length new ≡ w.shape.ranks → AreWorld w.shape new) → (xs ys : List Handle) (shape : Sizes) (d : Handle) →
    1 ≤ shape.ranks → shape ≡ (get_or xs 0 d).shape → AllZip HasTurned xs ys → AreInOrder 0 ys →
    length ys ≡ shape.ranks → AreOfOneWorld xs → AreWorld shape ys
whole law [] [] shape d some is turned order many w = absurd (omega (arith, some, many))
whole law [] (y ∷ ys) shape d some is turned order many w = absurd turned
whole law (x ∷ xs) ys shape d some is turned order many w =
    let same : shape ≡ w.shape = is ∙ w.each.0.own in
    subst (λ (s : Sizes). AreWorld s ys) (sym same)
    (law (x ∷ xs) ys w turned order (many ∙ ap (λ (s : Sizes). s.ranks) same))
