-- Lists of players by rank.
use Rattle.std.proofs.Common.{◌≡◌, ℕ, zero, suc, ◌+◌, ◌<◌, ◌&&◌, not, Bool, true, false, Some, None, List, []}
use Rattle.std.proofs.Common.{◌∷◌, ◌++◌, length, map, refl, sym, ap, ◌∙◌, subst, arith}
use Rattle.std.specs.List.{All, AllByRecursion, AllZip, slice_get}
use Rattle.std.proofs.lemmas.List.Elements.{All-cons}
use Rattle.std.proofs.lemmas.Option.{get_or_from_slice_get}
use mathlib.Core.Logic.{dite}
use native.Mathlib.Decide.{ℕ_discrete}
use Rattle.nm_types.specs.Commands.{Numbered}
use Rattle.nm_types.specs.Sizes.{Sizes}
use Rattle.nm_cells.specs.declared.port.Fabric.{Fabric}
use Rattle.nm_cells.specs.declared.port.Port.{Port}
use Rattle.nm_cells.specs.Ports.{IsNew}
use Rattle.nm_copyring.specs.declared.port.RingPort.{RingPort}
use Rattle.nm_copyring.specs.declared.port.Rings.{Rings}
use Rattle.nm_copyring.specs.Ports as ring
use Rattle.nm_process.specs.Sources.{SourceView}
use Rattle.nm_world.specs.declared.players.Player.{Player}
use Rattle.nm_world.specs.Actors.{Seat, seat_of}
use Rattle.nm_world.specs.Players.{AllPlayOn, GoesOn, IsAtWork, PlayerInvariant}
use Rattle.nm_world.specs.Records.{HasHeard}
use Rattle.nm_world.specs.Rest.{CanMove}
use Rattle.nm_world.specs.Runs.{AreRanked, InPlace, NewInOrder, PairAgrees, SomeMoves}
use Rattle.nm_world.proofs.Chosen.{same_there}
use Rattle.nm_world.proofs.Playing.{plays_on, plays_same}
use Rattle.nm_world.proofs.Results.{clash}
use Rattle.nm_types.proofs.ListLemmas.{place_below}
use Rattle.nm_types.proofs.TruthLemmas.{and_left, and_right}
use Rattle.nm_types.specs.declared.packets.Packet.{Packet}

-- one more was asked whether it can move
pub moves_more : {S B H : Type 0} (shows : S → SourceView B) (gives : S → List Numbered → ℕ → Type 0)
    (players : List (Player S H)) (n : ℕ) (x : Player S H) (all moves : Bool) → slice_get players n ≡ Some x →
    (moves ≡ true → (commands : List Numbered) → IsAtWork shows gives x commands → CanMove commands x.actor.process) →
    (all ≡ false → SomeMoves shows gives players) → (all && not moves) ≡ false → SomeMoves shows gives players
moves_more shows gives players n x true true at can before e =
    record { place = n; player = x; is = at; moves = can refl }
moves_more shows gives players n x true false at can before e = absurd (clash e)
moves_more shows gives players n x false moves at can before e = before refl

-- one more of a row agrees
pub row_more : {S H : Type 0} (players : List (Player S H)) (i n : ℕ) (x y : Player S H) (all one : Bool) →
    slice_get players i ≡ Some x → slice_get players n ≡ Some y → (one ≡ true → PairAgrees i n x.actor y.actor) →
    (all ≡ true → (j : ℕ) (a b : Player S H) → j < n → slice_get players i ≡ Some a → slice_get players j ≡ Some b →
    PairAgrees i j a.actor b.actor) → (all && one) ≡ true →
    (j : ℕ) (a b : Player S H) → j < n + 1 → slice_get players i ≡ Some a → slice_get players j ≡ Some b →
    PairAgrees i j a.actor b.actor
row_more {S} {H} players i n x y all one at to last before both j a b low at_a to_b = dite (ℕ_discrete j n)
    (λ e.
    let there : slice_get players n ≡ Some b = subst (λ k. slice_get players k ≡ Some b) e to_b in
    subst (λ k. PairAgrees i k a.actor b.actor) (sym e)
    (subst (λ (z : Player S H). PairAgrees i n z.actor b.actor) (same_there x a at at_a)
    (subst (λ (z : Player S H). PairAgrees i n x.actor z.actor) (same_there y b to there)
    (last (and_right all one both)))))
    (λ ne. before (and_left all one both) j a b (omega (arith, low, ne)) at_a to_b)

pub rows_more : {S H : Type 0} (players : List (Player S H)) (n : ℕ) (all one : Bool) →
    (one ≡ true → (j : ℕ) (a b : Player S H) → slice_get players n ≡ Some a → slice_get players j ≡ Some b →
    PairAgrees n j a.actor b.actor) →
    (all ≡ true → (i j : ℕ) (a b : Player S H) → i < n → slice_get players i ≡ Some a → slice_get players j ≡ Some b →
    PairAgrees i j a.actor b.actor) → (all && one) ≡ true →
    (i j : ℕ) (a b : Player S H) → i < n + 1 → slice_get players i ≡ Some a → slice_get players j ≡ Some b →
    PairAgrees i j a.actor b.actor
rows_more players n all one last before both i j a b low at to = dite (ℕ_discrete i n)
    (λ e. subst (λ k. PairAgrees k j a.actor b.actor) (sym e)
    (last (and_right all one both) j a b (subst (λ k. slice_get players k ≡ Some a) e at) to))
    (λ ne. before (and_left all one both) i j a b (omega (arith, low, ne)) at to)

module _ {S B H : Type 0} (shows : S → SourceView B) (gives : S → List Numbered → ℕ → Type 0) (f : Fabric Packet)
    (r : Rings)
  where
    pub all_kept_same : (xs : List (Player S H)) → All (PlayerInvariant shows gives f r) xs →
        AllPlayOn shows gives f r xs xs
    all_kept_same [] each = tt
    all_kept_same (x ∷ xs) each = (
      plays_same shows gives f r x (each 0 x (omega arith)),
      all_kept_same xs (λ k d low. each (suc k) d (omega (arith, low))),
    )

    pub all_kept_on : (xs ys zs : List (Player S H)) → AllPlayOn shows gives f r xs ys →
        AllPlayOn shows gives f r ys zs →
        AllPlayOn shows gives f r xs zs
    all_kept_on [] [] zs one two = two
    all_kept_on [] (y ∷ ys) zs one two = absurd one
    all_kept_on (x ∷ xs) [] zs one two = absurd one
    all_kept_on (x ∷ xs) (y ∷ ys) [] one two = absurd two
    all_kept_on (x ∷ xs) (y ∷ ys) (z ∷ zs) one two =
        (plays_on shows gives f r x y z one.0 two.0, all_kept_on xs ys zs one.1 two.1)

    pub kept_many : (us bs : List (Player S H)) → AllPlayOn shows gives f r us bs → length bs ≡ length us
    kept_many [] [] h = refl
    kept_many [] (b ∷ bs) h = absurd h
    kept_many (a ∷ us) [] h = absurd h
    kept_many (a ∷ us) (b ∷ bs) h = ap suc (kept_many us bs h.1)

    pub all_stand : (xs ys : List (Player S H)) → AllPlayOn shows gives f r xs ys →
        All (PlayerInvariant shows gives f r) ys
    all_stand [] [] kept = λ i d less. absurd (omega (arith, less))
    all_stand [] (y ∷ ys) kept = absurd kept
    all_stand (x ∷ xs) [] kept = absurd kept
    all_stand (x ∷ xs) (y ∷ ys) kept =
        All-cons (PlayerInvariant shows gives f r) y ys kept.0.stands (all_stand xs ys kept.1)

    pub all_ranked : (xs : List (Player S H)) → All (PlayerInvariant shows gives f r) xs → AreRanked f.ranks xs
    all_ranked xs each k x at =
        let s = subst (PlayerInvariant shows gives f r) (get_or_from_slice_get xs k x x at)
        (each k x (place_below xs k x at)) in
        (s.ports.cells.2, s.ports.rings.1.1 ∙ s.ports.ranks.1 ∙ sym s.ports.ranks.0)

    -- their sources went on
    pub all_went : (xs ys : List (Player S H)) → AllPlayOn shows gives f r xs ys →
        AllZip (GoesOn shows gives) (map (λ (x : Player S H). x.source) xs) (map (λ (x : Player S H). x.source) ys)
    all_went [] [] kept = tt
    all_went [] (y ∷ ys) kept = absurd kept
    all_went (x ∷ xs) [] kept = absurd kept
    all_went (x ∷ xs) (y ∷ ys) kept = (kept.0.source, all_went xs ys kept.1)

module _ {S B H : Type 0} (shows : S → SourceView B) (gives : S → List Numbered → ℕ → Type 0) (shape : Sizes)
    (f : Fabric Packet) (r : Rings) where
  pub in_place_stands : (k : ℕ) (players : List (Player S H)) → InPlace shows gives shape f r k players →
      All (PlayerInvariant shows gives f r) players
  in_place_stands k [] p = λ i d less. absurd (omega arith)
  in_place_stands k (a ∷ players) p =
      All-cons (PlayerInvariant shows gives f r) a players p.0 (in_place_stands (k + 1) players p.2)

  pub in_place_kept : (k : ℕ) (us bs : List (Player S H)) → InPlace shows gives shape f r k us →
      AllPlayOn shows gives f r us bs → InPlace shows gives shape f r k bs
  in_place_kept k [] [] p h = tt
  in_place_kept k [] (b ∷ bs) p h = absurd h
  in_place_kept k (a ∷ us) [] p h = absurd h
  in_place_kept k (a ∷ us) (b ∷ bs) p h =
      (h.0.stands, h.0.seat ∙ p.1, in_place_kept (k + 1) us bs p.2 h.1)

  -- each counts the commands that ran, and was told their answers
  pub in_place_heard : (k : ℕ) (players : List (Player S H)) → InPlace shows gives shape f r k players →
      AllByRecursion (HasHeard shows) players
  in_place_heard k [] p = tt
  in_place_heard k (x ∷ players) p =
      (record { at = p.0.at; told = p.0.told }, in_place_heard (k + 1) players p.2)

  pub in_place_at : (k i : ℕ) (players : List (Player S H)) (x : Player S H) → InPlace shows gives shape f r k players →
      slice_get players i ≡ Some x →
      PlayerInvariant shows gives f r x × (x.actor.port.rank ≡ k + i) × (x.actor.process.rank.sizes ≡ shape)
  in_place_at k i [] x p at = absurd (none at) where
    none : None ≡ Some x → ⊥
    none e = cc
  in_place_at k zero (b ∷ players) x p at =
      let e : b ≡ x = same_there b x refl at in
      let seat = p.1 in
      subst (λ (x : Player S H). PlayerInvariant shows gives f r x × (x.actor.port.rank ≡ k + 0)
      × (x.actor.process.rank.sizes ≡ shape)) e
      (p.0, ap (λ (s : Seat). s.rank) seat ∙ omega arith, ap (λ (s : Seat). s.sizes) seat)
  in_place_at k (suc i) (b ∷ players) x p at =
      let h = in_place_at (k + 1) i players x p.2 at in (h.0, h.1 ∙ omega arith, h.2)

  pub in_place_push : (k : ℕ) (players : List (Player S H)) (x : Player S H) → InPlace shows gives shape f r k players →
      PlayerInvariant shows gives f r x → seat_of x.actor ≡ record { rank = k + length players; sizes = shape } →
      InPlace shows gives shape f r k (players ++ x ∷ [])
  in_place_push k [] x p s seat =
      (s, seat ∙ ap (λ (n : ℕ). record { rank = n; sizes = shape }) (omega arith), tt)
  in_place_push k (b ∷ players) x p s seat = (
    p.0,
    p.1,
    in_place_push (k + 1) players x p.2 s
        (seat ∙ ap (λ (n : ℕ). record { rank = n; sizes = shape }) (omega arith)),
  )

pub new_in_order : (f : Fabric Packet) (r : Rings) (k : ℕ) (ps : List (Port Packet)) (qs : List RingPort) →
    length ps ≡ length qs →
    ((i : ℕ) (p : Port Packet) → slice_get ps i ≡ Some p → IsNew f p (k + i)) →
    ((i : ℕ) (q : RingPort) → slice_get qs i ≡ Some q → ring.IsNew r q (k + i)) → NewInOrder f r k ps qs
new_in_order f r k [] [] many one other = tt
new_in_order f r k [] (q ∷ qs) many one other = absurd (omega (arith, many))
new_in_order f r k (p ∷ ps) [] many one other = absurd (omega (arith, many))
new_in_order f r k (p ∷ ps) (q ∷ qs) many one other =
    let same : k + 0 ≡ k = omega arith in (
      subst (λ (n : ℕ). IsNew f p n) same (one 0 p refl),
      subst (λ (n : ℕ). ring.IsNew r q n) same (other 0 q refl),
      new_in_order f r (k + 1) ps qs (omega (arith, many))
          (λ i x at. subst (λ (n : ℕ). IsNew f x n) (later i) (one (suc i) x at))
          (λ i x at. subst (λ (n : ℕ). ring.IsNew r x n) (later i) (other (suc i) x at)),
    ) where
      later : (i : ℕ) → k + suc i ≡ (k + 1) + i
      later i = omega arith

-- the players that are cast for new ports
pub placed_new : {S B H : Type 0} (shows : S → SourceView B) (gives : S → List Numbered → ℕ → Type 0) (shape : Sizes)
    (f : Fabric Packet) (r : Rings) (ps : List (Port Packet)) (qs : List RingPort) (players : List (Player S H)) →
    ((f : Fabric Packet) (r : Rings) → (f.ranks ≡ shape.ranks) × (r.ranks ≡ shape.ranks) → NewInOrder f r 0 ps qs →
    InPlace shows gives shape f r 0 players) → f.ranks ≡ shape.ranks → r.ranks ≡ shape.ranks → length ps ≡ length qs →
    ((k : ℕ) (p : Port Packet) → slice_get ps k ≡ Some p → IsNew f p k) →
    ((k : ℕ) (q : RingPort) → slice_get qs k ≡ Some q → ring.IsNew r q k) → InPlace shows gives shape f r 0 players
placed_new shows gives shape f r ps qs players law cells rings many new ring_new =
    let zero_more : (i : ℕ) → i ≡ 0 + i = λ i. omega arith in
    law f r (cells, rings) (new_in_order f r 0 ps qs many
    (λ i p at. subst (λ (k : ℕ). IsNew f p k) (zero_more i) (new i p at))
    (λ i q at. subst (λ (k : ℕ). ring.IsNew r q k) (zero_more i) (ring_new i q at)))
