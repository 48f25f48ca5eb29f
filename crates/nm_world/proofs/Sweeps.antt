-- A sweep over players, one by one, and one sweep after the other.
use Rattle.std.proofs.Common.{◌≡◌, ◌≢◌, ℕ, ◌+◌, ◌<◌, ◌≤◌, Bool, true, false, ◌||◌, List, [], ◌∷◌, ◌++◌}
use Rattle.std.proofs.Common.{get_or, get_or-set_other, length, length-set, set, refl, sym, ap, ◌∙◌, subst, arith}
use Rattle.std.specs.Prelude.{None, slice_get, take}
use Rattle.std.specs.List.{All}
use Rattle.std.proofs.lemmas.List.{take_all, take_more, take_more_set}
use Rattle.nm_types.specs.Commands.{Numbered}
use Rattle.nm_cells.specs.declared.port.Fabric.{Fabric}
use Rattle.nm_copyring.specs.declared.port.Rings.{Rings}
use Rattle.nm_rank.specs.Ranks.{IsFresh}
use Rattle.nm_process.specs.Processes.{ProcessView}
use Rattle.nm_crews.specs.Crews.{HaveTold}
use Rattle.nm_crews.specs.Crews.HaveTold.{halves, sole}
use Rattle.nm_process.specs.Sources.{SourceView}
use Rattle.nm_world.specs.declared.players.Player.{Player}
use Rattle.nm_world.specs.Actors.{did}
use Rattle.nm_world.specs.Idle.{Rests}
use Rattle.nm_world.specs.Players.{PlayerInvariant, PlaysOn}
use Rattle.nm_world.specs.Sweeps.{HasSwept, StaysUnlessWorn, Swept}
use Rattle.nm_world.proofs.Did.{did_any_on, did_halves, did_sole}
use Rattle.nm_world.proofs.Idle.{idle_after}
use Rattle.nm_world.proofs.Lists.{all_zip_append, all_zip_both, all_zip_on}
use Rattle.nm_world.proofs.Runs.{all_kept_on}
use Rattle.nm_types.proofs.OptionLemmas.{no_some}
use Rattle.nm_types.proofs.TruthLemmas.{neither}
use Rattle.nm_types.specs.declared.packets.Packet.{Packet}

abbrev RestsUnlessWorn : {S H : Type 0} → (S → List Numbered → ℕ → Type 0) → Player S H → Player S H → Type 0
RestsUnlessWorn gives x y = IsFresh x.actor.process.rank → Rests gives x y

module _ {S B H : Type 0} (n : ℕ) (shows : S → SourceView B) (gives : S → List Numbered → ℕ → Type 0)
    (f : Fabric Packet)
    (r : Rings) (all : Bool) where
  pub swept_none : Swept {H = H} n shows gives f r all false [] []
  swept_none = record { kept = tt; moved = refl; still = λ none. tt; idle = λ none every. tt }

  pub swept_more : (xs ys : List (Player S H)) (a b : Player S H) (p q : Bool) → Swept n shows gives f r all p xs ys →
      PlaysOn shows gives f r a b → q ≡ did n a.actor b.actor → (q ≡ false → StaysUnlessWorn a b) →
      (q ≡ false → all ≡ true → RestsUnlessWorn gives a b) →
      Swept n shows gives f r all (p || q) (xs ++ a ∷ []) (ys ++ b ∷ [])
  swept_more xs ys a b p q s kept moved still idle = record {
    kept = all_zip_append (PlaysOn shows gives f r) xs (a ∷ []) ys (b ∷ []) s.kept (kept, tt);
    moved = did_halves n shows gives f r xs (a ∷ []) ys (b ∷ []) p q s.kept (kept, tt) s.moved (moved ∙ did_sole n a b);
    still = λ none. let both = neither p q none in
        all_zip_append StaysUnlessWorn xs (a ∷ []) ys (b ∷ []) (s.still both.0) (still both.1, tt);
    idle = λ none every. let both = neither p q none in
        all_zip_append (RestsUnlessWorn gives) xs (a ∷ []) ys (b ∷ []) (s.idle both.0 every)
        (idle both.1 every, tt);
  }

  -- the first k were visited, and the others are as they were
  pub record SweptTo (k : ℕ) (p : Bool) (xs ys : List (Player S H)) : Type 0 where
    pub rest : (j : ℕ) (d : Player S H) → k ≤ j → get_or ys j d ≡ get_or xs j d
    pub many : length ys ≡ length xs
    pub swept : Swept n shows gives f r all p (take k xs) (take k ys)

  pub swept_start : (xs : List (Player S H)) → SweptTo 0 false xs xs
  swept_start xs = record { rest = λ j d low. refl; many = refl; swept = swept_none }

  pub stands_there : (k : ℕ) (p : Bool) (xs ys : List (Player S H)) (d : Player S H) → SweptTo k p xs ys →
      k < length ys →
      All (PlayerInvariant shows gives f r) xs → PlayerInvariant shows gives f r (get_or ys k d)
  stands_there k p xs ys d s low all_stand =
      let many = s.many in
      subst (PlayerInvariant shows gives f r) (sym (s.rest k d (omega arith)))
      (all_stand k d (omega (arith, low, many)))

  pub swept_step : (k : ℕ) (p q : Bool) (xs ys : List (Player S H)) (d b : Player S H) → SweptTo k p xs ys →
      k < length ys →
      PlaysOn shows gives f r (get_or ys k d) b → q ≡ did n (get_or ys k d).actor b.actor →
      (q ≡ false → StaysUnlessWorn (get_or ys k d) b) →
      (q ≡ false → all ≡ true → RestsUnlessWorn gives (get_or ys k d) b) →
      SweptTo (k + 1) (p || q) xs (set ys k b)
  swept_step k p q xs ys d b s low kept moved still idle =
      let many = s.many in
      let was = take_more xs k d (omega (arith, low, many))
      ∙ ap (λ (a : Player S H). take k xs ++ a ∷ []) (sym (s.rest k d (omega arith))) in
      record {
        rest = λ j e past. let other : j ≢ k = omega (arith, past) in
            get_or-set_other ys k j b e other ∙ s.rest j e (omega (arith, past));
        many = length-set ys k b ∙ many;
        swept = subst (λ (olds : List (Player S H)). Swept n shows gives f r all (p || q) olds
            (take (k + 1) (set ys k b))) (sym was)
            (subst (λ (news : List (Player S H)). Swept n shows gives f r all (p || q)
            (take k xs ++ get_or ys k d ∷ []) news)
            (sym (take_more_set ys k b low))
            (swept_more (take k xs) (take k ys) (get_or ys k d) b p q s.swept kept moved still idle));
      }

  pub swept_end : (k : ℕ) (p : Bool) (xs ys : List (Player S H)) → SweptTo k p xs ys → length ys ≤ k →
      Swept n shows gives f r all p xs ys
  swept_end k p xs ys s past =
      let many = s.many in
      subst (λ (olds : List (Player S H)). Swept n shows gives f r all p olds ys)
      (take_all k xs (omega (arith, past, many)))
      (subst (λ (news : List (Player S H)). Swept n shows gives f r all p (take k xs) news) (take_all k ys past)
      s.swept)

pub swept_first : {S B H : Type 0} (n : ℕ) (shows : S → SourceView B) (gives : S → List Numbered → ℕ → Type 0)
    (f : Fabric Packet) (r : Rings) (p : Bool) (xs ys : List (Player S H)) →
    Swept n shows gives f r true p xs ys → HasSwept n shows gives f r p xs ys
swept_first n shows gives f r p xs ys s = record { kept = s.kept; moved = s.moved; idle = λ none. s.idle none refl }

rests_still : {S B H : Type 0} (shows : S → SourceView B) (gives : S → List Numbered → ℕ → Type 0) (f : Fabric Packet)
    (r : Rings) (a b c : Player S H) → RestsUnlessWorn gives a b → PlaysOn shows gives f r b c × StaysUnlessWorn b c →
    RestsUnlessWorn gives a c
rests_still shows gives f r a b c rests on fresh =
    let one = rests fresh in
    record {
      idle = idle_after a.actor b.actor c.actor one.idle on.0.grows
          (on.1 (subst (λ (v : ProcessView). IsFresh v.rank) (sym one.idle.process) fresh));
      stuck = one.stuck;
    }

-- a sweep more
pub swept_on : {S B H : Type 0} (n : ℕ) (shows : S → SourceView B) (gives : S → List Numbered → ℕ → Type 0)
    (f : Fabric Packet) (r : Rings) (all : Bool) (xs ys zs : List (Player S H))
    (p q : Bool) → HasSwept n shows gives f r p xs ys → Swept n shows gives f r all q ys zs →
    HasSwept n shows gives f r (p || q) xs zs
swept_on n shows gives f r all xs ys zs p q before one = record {
  kept = all_kept_on shows gives f r xs ys zs before.kept one.kept;
  moved = did_any_on n shows gives f r xs ys zs p q before.kept one.kept before.moved one.moved;
  idle = λ none. let both = neither p q none in
      all_zip_on (RestsUnlessWorn gives) (λ b c. PlaysOn shows gives f r b c × StaysUnlessWorn b c)
      (RestsUnlessWorn gives)
      (rests_still shows gives f r) xs ys zs (before.idle both.0)
      (all_zip_both (PlaysOn shows gives f r) StaysUnlessWorn ys zs one.kept (one.still both.1));
}

-- what two crews have told of their actors holds of all of them
pub swept_halves : {S B H : Type 0} (n : ℕ) (shows : S → SourceView B) (gives : S → List Numbered → ℕ → Type 0)
    (f : Fabric Packet) (r : Rings) (xs ys xs' ys' : List (Player S H)) (p q : Bool) →
    HasSwept n shows gives f r p xs xs' → HasSwept n shows gives f r q ys ys' →
    HasSwept n shows gives f r (p || q) (xs ++ ys) (xs' ++ ys')
swept_halves n shows gives f r xs ys xs' ys' p q one two = record {
  kept = all_zip_append (PlaysOn shows gives f r) xs ys xs' ys' one.kept two.kept;
  moved = did_halves n shows gives f r xs ys xs' ys' p q one.kept two.kept one.moved two.moved;
  idle = λ none. let both = neither p q none in
      all_zip_append (RestsUnlessWorn gives) xs ys xs' ys' (one.idle both.0) (two.idle both.1);
}

-- and so what all crews have told
pub swept_all : {S B H : Type 0} (n : ℕ) (shows : S → SourceView B) (gives : S → List Numbered → ℕ → Type 0)
    (f : Fabric Packet) (r : Rings) (old new : List (Player S H)) (some : Bool) →
    HaveTold (HasSwept n shows gives f r) some old new → HasSwept n shows gives f r some old new
swept_all n shows gives f r old new some (sole told) = told
swept_all n shows gives f r old new some (halves {p} {q} {xs} {ys} {xs'} {ys'} front back) =
    swept_halves n shows gives f r xs ys xs' ys' p q (swept_all n shows gives f r xs xs' p front)
    (swept_all n shows gives f r ys ys' q back)

-- no player tells that nothing moved
pub none_told : {S B H : Type 0} (n : ℕ) (shows : S → SourceView B) (gives : S → List Numbered → ℕ → Type 0)
    (f : Fabric Packet) (r : Rings) (players : List (Player S H)) → slice_get players 0 ≡ None →
    HasSwept n shows gives f r false players players
none_told n shows gives f r [] none = record { kept = tt; moved = refl; idle = λ still. tt }
none_told n shows gives f r (x ∷ players) none = absurd (no_some x (sym none))
