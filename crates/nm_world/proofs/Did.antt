-- Whether something was done, from what grew.
use Rattle.std.proofs.Common.{◌≡◌, ℕ, zero, suc, ◌+◌, ◌<◌, ◌≤◌, Bool, true, false, List, [], ◌∷◌, ◌++◌}
use Rattle.std.proofs.Common.{length, length-append, Some, refl, sym, ap, ◌∙◌, subst, arith}
use Rattle.std.proofs.Common.{◌||◌}
use Rattle.std.proofs.Common.{Ok, Err, Result}
use Rattle.std.specs.Prelude.{◌↔◌, IfOk, nat_lt, slice_get}
use Rattle.std.proofs.lemmas.Bool.Decides.{nat_tests}
use native.Mathlib.Decide.{ℕ_discrete, dec_le}
use Rattle.nm_types.specs.declared.packets.Packet.{Packet}
use Rattle.nm_history.specs.declared.events.Event.{Event}
use Rattle.nm_cells.specs.declared.port.Port.{Port}
use Rattle.nm_cells.specs.Ports.{sent_by, taken_by}
use Rattle.nm_copyring.specs.declared.port.RingPort.{RingPort}
use Rattle.nm_copyring.specs.Rule.{lane}
use Rattle.nm_copyring.specs.Ports as ring
use Rattle.nm_chain.specs.Total.{total}
use Rattle.nm_world.specs.declared.actors.Actor.{Actor}
use Rattle.nm_world.specs.Actors.{Grew, Grows, PortGrows, RingGrows, did}
use Rattle.nm_process.specs.Sources.{SourceView}
use Rattle.nm_world.specs.declared.players.Player.{Player}
use Rattle.nm_world.specs.Actors.{ActorInvariant, Continues, done_by}
use Rattle.nm_world.specs.Players.{AllPlayOn, PlaysOn, SomeGrew, did_any, done_of}
use Rattle.nm_types.specs.Commands.{Numbered}
use Rattle.nm_types.specs.Sizes.{Sizes}
use Rattle.nm_global.specs.ProcessInvariant.{GoesOn}
use Rattle.nm_cells.specs.declared.port.Fabric.{Fabric}
use Rattle.nm_copyring.specs.declared.port.Rings.{Rings}
use Rattle.nm_world.specs.Actors.Grew.{events, sent, taken, pushed, pulled}
use Rattle.nm_world.proofs.Grows.{kept_on, port_same, ring_same}

-- sums
pub sum_up : (n : ℕ) (f g : ℕ → ℕ) → ((i : ℕ) → f i ≤ g i) → total n f ≤ total n g
sum_up zero f g up = omega arith
sum_up (suc n) f g up = let rest = sum_up n f g up in let one = up n in omega (arith, rest, one)

pub sum_more : (n k : ℕ) (f g : ℕ → ℕ) → ((i : ℕ) → f i ≤ g i) → k < n → f k < g k → total n f < total n g
sum_more zero k f g up low more = absurd (omega (arith, low))
sum_more (suc n) k f g up low more = by (λ before. sum_more n k f g up before more) (ℕ_discrete k n) where
  by : (k < n → total n f < total n g) → Dec (k ≡ n) → total (suc n) f < total (suc n) g
  by before (yes e) =
      let rest = sum_up n f g up in
      let here = subst (λ (i : ℕ). f i < g i) e more in omega (arith, rest, here)
  by before (no ne) =
      let rest = before (omega (arith, low, ne)) in
      let one = up n in omega (arith, rest, one)

pub sum_same : (n : ℕ) (f g : ℕ → ℕ) → ((i : ℕ) → g i ≡ f i) → total n g ≡ total n f
sum_same zero f g same = refl
sum_same (suc n) f g same =
    let rest = sum_same n f g same in let one = same n in omega (arith, rest, one)

-- where a sum is greater, one of its parts is
sum_part : (n : ℕ) (f g : ℕ → ℕ) → total n f < total n g → (k : ℕ) × (k < n) × (f k < g k)
sum_part zero f g more = absurd (omega (arith, more))
sum_part (suc n) f g more = by (λ before. sum_part n f g before) (dec_le (suc (f n)) (g n)) where
  by : (total n f < total n g → (k : ℕ) × (k < n) × (f k < g k)) → Dec (suc (f n) ≤ g n) →
      (k : ℕ) × (k < suc n) × (f k < g k)
  by before (yes up) = (n, omega arith, omega (arith, up))
  by before (no down) =
      let rest = before (omega (arith, more, down)) in
      let low = rest.1 in (rest.0, omega (arith, low), rest.2)

less_true : (x y : ℕ) → x < y → true ≡ nat_lt x y
less_true x y low = grind (arith, nat_tests)

less_false : (x y : ℕ) → x ≡ y → false ≡ nat_lt x y
less_false x y same = grind (arith, nat_tests)

is_less : (x y : ℕ) → true ≡ nat_lt x y → x < y
is_less x y is = grind (arith, nat_tests)

isnt_less : (x y : ℕ) → false ≡ nat_lt x y → y ≤ x
isnt_less x y is = grind (arith, nat_tests)

pub events_up : {H : Type 0} → (a b : Actor H) → Grows a b → length a.process.rank.events ≤ length b.process.rank.events
events_up a b up =
    let e = ap length up.events.1 ∙ length-append a.process.rank.events up.events.0 in omega (arith, e)

-- the five parts of what was done
module _ {H : Type 0} (n : ℕ) (a b : Actor H) (up : Grows a b) where
  up_sent : total n (λ j. sent_by a.port j) ≤ total n (λ j. sent_by b.port j)
  up_sent = sum_up n _ _ up.port.sent

  up_taken : total n (λ j. taken_by a.port j) ≤ total n (λ j. taken_by b.port j)
  up_taken = sum_up n _ _ up.port.taken

  up_pushed : total n (λ j. length (ring.pushed_to a.ring j)) ≤ total n (λ j. length (ring.pushed_to b.ring j))
  up_pushed = sum_up n _ _ (λ j. (up.ring j).pushed)

  up_pulled : total n (λ j. length (ring.pulled_from a.ring j)) ≤ total n
      (λ j. length (ring.pulled_from b.ring j))
  up_pulled = sum_up n _ _ (λ j. (up.ring j).pulled)

  pub done_up : done_by n a ≤ done_by n b
  done_up =
      let v = events_up a b up in let w = up_sent in let x = up_taken in let y = up_pushed in
      let z = up_pulled in omega (arith, v, w, x, y, z)

  pub did_more : Grew n a b → true ≡ did n a b
  did_more grew = less_true (done_by n a) (done_by n b) (by grew) where
    by : Grew n a b → done_by n a < done_by n b
    by (events more) =
        let w = up_sent in let x = up_taken in let y = up_pushed in let z = up_pulled in
        omega (arith, more, w, x, y, z)
    by (sent j low more) =
        let v = events_up a b up in let w = sum_more n j _ _ up.port.sent low more in
        let x = up_taken in let y = up_pushed in let z = up_pulled in omega (arith, v, w, x, y, z)
    by (taken j low more) =
        let v = events_up a b up in let w = up_sent in let x = sum_more n j _ _ up.port.taken low more in
        let y = up_pushed in let z = up_pulled in omega (arith, v, w, x, y, z)
    by (pushed j low more) =
        let v = events_up a b up in let w = up_sent in let x = up_taken in
        let y = sum_more n j _ _ (λ k. (up.ring k).pushed) low more in let z = up_pulled in
        omega (arith, v, w, x, y, z)
    by (pulled j low more) =
        let v = events_up a b up in let w = up_sent in let x = up_taken in let y = up_pushed in
        let z = sum_more n j _ _ (λ k. (up.ring k).pulled) low more in omega (arith, v, w, x, y, z)

-- nothing was done
pub did_none : {H : Type 0} → (n : ℕ) (a b : Actor H) → length b.process.rank.events ≡ length a.process.rank.events →
    ((j : ℕ) → sent_by b.port j ≡ sent_by a.port j) → taken_by b.port ≡ taken_by a.port →
    ((j : ℕ) → ((lane (ring.knows b.ring) j).pushed ≡ (lane (ring.knows a.ring) j).pushed)
    × ((lane (ring.knows b.ring) j).pulled ≡ (lane (ring.knows a.ring) j).pulled)) → false ≡ did n a b
did_none n a b h s t rings =
    let w = sum_same n (λ j. sent_by a.port j) (λ j. sent_by b.port j) s in
    let x = sum_same n (λ j. taken_by a.port j) (λ j. taken_by b.port j) (λ j. ap (λ (u : ℕ → ℕ). u j) t) in
    let y = sum_same n (λ j. length (ring.pushed_to a.ring j)) (λ j. length (ring.pushed_to b.ring j))
    (λ j. ap length (rings j).0) in
    let z = sum_same n (λ j. length (ring.pulled_from a.ring j)) (λ j. length (ring.pulled_from b.ring j))
    (λ j. ap length (rings j).1) in
    less_false (done_by n a) (done_by n b) (omega (arith, h, w, x, y, z))

pub did_same : {H : Type 0} → (n : ℕ) (a : Actor H) → false ≡ did n a a
did_same n a = less_false (done_by n a) (done_by n a) refl

-- from one to the next
or_less : (x y z : ℕ) (p q : Bool) → x ≤ y → y ≤ z → p ≡ nat_lt x y → q ≡ nat_lt y z → (p || q) ≡ nat_lt x z
or_less x y z true q up to p_is q_is =
    let less = is_less x y p_is in less_true x z (omega (arith, less, to))
or_less x y z false true up to p_is q_is =
    let less = is_less y z q_is in less_true x z (omega (arith, less, up))
or_less x y z false false up to p_is q_is =
    let one = isnt_less x y p_is in let two = isnt_less y z q_is in
    less_false x z (omega (arith, one, two, up, to))

pub did_on : {H : Type 0} → (n : ℕ) (a b c : Actor H) (p q : Bool) → Grows a b → Grows b c → p ≡ did n a b →
    q ≡ did n b c →
    (p || q) ≡ did n a c
did_on n a b c p q one two = or_less (done_by n a) (done_by n b) (done_by n c) p q (done_up n a b one)
    (done_up n b c two)

-- one step more of a loop that tells whether something was done
pub kept_and : {H : Type 0} → (n : ℕ) (f : Fabric Packet) (r : Rings) (a b c : Actor H) (p q : Bool) →
    Continues f r a b → Continues f r b c → p ≡ did n a b → q ≡ did n b c →
    Continues f r a c × ((p || q) ≡ did n a c)
kept_and n f r a b c p q one two before then =
    (kept_on f r a b c one two, did_on n a b c p q one.grows two.grows before then)

pub or_none : (p q : Bool) → q ≡ false → p ≡ (p || q)
or_none true q none = refl
or_none false q none = sym none

pub or_one : (p q : Bool) → q ≡ true → true ≡ (p || q)
or_one true q one = refl
or_one false q one = sym one

-- a command that ran
pub ran_on : {H : Type 0} →
    (n : ℕ) {commands : List Numbered} {last : ℕ} (a b : Actor H) (s : ActorInvariant commands last a) →
    {sizes : Sizes} {given : List Numbered} {i : ℕ} → GoesOn sizes given i b.process.rank s.past → b.port ≡ a.port →
    b.ring ≡ a.ring →
    Grows a b × Grew n a b
ran_on n a b s on port ring =
    let was = s.is.stands.logged.events in
    let is = on.is.logged.events in
    let grew = on.grew in
    let old = ap length was in
    let new = ap length is in (
      record {
        events = (
          on.same.front.0,
          is ∙ on.same.front.1 ∙ ap (λ (h : List Event). h ++ on.same.front.0) (sym was),
        );
        port = subst (λ (p : Port Packet). PortGrows a.port p) (sym port) (port_same a.port);
        ring = subst (λ (p : RingPort). RingGrows a.ring p) (sym ring) (ring_same a.ring);
      },
      events (omega (arith, grew, old, new)),
    )

-- lists of players
done_append : {S H : Type 0} (n : ℕ) (xs ys : List (Player S H)) → done_of n (xs ++ ys) ≡ done_of n xs + done_of n ys
done_append n [] ys = omega arith
done_append n (x ∷ xs) ys = let rest = done_append n xs ys in omega (arith, rest)

pub all_up : {S B H : Type 0} (n : ℕ) (shows : S → SourceView B) (gives : S → List Numbered → ℕ → Type 0)
    (f : Fabric Packet) (r : Rings) (xs ys : List (Player S H)) →
    AllPlayOn shows gives f r xs ys → done_of n xs ≤ done_of n ys
all_up n shows gives f r [] [] kept = omega arith
all_up n shows gives f r [] (y ∷ ys) kept = absurd kept
all_up n shows gives f r (x ∷ xs) [] kept = absurd kept
all_up n shows gives f r (x ∷ xs) (y ∷ ys) kept =
    let rest = all_up n shows gives f r xs ys kept.1 in
    let one = done_up n x.actor y.actor kept.0.grows in omega (arith, rest, one)

or_sum : (x y x' y' : ℕ) (p q : Bool) → x ≤ x' → y ≤ y' → p ≡ nat_lt x x' → q ≡ nat_lt y y' →
    (p || q) ≡ nat_lt (x + y) (x' + y')
or_sum x y x' y' true q up to p_is q_is =
    let less = is_less x x' p_is in less_true (x + y) (x' + y') (omega (arith, less, to))
or_sum x y x' y' false true up to p_is q_is =
    let less = is_less y y' q_is in less_true (x + y) (x' + y') (omega (arith, less, up))
or_sum x y x' y' false false up to p_is q_is =
    let one = isnt_less x x' p_is in let two = isnt_less y y' q_is in
    less_false (x + y) (x' + y') (omega (arith, one, two, up, to))

-- both halves
pub did_halves : {S B H : Type 0} (n : ℕ) (shows : S → SourceView B) (gives : S → List Numbered → ℕ → Type 0)
    (f : Fabric Packet) (r : Rings) (xs ys xs' ys' : List (Player S H)) (p q : Bool) →
    AllPlayOn shows gives f r xs xs' → AllPlayOn shows gives f r ys ys' → p ≡ did_any n xs xs' → q ≡ did_any n ys ys' →
    (p || q) ≡ did_any n (xs ++ ys) (xs' ++ ys')
did_halves n shows gives f r xs ys xs' ys' p q one two p_is q_is =
    subst (λ (k : ℕ). (p || q) ≡ nat_lt k (done_of n (xs' ++ ys'))) (sym (done_append n xs ys))
    (subst (λ (k : ℕ). (p || q) ≡ nat_lt (done_of n xs + done_of n ys) k) (sym (done_append n xs' ys'))
    (or_sum (done_of n xs) (done_of n ys) (done_of n xs') (done_of n ys') p q (all_up n shows gives f r xs xs' one)
    (all_up n shows gives f r ys ys' two) p_is q_is))

-- from one to the next, of many
pub did_any_on : {S B H : Type 0} (n : ℕ) (shows : S → SourceView B) (gives : S → List Numbered → ℕ → Type 0)
    (f : Fabric Packet) (r : Rings) (xs ys zs : List (Player S H)) (p q : Bool) →
    AllPlayOn shows gives f r xs ys → AllPlayOn shows gives f r ys zs → p ≡ did_any n xs ys → q ≡ did_any n ys zs →
    (p || q) ≡ did_any n xs zs
did_any_on n shows gives f r xs ys zs p q one two = or_less (done_of n xs) (done_of n ys) (done_of n zs) p q
    (all_up n shows gives f r xs ys one) (all_up n shows gives f r ys zs two)

pub did_sole : {S H : Type 0} (n : ℕ) (x y : Player S H) → did n x.actor y.actor ≡ did_any n (x ∷ []) (y ∷ [])
did_sole n x y =
    let one : done_by n x.actor + 0 ≡ done_by n x.actor = omega arith in
    let two : done_by n y.actor + 0 ≡ done_by n y.actor = omega arith in
    sym (ap (λ (k : ℕ). nat_lt k (done_by n y.actor + 0)) one ∙ ap (λ (k : ℕ). nat_lt (done_by n x.actor) k) two)

-- what was done is what grew
abbrev long : {H : Type 0} → Actor H → ℕ
long a = length a.process.rank.events

abbrev sents : {H : Type 0} → ℕ → Actor H → ℕ
sents n a = total n (λ j. sent_by a.port j)

abbrev takes : {H : Type 0} → ℕ → Actor H → ℕ
takes n a = total n (λ j. taken_by a.port j)

abbrev pushes : {H : Type 0} → ℕ → Actor H → ℕ
pushes n a = total n (λ j. length (ring.pushed_to a.ring j))

abbrev pulls : {H : Type 0} → ℕ → Actor H → ℕ
pulls n a = total n (λ j. length (ring.pulled_from a.ring j))

grew_of : {H : Type 0} → (n : ℕ) (a b : Actor H) → done_by n a < done_by n b → Grew n a b
grew_of n a b more = by_events (dec_le (suc (long a)) (long b)) where
  by_pulled : long b ≤ long a → sents n b ≤ sents n a → takes n b ≤ takes n a → pushes n b ≤ pushes n a → Grew n a b
  by_pulled v w x y =
      let one = sum_part n (λ j. length (ring.pulled_from a.ring j)) (λ j. length (ring.pulled_from b.ring j))
      (omega (arith, more, v, w, x, y)) in pulled one.0 one.1 one.2

  by_pushed : long b ≤ long a → sents n b ≤ sents n a → takes n b ≤ takes n a → Dec (suc (pushes n a) ≤ pushes n b) →
      Grew n a b
  by_pushed v w x (yes h) =
      let one = sum_part n (λ j. length (ring.pushed_to a.ring j)) (λ j. length (ring.pushed_to b.ring j)) h in
      pushed one.0 one.1 one.2
  by_pushed v w x (no h) = by_pulled v w x (omega (arith, h))

  by_taken : long b ≤ long a → sents n b ≤ sents n a → Dec (suc (takes n a) ≤ takes n b) → Grew n a b
  by_taken v w (yes h) =
      let one = sum_part n (λ j. taken_by a.port j) (λ j. taken_by b.port j) h in taken one.0 one.1 one.2
  by_taken v w (no h) = by_pushed v w (omega (arith, h)) (dec_le (suc (pushes n a)) (pushes n b))

  by_sent : long b ≤ long a → Dec (suc (sents n a) ≤ sents n b) → Grew n a b
  by_sent v (yes h) =
      let one = sum_part n (λ j. sent_by a.port j) (λ j. sent_by b.port j) h in sent one.0 one.1 one.2
  by_sent v (no h) = by_taken v (omega (arith, h)) (dec_le (suc (takes n a)) (takes n b))

  by_events : Dec (suc (long a) ≤ long b) → Grew n a b
  by_events (yes h) = events h
  by_events (no h) = by_sent (omega (arith, h)) (dec_le (suc (sents n a)) (sents n b))

pub did_iff : {H : Type 0} → (n : ℕ) (a b : Actor H) → Grows a b → (did n a b ≡ true) ↔ Grew n a b
did_iff n a b up = (
  λ is. grew_of n a b (is_less (done_by n a) (done_by n b) (sym is)),
  λ grew. sym (did_more n a b up grew),
)

-- and of many
some_grew : {S B H : Type 0} (n : ℕ) (shows : S → SourceView B) (gives : S → List Numbered → ℕ → Type 0)
    (f : Fabric Packet) (r : Rings) (xs ys : List (Player S H)) → AllPlayOn shows gives f r xs ys →
    done_of n xs < done_of n ys → SomeGrew n xs ys
some_grew n shows gives f r [] [] kept more = absurd (omega (arith, more))
some_grew n shows gives f r [] (y ∷ ys) kept more = absurd kept
some_grew n shows gives f r (x ∷ xs) [] kept more = absurd kept
some_grew {S} {B} {H} n shows gives f r (x ∷ xs) (y ∷ ys) kept more =
    by (some_grew n shows gives f r xs ys kept.1) (dec_le (suc (done_by n x.actor)) (done_by n y.actor)) where
      by : (done_of n xs < done_of n ys → SomeGrew n xs ys) → Dec (suc (done_by n x.actor) ≤ done_by n y.actor) →
          SomeGrew n (x ∷ xs) (y ∷ ys)
      by rest (yes h) = record {
        place = 0;
        before = x;
        after = y;
        was = refl;
        is = refl;
        grew = grew_of n x.actor y.actor h;
      }
      by rest (no h) = let one = rest (omega (arith, more, h)) in record {
        place = suc one.place;
        before = one.before;
        after = one.after;
        was = one.was;
        is = one.is;
        grew = one.grew;
      }

some_did : {S B H : Type 0} (n : ℕ) (shows : S → SourceView B) (gives : S → List Numbered → ℕ → Type 0)
    (f : Fabric Packet) (r : Rings) (xs ys : List (Player S H)) (k : ℕ) (a b : Player S H) →
    AllPlayOn shows gives f r xs ys → slice_get xs k ≡ Some a → slice_get ys k ≡ Some b → Grew n a.actor b.actor →
    done_of n xs < done_of n ys
some_did n shows gives f r [] [] k a b kept was is grew = cc
some_did n shows gives f r [] (y ∷ ys) k a b kept was is grew = absurd kept
some_did n shows gives f r (x ∷ xs) [] k a b kept was is grew = absurd kept
some_did {S} {B} {H} n shows gives f r (x ∷ xs) (y ∷ ys) zero a b kept was is grew =
    let here : Grew n x.actor y.actor = subst (λ (z : Player S H). Grew n z.actor y.actor) (one (sym was))
    (subst (λ (z : Player S H). Grew n a.actor z.actor) (one (sym is)) grew) in
    let less = is_less (done_by n x.actor) (done_by n y.actor) (did_more n x.actor y.actor kept.0.grows here) in
    let rest = all_up n shows gives f r xs ys kept.1 in omega (arith, less, rest) where
      one : {u v : Player S H} → Some u ≡ Some v → u ≡ v
      one e = cc
some_did n shows gives f r (x ∷ xs) (y ∷ ys) (suc k) a b kept was is grew =
    let rest = some_did n shows gives f r xs ys k a b kept.1 was is grew in
    let up = done_up n x.actor y.actor kept.0.grows in omega (arith, rest, up)

pub did_any_iff : {S B H : Type 0} (n : ℕ) (shows : S → SourceView B) (gives : S → List Numbered → ℕ → Type 0)
    (f : Fabric Packet) (r : Rings) (xs ys : List (Player S H)) →
    AllPlayOn shows gives f r xs ys → (did_any n xs ys ≡ true) ↔ SomeGrew n xs ys
did_any_iff n shows gives f r xs ys kept = (
  λ is. some_grew n shows gives f r xs ys kept (is_less (done_of n xs) (done_of n ys) (sym is)),
  λ some. sym (less_true (done_of n xs) (done_of n ys)
      (some_did n shows gives f r xs ys some.place some.before some.after kept some.was some.is some.grew)),
)

-- of a call that tells whether something was done
pub grew_where_moved : {E : Type 0} {S B H : Type 0} (result : Result Bool E) (n : ℕ) (shows : S → SourceView B)
    (gives : S → List Numbered → ℕ → Type 0) (f : Fabric Packet) (r : Rings) (x y : Player S H) →
    IfOk result (λ _. PlaysOn shows gives f r x y) → IfOk result (λ moved. moved ≡ did n x.actor y.actor) →
    IfOk result (λ moved. (moved ≡ true) ↔ Grew n x.actor y.actor)
grew_where_moved (Err e) n shows gives f r x y kept moved = tt
grew_where_moved (Ok m) n shows gives f r x y kept moved = (
  λ is. (did_iff n x.actor y.actor kept.grows).0 (sym moved ∙ is),
  λ grew. moved ∙ (did_iff n x.actor y.actor kept.grows).1 grew,
)

pub some_grew_where_moved : {E : Type 0} {S B H : Type 0} (result : Result Bool E) (n : ℕ) (shows : S → SourceView B)
    (gives : S → List Numbered → ℕ → Type 0) (f : Fabric Packet) (r : Rings) (xs ys : List (Player S H)) →
    IfOk result (λ _. AllPlayOn shows gives f r xs ys) → IfOk result (λ moved. moved ≡ did_any n xs ys) →
    IfOk result (λ moved. (moved ≡ true) ↔ SomeGrew n xs ys)
some_grew_where_moved (Err e) n shows gives f r xs ys kept moved = tt
some_grew_where_moved (Ok m) n shows gives f r xs ys kept moved = (
  λ is. (did_any_iff n shows gives f r xs ys kept).0 (sym moved ∙ is),
  λ grew. moved ∙ (did_any_iff n shows gives f r xs ys kept).1 grew,
)
