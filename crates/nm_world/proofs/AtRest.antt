-- A run that came to rest.
use Rattle.std.proofs.Common.{◌≡◌, ◌+◌, ℕ, zero, suc, Option, Some, None, List, [], ◌∷◌, length, map, refl, sym, ap}
use Rattle.std.proofs.Common.{◌∙◌, subst, arith}
use Rattle.std.specs.Prelude.{IfSome}
use Rattle.std.proofs.lemmas.List.{length-map}
use Rattle.std.specs.List.{slice_get}
use Rattle.nm_types.specs.Commands.{Numbered}
use Rattle.nm_types.specs.Sizes.{Sizes}
use Rattle.nm_types.specs.declared.packets.Packet.{Packet}
use Rattle.nm_history.specs.Quiescence.{Ended}
use Rattle.nm_cells.specs.declared.closed.Closed.{Closed}
use Rattle.nm_cells.specs.declared.port.Fabric.{Fabric}
use Rattle.nm_cells.specs.ClosedLists.{AllTaken, ranks_of}
use Rattle.nm_cells.specs.Ports.{knows, sent_by, taken_by}
use Rattle.nm_copyring.specs.declared.close.RingAccount.{RingAccount}
use Rattle.nm_copyring.specs.declared.port.Rings.{Rings}
use Rattle.nm_copyring.specs.Ports as ring_port
use Rattle.nm_process.specs.Sources.{SourceView}
use Rattle.nm_world.specs.declared.actors.Actor.{Actor}
use Rattle.nm_world.specs.declared.players.Player.{Player}
use Rattle.nm_world.specs.Actors.{ActorInvariant}
use Rattle.nm_world.specs.Players.{AreGiven, IsAtWork}
use Rattle.nm_world.specs.Records.{AreAtWork}
use Rattle.nm_world.specs.Rest.{Each, EndsAt, HasRun, IsAllTaken, IsCarried, IsClosed, IsStill}
use Rattle.nm_world.specs.Runs.{AllAgree, AreCarriedBy, InPlace, IsStillAt}
use Rattle.nm_world.proofs.Playing.{at_work}
use Rattle.nm_world.proofs.Runs.{in_place_at}
use Rattle.nm_types.proofs.ListLemmas.{get_from_map, get_map, get_some}

-- the commands that the sources are left with are those of the players
pub all_at_work : {S B H : Type 0} (shows : S → SourceView B) (gives : S → List Numbered → ℕ → Type 0) (shape : Sizes)
    (f : Fabric Packet) (r : Rings) (commands : ℕ → List Numbered) (k : ℕ) (players : List (Player S H)) →
    InPlace shows gives shape f r k players → AreGiven gives commands k (map (λ (x : Player S H). x.source) players) →
    AreAtWork shows gives commands k players
all_at_work shows gives shape f r commands k [] place given = tt
all_at_work shows gives shape f r commands k (x ∷ players) place given = (
  at_work shows gives f r x (commands k) given.0.before place.0 given.0.gives,
  all_at_work shows gives shape f r commands (k + 1) players place.2 given.1,
)

work_at : {S B H : Type 0} (shows : S → SourceView B) (gives : S → List Numbered → ℕ → Type 0)
    (commands : ℕ → List Numbered) (k i m : ℕ) (players : List (Player S H)) (x : Player S H) → m ≡ k + i →
    AreAtWork shows gives commands k players → slice_get players i ≡ Some x → IsAtWork shows gives x (commands m)
work_at shows gives commands k i m [] x is work at = absurd (none at) where
  none : None ≡ Some x → ⊥
  none e = cc
work_at {S} {B} {H} shows gives commands k zero m (y ∷ players) x is work at =
    let here : k ≡ m = omega (arith, is) in
    subst (λ (z : Player S H). IsAtWork shows gives z (commands m)) (one at)
    (subst (λ (n : ℕ). IsAtWork shows gives y (commands n)) here work.0) where
      one : {u v : Player S H} → Some u ≡ Some v → u ≡ v
      one e = cc
work_at shows gives commands k (suc i) m (y ∷ players) x is work at =
    work_at shows gives commands (k + 1) i m players x (omega (arith, is)) work.1 at

pub each_ends : {S B H : Type 0} (shows : S → SourceView B) (gives : S → List Numbered → ℕ → Type 0) →
    ((commands : List Numbered) (last : ℕ) (a : Actor H) → ActorInvariant commands last a →
    IsStill commands a.process → EndsAt a.process.rank.sizes commands a.port.rank a) →
    (shape : Sizes) (f : Fabric Packet) (r : Rings) (commands : ℕ → List Numbered) (players : List (Player S H))
    (actors : List (Actor H)) → actors ≡ map (λ (x : Player S H). x.actor) players →
    InPlace shows gives shape f r 0 players → AreAtWork shows gives commands 0 players →
    Each (λ i x. IsStillAt shows gives x) players → Each (λ i a. EndsAt shape (commands i) i a) actors
each_ends {S} {B} {H} shows gives law shape f r commands players actors are place work still i =
    by (slice_get actors i) refl where
      at : (a : Actor H) → slice_get actors i ≡ Some a → EndsAt shape (commands i) i a
      at a there =
          let found = get_from_map (λ (x : Player S H). x.actor) players i a
          (ap (λ (as' : List (Actor H)). slice_get as' i) (sym are) ∙ there) in
          let x = found.0 in
          let s = in_place_at shows gives shape f r 0 i players x place found.1 in
          let work = work_at shows gives commands 0 i i players x (omega arith) work found.1 in
          let is = subst (λ (o : Option (Player S H)). IfSome o (IsStillAt shows gives)) found.1 (still i) in
          let ends = law (commands i) work.last x.actor (s.0.stands (commands i) work.last work.given)
          (is (commands i) work) in
          subst (λ (b : Actor H). EndsAt shape (commands i) i b) found.2
          (subst (λ (k : ℕ). EndsAt shape (commands i) k x.actor) (s.1 ∙ omega arith)
          (subst (λ (z : Sizes). EndsAt z (commands i) x.actor.port.rank x.actor) s.2 ends))

      by : (o : Option (Actor H)) → slice_get actors i ≡ o → IfSome o (EndsAt shape (commands i) i)
      by None there = tt
      by (Some a) there = at a there

pub all_taken_of : {S H : Type 0} (n : ℕ) (players : List (Player S H)) (c : Closed Packet) → length players ≡ n →
    IsClosed n (map (λ (x : Player S H). x.actor.port) players) c → AllAgree players → AllTaken n c
all_taken_of {S} {H} n players c many closed agree i j low within =
    let a = get_some players i (omega (arith, low, many)) in
    let b = get_some players j (omega (arith, within, many)) in
    (closed.counts j i b.0.actor.port (get_map (λ (x : Player S H). x.actor.port) players j b.0 b.1) low).1
    ∙ sym (agree.pairs i j a.0 b.0 a.1 b.1).0
    ∙ sym (closed.counts i j a.0.actor.port (get_map (λ (x : Player S H). x.actor.port) players i a.0 a.1) within).0

-- so it is with their actors
pub actors_taken : {S H : Type 0} (players : List (Player S H)) (actors : List (Actor H)) →
    actors ≡ map (λ (x : Player S H). x.actor) players → AllAgree players → IsAllTaken actors
actors_taken {S} {H} players actors are agree = record {
  packets = λ i j a b at to.
      let x = get_from_map (λ (x : Player S H). x.actor) players i a
      (ap (λ (as' : List (Actor H)). slice_get as' i) (sym are) ∙ at) in
      let y = get_from_map (λ (x : Player S H). x.actor) players j b
      (ap (λ (as' : List (Actor H)). slice_get as' j) (sym are) ∙ to) in
      subst (λ (a : Actor H). sent_by a.port j ≡ taken_by b.port i) x.2
      (subst (λ (b : Actor H). sent_by x.0.actor.port j ≡ taken_by b.port i) y.2 (agree.pairs i j x.0 y.0 x.1 y.1).0);
  pieces = λ i j a b at to.
      let x = get_from_map (λ (x : Player S H). x.actor) players i a
      (ap (λ (as' : List (Actor H)). slice_get as' i) (sym are) ∙ at) in
      let y = get_from_map (λ (x : Player S H). x.actor) players j b
      (ap (λ (as' : List (Actor H)). slice_get as' j) (sym are) ∙ to) in
      subst (λ (a : Actor H). length (ring_port.pushed_to a.ring j) ≡ length (ring_port.pulled_from b.ring i)) x.2
      (subst (λ (b : Actor H). length (ring_port.pushed_to x.0.actor.ring j) ≡ length (ring_port.pulled_from b.ring i))
      y.2
      (agree.pairs i j x.0 y.0 x.1 y.1).1);
}

pub carried_of : {H : Type 0} →
    (shape : Sizes) (commands : ℕ → List Numbered) (actors : List (Actor H)) (c : Closed Packet)
    (q : RingAccount) (ends : List Ended) → HasRun shape commands actors c q ends → AreCarriedBy shape commands c q ends
carried_of shape commands actors c q ends run i j e within at =
    subst (λ (o : Option Ended). IfSome o (IsCarried (commands i) c q i j)) at (run.carried i j within)

pub closed_many : {S H : Type 0} (n : ℕ) (players : List (Player S H)) (c : Closed Packet) →
    IsClosed n (map (λ (x : Player S H). x.actor.port) players) c → length players ≡ n → ranks_of c ≡ n
closed_many {S} {H} n players c closed many =
    let ports = map (λ (x : Player S H). x.actor.port) players in
    ap length closed.entries ∙ length-map ports knows ∙ length-map players (λ (x : Player S H). x.actor.port) ∙ many
