-- The ranks of the actors, with what was, are at rest.
use Rattle.std.proofs.Common.{◌≡◌, ℕ, zero, suc, ◌+◌, ◌<◌, Some, List, [], ◌∷◌, ◌++◌}
use Rattle.std.proofs.Common.{length, map, refl, sym, ap, ◌∙◌, subst, arith, append-nil, length-append}
use Rattle.std.specs.Prelude.{IfSome}
use Rattle.std.specs.List.{slice_get}
use Rattle.nm_types.specs.declared.packets.Piece.{Piece}
use Rattle.nm_history.specs.Outgoing.{AreCalled, AreCalledPieces, outgoing, ring}
use Rattle.nm_history.specs.Quiescence.{Ended, IsStopped as StandsAt, packets_of_by}
use Rattle.nm_history.specs.Sends.{sent_body}
use Rattle.nm_channels.specs.Moments.{taken_from}
use Rattle.nm_cells.specs.ClosedLists.{sent_list, taken_list}
use Rattle.nm_cells.specs.Ports.{knows}
use Rattle.nm_copyring.specs.declared.port.RingPort.{RingPort}
use Rattle.nm_copyring.specs.AtClose.{entry}
use Rattle.nm_copyring.specs.ClosedLists as closed_ring
use Rattle.nm_copyring.specs.Ports as ring_port
use Rattle.nm_copyring.specs.Rule.{lane}
use Rattle.nm_global.specs.Ranks.{AreAtRest, Each, HasNothingToSend, IsPassed, RankInvariant, OneRank, recorded_of}
use Rattle.nm_global.specs.ProcessInvariant.{IsOf}
use Rattle.nm_world.specs.declared.actors.Actor.{Actor}
use Rattle.nm_world.specs.Rest.{EndsAt, HasRun, IsCarried}
use Rattle.nm_world.proofs.Chosen.{chosen, chosen_each, chosen_length, chosen_map, each_map, for_each}
use Rattle.nm_world.proofs.Chosen.{map_twice, placed, same_there}
use Rattle.nm_world.proofs.laws.actors_at_rest_make_a_run.Goals as goal
use Rattle.nm_world.specs.Parcels.{packet_of}
use Rattle.nm_types.proofs.ListLemmas.{get_some, get_map, place_below, map_length}

entry_is : (ports : List RingPort) (i : ℕ) (p : RingPort) → slice_get ports i ≡ Some p →
    entry (map ring_port.knows ports) i ≡ ring_port.knows p
entry_is [] i p is = cc
entry_is (x ∷ ports) zero p is = ap ring_port.knows (one is) where
  one : {x y : RingPort} → Some x ≡ Some y → x ≡ y
  one e = cc
entry_is (x ∷ ports) (suc i) p is = entry_is ports i p is

whole : (front left all : List Piece) → all ≡ front ++ left → length all ≡ length front → front ≡ all
whole front left all is many =
    let sum = ap length is ∙ length-append front left in
    sym (is ∙ ap (λ l. front ++ l) (none left (omega (arith, sum, many))) ∙ append-nil front) where
      none : (l : List Piece) → length l ≡ 0 → l ≡ []
      none [] e = refl
      none (x ∷ l) e = absurd (omega (arith, e))

pub returns : goal.returns
returns g c shape commands actors closed q in_range many each cells rings all_taken = (ends, has_run) where
  P : ℕ → Actor g.row.H.Denot → Type 0
  P i a = (slice_get actors i ≡ Some a) × EndsAt shape (commands i) i a

  one : (i : ℕ) (a : Actor g.row.H.Denot) → P i a → OneRank
  one i a p =
      record {
        view = a.process.rank;
        at = a.process.at;
        waits = p.1.waits;
        log = p.1.past.log;
        given = p.1.past.given;
        left = p.1.past.left;
      }

  h : (i : ℕ) → IfSome (slice_get actors i) (P i)
  h = placed (λ i a. EndsAt shape (commands i) i a) actors each

  ones : List OneRank
  ones = chosen P one actors h

  ends : List Ended
  ends = map recorded_of ones

  below : (i : ℕ) (a : Actor g.row.H.Denot) → slice_get actors i ≡ Some a → i < shape.ranks
  below i a is = let low = place_below actors i a is in omega (arith, low, many)

  stands_at : (i : ℕ) (a : Actor g.row.H.Denot) (p : P i a) → RankInvariant shape (commands i) i (one i a p)
  stands_at i a p =
      let e = p.1 in
      let stands = subst (λ (k : ℕ). IsOf shape (commands i) k a.process.rank e.past) e.me e.is.stands in
      let s = c.a_process_is_a_rank.ensures shape (commands i) (e.last + 1) i a.process e.past
      (record { work = e.is.work; rank = stands }) e.right e.stamped in
      record { me = s.me; sizes = s.sizes; run = s.run; logged = s.logged; left = s.left }

  -- the lists of the closed ports
  sent_is : (i j : ℕ) (a : Actor g.row.H.Denot) (p : P i a) → j < shape.ranks →
      map packet_of (sent_list closed i j) ≡ (p.1.past.left j).packets
  sent_is i j a p within =
      c.a_close_carries.ensures.sent packet_of closed (map (λ a. a.port) actors) i j a.port
      (p.1.past.left j).packets cells.entries (get_map (λ a. a.port) actors i a p.0)
      (cells.counts i j a.port (get_map (λ a. a.port) actors i a p.0) within).0
      (p.1.is.sent j within)

  taken_is : (i j : ℕ) (b : Actor g.row.H.Denot) (p : P j b) → i < shape.ranks →
      map packet_of (taken_list closed i j) ≡ map (λ t. t.packet) (taken_from i p.1.past.log)
  taken_is i j b p within =
      let many_entries = ap length cells.entries
      ∙ map_length knows (map (λ (a : Actor g.row.H.Denot). a.port) actors) ∙ map_length
      (λ (a : Actor g.row.H.Denot). a.port) actors in
      c.a_close_carries.ensures.taken packet_of closed (map (λ a. a.port) actors) i j b.port
      (map (λ t. t.packet) (taken_from i p.1.past.log)) cells.entries
      (get_map (λ a. a.port) actors j b p.0) (omega (arith, within, many_entries, many))
      (cells.counts j i b.port (get_map (λ a. a.port) actors j b p.0) within).1
      (p.1.is.taken i within)

  all_sent : (i j : ℕ) (a b : Actor g.row.H.Denot) → slice_get actors i ≡ Some a → slice_get actors j ≡ Some b →
      taken_list closed i j ≡ sent_list closed i j
  all_sent i j a b at to =
      c.a_close_carries.ensures.whole closed i j (cells.prefix i j (below i a at) (below j b to))
      ((cells.counts j i b.port (get_map (λ a. a.port) actors j b to) (below i a at)).1
      ∙ sym (all_taken.packets i j a b at to)
      ∙ sym (cells.counts i j a.port (get_map (λ a. a.port) actors i a at) (below j b to)).0)

  pushed_is : (i j : ℕ) (a : Actor g.row.H.Denot) → slice_get actors i ≡ Some a →
      closed_ring.pushed_list q i j ≡ ring_port.pushed_to a.ring j
  pushed_is i j a at = ap (λ es. (lane (entry es i) j).pushed) rings.entries
      ∙ ap (λ e. (lane e j).pushed) (entry_is (map (λ a. a.ring) actors) i a.ring
      (get_map (λ a. a.ring) actors i a at))

  pulled_is : (i j : ℕ) (b : Actor g.row.H.Denot) → slice_get actors j ≡ Some b →
      closed_ring.pulled_list q i j ≡ ring_port.pulled_from b.ring i
  pulled_is i j b to = ap (λ es. (lane (entry es j) i).pulled) rings.entries
      ∙ ap (λ e. (lane e i).pulled) (entry_is (map (λ a. a.ring) actors) j b.ring
      (get_map (λ a. a.ring) actors j b to))

  all_pulled : (i j : ℕ) (a b : Actor g.row.H.Denot) → slice_get actors i ≡ Some a → slice_get actors j ≡ Some b →
      closed_ring.pulled_list q i j ≡ closed_ring.pushed_list q i j
  all_pulled i j a b at to =
      let front = rings.prefix i j (below i a at) (below j b to) in
      whole (closed_ring.pulled_list q i j) front.0 (closed_ring.pushed_list q i j) front.1
      (ap length (pushed_is i j a at) ∙ all_taken.pieces i j a b at to
      ∙ sym (ap length (pulled_is i j b to)))

  passed : (i j : ℕ) (a b : Actor g.row.H.Denot) (p : P i a) (o : P j b) → IsPassed i j (one i a p) (one j b o)
  passed i j a b p o =
      record {
        packets = sym (taken_is i j b o (below i a p.0)) ∙ ap (map packet_of) (all_sent i j a b p.0 o.0)
            ∙ sent_is i j a p (below j b o.0);
        pieces = o.1.is.pulled i (below i a p.0) ∙ sym (pulled_is i j b o.0)
            ∙ all_pulled i j a b p.0 o.0 ∙ pushed_is i j a p.0
            ∙ sym (p.1.is.pushed j (below j b o.0));
      }

  at_rest : AreAtRest shape commands ones
  at_rest =
      record {
        many = chosen_length P one actors h ∙ many;
        standing = chosen_each P one actors h (λ i x. RankInvariant shape (commands i) i x) stands_at;
        passed = chosen_each P one actors h (λ i x. Each (λ j y. IsPassed i j x y) ones)
            (λ i a p. chosen_each P one actors h (λ j y. IsPassed i j (one i a p) y)
            (λ j b o. passed i j a b p o));
        resting = chosen_each P one actors h (λ i x. HasNothingToSend x) (λ i a p.
            let e = p.1.resting in
            record {
              outbox = e.outbox;
              eager = e.eager;
              pieces = e.pieces;
              cleared = e.cleared;
              empty = e.empty;
              early = e.early;
            });
      }

  shown : (i : ℕ) (x : Actor g.row.H.Denot) (p : P i x) (a : Actor g.row.H.Denot) → slice_get actors i ≡ Some a →
      (x.process.at ≡ a.process.at) × (x.process.rank.events ≡ a.process.rank.events)
      × StandsAt (commands i) (recorded_of (one i x p))
  shown i x p a is =
      let same : x ≡ a = same_there x a p.0 is in (
        ap (λ (a : Actor g.row.H.Denot). a.process.at) same,
        ap (λ (a : Actor g.row.H.Denot). a.process.rank.events)
            same,
        p.1.stands,
      )

  carried : (i j : ℕ) (a : Actor g.row.H.Denot) (p : P i a) → j < shape.ranks →
      IsCarried (commands i) closed q i j (recorded_of (one i a p))
  carried i j a p within =
      let s = stands_at i a p in
      let b = get_some actors j (omega (arith, within, many)) in
      let bodies = sent_body (commands i) in
      record {
        packets = subst (λ ps. AreCalled i 0 (outgoing bodies a.process.rank.events j) ps)
            (sym (sent_is i j a p within))
            (subst (λ (k : ℕ). AreCalled k 0 (outgoing bodies a.process.rank.events j) (p.1.past.left j).packets) s.me
            (c.all_left.ensures.packets bodies a.process.rank j (p.1.past.left j) p.1.resting.outbox
            (s.left j within)));
        taken = all_sent i j a b.0 p.0 b.1;
        pieces = subst (λ ps. AreCalledPieces i 0 (ring bodies a.process.rank.events j) ps)
            (p.1.is.pushed j within ∙ sym (pushed_is i j a p.0))
            (subst (λ (k : ℕ). AreCalledPieces k 0 (ring bodies a.process.rank.events j) (p.1.past.left j).pieces) s.me
            (c.all_left.ensures.pieces bodies a.process.rank j (p.1.past.left j) p.1.resting.pieces
            (s.left j within)));
        pulled = all_pulled i j a b.0 p.0 b.1;
      }

  has_run : HasRun shape commands actors closed q ends
  has_run =
      record {
        are = λ i a is. for_each (slice_get ends i) (λ a. slice_get actors i ≡ Some a)
            (λ e a. (e.at ≡ a.process.at) × (e.events ≡ a.process.rank.events)
            × StandsAt (commands i) e)
            (each_map recorded_of ones (λ i e. (a : Actor g.row.H.Denot) → slice_get actors i ≡ Some a →
            (e.at ≡ a.process.at) × (e.events ≡ a.process.rank.events)
            × StandsAt (commands i) e)
            (chosen_each P one actors h (λ i x. (a : Actor g.row.H.Denot) → slice_get actors i ≡ Some a →
            (x.at ≡ a.process.at) × (x.view.events ≡ a.process.rank.events)
            × StandsAt (commands i) (recorded_of x)) shown) i)
            a is;
        events = map_twice (λ (e : Ended). e.events) recorded_of ones
            ∙ chosen_map P one actors h (λ (x : OneRank). x.view.events)
            (λ (a : Actor g.row.H.Denot). a.process.rank.events) (λ i a p. refl);
        run = c.ranks_at_rest_make_a_run.ensures shape commands ones (packets_of_by commands ends) in_range at_rest
            (each_map recorded_of ones (λ i e. StandsAt (commands i) e)
            (chosen_each P one actors h (λ i x. StandsAt (commands i) (recorded_of x))
            (λ i a p. p.1.stands)))
            refl;
        carried = λ i j within. each_map recorded_of ones (λ i e. IsCarried (commands i) closed q i j e)
            (chosen_each P one actors h (λ i x. IsCarried (commands i) closed q i j (recorded_of x))
            (λ i a p. carried i j a p within)) i;
      }
