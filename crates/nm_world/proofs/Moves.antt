-- What a step moves, from what it kept and did.
use Rattle.std.proofs.Common.{◌≡◌, ◌||◌, ℕ, ◌<◌, Bool, false, length, refl, sym, ap, ◌∙◌, subst}
use Rattle.nm_rank.specs.Ranks.{IsFresh}
use Rattle.nm_copyring.specs.declared.port.RingPort.{RingPort}
use Rattle.nm_copyring.specs.declared.table.Entry as ring_entry
use Rattle.nm_copyring.specs.declared.table.Lane.{Lane}
use Rattle.nm_copyring.specs.Calls.{KeepsRingPort}
use Rattle.nm_copyring.specs.Plays.{with_lane}
use Rattle.nm_copyring.specs.Ports as ring
use Rattle.nm_copyring.specs.Rule.{lane}
use Rattle.nm_world.specs.declared.actors.Actor.{Actor}
use Rattle.nm_world.specs.Actors.{Environment, HasPorts, LaneGrows}
use Rattle.nm_world.specs.Idle.{Moves}
use Rattle.nm_world.proofs.Did.{did_none, did_on, did_same}
use Rattle.nm_world.proofs.Grows.{grows_same, kept_on, kept_same, lane_kept, port_same, ring_same, ring_up}
use Rattle.nm_world.proofs.Steps.{continues_by}
use Rattle.nm_world.proofs.Idle.{stepped_fresh, stepped_none, stepped_on}

module _ {H : Type 0} (here : Environment) where
  pub moves_none : (a : Actor H) → HasPorts here.fabric here.rings a → Moves here false a a
  moves_none a s = record {
    kept = kept_same here.fabric here.rings a s;
    moved = did_same here.fabric.ranks a;
    stepped = stepped_none a;
  }

  pub moves_on : (p q : Bool) (a b c : Actor H) → Moves here p a b → Moves here q b c → Moves here (p || q) a c
  moves_on p q a b c one two = record {
    kept = kept_on here.fabric here.rings a b c one.kept two.kept;
    moved = did_on here.fabric.ranks a b c p q one.kept.grows two.kept.grows one.moved two.moved;
    stepped = stepped_on p q a b c one.stepped two.stepped;
  }

  -- a ring port that knows of as many pieces as before, of a rank that is not worn
  still : (a : Actor H) (q : RingPort) → IsFresh a.process.rank →
      (s : HasPorts here.fabric here.rings a) →
      KeepsRingPort here.rings a.ring q → ((k : ℕ) → LaneGrows (lane (ring.knows a.ring) k) (lane (ring.knows q) k)) →
      ((k : ℕ) → ((lane (ring.knows q) k).pushed ≡ (lane (ring.knows a.ring) k).pushed)
      × ((lane (ring.knows q) k).pulled ≡ (lane (ring.knows a.ring) k).pulled)) → Moves here false a
      (record a { ring = q })
  still a q fresh s keeps grows kept = record {
    kept = continues_by here.fabric here.rings a (record a { ring = q }) s s.cells keeps.owns (keeps.rank ∙ s.rank)
        s.hands s.rest refl (record {
          events = (grows_same a).events;
          port = port_same a.port;
          ring = grows;
        }) (λ commands last at. record {
          past = at.past;
          is = record {
            work = at.is.work;
            stands = at.is.stands;
            sent = at.is.sent;
            taken = at.is.taken;
            pushed = λ to within. at.is.pushed to within ∙ sym (kept to).0;
            pulled = λ i within. at.is.pulled i within ∙ sym (kept i).1;
          };
        });
    moved = did_none here.fabric.ranks a (record a { ring = q }) refl (λ k. refl) refl kept;
    stepped = stepped_fresh false a (record a { ring = q }) fresh refl (λ none. refl);
  }

  -- one that found its next place full or empty
  pub port_missed : (a : Actor H) (q : RingPort) (g : Lane → Lane) (j : ℕ) → IsFresh a.process.rank →
      HasPorts here.fabric here.rings a → KeepsRingPort here.rings a.ring q →
      j < length (ring.knows a.ring).lanes → ((l : Lane) → LaneGrows l (g l)) →
      ((l : Lane) → ((g l).pushed ≡ l.pushed) × ((g l).pulled ≡ l.pulled)) →
      ring.knows q ≡ with_lane g j (ring.knows a.ring) → Moves here false a (record a { ring = q })
  port_missed a q g j fresh s keeps low up same knew = still a q fresh s keeps (ring_up a.ring q g j low up knew)
      (λ k. lane_kept (ring.knows a.ring) (ring.knows q) g j k low same knew)

  -- one that loaded a flag and learnt nothing
  pub port_looked : (a : Actor H) (q : RingPort) → IsFresh a.process.rank →
      HasPorts here.fabric here.rings a → KeepsRingPort here.rings a.ring q →
      ring.knows q ≡ ring.knows a.ring → Moves here false a (record a { ring = q })
  port_looked a q fresh s keeps knew = still a q fresh s keeps
      (λ k. subst (λ (e : ring_entry.Entry). LaneGrows (lane (ring.knows a.ring) k) (lane e k)) (sym knew)
      (ring_same a.ring k))
      (λ k. (
        ap (λ (e : ring_entry.Entry). (lane e k).pushed) knew,
        ap (λ (e : ring_entry.Entry). (lane e k).pulled) knew,
      ))
