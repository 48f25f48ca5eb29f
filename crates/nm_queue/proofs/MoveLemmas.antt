-- What stays of a port's conditions between the steps of a move.
use Rattle.std.proofs.Common.{◌≡◌, ℕ, zero, suc, ◌+◌, sym, refl}
use Rattle.std.proofs.Common.{ap, ◌∙◌, ◌<◌, ◌≤◌, ◌⊎◌, set, subst, arith}
use Rattle.std.specs.Prelude.{slice_index_or, None, Ok}
use Rattle.nm_types.proofs.ListLemmas.{set_twice}
use Rattle.nm_chain.specs.Update.{update}
use Rattle.nm_chain.specs.declared.table.table.Entry.{Entry}
use Rattle.nm_chain.specs.declared.table.table.Hand.{Hand}
use Rattle.nm_chain.specs.declared.table.table.Hand.TheVariants.{Away, Ready}
use Rattle.nm_chain.specs.declared.table.table.Heads.{Heads}
use Rattle.nm_chain.specs.declared.table.table.Look.{Look}
use Rattle.nm_chain.specs.declared.table.table.Look.TheVariants.{LinkEmpty}
use Rattle.nm_chain.specs.Plays.{taken, heads_of, with_heads, with_look, with_missed, link_miss}
use Rattle.nm_chain.specs.Plays.{with_hand, with_put}
use Rattle.nm_cells.specs.declared.cell.Cell.{Cell}
use Rattle.nm_cells.specs.Ports.{knows, holding, SameTaken, Leaves, Takes, arrivals, own_of}
use Rattle.nm_chain.specs.Rule.{Load, sender, number}
use Rattle.nm_chain.specs.OwnQueues.{OwnQueue, receive_queue, free_queue}
use Rattle.nm_cells.specs.declared.port.Port.{Port}
use Rattle.nm_cells.specs.declared.port.Fabric.{Fabric}
use Rattle.nm_cells.specs.declared.cell.Queue as queues
use Rattle.nm_cells.specs.declared.cell.Queue.TheVariants.{Receive, Free}
use Rattle.nm_cells.specs.Ports.{MayJoin, Stays, posted_in, sent_by}
use Rattle.nm_queue.specs.Moves.{Costs, Enqueues, FindsFirst, finding}

module _ {A : Type 0} where
  -- a cell may still join the queue where it holds the same and the port sent the same
  pub may_still : (f : Fabric A) (p q : Port A) (k : queues.Queue) (c : ℕ) (y z : Load A) → q.rank ≡ p.rank
      → ((j : ℕ) → sent_by q j ≡ sent_by p j) → z ≡ y → MayJoin f p k c y → MayJoin f q k c z
  may_still f p q (Receive j) c y z rank sent same may = (
    may.0,
    may.1 ∙ sym rank,
    ap sender same ∙ may.2 ∙ ap suc (sym rank),
    ap number same ∙ may.3 ∙ sym (sent j),
  )
  may_still f p q (Free j) c y z rank sent same may = (may.0, may.1, same ∙ may.2)

  -- the three steps of an enqueue: the link is cleared, the tail exchanged, and a word stored that ends it
  pub enqueued_by : (f : Fabric A) (q : queues.Queue) (k : ℕ) (to : Hand A) (old cleared swapped new : Port A)
      → Stays f old cleared → knows cleared ≡ with_hand k (Ready (holding old k)) (knows old)
      → holding cleared ≡ holding old → cleared.hands ≡ old.hands
      → Stays f cleared swapped
      → knows swapped ≡ with_put (posted_in q (holding cleared k)) (with_hand k to (knows cleared))
      → holding swapped ≡ update (holding cleared) k None → swapped.hands ≡ cleared.hands
      → Stays f swapped new → knows new ≡ with_hand k Away (knows swapped)
      → holding new ≡ holding swapped → new.hands + 1 ≡ swapped.hands → Enqueues q k f old new
  enqueued_by f q k to old cleared swapped new sa ready ha na sb put hb nb sd ends hd nd =
      let xs = posted_in q (holding old k) in record {
        stays = (
          sd.0,
          sd.1 ∙ sb.1 ∙ sa.1,
          (sd.2.0 ∙ sb.2.0 ∙ sa.2.0, sd.2.1 ∙ sb.2.1 ∙ sa.2.1, sd.2.2 ∙ sb.2.2 ∙ sa.2.2),
          sd.3 ∙ sb.3 ∙ sa.3,
        );
        put = ends ∙ (λ i. with_hand k Away (put i))
            ∙ (λ i. with_hand k Away (with_put (posted_in q (ha i k)) (with_hand k to (ready i))))
            ∙ (λ i. with_put xs (record (knows old) {
              hands = (set_twice (set (knows old).hands k (Ready (holding old k))) k to Away
                  ∙ set_twice (knows old).hands k (Ready (holding old k)) Away) i;
            }));
        hands = omega (arith, na, nb, nd);
        given = hd ∙ hb ∙ (λ i. update (ha i) k None);
      }

  -- what a later take tells of the earlier port too: only what was told of the queue's first cell and its heads differ
  pub record Unmoved (b : OwnQueue) (old mid : Port A) : Type 0 where
    pub cells : (knows mid).hands ≡ (knows old).hands
    pub rank : mid.rank ≡ old.rank
    pub takes : (n : ℕ) (y : Load A) (s : ℕ) → taken b n y s (knows mid) ≡ taken b n y s (knows old)
    pub holds : holding mid ≡ holding old
    pub same : SameTaken old mid
    pub hands : mid.hands ≡ old.hands
    pub loose : mid.loose ≡ old.loose
    pub first : 0 < (heads_of b (knows old)).shadow
        → (heads_of b (knows mid)).shadow ≡ (heads_of b (knows old)).shadow

  pub takes_since : (b : OwnQueue) (f : Fabric A) (old mid new : Port A) (c : Cell) → Unmoved b old mid
      → Takes b f mid new c → Takes b f old new c
  takes_since b f old mid new c u t = record {
    has = t.has;
    of_rank = t.of_rank;
    first = λ some. let same = u.first some in t.first (subst (λ k. 0 < k) (sym same) some) ∙ same;
    fresh = ap (λ hs. slice_index_or hs c.number Away) (sym u.cells) ∙ t.fresh;
    full = t.full;
    arrived = t.arrived;
    vacant = λ e. let v = t.vacant e in (v.0, v.1 ∙ u.rank);
    knows = t.knows ∙ u.takes c.number (holding new c.number) (heads_of b (knows new)).shadow;
    holding = t.holding ∙ ap (λ h. update h c.number (holding new c.number)) u.holds;
    taken = t.taken ∙ u.same.0;
    held = t.held ∙ u.same.1;
    unpassed = t.unpassed ∙ ap (λ k. k + arrivals b) u.same.2;
    hands = t.hands ∙ ap (λ k. k + 1) u.hands;
    loose = t.loose ∙ u.loose;
  }

  look_lost : (b : OwnQueue) (l : Look) (n : ℕ) (y : Load A) (s : ℕ) (e : Entry A)
      → taken b n y s (with_look b l e) ≡ taken b n y s e
  look_lost receive_queue l n y s e = refl
  look_lost free_queue l n y s e = refl

  heads_lost : (b : OwnQueue) (x : Heads) (n : ℕ) (y : Load A) (s : ℕ) (e : Entry A)
      → taken b n y s (with_heads b x e) ≡ taken b n y s e
  heads_lost receive_queue x n y s e = refl
  heads_lost free_queue x n y s e = refl

  look_heads : (b : OwnQueue) (l : Look) (e : Entry A) → heads_of b (with_look b l e) ≡ heads_of b e
  look_heads receive_queue l e = refl
  look_heads free_queue l e = refl

  hands_same : (b : OwnQueue) (x : Heads) (e : Entry A) → (with_heads b x e).hands ≡ e.hands
  hands_same receive_queue x e = refl
  hands_same free_queue x e = refl

  -- a step told something of the first cell and took none
  pub unmoved_look : (b : OwnQueue) (l : Look) (old mid new : Port A) → Unmoved b old mid
      → knows new ≡ with_look b l (knows mid) → new.rank ≡ mid.rank → Leaves mid new
      → Unmoved b old new
  unmoved_look b l old mid new u is rank v = record {
    cells = ap (λ (e : Entry A). e.hands) is ∙ u.cells;
    rank = rank ∙ u.rank;
    takes = λ n y s. ap (taken b n y s) is ∙ look_lost b l n y s (knows mid) ∙ u.takes n y s;
    holds = v.holding ∙ u.holds;
    same = (v.taken.0 ∙ u.same.0, v.taken.1 ∙ u.same.1, v.taken.2 ∙ u.same.2);
    hands = v.hands ∙ u.hands;
    loose = v.loose ∙ u.loose;
    first = λ some. ap (λ (e : Entry A). (heads_of b e).shadow) is
        ∙ ap (λ (x : Heads). x.shadow) (look_heads b l (knows mid)) ∙ u.first some;
  }

  -- the first cell was found, and none was taken
  pub unmoved_first : (q : queues.Queue) (old mid : Port A) → mid.rank ≡ old.rank → FindsFirst q old mid
      → Unmoved (own_of q) old mid
  unmoved_first q old mid rank u = let b = own_of q in let x = heads_of b (knows mid) in record {
    cells = ap (λ (e : Entry A). e.hands) u.knows ∙ hands_same b x (knows old);
    rank = rank;
    takes = λ n y s. ap (taken b n y s) u.knows ∙ heads_lost b x n y s (knows old);
    holds = u.leaves.holding;
    same = u.leaves.taken;
    hands = u.leaves.hands;
    loose = u.leaves.loose;
    first = λ some. ap (λ (x : Heads). x.shadow) (u.same some);
  }

  -- so what has no cell leaves the cells of the earlier port too
  pub leaves_since : (b : OwnQueue) (old mid new : Port A) → Unmoved b old mid → Leaves mid new
      → Leaves old new
  leaves_since b old mid new u v = record {
    hands = v.hands ∙ u.hands;
    holding = v.holding ∙ u.holds;
    taken = (v.taken.0 ∙ u.same.0, v.taken.1 ∙ u.same.1, v.taken.2 ∙ u.same.2);
    loose = v.loose ∙ u.loose;
  }

  -- the heads of a queue once they changed, and changed twice
  pub heads_kept : (b : OwnQueue) (e : Entry A) → e ≡ with_heads b (heads_of b e) e
  heads_kept receive_queue e = refl
  heads_kept free_queue e = refl

  heads_twice : (b : OwnQueue) (x y : Heads) (e : Entry A)
      → with_heads b y (with_heads b x e) ≡ with_heads b y e
  heads_twice receive_queue x y e = refl
  heads_twice free_queue x y e = refl

  heads_there : (b : OwnQueue) (x : Heads) (e : Entry A) → heads_of b (with_heads b x e) ≡ x
  heads_there receive_queue x e = refl
  heads_there free_queue x e = refl

  pub heads_changed : (b : OwnQueue) (x : Heads) (old new : Entry A) → new ≡ with_heads b x old
      → heads_of b new ≡ x
  heads_changed b x old new is = ap (heads_of b) is ∙ heads_there b x old

  pub heads_anew : (b : OwnQueue) (x y : Heads) (old loaded new : Entry A) → loaded ≡ with_heads b x old
      → new ≡ with_heads b y loaded → new ≡ with_heads b (heads_of b new) old
  heads_anew b x y old loaded new found hidden =
      let is = hidden ∙ ap (with_heads b y) found ∙ heads_twice b x y old in
      is ∙ ap (λ z. with_heads b z old) (sym (heads_changed b y loaded new hidden))

  abbrev missing : OwnQueue → Entry A → Entry A
  missing b e = with_look b (LinkEmpty 0) (with_missed b link_miss e)

  missing_heads : (b : OwnQueue) (x : Heads) (l k : Look) (e : Entry A)
      → heads_of b (missing b (with_look b k (with_look b l (with_heads b x e)))) ≡ x
  missing_heads receive_queue x l k e = refl
  missing_heads free_queue x l k e = refl

  missing_is : (b : OwnQueue) (x : Heads) (l k : Look) (e : Entry A)
      → missing b (with_look b k (with_look b l (with_heads b x e))) ≡ missing b (with_heads b x e)
  missing_is receive_queue x l k e = refl
  missing_is free_queue x l k e = refl

-- the link of the first cell was 0 twice, although another cell was the tail
module _ {A : Type 0} (b : OwnQueue) (l k : Look) (heads : Heads) (old mid linked tailed last : Entry A)
    (found : mid ≡ with_heads b heads old)
    (look : linked ≡ with_look b l mid) (tail : tailed ≡ with_look b k linked)
    (again : last ≡ with_look b (LinkEmpty 0) (with_missed b link_miss tailed)) where
  whole : last ≡ missing b (with_look b k (with_look b l (with_heads b heads old)))
  whole = again ∙ ap (λ e. missing b e)
      (tail ∙ ap (with_look b k) (look ∙ ap (with_look b l) found))

  pub heads_stand : heads_of b last ≡ heads
  heads_stand = ap (heads_of b) whole ∙ missing_heads b heads l k old

  pub missed_since : last ≡ with_look b (LinkEmpty 0)
      (with_missed b link_miss (with_heads b (heads_of b last) old))
  missed_since = whole ∙ missing_is b heads l k old
      ∙ ap (λ x. missing b (with_heads b x old)) (sym heads_stand)

-- what it costs to find the first cell
pub finding_none : (shadow : ℕ) → shadow ≡ 0 → finding shadow ≡ 2
finding_none zero is = refl
finding_none (suc cell) is = absurd (omega (arith, is))

pub finding_some : (shadow : ℕ) → 0 < shadow → finding shadow ≡ 0
finding_some zero some = absurd (omega (arith, some))
finding_some (suc cell) some = refl

pub finding_few : (shadow : ℕ) → finding shadow ≤ 2
finding_few zero = omega arith
finding_few (suc cell) = omega arith

-- the last cell was taken, and another one
pub cost_last : (c : Cell) (before after start end : ℕ) → after ≡ 0 → end ≡ start + (finding before + 2)
    → Costs (Ok c) before after start end
cost_last c before zero start end none is = is
cost_last c before (suc next) start end none is = absurd (omega (arith, none))

pub cost_other : (c : Cell) (before after start end : ℕ) → 0 < after
    → (end ≡ start + (finding before + 1)) ⊎ (end ≡ start + (finding before + 3))
    → Costs (Ok c) before after start end
cost_other c before zero start end some is = absurd (omega (arith, some))
cost_other c before (suc next) start end some is = is
