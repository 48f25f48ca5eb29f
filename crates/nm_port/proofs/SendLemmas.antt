-- What stays and what changes where a cell is taken, filled or emptied, and put into a queue again.
use Rattle.std.proofs.Common.{◌≡◌, ℕ, suc, ◌+◌, ◌<◌, ◌≤◌, Bool, true, false}
use Rattle.std.proofs.Common.{List, [], ◌∷◌, sym, refl, ap, ◌∙◌, subst}
use Rattle.std.proofs.Common.{arith, set, get_or, append-nil, inl, inr, ⊎_elim}
use Rattle.std.proofs.lemmas.List.{set-set, set-get_or}
use native.Mathlib.Decide.{dec_le}
use Rattle.nm_chain.specs.Update.{update}
use Rattle.nm_chain.proofs.UpdateLemmas.{update_else}
use Rattle.nm_chain.specs.declared.table.table.Hand.{Hand}
use Rattle.nm_chain.specs.declared.table.table.Hand.TheVariants.{Away, Held}
use Rattle.nm_chain.specs.declared.table.table.Entry.{Entry}
use Rattle.nm_chain.specs.Rule.{Load, hand, sent_to, fetched}
use Rattle.nm_chain.specs.declared.table.table.Heads.{Heads}
use Rattle.nm_chain.specs.Plays.{InHand, with_hand, heads_of, with_heads, heads_at, with_got, with_put}
use Rattle.nm_chain.specs.Plays.{taken, queue, with_look}
use Rattle.nm_chain.specs.declared.table.table.Look.TheVariants.{Fresh}
use Rattle.nm_chain.specs.declared.table.parcels.Parcel.{Parcel}
use Rattle.nm_cells.specs.declared.cell.Cell.{Cell}
use Rattle.nm_cells.specs.declared.cell.Queue.{Queue}
use Rattle.nm_cells.specs.declared.port.Fabric.{Fabric}
use Rattle.nm_cells.specs.declared.port.Port.{Port}
use Rattle.nm_cells.specs.Ports.{knows, holding, own_of, opens, sent_by, Leaves, Owns}
use Rattle.nm_fastbox.specs.Boxes.{FindsFull}
use Rattle.nm_port.specs.Keeps.{KeepsPort}
use Rattle.nm_port.specs.Sends.{HadMiss, HasNoWay, SendsByCell}
use Rattle.std.specs.Prelude.{Result, Ok, Err, IfOk, IfErr, Some, ⊤}
use Rattle.nm_queue.specs.Moves.{Misses}
use Rattle.nm_queue.specs.declared.moves.Miss.{Miss}
use Rattle.nm_queue.specs.declared.moves.Miss.TheVariants.{HeadEmpty, LinkMissing}
use Rattle.nm_chain.proofs.QueueLemmas.{below_yes, below_no}
use Rattle.nm_chain.specs.OwnQueues.{OwnQueue, receive_queue, free_queue}

module _ {A : Type 0} where
  set_away : (xs : List (Hand A)) (k : ℕ) → get_or xs k Away ≡ Away → set xs k Away ≡ xs
  set_away xs k away = ap (set xs k) (sym away) ∙ set-get_or xs k Away

  -- a cell that was taken from an own queue is in no hand again
  pub cell_cycled : (b : OwnQueue) (e : Entry A) (k shadow : ℕ) (y : Load A) → hand e k ≡ Away
      → with_hand k Away (taken b k y shadow e)
      ≡ with_got (fetched e.ranks (queue e.ranks e.rank b) y)
      (with_look b Fresh (with_heads b (heads_at shadow 0) e))
  cell_cycled receive_queue e k shadow y away =
      λ i. with_got (fetched e.ranks (queue e.ranks e.rank receive_queue) y)
      (record (with_look receive_queue Fresh (with_heads receive_queue (heads_at shadow 0) e)) {
        hands = (set-set e.hands k Held Away ∙ set_away e.hands k away) i;
      })
  cell_cycled free_queue e k shadow y away =
      λ i. with_got (fetched e.ranks (queue e.ranks e.rank free_queue) y)
      (record (with_look free_queue Fresh (with_heads free_queue (heads_at shadow 0) e)) {
        hands = (set-set e.hands k Held Away ∙ set_away e.hands k away) i;
      })

  -- nothing is got from the free queue, and one parcel from the receive queue
  pub none_fetched : (n r : ℕ) (y : Load A) → fetched n (queue n r free_queue) y ≡ []
  none_fetched n r y = below_no (dec_le (suc (n + r)) n) (y ∷ []) [] (λ low. omega arith)

  pub one_fetched : (n r : ℕ) (y : Load A) → r < n → fetched n (queue n r receive_queue) y ≡ y ∷ []
  one_fetched n r y low = below_yes (dec_le (suc r) n) (y ∷ []) [] low

  pub nothing_got : (e : Entry A) → with_got [] e ≡ e
  nothing_got e = λ i. record e { got = append-nil e.got i }

  -- what the cells in hand hold
  abbrev pub SameInHand : Entry A → (ℕ → Load A) → (ℕ → Load A) → Type 0
  SameInHand e old new = (c : ℕ) → InHand (hand e c) → new c ≡ old c

  pub else_same : (e : Entry A) (k : ℕ) (y : Load A) (old now new : ℕ → Load A) → hand e k ≡ Away
      → new ≡ update now k y → SameInHand e old now → SameInHand e old new
  else_same e k y old now new away is same c in_hand = ap (λ f. f c) is
      ∙ update_else now k y c (λ u. subst InHand (ap (hand e) u ∙ away) in_hand) ∙ same c in_hand

  nothing_put : (e : Entry A) → with_put [] e ≡ e
  nothing_put e = λ i. record e { put = append-nil e.put i }

-- A cell of the free queue was filled and put into a receive queue, or one of the receive queue was
-- emptied and sent home
module _ {A : Type 0} (e new : Entry A) (k shadow : ℕ) (y : Load A) (away : hand e k ≡ Away) where
  pub cell_sent : (xs : List (ℕ × Load A))
      → new ≡ with_put xs (with_hand k Away (taken free_queue k y shadow e))
      → new ≡ with_put xs (with_look free_queue Fresh (with_heads free_queue (heads_of free_queue new) e))
  cell_sent xs is = let at : Heads → Entry A = λ u. with_put xs
      (with_look free_queue Fresh (with_heads free_queue u e)) in
      let then = with_look free_queue Fresh (with_heads free_queue (heads_at shadow 0) e) in
      let h : new ≡ at (heads_at shadow 0) =
      is ∙ (λ i. with_put xs (cell_cycled free_queue e k shadow y away i))
      ∙ (λ i. with_put xs (with_got (none_fetched e.ranks e.rank y i) then))
      ∙ (λ i. with_put xs (nothing_got then i)) in h ∙ (λ i. at (heads_of free_queue (sym h i)))

  pub cell_received : (z : Load A) → y ≡ z → e.rank < e.ranks
      → new ≡ with_put [] (with_hand k Away (taken receive_queue k y shadow e))
      → new ≡ with_got (z ∷ []) (with_look receive_queue Fresh (with_heads receive_queue (heads_of receive_queue new) e))
  cell_received z same low is = let at : Heads → Entry A = λ u. with_got (z ∷ [])
      (with_look receive_queue Fresh (with_heads receive_queue u e)) in
      let then = with_look receive_queue Fresh (with_heads receive_queue (heads_at shadow 0) e) in
      let h : new ≡ at (heads_at shadow 0) =
      is ∙ (λ i. with_put [] (cell_cycled receive_queue e k shadow y away i))
      ∙ (λ i. with_put [] (with_got (one_fetched e.ranks e.rank y low i) then))
      ∙ (λ i. with_put [] (with_got (same i ∷ []) then))
      ∙ nothing_put (with_got (z ∷ []) then) in h ∙ (λ i. at (heads_of receive_queue (sym h i)))

module _ {A : Type 0} where
  -- where a queue gave no cell, it had one of two misses
  pub had_miss : (q : Queue) (old new : Port A) (r : Result Cell Miss) (m : Miss) → r ≡ Err m
      → IfErr r (λ why. Misses q why old new)
      → HadMiss (own_of q) (knows old) (knows new) × Leaves old new
  had_miss q old new r m is miss = by m (subst (λ x. IfErr x (λ why. Misses q why old new)) is miss) where
    by : (m : Miss) → Misses q m old new → HadMiss (own_of q) (knows old) (knows new) × Leaves old new
    by HeadEmpty h = (inl h.knows, h.leaves)
    by LinkMissing h = (inr (h.some, h.knows), h.leaves)

-- facts of what a call answered
pub if_ok : {A B : Type 0} {P Q : A → Type 0} (r : Result A B) → ((x : A) → P x → Q x)
    → IfOk r P → IfOk r Q
if_ok (Ok x) f h = f x h
if_ok (Err y) f h = tt

pub if_err : {A B : Type 0} {P Q : B → Type 0} (r : Result A B) → ((y : B) → P y → Q y)
    → IfErr r P → IfErr r Q
if_err (Ok x) f h = tt
if_err (Err y) f h = f y h

module _ {A : Type 0} where
  -- a cell that was in no hand was taken, filled or emptied, and given
  pub cell_same : (e : Entry A) (k : ℕ) (x y z : Load A) (old now then new : ℕ → Load A) → hand e k ≡ Away
      → now ≡ update old k x → then ≡ update now k y → new ≡ update then k z → SameInHand e old new
  cell_same e k x y z old now then new away a b c = else_same e k z old then new away c
      (else_same e k y old now then away b
      (else_same e k x old old now away a (λ c in_hand. refl)))

  -- what two calls keep, one after the other
  pub keeps_on : (f : Fabric A) (i j : Type 0) (old now new : Port A) → (knows now).hands ≡ (knows old).hands
      → (i → j) → KeepsPort f i old now → KeepsPort f j now new → KeepsPort f i old new
  keeps_on f i j old now new hands idle a b = let x = a.few in let y = b.few in record {
    owns = b.owns;
    rank = b.rank ∙ a.rank;
    loose = b.loose ∙ a.loose;
    holds = λ c in_hand. b.holds c (subst (λ l. InHand (get_or l c Away)) (sym hands) in_hand)
        ∙ a.holds c in_hand;
    few = omega arith;
    hands = λ none. b.hands (idle none) ∙ a.hands none;
  }

  -- a call that leaves all in hand as it is
  pub keeps_all : (f : Fabric A) (i : Type 0) (old new : Port A) → Owns f new → new.rank ≡ old.rank
      → new.loose ≡ old.loose → holding new ≡ holding old → new.hands ≡ old.hands → KeepsPort f i old new
  keeps_all f i old new owns rank loose holds hands = record {
    owns = owns;
    rank = rank;
    loose = loose;
    holds = λ c in_hand. ap (λ h. h c) holds;
    few = omega (arith, hands);
    hands = λ _. hands;
  }

  pub keeps_if : (f : Fabric A) (i : Type 0) (old new : Port A) → KeepsPort f ⊤ old new → KeepsPort f i old new
  keeps_if f i old new a = record {
    owns = a.owns;
    rank = a.rank;
    loose = a.loose;
    holds = a.holds;
    few = a.few;
    hands = λ _. a.hands tt;
  }

opens_few : (b : Bool) → opens b ≤ 1
opens_few true = omega arith
opens_few false = omega arith

-- what is in hand once a box that was perhaps at work is not any more
pub box_hands : (hands left : ℕ) (b : Bool) → left + 1 ≡ hands + opens b
    → (left ≤ hands) × (b ≡ false → left ≡ hands)
box_hands hands left b is = let few = opens_few b in (
  omega arith,
  λ no. let one = ap opens no in omega arith,
)

module _ {A : Type 0} where
  -- what a send by cell did, after the next box was found full
  full_sent : (to : ℕ) (old mid : Port A) → FindsFull to old mid → sent_by mid ≡ sent_by old
  full_sent to old mid full = λ n j. ap (λ (e : Entry A). sent_to j e.put_box e.put) full.counted n

  pub cell_after_full : (to : ℕ) (x : Parcel A) (old mid new : Port A) → FindsFull to old mid
      → SendsByCell false to x mid new → SendsByCell true to x old new
  cell_after_full to x old mid new full s = let same = full_sent to old mid full in record {
    put = s.put ∙ (λ i. with_put ((to, Some x) ∷ [])
        (with_look free_queue Fresh (with_heads free_queue (heads_of free_queue (knows new)) (full.counted i))));
    sent = s.sent ∙ (λ i. update (same i) to (same i to + 1));
  }

  pub no_way_after_full : (to : ℕ) (old mid new : Port A) → FindsFull to old mid
      → HasNoWay false to mid new → HasNoWay true to old new
  no_way_after_full to old mid new full s = record {
    sent = s.sent ∙ full_sent to old mid full;
    miss = subst (λ e. HadMiss free_queue e (knows new)) full.counted s.miss;
  }

  -- no parcel was sent where the own free queue had a miss
  pub miss_sent : (e new : Entry A) → HadMiss free_queue e new
      → (i : ℕ) → sent_to i new.put_box new.put ≡ sent_to i e.put_box e.put
  miss_sent e new miss i = ⊎_elim (λ head. ap (λ (x : Entry A). sent_to i x.put_box x.put) head)
      (λ link. ap (λ (x : Entry A). sent_to i x.put_box x.put) link.1) miss
