-- What a rank knows of its own queues after a change of their heads, looks or misses.
use Rattle.std.proofs.Common.{◌≡◌, ◌≢◌, ℕ, suc, ◌+◌, ◌*◌, ◌/◌, map, ◌<◌, List, [], ◌∷◌}
use Rattle.std.proofs.Common.{sym, refl, ap, ◌∙◌, subst, arith, ⊎_elim}
use native.Mathlib.Decide.{ℕ_discrete}
use Rattle.nm_chain.proofs.UpdateLemmas.{pick_yes, update_here, update_else}
use Rattle.nm_chain.specs.Update.{update}
use Rattle.nm_chain.specs.Chain.{Begins, Item, queued}
use Rattle.nm_chain.specs.Sequence.{Each, Got, InSequence}
use Rattle.nm_chain.proofs.SequenceLemmas.{next_by_cell_is_new}
use Rattle.nm_chain.specs.declared.table.table.Hand.TheVariants.{Away, Loose, Held, Ready, Entering}
use Rattle.nm_chain.specs.declared.table.table.Hand.{Hand}
use Rattle.nm_chain.specs.declared.table.table.Heads.{Heads}
use Rattle.nm_chain.specs.declared.table.table.Misses.{Misses}
use Rattle.nm_chain.specs.declared.table.table.Entry.{Entry}
use Rattle.nm_chain.specs.Rule.{AllInSequence, Chain, Agrees, Load, Place}
use Rattle.nm_chain.specs.Rule.{Shows, Suits, World, from, loads}
use Rattle.nm_chain.specs.Rule.{number, sender, sent_to}
use Rattle.nm_chain.specs.Rule.{LooksHold, tail}
use Rattle.nm_chain.specs.declared.table.table.Look.{Look}
use Rattle.nm_chain.specs.declared.table.table.Look.TheVariants.{Fresh, LinkEmpty, TailElsewhere}
use Rattle.nm_chain.specs.Looks.{link_empty, look_in, StillTold}
use Rattle.nm_chain.specs.OwnQueues.{OwnQueue, receive_queue, free_queue}
use Rattle.nm_chain.specs.Plays as plays
use Rattle.nm_chain.proofs.BoxLemmas.{owner_below}

module _ (n r : ℕ) (low : r < n) (ends : ℕ → Heads) (x : Heads) where
  pub receive_of : {A : Type 0} (b : OwnQueue) (e : Entry A) → e.receive ≡ ends r
      → (plays.with_heads b x e).receive ≡ update ends (plays.queue n r b) x r
  receive_of receive_queue e k = sym (update_here ends r x r refl)
  receive_of free_queue e k = k ∙ sym (update_else ends (n + r) x r (λ z. omega arith))

  pub free_of : {A : Type 0} (b : OwnQueue) (e : Entry A) → e.free ≡ ends (n + r)
      → (plays.with_heads b x e).free ≡ update ends (plays.queue n r b) x (n + r)
  free_of receive_queue e k = k ∙ sym (update_else ends r x (n + r) (λ z. omega arith))
  free_of free_queue e k = sym (update_here ends (n + r) x (n + r) refl)

  pub other_receive : (b : OwnQueue) (t : ℕ) → t < n → t ≢ r → update ends (plays.queue n r b) x t ≡ ends t
  other_receive receive_queue t few ne = update_else ends r x t ne
  other_receive free_queue t few ne = update_else ends (n + r) x t (λ z. omega arith)

  pub other_free : (b : OwnQueue) (t : ℕ) → t < n → t ≢ r → update ends (plays.queue n r b) x (n + t) ≡ ends
      (n + t)
  other_free receive_queue t few ne = update_else ends r x (n + t) (λ z. omega arith)
  other_free free_queue t few ne = update_else ends (n + r) x (n + t) (λ z. ne (omega arith))

  pub fits_in : (b : OwnQueue) → plays.queue n r b < 2 * n
  fits_in receive_queue = omega arith
  fits_in free_queue = omega arith

  pub own_or : (b : OwnQueue) (t : ℕ) → t < n → t ≢ r → t ≢ plays.queue n r b
  own_or receive_queue t few ne z = ne z
  own_or free_queue t few ne z = omega arith

  pub own_or_free : (b : OwnQueue) (t : ℕ) → t < n → t ≢ r → n + t ≢ plays.queue n r b
  own_or_free receive_queue t few ne z = omega arith
  own_or_free free_queue t few ne z = ne (omega arith)

  pub own_in : (b : OwnQueue) → plays.queue n r b < n → plays.queue n r b ≡ r
  own_in receive_queue h = refl
  own_in free_queue h = absurd (omega arith)

module _ {A : Type 0} where
  -- changes of the entry that leave its other parts alone
  pub same_rank : (b : OwnQueue) (x : Heads) (e : Entry A) → ((plays.with_heads b x e).rank ≡ e.rank)
      × ((plays.with_heads b x e).ranks ≡ e.ranks) × ((plays.with_heads b x e).hands ≡ e.hands)
      × ((plays.with_heads b x e).put ≡ e.put) × ((plays.with_heads b x e).got ≡ e.got)
      × ((plays.with_heads b x e).each ≡ e.each)
  same_rank receive_queue x e = (refl, refl, refl, refl, refl, refl)
  same_rank free_queue x e = (refl, refl, refl, refl, refl, refl)

  pub same_boxes : (b : OwnQueue) (x : Heads) (e : Entry A) → ((plays.with_heads b x e).put_box ≡ e.put_box)
      × ((plays.with_heads b x e).got_box ≡ e.got_box) × ((plays.with_heads b x e).filling ≡ e.filling)
      × ((plays.with_heads b x e).emptying ≡ e.emptying)
  same_boxes receive_queue x e = (refl, refl, refl, refl)
  same_boxes free_queue x e = (refl, refl, refl, refl)

  -- the rule speaks of looks beside what a rank knows
  pub knows_look : (n m r : ℕ) (b : OwnQueue) (l : Look) (w : World A) (e : Entry A)
      → Agrees n m w r e → Agrees n m w r (plays.with_look b l e)
  knows_look n m r b l w e k = record {
    rank = k.rank;
    ranks = k.ranks;
    per = k.per;
    long = k.long;
    hands = k.hands;
    receive = k.receive;
    free = k.free;
    put = k.put;
    got = k.got;
    put_box = k.put_box;
    got_box = k.got_box;
    outs = k.outs;
    ins = k.ins;
    filling = k.filling;
    emptying = k.emptying;
  }

-- a link that was loaded as 0 tells nothing of the tail
pub empty_here : (l : Look) → link_empty l ≢ TailElsewhere
empty_here Fresh z = let z' : LinkEmpty 0 ≡ TailElsewhere = z in cc
empty_here (LinkEmpty k) z = let z' : LinkEmpty (suc k) ≡ TailElsewhere = z in cc
empty_here TailElsewhere z = let z' : LinkEmpty 0 ≡ TailElsewhere = z in cc

module _ {A : Type 0} where
  -- a queue whose head has a cell has no shadow head
  pub no_shadow : (place : ℕ → Place A) (q hd shadow : ℕ) (xs : Chain A) → Begins place q hd shadow xs
      → 0 < hd → shadow ≡ 0
  no_shadow place q hd shadow [] b some = b.0
  no_shadow place q hd shadow (x ∷ xs) b some = ⊎_elim (λ t. let z = t.1 in absurd (omega arith))
      (⊎_elim (λ t. t.0) (λ t. t.0)) b

module _ {A : Type 0} (n : ℕ) (words : List ℕ) (r : ℕ) (e : Entry A) where
  -- what was told, by queue
  pub told_of : LooksHold n words r e → (b : OwnQueue) → StillTold (look_in b e.looks)
      (plays.heads_of b e).shadow (tail n words (plays.queue n r b))
  told_of t receive_queue = t.0
  told_of t free_queue = t.1

  -- the same shadow head
  pub told_seen : (b : OwnQueue) (seen : ℕ) → LooksHold n words r e → LooksHold n words r
      (plays.with_heads b (plays.heads_at (plays.heads_of b e).shadow seen) e)
  told_seen receive_queue seen t = t
  told_seen free_queue seen t = t

  -- another head, where the tail wasn't found elsewhere
  pub told_heads : (b : OwnQueue) (x : Heads) → look_in b e.looks ≢ TailElsewhere → LooksHold n words r e
      → LooksHold n words r (plays.with_heads b x e)
  told_heads receive_queue x ne t = ((λ z. absurd (ne z)), t.1)
  told_heads free_queue x ne t = (t.0, (λ z. absurd (ne z)))

  -- something else was told than of the tail
  pub told_link : (b : OwnQueue) (l : Look) → l ≢ TailElsewhere → LooksHold n words r e
      → LooksHold n words r (plays.with_look b l e)
  told_link receive_queue l ne t = ((λ z. absurd (ne z)), t.1)
  told_link free_queue l ne t = (t.0, (λ z. absurd (ne z)))

  -- the tail was found elsewhere
  pub told_tail : (b : OwnQueue) → 0 < (plays.heads_of b e).shadow
      → tail n words (plays.queue n r b) ≢ (plays.heads_of b e).shadow → LooksHold n words r e
      → LooksHold n words r (plays.with_look b TailElsewhere e)
  told_tail receive_queue some ne t = ((λ _. (some, ne)), t.1)
  told_tail free_queue some ne t = (t.0, (λ _. (some, ne)))

  -- a cell was taken, and nothing was told of the next one
  pub told_taken : (words' : List ℕ) (b : OwnQueue) (c : ℕ) (y : Load A) (shadow : ℕ) → r < n
      → ((k : ℕ) → k < 2 * n → k ≢ plays.queue n r b → tail n words' k ≡ tail n words k)
      → LooksHold n words r e → LooksHold n words' r (plays.taken b c y shadow e)
  told_taken words' receive_queue c y shadow low same t = (
    (λ z. absurd (let z' : Fresh ≡ TailElsewhere = z in cc)),
    (λ l. let o = t.1 l in (o.0, (λ z. o.1 (sym (same (n + r) (omega arith) (λ u. omega arith)) ∙ z)))),
  )
  told_taken words' free_queue c y shadow low same t = (
    (λ l. let o = t.0 l in (o.0, (λ z. o.1 (sym (same r (omega arith) (λ u. omega arith)) ∙ z)))),
    (λ z. absurd (let z' : Fresh ≡ TailElsewhere = z in cc)),
  )

module _ {A : Type 0} where
  -- the counts of misses are the port's own matter
  pub knows_missed : (n m r : ℕ) (b : OwnQueue) (f : Misses → Misses) (w : World A) (e : Entry A)
      → Agrees n m w r e → Agrees n m w r (plays.with_missed b f e)
  knows_missed n m r b f w e k = record {
    rank = k.rank;
    ranks = k.ranks;
    per = k.per;
    long = k.long;
    hands = k.hands;
    receive = k.receive;
    free = k.free;
    put = k.put;
    got = k.got;
    put_box = k.put_box;
    got_box = k.got_box;
    outs = k.outs;
    ins = k.ins;
    filling = k.filling;
    emptying = k.emptying;
  }

  pub knows_end : (n m : ℕ) (w : World A) (r : ℕ) (e : Entry A) → Agrees n m w r e → (b : OwnQueue)
      → plays.heads_of b e ≡ w.heads (plays.queue n r b)
  knows_end n m w r e k receive_queue = k.receive
  knows_end n m w r e k free_queue = k.free

  -- a cell in a queue is in no hand
  pub away_in_queue : (r q : ℕ) (p : Place A) (h : Hand A) → p ≡ queued q → Shows r p h → h ≡ Away
  away_in_queue r q p Away is s = refl
  away_in_queue r q p Loose is s = let z = sym is ∙ s in cc
  away_in_queue r q p Held is s = let z = sym is ∙ s in cc
  away_in_queue r q p (Ready y) is s = let z = sym is ∙ s in cc
  away_in_queue r q p (Entering t u) is s = let z = sym is ∙ s in cc

  -- the first cell of a receive queue holds a new parcel
  pub news : (n m : ℕ) (w : World A) (e : Entry A) → e.rank < n → Agrees n m w e.rank e → AllInSequence n w
      → (b : OwnQueue) (x : Item (Load A)) (xs : Chain A) → x.cell < n * m
      → w.chain (plays.queue n e.rank b) ≡ x ∷ xs → Suits n m (plays.queue n e.rank b) x
      → plays.HoldsNews b x.cell e x.load
  news n m w e low k t free_queue x xs few is su = tt
  news n m w e low k t receive_queue x xs few is su = let i : ℕ = x.cell / m in let y = x.load in
      let fl = owner_below n m x.cell few in
      let one : from i (loads (w.chain e.rank)) ≡ y ∷ from i (loads xs) =
      ap (λ u. from i (loads u)) is ∙ pick_yes (y ∷ from i (loads xs)) (from i (loads xs))
      (su.0 low) (ℕ_discrete (sender y) (suc i)) in
      let new = next_by_cell_is_new (sent_to e.rank (w.put_box i) (w.put i)) (number y)
      (map number (from i (w.got_box e.rank))) (map number (w.waits i e.rank))
      (map number (from i (w.got e.rank))) (map number (from i (loads xs)))
      (subst (λ u. InSequence (sent_to e.rank (w.put_box i) (w.put i))
      (map number (from i (w.got_box e.rank))) (map number (w.waits i e.rank))
      (map number (from i (w.got e.rank))) (map number u)) one (t i e.rank fl low)) in
      let as_known : plays.IsNews e i (number y) =
      subst (λ g. (¬ Got (map number (from i e.got_box)) (map number (from i g)) (number y))
      × Each (λ j. j < number y) (map number (from i g))) (sym k.got)
      (subst (λ g. (¬ Got (map number (from i g)) (map number (from i (w.got e.rank))) (number y))
      × Each (λ j. j < number y) (map number (from i (w.got e.rank)))) (sym k.got_box) new) in
      subst (λ u. plays.IsNews e (x.cell / u) (number y)) (sym k.per) as_known
