-- What the ports of a fabric counted is what they knew when it was closed.
use Rattle.std.proofs.Common.{Bool, ◌≡◌, ℕ, zero, suc, ◌<◌, List, [], ◌∷◌, ◌++◌, map, length, Some}
use Rattle.std.proofs.Common.{sym, ap, ◌∙◌, subst, arith}
use Rattle.std.proofs.Math.Logic.{∥∥₁_elim}
use Rattle.std.proofs.Props.{props}
use Rattle.std.specs.Prelude.{slice_get, slice_index_or}
use mathlib.Core.Option as maybe
use lib.ListN.{get_elem?}
use Rattle.nm_types.specs.Sizes.{Sizes}
use Rattle.nm_chain.specs.declared.table.parcels.Parcel.{Parcel}
use Rattle.nm_chain.specs.Sequence.{Got, InSequence}
use Rattle.nm_chain.specs.declared.table.table.Entry.{Entry}
use Rattle.nm_chain.specs.Rule.{Rule, World, sender, number, from, put_to, sent_to, loads}
use Rattle.nm_chain.specs.Plays.{AllBelow, no_entry}
use Rattle.nm_cells.specs.declared.tallies.Tally.{Tally}
use Rattle.nm_cells.specs.declared.port.Fabric.{Fabric}
use Rattle.nm_cells.specs.declared.port.Port.{Port}
use Rattle.nm_cells.specs.AtClose.{AllCame, Settled}
use Rattle.nm_cells.specs.Counted.{peer_in}
use Rattle.nm_cells.specs.Ports.{Owns, knows, sent_by, taken_by}
use Rattle.nm_cells.specs.PathLists.{parcels, by_number, Begins, sent_parcels, taken_parcels}
use Rattle.nm_cells.specs.PathLists.{entry_in, peers_in, sent_between, taken_between, Tallied}
use Rattle.nm_cells.proofs.PathListLemmas.{numbers, packets_append, full_numbers, from_numbers}
use Rattle.nm_cells.proofs.PathListLemmas.{all_sent, all_taken, taken_begin}
use Rattle.nm_cells.proofs.PortLemmas.{peer_sent}
use Rattle.nm_cells.proofs.BoxCallLemmas.{all_below}
use Rattle.nm_types.proofs.ListLemmas.{get_some as there, get_map, map_length, no_item}
use Rattle.nm_types.proofs.OptionLemmas.{same_some}
use Rattle.nm_chain.proofs.ListLemmas.{get_mapped}

-- the rank i knew e at the end, and the rank j knew g
module _ {A : Type 0} {boxable : A → Bool} (key : Sizes) (es : List (Entry A)) (home : ℕ)
    (S : Settled boxable key es home) (i j : ℕ)
    (e g : Entry A) (li : i < key.ranks) (lj : j < key.ranks)
    (at_i : get_elem? es i ≡ maybe.some e) (at_j : get_elem? es j ≡ maybe.some g) where
  abbrev R : Rule boxable key S.0
  R = S.1.0

  abbrev w : World A
  w = R.world

  abbrev gb : List (Parcel A)
  gb = parcels (from i g.got_box)

  abbrev bx : List (Parcel A)
  bx = parcels (w.waits i j)

  abbrev gc : List (Parcel A)
  gc = parcels (from i g.got)

  abbrev ch : List (Parcel A)
  ch = parcels (from i (loads (w.chain j)))

  put_is : w.put i ≡ e.put
  put_is = sym (R.knows i li).put ∙ ap (λ (x : Entry A). x.put) (S.1.1 i e at_i)

  put_box_is : w.put_box i ≡ e.put_box
  put_box_is = sym (R.knows i li).put_box ∙ ap (λ (x : Entry A). x.put_box) (S.1.1 i e at_i)

  got_is : w.got j ≡ g.got
  got_is = sym (R.knows j lj).got ∙ ap (λ (x : Entry A). x.got) (S.1.1 j g at_j)

  got_box_is : w.got_box j ≡ g.got_box
  got_box_is = sym (R.knows j lj).got_box ∙ ap (λ (x : Entry A). x.got_box) (S.1.1 j g at_j)

  waits_are : map number (w.waits i j) ≡ numbers bx
  waits_are = sym (full_numbers (w.waits i j) (λ t y at.
      let z : sender y ≡ suc i = ((R.boxes i j li lj).full t y at).0.sent in omega arith))

  turn : InSequence (sent_to j e.put_box e.put) (numbers gb) (numbers bx) (numbers gc) (numbers ch)
  turn = let b = ap (λ l. map number (from i l)) got_box_is ∙ sym (from_numbers i g.got_box) in
      let c = ap (λ l. map number (from i l)) got_is ∙ sym (from_numbers i g.got) in
      let h = sym (from_numbers i (loads (w.chain j))) in
      subst (λ (x : ℕ × List ℕ × List ℕ × List ℕ × List ℕ). InSequence x.0 x.1 x.2 x.3 x.4)
      (λ u. (sent_to j (put_box_is u) (put_is u), b u, waits_are u, c u, h u))
      (R.turns i j li lj)

  by_box : parcels (put_to j e.put_box) ≡ gb ++ bx
  by_box = ap (λ l. parcels (put_to j l)) (sym put_box_is) ∙ ap parcels (R.boxes i j li lj).path
      ∙ packets_append (from i (w.got_box j)) (w.waits i j)
      ∙ ap (λ l. parcels (from i l) ++ bx) got_box_is

  by_cell : parcels (put_to j e.put) ≡ gc ++ ch
  by_cell = ap (λ l. parcels (put_to j l)) (sym put_is) ∙ ap parcels (R.laid.paths i j li lj)
      ∙ packets_append (from i (w.got j)) (from i (loads (w.chain j)))
      ∙ ap (λ l. parcels (from i l) ++ ch) got_is

  sent_are : sent_parcels e j
      ≡ by_number (sent_to j e.put_box e.put) ((gb ++ bx) ++ (gc ++ ch))
  sent_are u = by_number (sent_to j e.put_box e.put) (by_box u ++ by_cell u)

  pub sent_length : length (sent_parcels e j) ≡ sent_to j e.put_box e.put
  sent_length = ap length sent_are ∙ all_sent (sent_to j e.put_box e.put) gb bx gc ch turn

  module _ (n : ℕ) (came : AllBelow g i n) where
    got : (k : ℕ) → k < n → Got (numbers gb) (numbers gc) k
    got k less = subst (λ (x : List ℕ × List ℕ). Got x.0 x.1 k)
        (λ u. (sym (from_numbers i g.got_box) u, sym (from_numbers i g.got) u)) (came k less)

    pub taken_length : length (taken_parcels g n i) ≡ n
    taken_length = all_taken (sent_to j e.put_box e.put) gb bx gc ch turn n got

    pub taken_begins : Begins (taken_parcels g n i) (sent_parcels e j)
    taken_begins = subst (λ l. Begins (taken_parcels g n i) l) (sym sent_are)
        (taken_begin (sent_to j e.put_box e.put) gb bx gc ch turn n got)

index_mapped : {A B : Type 0} (f : A → B) (d : B) (xs : List A) (k : ℕ) (x : A)
    → slice_get xs k ≡ Some x → slice_index_or (map f xs) k d ≡ f x
index_mapped f d [] k x at = absurd (no_item k x at)
index_mapped f d (y ∷ ys) zero x at = ap f (same_some y x at)
index_mapped f d (y ∷ ys) (suc k) x at = index_mapped f d ys k x at

elem_mapped : {A B : Type 0} (f : A → B) (xs : List A) (k : ℕ) (x : A)
    → slice_get xs k ≡ Some x → get_elem? (map f xs) k ≡ maybe.some (f x)
elem_mapped f [] k x at = absurd (no_item k x at)
elem_mapped f (y ∷ ys) zero x at = ap (λ z. maybe.some (f z)) (same_some y x at)
elem_mapped f (y ∷ ys) (suc k) x at = elem_mapped f ys k x at

module _ {A : Type 0} where
  -- what each port counted
  abbrev pub counts_of : List (Port A) → List (List Tally)
  counts_of items = map (λ v. v.items) (map (λ p. p.peers) items)

-- a closed fabric's ports, what they knew, and what they counted
module _ {A : Type 0} {boxable : A → Bool} (f : Fabric A) (items : List (Port A)) (many : length items ≡ f.ranks)
    (ok : (k : ℕ) (p : Port A) → slice_get items k ≡ Some p → Owns f p × (p.rank ≡ k)
    × (p.hands ≡ 0)) (es : List (Entry A)) (ps : List (List Tally)) (home : ℕ)
    (known : es ≡ map knows items) (counted : ps ≡ counts_of items)
    (S : Settled boxable f.board.shared.key es home) where
  port_at : (k : ℕ) → k < f.ranks → (p : Port A) × (slice_get items k ≡ Some p)
  port_at k low = there items k (omega (arith, many, low))

  in_key : (k : ℕ) → k < f.ranks → k < f.board.shared.key.ranks
  in_key k low = subst (λ r. k < r) (sym f.shape.0) low

  in_port : (p : Port A) → Owns f p → (k : ℕ) → k < f.ranks → k < (knows p).ranks
  in_port p own k low = subst (λ r. k < r) (sym own.2) low

  knew : (k : ℕ) (p : Port A) → slice_get items k ≡ Some p
      → get_elem? es k ≡ maybe.some (knows p)
  knew k p at = ap (λ l. get_elem? l k) known ∙ elem_mapped knows items k p at

  entry_is : (k : ℕ) (p : Port A) → slice_get items k ≡ Some p → entry_in es k ≡ knows p
  entry_is k p at = ap (λ l. entry_in l k) known
      ∙ index_mapped knows no_entry items k p at

  peers_are : (k : ℕ) (p : Port A) → slice_get items k ≡ Some p → peers_in ps k ≡ p.peers.items
  peers_are k p at = ap (λ l. peers_in l k) counted
      ∙ index_mapped (λ v. v.items) [] (map (λ q. q.peers) items) k p.peers
      (get_map (λ q. q.peers) items k p at)

  -- the rank i had the port p, and the rank j had the port q
  module _ (i j : ℕ) (li : i < f.ranks) (lj : j < f.ranks) (p q : Port A)
      (at_i : slice_get items i ≡ Some p) (at_j : slice_get items j ≡ Some q) where
    came : AllBelow (knows q) i (taken_by q i)
    came = all_below f q (ok j q at_j).0 i li

    sent_is : length (sent_between es i j) ≡ sent_by p j
    sent_is = ap (λ e. length (sent_parcels e j)) (entry_is i p at_i)
        ∙ sent_length f.board.shared.key es home S i j (knows p) (knows q) (in_key i li)
        (in_key j lj) (knew i p at_i) (knew j q at_j)

    taken_are : taken_between es ps i j ≡ taken_parcels (knows q) (taken_by q i) i
    taken_are u = taken_parcels (entry_is j q at_j u) (peer_in (peers_are j q at_j u) i).taken i

    taken_is : length (taken_between es ps i j) ≡ taken_by q i
    taken_is = ap length taken_are
        ∙ taken_length f.board.shared.key es home S i j (knows p) (knows q) (in_key i li)
        (in_key j lj) (knew i p at_i) (knew j q at_j) (taken_by q i) came

    begins : Begins (taken_between es ps i j) (sent_between es i j)
    begins = subst (λ (x : List (Parcel A) × List (Parcel A)). Begins x.0 x.1)
        (λ u. (sym taken_are u, sent_parcels (sym (entry_is i p at_i) u) j))
        (taken_begins f.board.shared.key es home S i j (knows p) (knows q) (in_key i li)
        (in_key j lj) (knew i p at_i) (knew j q at_j) (taken_by q i) came)

  -- all ranks are known
  pub ranks_are : length es ≡ f.ranks
  ranks_are = ap length known ∙ map_length knows items ∙ many

  wide : (p : Port A) → Owns f p → length p.peers.items ≡ f.ranks
  wide p own = ∥∥₁_elim p.counts (search props) (λ c. c.count) ∙ own.2

  tallied_all : Tallied es ps f.ranks
  tallied_all = record {
    ranks = ap length counted ∙ map_length (λ v. v.items) (map (λ p. p.peers) items)
        ∙ map_length (λ p. p.peers) items ∙ many;
    wide = λ i li. let p = port_at i li in
        ap length (peers_are i p.0 p.1) ∙ wide p.0 (ok i p.0 p.1).0;
    sent = λ i j li lj. let p = port_at i li in let q = port_at j lj in
        ap (λ x. (peer_in x j).sent) (peers_are i p.0 p.1)
        ∙ peer_sent p.0 j (in_port p.0 (ok i p.0 p.1).0 j lj)
        ∙ sym (sent_is i j li lj p.0 q.0 p.1 q.1);
    taken = λ i j li lj. let p = port_at i li in let q = port_at j lj in
        ap (λ x. (peer_in x i).taken) (peers_are j q.0 q.1)
        ∙ sym (taken_is i j li lj p.0 q.0 p.1 q.1);
  }

  pub tallied : Tallied es ps (length es)
  tallied = subst (λ n. Tallied es ps n) (sym ranks_are) tallied_all

  pub prefix : (i j : ℕ) → i < f.ranks → j < f.ranks
      → Begins (taken_between es ps i j) (sent_between es i j)
  prefix i j li lj = let p = port_at i li in let q = port_at j lj in
      begins i j li lj p.0 q.0 p.1 q.1

  pub counts : (k j : ℕ) (p : Port A) → slice_get items k ≡ Some p → j < f.ranks
      → (length (sent_between es k j) ≡ sent_by p j)
      × (length (taken_between es ps j k) ≡ taken_by p j)
  counts k j p at low = let q = port_at j low in
      let own : k < f.ranks = subst (λ r. r < f.ranks) (ok k p at).1 (ok k p at).0.1 in
      (sent_is k j own low p q.0 at q.1, taken_is j k low own q.0 p q.1 at)

  -- where as many were passed on as were sent, all came
  pub all_came : ((i j : ℕ) → i < f.ranks → j < f.ranks
      → length (taken_between es ps i j) ≡ length (sent_between es i j)) → AllCame f.ranks es
  all_came even i j e g li lj at_i at_j =
      let p = get_mapped knows items i e (subst (λ l. get_elem? l i ≡ maybe.some e) known at_i) in
      let q = get_mapped knows items j g (subst (λ l. get_elem? l j ≡ maybe.some g) known at_j) in
      let same : taken_by q.0 i ≡ sent_by p.0 j = sym (taken_is i j li lj p.0 q.0 p.1 q.1)
      ∙ even i j li lj ∙ sent_is i j li lj p.0 q.0 p.1 q.1 in
      subst (λ (x : Entry A × Entry A). AllBelow x.1 i (sent_to j x.0.put_box x.0.put))
      (λ u. (p.2 u, q.2 u))
      (subst (AllBelow (knows q.0) i) same (all_below f q.0 (ok j q.0 q.1).0 i li))

-- an item that was read is the one at its place
pub row_at : {A B : Type 0} (g : A → B) (rows : List A) (i : ℕ) (row : A) (d : B) → i < length rows
    → row ≡ slice_index_or rows i row → slice_index_or (map g rows) i d ≡ g row
row_at g [] i row d low read = absurd (omega arith)
row_at g (x ∷ xs) zero row d low read = ap g (sym read)
row_at g (x ∷ xs) (suc i) row d low read = row_at g xs i row d (omega arith) read
