-- What a parcel that is sent, that comes or that is passed on does to a port's counts.
use Rattle.std.proofs.Common.{◌≡◌, ◌≢◌, ℕ, zero, suc, replicate, ◌+◌, ◌<◌, ◌≤◌, Option}
use Rattle.std.proofs.Common.{Some, None, is_some, Bool, false, List, [], ◌∷◌, ◌++◌, length}
use Rattle.std.proofs.Common.{map, set, sym, refl, ap, ◌∙◌, inl, inr, subst, ⊎_elim, arith}
use Rattle.std.proofs.Common.{length-set, length-append, get_or-set_same}
use Rattle.std.proofs.Common.{get_or-set_other}
use Rattle.std.proofs.lemmas.List.{map-append, length-replicate}
use Rattle.std.specs.Prelude.{slice_index, slice_index_or}
use mathlib.Core.Logic.{dite}
use native.Mathlib.Decide.{ℕ_discrete, dec_le}
use Rattle.nm_chain.specs.declared.table.parcels.Parcel.{Parcel}
use Rattle.nm_chain.specs.Sequence.{Each, Has, Rises, Got}
use Rattle.nm_chain.proofs.SequenceLemmas.{each_along, each_append, rises_append}
use Rattle.nm_chain.proofs.SequenceLemmas.{has_left, has_right}
use Rattle.nm_cells.specs.declared.tallies.Tally.{Tally}
use Rattle.nm_chain.specs.Rule.{Load, put_to, from, number, sender}
use Rattle.nm_cells.specs.Counted.{new_tally, peer_in, not_below, IsOneOf, IsUnpassedOf, CountsOne}
use Rattle.nm_cells.specs.Counted.{Counts, with_peer, one_sent, one_arrived, one_boxed}
use Rattle.nm_cells.specs.Counted.{one_unboxed, one_passed}
use Rattle.nm_chain.proofs.QueueLemmas.{from_append}
use Rattle.nm_cells.proofs.NumberLemmas.{number_small, numbers_small, rises_short}
use Rattle.nm_cells.proofs.NumberLemmas.{not_below_length, not_below_append, not_below_gone}
use Rattle.nm_cells.proofs.NumberLemmas.{not_below_one, one_of_append, one_of_has, one_number}
use Rattle.nm_cells.proofs.NumberLemmas.{put_here, put_other, from_here, from_other}
use Rattle.nm_cells.proofs.NumberLemmas.{got_cell_more}

-- what is counted of one rank changes
pub peers_but : (f : Tally → Tally) (j : ℕ) (peers : List Tally) (P : ℕ → Tally → Type 0) → j < length peers
    → P j (f (peer_in peers j)) → ((i : ℕ) → i ≢ j → P i (peer_in peers i)) → (i : ℕ)
    → P i (peer_in (with_peer f j peers) i)
peers_but f j peers P low here else i = dite (ℕ_discrete i j)
    (λ e. subst (λ k. P k (peer_in (with_peer f j peers) k)) (sym e)
    (subst (P j) (sym (get_or-set_same peers j (f (peer_in peers j)) new_tally low)) here))
    (λ ne. subst (P i) (sym (get_or-set_other peers j i (f (peer_in peers j)) new_tally ne))
    (else i ne))

pub peer_here : (f : Tally → Tally) (j : ℕ) (peers : List Tally) → j < length peers
    → peer_in (with_peer f j peers) j ≡ f (peer_in peers j)
peer_here f j peers low = get_or-set_same peers j (f (peer_in peers j)) new_tally low

pub peer_else : (f : Tally → Tally) (j i : ℕ) (peers : List Tally) → i ≢ j
    → peer_in (with_peer f j peers) i ≡ peer_in peers i
peer_else f j i peers ne = get_or-set_other peers j i (f (peer_in peers j)) new_tally ne

-- a change that leaves one thing of the peer leaves it for all
pub peer_same : {A : Type 0} (g : Tally → A) (f : Tally → Tally) (j : ℕ) (peers : List Tally)
    → j < length peers → ((p : Tally) → g (f p) ≡ g p) → (i : ℕ)
    → g (peer_in (with_peer f j peers) i) ≡ g (peer_in peers i)
peer_same g f j peers low same = peers_but f j peers (λ i p. g p ≡ g (peer_in peers i)) low
    (same (peer_in peers j)) (λ i ne. refl)

pub in_peers : {n : ℕ} (peers : List Tally) → length peers ≡ n → (j : ℕ) → j < n → j < length peers
in_peers peers e j lj = omega arith

pub as_long : {n : ℕ} (peers : List Tally) → length peers ≡ n → (f : Tally → Tally) (j : ℕ)
    → length (with_peer f j peers) ≡ n
as_long peers e f j = length-set peers j (f (peer_in peers j)) ∙ e

module _ {A : Type 0} where
  -- the parcel that is held stays where `taken` does
  pub same_held : (n : ℕ) (got : List (Load A)) (peers : List Tally) (held : Option (Parcel A)) → length peers ≡ n
      → ((p : Parcel A) → held ≡ Some p → IsUnpassedOf n got peers p) → (f : Tally → Tally) (j : ℕ) → j < n
      → ((p : Tally) → (f p).taken ≡ p.taken)
      → (p : Parcel A) → held ≡ Some p → IsUnpassedOf n got (with_peer f j peers) p
  same_held n got peers held count holds f j lj same p is = let h = holds p is in (
    h.0,
    h.1,
    subst (λ t. t ≤ p.seq)
        (sym (peer_same (λ (u : Tally). u.taken) f j peers (in_peers peers count j lj) same p.from)) h.2,
  )

module _ {A : Type 0} (put : List (ℕ × Load A)) (got : List (Load A)) (put_box : List (ℕ × Load A))
    (got_box : List (Load A))
    (full miss : List ℕ) (filling : List Bool) (emptying : List (Option (Load A))) (n : ℕ)
    (peers : List Tally) (held : Option (Parcel A))
    (c : Counts put got put_box got_box full miss filling emptying n peers held) where
  -- the counts are in range
  pub box_put_small : (j : ℕ) → j < n → (peer_in peers j).box_put ≤ (peer_in peers j).sent
  box_put_small j lj = let o = c.each j lj in let a = o.sent in let b = o.box_put in omega arith

  pub unpassed_small : (i : ℕ) → i < n → (peer_in peers i).unpassed ≤ 1152921504606846976
  unpassed_small i li = let o = c.each i li in let xs = map number (from i got) in
      let a = not_below_length (peer_in peers i).taken xs in
      let b = rises_short 1152921504606846976 xs o.rises (numbers_small (from i got)) in
      let e = o.unpassed in omega arith

  -- a parcel is sent by cell
  pub packet_sent : (j : ℕ) (y : Load A) → j < n
      → Counts (put ++ (j, y) ∷ []) got put_box got_box full miss filling emptying n
      (with_peer one_sent j peers) held
  packet_sent j y lj = record {
    count = as_long peers c.count one_sent j;
    fulls = c.fulls;
    misses = c.misses;
    outs = c.outs;
    ins = c.ins;
    each = λ i li. peers_but one_sent j peers (λ i p. i < n
        → CountsOne (put ++ (j, y) ∷ []) got put_box got_box full miss filling emptying i p)
        (in_peers peers c.count j lj)
        (λ li. let o = c.each j li in record {
          sent = let e = ap length (put_here j y put) ∙ length-append (put_to j put) (y ∷ []) in
              let a = o.sent in omega arith;
          box_put = o.box_put;
          box_got = o.box_got;
          box_full = o.box_full;
          box_miss = o.box_miss;
          is_filling = o.is_filling;
          is_emptying = o.is_emptying;
          in_range = o.in_range;
          few = o.few;
          came = o.came;
          passed = o.passed;
          rises = o.rises;
          unpassed = o.unpassed;
        })
        (λ i ne li. let o = c.each i li in record {
          sent = o.sent ∙ ap (λ u. length (put_to i put_box) + length u)
              (sym (put_other i j y put ne));
          box_put = o.box_put;
          box_got = o.box_got;
          box_full = o.box_full;
          box_miss = o.box_miss;
          is_filling = o.is_filling;
          is_emptying = o.is_emptying;
          in_range = o.in_range;
          few = o.few;
          came = o.came;
          passed = o.passed;
          rises = o.rises;
          unpassed = o.unpassed;
        }) i li;
    holds = same_held n got peers held c.count c.holds one_sent j lj (λ p. refl);
  }

  -- a parcel is sent by box
  pub packet_boxed : (j : ℕ) (y : Load A) → j < n
      → Counts put got (put_box ++ (j, y) ∷ []) got_box full miss (set filling j false) emptying n
      (with_peer one_boxed j peers) held
  packet_boxed j y lj = record {
    count = as_long peers c.count one_boxed j;
    fulls = c.fulls;
    misses = c.misses;
    outs = length-set filling j false ∙ c.outs;
    ins = c.ins;
    each = λ i li. peers_but one_boxed j peers (λ i p. i < n
        → CountsOne put got (put_box ++ (j, y) ∷ []) got_box full miss
        (set filling j false) emptying i p) (in_peers peers c.count j lj)
        (λ li. let o = c.each j li in let e = ap length (put_here j y put_box)
        ∙ length-append (put_to j put_box) (y ∷ []) in record {
          sent = let a = o.sent in omega arith;
          box_put = let a = o.box_put in omega arith;
          box_got = o.box_got;
          box_full = o.box_full;
          box_miss = o.box_miss;
          is_filling = sym (get_or-set_same filling j false false (let f = c.outs in omega arith));
          is_emptying = o.is_emptying;
          in_range = o.in_range;
          few = o.few;
          came = o.came;
          passed = o.passed;
          rises = o.rises;
          unpassed = o.unpassed;
        })
        (λ i ne li. let o = c.each i li in record {
          sent = o.sent ∙ ap (λ u. length u + length (put_to i put))
              (sym (put_other i j y put_box ne));
          box_put = o.box_put ∙ ap length (sym (put_other i j y put_box ne));
          box_got = o.box_got;
          box_full = o.box_full;
          box_miss = o.box_miss;
          is_filling = o.is_filling ∙ sym (get_or-set_other filling j i false false ne);
          is_emptying = o.is_emptying;
          in_range = o.in_range;
          few = o.few;
          came = o.came;
          passed = o.passed;
          rises = o.rises;
          unpassed = o.unpassed;
        }) i li;
    holds = same_held n got peers held c.count c.holds one_boxed j lj (λ p. refl);
  }

  -- a parcel came by cell
  pub packet_arrived : (i : ℕ) (y : Load A) → i < n → sender y ≡ suc i
      → ¬ Got (map number (from i got_box)) (map number (from i got)) (number y)
      → Each (λ k. k < number y) (map number (from i got))
      → Counts put (got ++ y ∷ []) put_box got_box full miss filling emptying n
      (with_peer one_arrived i peers) held
  packet_arrived i y li is new above = record {
    count = as_long peers c.count one_arrived i;
    fulls = c.fulls;
    misses = c.misses;
    outs = c.outs;
    ins = c.ins;
    each = λ k lk. peers_but one_arrived i peers (λ k p. k < n
        → CountsOne put (got ++ y ∷ []) put_box got_box full miss filling emptying k p) (in_peers peers c.count i li)
        (λ li. let o = c.each i li in let gb = map number (from i got_box) in
        let xs = map number (from i got) in
        let more : map number (from i (got ++ y ∷ [])) ≡ xs ++ number y ∷ [] =
        ap (map number) (from_here i y got is) ∙ map-append number (from i got) (y ∷ []) in
        let far : (peer_in peers i).taken ≤ number y =
        dite (dec_le (suc (number y)) (peer_in peers i).taken)
        (λ less. absurd (new (o.came (number y) less))) (λ no_less. omega arith) in record {
          sent = o.sent;
          box_put = o.box_put;
          box_got = o.box_got;
          box_full = o.box_full;
          box_miss = o.box_miss;
          is_filling = o.is_filling;
          is_emptying = o.is_emptying;
          in_range = o.in_range;
          few = o.few;
          came = λ k less. got_cell_more i k y (from i got_box) got is (o.came k less);
          passed = o.passed;
          rises = subst Rises (sym more) (rises_append xs (number y) o.rises above);
          unpassed = ap (λ u. u + 1) o.unpassed ∙ sym (ap (not_below (peer_in peers i).taken) more
              ∙ not_below_append (peer_in peers i).taken (number y) xs far);
        })
        (λ k ne lk. let o = c.each k lk in let same = from_other k i y got is ne in record {
          sent = o.sent;
          box_put = o.box_put;
          box_got = o.box_got;
          box_full = o.box_full;
          box_miss = o.box_miss;
          is_filling = o.is_filling;
          is_emptying = o.is_emptying;
          in_range = o.in_range;
          few = o.few;
          came = λ t less. subst (λ u. Got (map number (from k got_box)) (map number u) t)
              (sym same) (o.came t less);
          passed = o.passed;
          rises = subst (λ u. Rises (map number u)) (sym same) o.rises;
          unpassed = o.unpassed ∙ ap (λ u. not_below (peer_in peers k).taken (map number u))
              (sym same);
        }) k lk;
    holds = λ p held_is. let h = same_held n got peers held c.count c.holds one_arrived i li (λ p. refl) p held_is in (
      h.0,
      subst (IsOneOf (Some p)) (sym (from_append p.from got (y ∷ [])))
          (one_of_append (Some p) (from p.from got) (from p.from (y ∷ [])) h.1),
      h.2,
    );
  }

  -- a parcel came by box, and was passed on
  pub packet_unboxed : (i : ℕ) (y : Load A) → i < n → sender y ≡ suc i
      → number y ≡ (peer_in peers i).taken
      → ¬ Got (map number (from i got_box)) (map number (from i got)) (number y)
      → Counts put got put_box (got_box ++ y ∷ []) full miss filling (set emptying i None) n
      (with_peer one_unboxed i peers) held
  packet_unboxed i y li is next new = let here = peer_here one_unboxed i peers (in_peers peers c.count i li) in
      record {
        count = as_long peers c.count one_unboxed i;
        fulls = c.fulls;
        misses = c.misses;
        outs = c.outs;
        ins = length-set emptying i None ∙ c.ins;
        each = λ k lk. peers_but one_unboxed i peers (λ k p. k < n
            → CountsOne put got put_box (got_box ++ y ∷ []) full miss filling (set emptying i None) k p)
            (in_peers peers c.count i li)
            (λ li. let o = c.each i li in let gb = map number (from i got_box) in
            let xs = map number (from i got) in let t : ℕ = (peer_in peers i).taken in
            let more : map number (from i (got_box ++ y ∷ [])) ≡ gb ++ number y ∷ [] =
            ap (map number) (from_here i y got_box is) ∙ map-append number (from i got_box)
            (y ∷ []) in
            let one : t + 1 ≡ suc t = omega arith in record {
              sent = o.sent;
              box_put = o.box_put;
              box_got = let e = ap length (from_here i y got_box is) ∙ length-append (from i got_box)
                  (y ∷ []) in let a = o.box_got in omega arith;
              box_full = o.box_full;
              box_miss = o.box_miss;
              is_filling = o.is_filling;
              is_emptying = ap is_some
                  (sym (get_or-set_same emptying i None None (let f = c.ins in omega arith)));
              in_range = let small = number_small y in let nx = next in omega arith;
              few = let a = o.few in omega arith;
              came = λ k less. subst (λ u. Got u xs k) (sym more) (dite (ℕ_discrete k t)
                  (λ e. inl (has_right gb (number y ∷ []) k (inl (e ∙ sym next))))
                  (λ ne. let wide : k < t + 1 = less in
                  ⊎_elim (λ h. inl (has_left gb (number y ∷ []) k h)) (λ h. inr h)
                  (o.came k (omega arith))));
              passed = subst (Each (λ k. k < t + 1)) (sym more)
                  (each_append (λ k. k < t + 1) gb (number y ∷ [])
                  (each_along (λ k. k < t) (λ k. k < t + 1) (λ k h. omega arith) gb o.passed)
                  ((let nx = next in omega arith), tt));
              rises = o.rises;
              unpassed = o.unpassed
                  ∙ sym (ap (λ u. not_below u xs) one ∙ not_below_gone t xs
                  (λ h. new (inr (subst (λ u. Has u xs) (sym next) h))));
            })
            (λ k ne lk. let o = c.each k lk in let same = from_other k i y got_box is ne in record {
              sent = o.sent;
              box_put = o.box_put;
              box_got = o.box_got ∙ ap length (sym same);
              box_full = o.box_full;
              box_miss = o.box_miss;
              is_filling = o.is_filling;
              is_emptying = o.is_emptying
                  ∙ ap is_some (sym (get_or-set_other emptying i k None None ne));
              in_range = o.in_range;
              few = o.few;
              came = λ t less. subst (λ u. Got (map number u) (map number (from k got)) t) (sym same)
                  (o.came t less);
              passed = subst (λ u. Each (λ t. t < (peer_in peers k).taken) (map number u))
                  (sym same) o.passed;
              rises = o.rises;
              unpassed = o.unpassed;
            }) k lk;
        holds = λ p held_is. let h = c.holds p held_is in (
          h.0,
          h.1,
          dite (ℕ_discrete p.from i)
              (λ e. let was = subst (λ u. (peer_in peers u).taken ≤ p.seq) e h.2 in
              let in_got = subst (λ u. IsOneOf (Some p) (from u got)) e h.1 in
              let other : p.seq ≢ number y =
              λ same. new (inr (subst (λ u. Has u (map number (from i got))) same
              (one_of_has (Some p) (from i got) in_got))) in
              subst (λ u. (peer_in (with_peer one_unboxed i peers) u).taken ≤ p.seq) (sym e)
              (let now : (peer_in (with_peer one_unboxed i peers) i).taken
              ≡ (peer_in peers i).taken + 1 = ap (λ (u : Tally). u.taken) here in omega arith))
              (λ ne. subst (λ (u : Tally). u.taken ≤ p.seq) (sym (peer_else one_unboxed i p.from peers ne))
              h.2),
        );
      }

  -- a parcel that came by cell is passed on
  pub packet_passed : (p : Parcel A) → IsUnpassedOf n got peers p
      → p.seq ≡ (peer_in peers p.from).taken → held ≢ Some p
      → Counts put got put_box got_box full miss filling emptying n
      (with_peer one_passed p.from peers) held
  packet_passed p un next other = let i : ℕ = p.from in let li = un.0 in
      let here = peer_here one_passed i peers (in_peers peers c.count i li) in record {
        count = as_long peers c.count one_passed i;
        fulls = c.fulls;
        misses = c.misses;
        outs = c.outs;
        ins = c.ins;
        each = λ k lk. peers_but one_passed i peers (λ k p. k < n
            → CountsOne put got put_box got_box full miss filling emptying k p) (in_peers peers c.count i li)
            (λ li. let o = c.each i li in let gb = map number (from i got_box) in
            let xs = map number (from i got) in let t : ℕ = (peer_in peers i).taken in
            let there = one_of_has (Some p) (from i got) un.1 in let one : t + 1 ≡ suc t =
            omega arith in record {
              sent = o.sent;
              box_put = o.box_put;
              box_got = o.box_got;
              box_full = o.box_full;
              box_miss = o.box_miss;
              is_filling = o.is_filling;
              is_emptying = o.is_emptying;
              in_range = let small = p.seq_in_range in let nx = next in omega arith;
              few = let a = o.few in omega arith;
              came = λ k less. let wide : k < t + 1 = less in
                  dite (ℕ_discrete k t) (λ e. inr (subst (λ u. Has u xs) (next ∙ sym e) there))
                  (λ ne. o.came k (omega arith));
              passed = each_along (λ k. k < t) (λ k. k < t + 1) (λ k h. omega arith) gb o.passed;
              rises = o.rises;
              unpassed = let gone = not_below_one t xs o.rises (subst (λ u. Has u xs) next there) in
                  let same = ap (λ u. not_below u xs) one in let a = o.unpassed in omega arith;
            })
            (λ k ne lk. c.each k lk) k lk;
        holds = λ q is. let h = c.holds q is in (
          h.0,
          h.1,
          dite (ℕ_discrete q.from i)
              (λ e. let was = subst (λ u. (peer_in peers u).taken ≤ q.seq) e h.2 in
              let in_got = subst (λ u. IsOneOf (Some q) (from u got)) e h.1 in
              let differ : q.seq ≢ p.seq =
              λ same. other (is ∙ one_number (Some q) (Some p) (from i got)
              (c.each i li).rises in_got un.1 same) in
              subst (λ u. (peer_in (with_peer one_passed i peers) u).taken ≤ q.seq) (sym e)
              (let now : (peer_in (with_peer one_passed i peers) i).taken
              ≡ (peer_in peers i).taken + 1 = ap (λ (u : Tally). u.taken) here in let nx = next in
              omega arith))
              (λ ne. subst (λ (u : Tally). u.taken ≤ q.seq) (sym (peer_else one_passed i q.from peers ne))
              h.2),
        );
      }

  -- one is left to pass on
  pub some_unpassed : (p : Parcel A) → IsUnpassedOf n got peers p
      → p.seq ≡ (peer_in peers p.from).taken → 0 < (peer_in peers p.from).unpassed
  some_unpassed p un next = let i : ℕ = p.from in let o = c.each i un.0 in
      let xs = map number (from i got) in let t : ℕ = (peer_in peers i).taken in
      let gone = not_below_one t xs o.rises
      (subst (λ u. Has u xs) next (one_of_has (Some p) (from i got) un.1)) in
      let a = o.unpassed in omega arith

  -- another parcel is held, or none
  pub packet_held : (new : Option (Parcel A))
      → ((p : Parcel A) → new ≡ Some p → IsUnpassedOf n got peers p)
      → Counts put got put_box got_box full miss filling emptying n peers new
  packet_held new is = record {
    count = c.count;
    fulls = c.fulls;
    misses = c.misses;
    outs =
        c.outs;
    ins = c.ins;
    each = c.each;
    holds = is;
  }

-- at the start
zeros : (n i : ℕ) → slice_index (replicate n 0) i ≡ 0
zeros zero i = refl
zeros (suc n) zero = refl
zeros (suc n) (suc i) = zeros n i

pub lids_new : {A : Type 0} (d : A) (n i : ℕ) → slice_index_or (replicate n d) i d ≡ d
lids_new d zero i = refl
lids_new d (suc n) zero = refl
lids_new d (suc n) (suc i) = lids_new d n i

module _ (A : Type 0) where
  abbrev no_put : List (ℕ × Load A)
  no_put = []

  abbrev no_got : List (Load A)
  no_got = []

  pub counts_new : (n : ℕ) → Counts no_put no_got no_put no_got (replicate n 0) (replicate n 0) (replicate n false)
      (replicate n None) n (replicate n new_tally) None
  counts_new n = record {
    count = length-replicate n new_tally;
    fulls = length-replicate n 0;
    misses = length-replicate n 0;
    outs = length-replicate n false;
    ins = length-replicate n None;
    each = λ j lj. subst (CountsOne no_put no_got no_put no_got (replicate n 0) (replicate n 0) (replicate n false)
        (replicate n None) j) (sym (lids_new new_tally n j)) (new_one j);
    holds = λ p is. absurd (let z = is in cc);
  } where
    new_one : (j : ℕ) → CountsOne no_put no_got no_put no_got (replicate n 0) (replicate n 0) (replicate n false)
        (replicate n None) j new_tally
    new_one j = let none : Option (Load A) = None in record {
      sent = refl;
      box_put = refl;
      box_got = refl;
      box_full = sym (zeros n j);
      box_miss = sym (zeros n j);
      is_filling = sym (lids_new false n j);
      is_emptying = ap is_some (sym (lids_new none n j));
      few = omega arith;
      in_range = omega arith;
      came = λ k less. absurd (let l : k < 0 = less in omega arith);
      passed = tt;
      rises = tt;
      unpassed = refl;
    }
