-- What each kind of step may tell its seat.
use Rattle.std.proofs.Common.{◌≡◌, ℕ, ◌*◌, ◌%◌, ◌<◌, true, false, Some}
use Rattle.std.proofs.Common.{None, List, [], ◌∷◌, length, set, sym, refl, ap, ◌∙◌, subst}
use Rattle.std.proofs.Common.{arith, length-set}
use Rattle.std.proofs.lemmas.Nat.{mod_below}
use Rattle.std.proofs.lemmas.List.{set-get_or}
use Rattle.std.specs.Prelude.{slice_index}
use mathlib.Core.Option as maybe
use mathlib.Core.Logic.{dite}
use native.Mathlib.Decide.{ℕ_discrete}
use lib.ListN.{get_elem?}
use Rattle.atomic_table.specs.Table.{State, step, keeps, takes, gives, rest, Allows}
use Rattle.nm_chain.specs.declared.seats.views.View.{View}
use Rattle.nm_chain.specs.Spoken.{view}
use Rattle.nm_chain.proofs.UpdateLemmas.{pick_yes, pick_no}
use Rattle.nm_types.specs.declared.packets.Piece.{Piece}
use Rattle.nm_copyring.specs.declared.table.Work.{Work}
use Rattle.nm_copyring.specs.declared.table.Work.TheVariants.{Idle, Filling, Emptying}
use Rattle.nm_copyring.specs.declared.table.Look.TheVariants.{Free, Full}
use Rattle.nm_copyring.specs.declared.table.Lane.{Lane}
use Rattle.nm_copyring.specs.declared.table.Entry.{Entry}
use Rattle.nm_copyring.specs.Rule.{Load, lane, is_filling, emptying, Ring, Knows, Rule}
use Rattle.nm_copyring.specs.Plays as plays
use Rattle.nm_copyring.specs.Plays.{Knowing, with_work, with_look, with_lane, one_pushed, one_pulled, one_full}
use Rattle.nm_copyring.specs.Plays.{one_empty, next_out, next_in, IsOne}
use Rattle.nm_copyring.proofs.ListLemmas.{one_place, place_low}
use Rattle.nm_copyring.proofs.RingLemmas.{lane_else}
use Rattle.nm_copyring.proofs.RingLemmas.{free_is_home, sender_opens, sender_fills}
use Rattle.nm_copyring.proofs.RingLemmas.{receiver_opens, receiver_empties}
use Rattle.nm_copyring.proofs.StepLemmas.{lane_keeps, ring_to, ring_of, only_counts}
use Rattle.nm_copyring.proofs.StepLemmas.{holds_same, mine_holds, sender_steps, receiver_steps}

small : (k : ℕ) → k % 4 < 4
small k = mod_below k 4 (omega arith)

filling_is : (t u : ℕ) → Filling t ≡ Filling u → t ≡ u
filling_is t u e = cc

emptying_is : (t u : ℕ) (p q : Piece) → Emptying t p ≡ Emptying u q → (t ≡ u) × (p ≡ q)
emptying_is t u p q e = (cc, cc)

free_is : (t u : ℕ) → Free t ≡ Free u → t ≡ u
free_is t u e = cc

full_is : (t u : ℕ) → Full t ≡ Full u → t ≡ u
full_is t u e = cc

free_full : (t u : ℕ) → Free t ≡ Full u → ⊥
free_full t u e = cc

-- what is in the slot that was taken last
front : List (ℕ × Load) → Load
front [] = None
front (x ∷ xs) = x.1

pub same_front : (w : ℕ) (y z : Load) (hs is : List (ℕ × Load)) → (w, y) ∷ hs ≡ (w, z) ∷ is
    → (y ≡ z) × (hs ≡ is)
unfolding front
same_front w y z hs is e = (ap front e, ap rest e)

some_is : (p q : Piece) → Some p ≡ Some q → p ≡ q
some_is p q e = cc

-- what is known twice of the slot that was taken last
pub same_piece : (w : ℕ) (p q : Piece) {hs is js : List (ℕ × Load)} → hs ≡ (w, Some p) ∷ is
    → hs ≡ (w, Some q) ∷ js → p ≡ q
same_piece w p q {hs} {is} {js} a b =
    some_is p q (same_front w (Some p) (Some q) is js (sym a ∙ b)).0

module _ (slots id : ℕ) (e : Entry) (low : e.rank < e.ranks) (wide : length e.lanes ≡ e.ranks)
    (deep : slots ≡ 4 * (e.ranks * e.ranks)) (peer : ℕ) (few : peer < e.ranks) where
  abbrev n : ℕ
  n = e.ranks

  in_lanes : peer < length e.lanes
  in_lanes = subst (λ k. peer < k) (sym wide) few

  abbrev here : List (ℕ × Load) → Knowing
  here hs = (view (e ∷ []), hs)

  abbrev out_at : ℕ
  out_at = next_out e peer

  abbrev in_at : ℕ
  in_at = next_in e peer

  known : (w : Work) → Knows n e.rank (with_work w e)
  known w = (refl, refl, wide)

  known_lane : (f : Lane → Lane) (w : Work) → Knows n e.rank (with_lane f peer (with_work w e))
  known_lane f w = (refl, refl, length-set e.lanes peer (f (lane e peer)) ∙ wide)

  counts_known : (f : Lane → Lane) → Knows n e.rank (with_lane f peer e)
  counts_known f = (refl, refl, length-set e.lanes peer (f (lane e peer)) ∙ wide)

  -- the rank is at work on no place, or on none of another peer
  idle_out : e.work ≡ Idle → (l : ℕ) → is_filling e.work l ≡ false
  idle_out idle l = ap (λ w. is_filling w l) idle

  idle_in : e.work ≡ Idle → (l : ℕ) → emptying e.work l ≡ None
  idle_in idle l = ap (λ w. emptying w l) idle

  -- a next place is the peer's alone
  only_out : (j : ℕ) → j < n → out_at ≡ next_out e j → peer ≡ j
  only_out j lj same = (one_place n e.rank peer (length (lane e peer).pushed % 4) e.rank j
      (length (lane e j).pushed % 4) few lj (small (length (lane e peer).pushed))
      (small (length (lane e j).pushed)) same).1

  only_in : (i : ℕ) → i < n → in_at ≡ next_in e i → peer ≡ i
  only_in i li same = (one_place n peer e.rank (length (lane e peer).pulled % 4) i e.rank
      (length (lane e i).pulled % 4) low low (small (length (lane e peer).pulled))
      (small (length (lane e i).pulled)) same).0

  module _ (s : State Load (View Entry)) (R : Rule n s)
      (at : get_elem? s.views id ≡ maybe.some (view (e ∷ []))) (w : ℕ) where
    abbrev Counted : Entry → Type 0
    Counted f = Rule n record {
      words = set s.words w (slice_index s.words w);
      homes = s.homes;
      views = set s.views id (view (f ∷ []));
    }

    -- a load that finds the place full, or empty, and changes a count alone
    full_counted : Counted (with_lane one_full peer e)
    full_counted = only_counts slots id e low wide deep s R at (with_lane one_full peer e) w
        (counts_known one_full)
        (λ l. (refl, lane_keeps e peer in_lanes one_full (λ (x : Lane). x.pushed) (λ x. refl) l))
        (λ l. (refl, lane_keeps e peer in_lanes one_full (λ (x : Lane). x.pulled) (λ x. refl) l))
        (holds_same slots id e low wide deep s R at (with_lane one_full peer e) refl refl
        (lane_keeps e peer in_lanes one_full (λ (x : Lane). x.pushed) (λ x. refl))
        (lane_keeps e peer in_lanes one_full (λ (x : Lane). x.pulled) (λ x. refl)))

    empty_counted : Counted (with_lane one_empty peer e)
    empty_counted = only_counts slots id e low wide deep s R at (with_lane one_empty peer e) w
        (counts_known one_empty)
        (λ l. (refl, lane_keeps e peer in_lanes one_empty (λ (x : Lane). x.pushed) (λ x. refl) l))
        (λ l. (refl, lane_keeps e peer in_lanes one_empty (λ (x : Lane). x.pulled) (λ x. refl) l))
        (holds_same slots id e low wide deep s R at (with_lane one_empty peer e) refl refl
        (lane_keeps e peer in_lanes one_empty (λ (x : Lane). x.pushed) (λ x. refl))
        (lane_keeps e peer in_lanes one_empty (λ (x : Lane). x.pulled) (λ x. refl)))

    -- a load that finds the place free, or full, and notes it
    free_noted : slice_index s.words out_at ≡ 0 → Counted (with_look (Free peer) e)
    free_noted zeroed = only_counts slots id e low wide deep s R at (with_look (Free peer) e) w (refl, refl, wide)
        (λ l. (refl, refl)) (λ l. (refl, refl))
        (λ j lj. (
          (λ is. subst (λ u. slice_index s.words (next_out e u) ≡ 0) (free_is peer j is) zeroed),
          (λ is. absurd (free_full peer j is)),
        ))

    full_noted : 0 < slice_index s.words in_at → Counted (with_look (Full peer) e)
    full_noted full = only_counts slots id e low wide deep s R at (with_look (Full peer) e) w (refl, refl, wide)
        (λ l. (refl, refl)) (λ l. (refl, refl))
        (λ i li. (
          (λ is. absurd (free_full i peer (sym is))),
          (λ is. subst (λ u. 0 < slice_index s.words (next_in e u)) (full_is peer i is) full),
        ))

    -- where the rank found the place free, or full, it is so
    still_free : (j : ℕ) → peer ≡ j → e.look ≡ Free j → slice_index s.words out_at ≡ 0
    still_free j same found = (mine_holds slots id e low wide deep s R at peer few).0
        (found ∙ ap (λ u. Free u) (sym same))

    still_full : (i : ℕ) → peer ≡ i → e.look ≡ Full i → 0 < slice_index s.words in_at
    still_full i same found = (mine_holds slots id e low wide deep s R at peer few).1
        (found ∙ ap (λ u. Full u) (sym same))

  module _ (hs : List (ℕ × Load)) where
    -- a load of the flag of the next place for the peer
    look_out_kept : e.work ≡ Idle
        → Allows (Rule n) slots id (here hs) out_at (λ u. u)
        (plays.looked_out (step slots out_at 0 0 maybe.none) (here hs))
    look_out_kept idle s R long at small_word = dite (ℕ_discrete (slice_index s.words out_at) 0)
        (λ zeroed. let k : ℕ = length (lane e peer).pushed % 4 in
        let g = ring_to slots id e low wide deep s R at peer few in
        let lk = small (length (lane e peer).pushed) in
        let inside : out_at < length s.homes =
        (let l = place_low n e.rank peer k low few lk in omega arith) in (
          view (with_work (Filling peer) e ∷ []),
          takes out_at None,
          free_is_home n s.words s.homes e.rank peer e (R.ledger peer) g (idle_out idle peer) zeroed,
          sender_steps slots id e low wide deep s R at peer k (slice_index s.words out_at)
              maybe.none few lk (with_work (Filling peer) e) (known (Filling peer))
              (λ l ne. (
                pick_no true false (λ x. ne (sym x)) (ℕ_discrete peer l)
                    ∙ sym (idle_out idle l),
                refl,
              ))
              (λ l. (sym (idle_in idle l), refl)) refl (λ some. some)
              (subst (λ ws. Ring n ws (set s.homes out_at maybe.none) e.rank peer
              (with_work (Filling peer) e) (R.ledger peer)) (sym (set-get_or s.words out_at 0))
              (sender_opens n s.words s.homes e.rank peer e (R.ledger peer) g (idle_out idle peer)
              zeroed inside)),
          λ j lj same. (
            (λ _. ap (λ u. here_after u) (only_out j lj same)),
            (λ pos. absurd (omega arith)),
            (λ _. zeroed),
          ),
        ))
        (λ full. (
          view (with_lane one_full peer e ∷ []),
          keeps,
          tt,
          full_counted s R at out_at,
          λ j lj same. (
            (λ zeroed. absurd (full zeroed)),
            (λ _. ap (λ u. (view (with_lane one_full u e ∷ []), hs)) (only_out j lj same)),
            (λ found. still_free s R at out_at j (only_out j lj same) found),
          ),
        )) where
          here_after : ℕ → Knowing
          here_after u = (view (with_work (Filling u) e ∷ []), (out_at, None) ∷ hs)

    -- a load of the flag of the next place of the peer
    look_in_kept : e.work ≡ Idle
        → Allows (Rule n) slots id (here hs) in_at (λ u. u)
        (plays.looked_in (step slots in_at 0 0 maybe.none) (here hs))
    look_in_kept idle s R long at small_word = dite (ℕ_discrete (slice_index s.words in_at) 0)
        (λ zeroed. (
          view (with_lane one_empty peer e ∷ []),
          keeps,
          tt,
          empty_counted s R at in_at,
          λ i li same. (
            (λ _. ap (λ u. (view (with_lane one_empty u e ∷ []), hs)) (only_in i li same)),
            (λ pos. absurd (omega arith)),
            (λ found. still_full s R at in_at i (only_in i li same) found),
          ),
        ))
        (λ full. let k : ℕ = length (lane e peer).pulled % 4 in
        let g = ring_of slots id e low wide deep s R at peer few in
        let lk = small (length (lane e peer).pulled) in
        let inside : in_at < length s.homes =
        (let l = place_low n peer e.rank k few low lk in omega arith) in
        let some : 0 < slice_index s.words in_at = omega arith in
        let found = receiver_opens n s.words s.homes peer e.rank (R.ledger peer) e g (idle_in idle peer)
        some inside in let q = found.0 in (
          view (with_work (Emptying peer q) e ∷ []),
          takes in_at (Some q),
          found.3,
          receiver_steps slots id e low wide deep s R at peer k (slice_index s.words in_at)
              maybe.none few lk (with_work (Emptying peer q) e) (known (Emptying peer q))
              (λ l. (sym (idle_out idle l), refl))
              (λ l ne. (
                pick_no (Some (Some q)) None (λ x. ne (sym x)) (ℕ_discrete peer l)
                    ∙ sym (idle_in idle l),
                refl,
              )) refl (λ none. none)
              (subst (λ ws. Ring n ws (set s.homes in_at maybe.none) peer e.rank (R.ledger peer)
              (with_work (Emptying peer q) e)) (sym (set-get_or s.words in_at 0)) found.4),
          λ i li same. (
            (λ zeroed. absurd (full zeroed)),
            (λ _. subst (λ u. plays.Found u in_at (here hs) (here_after q)) (only_in i li same)
                (q, found.1, found.2, refl)),
            (λ _. some),
          ),
        )) where
          here_after : Piece → Knowing
          here_after q = (view (with_work (Emptying peer q) e ∷ []), (in_at, Some q) ∷ hs)

    -- a load of the flag of the next place for the peer, and no more
    peek_out_kept : Allows (Rule n) slots id (here hs) out_at (λ u. u)
        (plays.peeked_out (step slots out_at 0 0 maybe.none) (here hs))
    peek_out_kept s R long at small_word = dite (ℕ_discrete (slice_index s.words out_at) 0)
        (λ zeroed. (
          view (with_look (Free peer) e ∷ []),
          keeps,
          tt,
          free_noted s R at out_at zeroed,
          λ j lj same. (
            (λ _. ap (λ u. (view (with_look (Free u) e ∷ []), hs)) (only_out j lj same)),
            (λ pos. absurd (omega arith)),
          ),
        ))
        (λ full. (
          view (with_lane one_full peer e ∷ []),
          keeps,
          tt,
          full_counted s R at out_at,
          λ j lj same. (
            (λ zeroed. absurd (full zeroed)),
            (λ _. ap (λ u. (view (with_lane one_full u e ∷ []), hs)) (only_out j lj same)),
          ),
        ))

    -- a load of the flag of the next place of the peer, and no more
    peek_in_kept : Allows (Rule n) slots id (here hs) in_at (λ u. u)
        (plays.peeked_in (step slots in_at 0 0 maybe.none) (here hs))
    peek_in_kept s R long at small_word = dite (ℕ_discrete (slice_index s.words in_at) 0)
        (λ zeroed. (
          view (with_lane one_empty peer e ∷ []),
          keeps,
          tt,
          empty_counted s R at in_at,
          λ i li same. (
            (λ _. ap (λ u. (view (with_lane one_empty u e ∷ []), hs)) (only_in i li same)),
            (λ pos. absurd (omega arith)),
          ),
        ))
        (λ full. (
          view (with_look (Full peer) e ∷ []),
          keeps,
          tt,
          full_noted s R at in_at (omega arith),
          λ i li same. (
            (λ zeroed. absurd (full zeroed)),
            (λ _. ap (λ u. (view (with_look (Full u) e ∷ []), hs)) (only_in i li same)),
          ),
        ))

  module _ (hs : List (ℕ × Load)) (q : Piece) where
    -- the store of 1
    fill_kept : e.work ≡ Filling peer → q.from ≡ e.rank → q.number ≡ length (lane e peer).pushed
        → Allows (Rule n) slots id (here ((out_at, Some q) ∷ hs)) out_at (λ _. 1)
        (λ _. plays.filled (step slots out_at 1 0 maybe.none) (here ((out_at, Some q) ∷ hs)) 1)
    fill_kept busy from number s R long at small_word =
        let k : ℕ = length (lane e peer).pushed % 4 in
        let g = ring_to slots id e low wide deep s R at peer few in
        let lk = small (length (lane e peer).pushed) in
        let l = place_low n e.rank peer k low few lk in let longer = R.long in
        let f = with_lane (one_pushed q) peer (with_work Idle e) in (
          view (f ∷ []),
          gives,
          tt,
          sender_steps slots id e low wide deep s R at peer k 1 (maybe.some (Some q)) few lk f
              (known_lane (one_pushed q) Idle)
              (λ l ne. (
                sym (ap (λ w. is_filling w l) busy
                    ∙ pick_no true false (λ x. ne (sym x)) (ℕ_discrete peer l)),
                ap (λ (x : Lane). x.pushed) (lane_else (with_work Idle e) peer l (one_pushed q) ne),
              ))
              (λ l. (
                sym (ap (λ w. emptying w l) busy),
                lane_keeps (with_work Idle e) peer in_lanes
                    (one_pushed q) (λ (x : Lane). x.pulled) (λ x. refl) l,
              )) refl (λ _. omega arith)
              (sender_fills n s.words s.homes e.rank peer e (R.ledger peer) g
              (ap (λ w. is_filling w peer) busy ∙ pick_yes true false refl (ℕ_discrete peer peer))
              in_lanes (omega arith) (omega arith) q from number),
          λ j p is to_j same. let t = same_front out_at (Some q) (Some p) hs is same in
              let same_piece = some_is q p t.0 in
              let same_peer = filling_is peer j (sym busy ∙ to_j) in
              λ i. (
                view (with_lane (one_pushed (same_piece i)) (same_peer i) (with_work Idle e) ∷ []),
                t.1 i,
              ),
        )

    -- the store of 0
    empty_kept : e.work ≡ Emptying peer q
        → Allows (Rule n) slots id (here ((in_at, None) ∷ hs)) in_at (λ _. 0)
        (λ _. plays.emptied (step slots in_at 0 0 maybe.none) (here ((in_at, None) ∷ hs)) 0)
    empty_kept busy s R long at small_word =
        let k : ℕ = length (lane e peer).pulled % 4 in
        let g = ring_of slots id e low wide deep s R at peer few in
        let lk = small (length (lane e peer).pulled) in
        let l = place_low n peer e.rank k few low lk in let longer = R.long in
        let f = with_lane (one_pulled q) peer (with_work Idle e) in (
          view (f ∷ []),
          gives,
          tt,
          receiver_steps slots id e low wide deep s R at peer k 0 (maybe.some None) few lk f
              (known_lane (one_pulled q) Idle)
              (λ l. (
                sym (ap (λ w. is_filling w l) busy),
                lane_keeps (with_work Idle e) peer in_lanes
                    (one_pulled q) (λ (x : Lane). x.pushed) (λ x. refl) l,
              ))
              (λ l ne. (
                sym (ap (λ w. emptying w l) busy
                    ∙ pick_no (Some (Some q)) None (λ x. ne (sym x)) (ℕ_discrete peer l)),
                ap (λ (x : Lane). x.pulled) (lane_else (with_work Idle e) peer l (one_pulled q) ne),
              )) refl (λ _. refl)
              (receiver_empties n s.words s.homes peer e.rank (R.ledger peer) e g q
              (ap (λ w. emptying w peer) busy
              ∙ pick_yes (Some (Some q)) None refl (ℕ_discrete peer peer))
              in_lanes (omega arith) (omega arith)),
          λ j p is to_j same. let t = same_front in_at None None hs is same in
              let both = emptying_is peer j q p (sym busy ∙ to_j) in
              λ i. (
                view (with_lane (one_pulled (both.1 i)) (both.0 i) (with_work Idle e) ∷ []),
                t.1 i,
              ),
        )

-- the same of a seat that is known by equations, of m ranks
module _ (key m slots id : ℕ) (shape : key ≡ m) (deep : slots ≡ 4 * (m * m)) (me : Knowing)
    (alone : me.0 ≡ view (plays.mine me ∷ [])) (one : IsOne m (plays.mine me)) (peer : ℕ) (few : peer < m)
    (word : ℕ) where
  abbrev e : Entry
  e = plays.mine me

  -- the rule speaks of as many ranks as the entry
  along : (F : ℕ → Knowing → Type 0) → (e.rank < e.ranks → length e.lanes ≡ e.ranks
      → slots ≡ 4 * (e.ranks * e.ranks) → peer < e.ranks → F e.ranks (view (e ∷ []), me.1))
      → F key me
  along F given = let ranks = one.1 in subst (λ k. F k me) (ranks ∙ sym shape)
      (subst (λ v. F e.ranks (v, me.1)) (sym alone)
      (given (subst (λ k. e.rank < k) (sym ranks) one.0) (one.2 ∙ sym ranks)
      (deep ∙ ap (λ k. 4 * (k * k)) (sym ranks)) (subst (λ k. peer < k) (sym ranks) few)))

  pub look_out_allowed : word ≡ next_out e peer → e.work ≡ Idle
      → Allows (Rule key) slots id me word (λ u. u)
      (plays.looked_out (step slots word 0 0 maybe.none) me)
  look_out_allowed is idle = along (λ k v. Allows (Rule k) slots id v word (λ u. u)
      (plays.looked_out (step slots word 0 0 maybe.none) v)) (λ l w d f.
      subst (λ x. Allows (Rule e.ranks) slots id (view (e ∷ []), me.1) x (λ u. u)
      (plays.looked_out (step slots x 0 0 maybe.none) (view (e ∷ []), me.1))) (sym is)
      (look_out_kept slots id e l w d peer f me.1 idle))

  pub look_in_allowed : word ≡ next_in e peer → e.work ≡ Idle
      → Allows (Rule key) slots id me word (λ u. u)
      (plays.looked_in (step slots word 0 0 maybe.none) me)
  look_in_allowed is idle = along (λ k v. Allows (Rule k) slots id v word (λ u. u)
      (plays.looked_in (step slots word 0 0 maybe.none) v)) (λ l w d f.
      subst (λ x. Allows (Rule e.ranks) slots id (view (e ∷ []), me.1) x (λ u. u)
      (plays.looked_in (step slots x 0 0 maybe.none) (view (e ∷ []), me.1))) (sym is)
      (look_in_kept slots id e l w d peer f me.1 idle))

  pub peek_out_allowed : word ≡ next_out e peer
      → Allows (Rule key) slots id me word (λ u. u)
      (plays.peeked_out (step slots word 0 0 maybe.none) me)
  peek_out_allowed is = along (λ k v. Allows (Rule k) slots id v word (λ u. u)
      (plays.peeked_out (step slots word 0 0 maybe.none) v)) (λ l w d f.
      subst (λ x. Allows (Rule e.ranks) slots id (view (e ∷ []), me.1) x (λ u. u)
      (plays.peeked_out (step slots x 0 0 maybe.none) (view (e ∷ []), me.1))) (sym is)
      (peek_out_kept slots id e l w d peer f me.1))

  pub peek_in_allowed : word ≡ next_in e peer
      → Allows (Rule key) slots id me word (λ u. u)
      (plays.peeked_in (step slots word 0 0 maybe.none) me)
  peek_in_allowed is = along (λ k v. Allows (Rule k) slots id v word (λ u. u)
      (plays.peeked_in (step slots word 0 0 maybe.none) v)) (λ l w d f.
      subst (λ x. Allows (Rule e.ranks) slots id (view (e ∷ []), me.1) x (λ u. u)
      (plays.peeked_in (step slots x 0 0 maybe.none) (view (e ∷ []), me.1))) (sym is)
      (peek_in_kept slots id e l w d peer f me.1))

  pub fill_allowed : (q : Piece) (hs : List (ℕ × Load)) → word ≡ next_out e peer
      → me.1 ≡ (word, Some q) ∷ hs → e.work ≡ Filling peer → q.from ≡ e.rank
      → q.number ≡ length (lane e peer).pushed
      → Allows (Rule key) slots id me word (λ _. 1)
      (λ _. plays.filled (step slots word 1 0 maybe.none) me 1)
  fill_allowed q hs is has busy from number = along (λ k v. Allows (Rule k) slots id v word (λ _. 1)
      (λ _. plays.filled (step slots word 1 0 maybe.none) v 1)) (λ l w d f.
      subst (λ u. Allows (Rule e.ranks) slots id (view (e ∷ []), u) word (λ _. 1)
      (λ _. plays.filled (step slots word 1 0 maybe.none) (view (e ∷ []), u) 1)) (sym has)
      (subst (λ x. Allows (Rule e.ranks) slots id (view (e ∷ []), (x, Some q) ∷ hs) x (λ _. 1)
      (λ _. plays.filled (step slots x 1 0 maybe.none) (view (e ∷ []), (x, Some q) ∷ hs) 1)) (sym is)
      (fill_kept slots id e l w d peer f hs q busy from number)))

  pub empty_allowed : (q : Piece) (hs : List (ℕ × Load)) → word ≡ next_in e peer
      → me.1 ≡ (word, None) ∷ hs → e.work ≡ Emptying peer q
      → Allows (Rule key) slots id me word (λ _. 0)
      (λ _. plays.emptied (step slots word 0 0 maybe.none) me 0)
  empty_allowed q hs is has busy = along (λ k v. Allows (Rule k) slots id v word (λ _. 0)
      (λ _. plays.emptied (step slots word 0 0 maybe.none) v 0)) (λ l w d f.
      subst (λ u. Allows (Rule e.ranks) slots id (view (e ∷ []), u) word (λ _. 0)
      (λ _. plays.emptied (step slots word 0 0 maybe.none) (view (e ∷ []), u) 0)) (sym has)
      (subst (λ x. Allows (Rule e.ranks) slots id (view (e ∷ []), (x, None) ∷ hs) x (λ _. 0)
      (λ _. plays.emptied (step slots x 0 0 maybe.none) (view (e ∷ []), (x, None) ∷ hs) 0)) (sym is)
      (empty_kept slots id e l w d peer f hs q busy)))
