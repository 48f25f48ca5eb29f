-- What a seat knows after the steps of a call.
use Rattle.std.proofs.Common.{refl, ◌≡◌, ℕ, ◌%◌, ◌<◌, Some, None, List, [], ◌∷◌, length, sym, ap, ◌∙◌}
use Rattle.std.proofs.Common.{length-set, subst, suc, ◌+◌, get_or, set, min, arith}
use Rattle.std.proofs.lemmas.Bool.Decides.{nat_tests}
use Rattle.std.proofs.lemmas.List.{get_or-map, length-map, map-set}
use mathlib.Core.Option as maybe
use Rattle.atomic_table.specs.Table.{step, rest}
use Rattle.nm_chain.specs.Spoken.{view}
use Rattle.nm_chain.specs.Plays.{capped}
use Rattle.nm_types.specs.declared.packets.Piece.{Piece}
use Rattle.nm_copyring.specs.declared.table.Work.{Work}
use Rattle.nm_copyring.specs.declared.table.Work.TheVariants.{Idle, Filling, Emptying}
use Rattle.nm_copyring.specs.declared.table.Look.{Look}
use Rattle.nm_copyring.specs.declared.table.Look.TheVariants.{Fresh, Free, Full}
use Rattle.nm_copyring.specs.declared.table.Entry.{Entry}
use Rattle.nm_copyring.specs.declared.table.Lane.{Lane}
use Rattle.nm_copyring.specs.declared.tallies.Tally.{Tally}
use Rattle.nm_copyring.specs.Counted.{Counts, tally}
use Rattle.nm_copyring.specs.Rule.{Load, lane, new_lane, place}
use Rattle.nm_copyring.specs.Plays.{Knowing, Rests, IsOne, mine, knowing, unlooked, with_work, with_look, with_lane}
use Rattle.nm_copyring.specs.Plays.{one_pushed, one_pulled, one_full, one_empty, next_out, next_in}
use Rattle.nm_copyring.specs.Plays.{looked_out, looked_in, peeked_out, peeked_in, filled, emptied}

-- it is at work no more
idle_again : (e : Entry) (w : Work) → e.work ≡ Idle → with_work Idle (with_work w e) ≡ unlooked e
idle_again e w idle = λ i. record e { work = sym idle i; look = Fresh }

-- a seat that has one slot in hand
abbrev pub working : Work → ℕ → Load → Entry → Knowing
working w word y e = (view (with_work w e ∷ []), (word, y) ∷ [])

module _ (n slots word peer : ℕ) (me : Knowing) (rests : Rests me) (one : IsOne n (mine me))
    (few : peer < n) where
  abbrev e : Entry
  e = mine me

  inside : peer < e.ranks
  inside = subst (λ k. peer < k) (sym one.1) few

  -- the next place is the one of the number that comes next
  pub out_is : (rank number : ℕ) → word ≡ place n rank peer (number % 4) → rank ≡ e.rank
      → number ≡ length (lane e peer).pushed → word ≡ next_out e peer
  out_is rank number is r k = is ∙ (λ i. place (sym one.1 i) (r i) peer (k i % 4))

  pub in_is : (rank number : ℕ) → word ≡ place n peer rank (number % 4) → rank ≡ e.rank
      → number ≡ length (lane e peer).pulled → word ≡ next_in e peer
  in_is rank number is r k = is ∙ (λ i. place (sym one.1 i) peer (r i) (k i % 4))

  module _ (found : ℕ) (after : Knowing)
      (told : looked_out (step slots word 0 0 maybe.none) me found after)
      (is : word ≡ next_out e peer) where
    pub free_found : found ≡ 0 → after ≡ working (Filling peer) word None e
    free_found zeroed = (told peer inside is).0 zeroed
        ∙ ap (λ m. (view (with_work (Filling peer) e ∷ []), (word, None) ∷ m.1)) rests.0

    pub full_found : 0 < found → after ≡ knowing (with_lane one_full peer e)
    full_found full = (told peer inside is).1 full
        ∙ ap (λ m. (view (with_lane one_full peer e ∷ []), m.1)) rests.0

    -- the place that was found free is
    pub sure_free : e.look ≡ Free peer → found ≡ 0
    sure_free = (told peer inside is).2

  module _ (found : ℕ) (after : Knowing)
      (told : looked_in (step slots word 0 0 maybe.none) me found after)
      (is : word ≡ next_in e peer) where
    pub none_found : found ≡ 0 → after ≡ knowing (with_lane one_empty peer e)
    none_found zeroed = (told peer inside is).0 zeroed
        ∙ ap (λ m. (view (with_lane one_empty peer e ∷ []), m.1)) rests.0

    pub piece_found : 0 < found → (q : Piece) × (q.from ≡ peer)
        × (q.number ≡ length (lane e peer).pulled)
        × (after ≡ working (Emptying peer q) word (Some q) e)
    piece_found full = let f = (told peer inside is).1 full in (
      f.0,
      f.1,
      f.2,
      f.3 ∙ ap (λ m. (view (with_work (Emptying peer f.0) e ∷ []), (word, Some f.0) ∷ m.1)) rests.0,
    )

    -- the place that was found full is
    pub sure_full : e.look ≡ Full peer → 0 < found
    sure_full = (told peer inside is).2

  -- a seat that loaded a flag and no more
  pub peeked_out_after : (found : ℕ) (after : Knowing)
      → peeked_out (step slots word 0 0 maybe.none) me found after → word ≡ next_out e peer
      → (found ≡ 0 → after ≡ knowing (with_look (Free peer) e))
      × (0 < found → after ≡ knowing (with_lane one_full peer e))
  peeked_out_after found after told is = let t = told peer inside is in (
    λ free. t.0 free ∙ ap (λ m. (view (with_look (Free peer) e ∷ []), m.1)) rests.0,
    λ full. t.1 full ∙ ap (λ m. (view (with_lane one_full peer e ∷ []), m.1)) rests.0,
  )

  pub peeked_in_after : (found : ℕ) (after : Knowing)
      → peeked_in (step slots word 0 0 maybe.none) me found after → word ≡ next_in e peer
      → (found ≡ 0 → after ≡ knowing (with_lane one_empty peer e))
      × (0 < found → after ≡ knowing (with_look (Full peer) e))
  peeked_in_after found after told is = let t = told peer inside is in (
    λ none. t.0 none ∙ ap (λ m. (view (with_lane one_empty peer e ∷ []), m.1)) rests.0,
    λ full. t.1 full ∙ ap (λ m. (view (with_look (Full peer) e ∷ []), m.1)) rests.0,
  )

  -- the slot that a seat has is exchanged
  pub exchanged : (w : Work) (y z : Load) (before after : Knowing) → before ≡ working w word y e
      → after ≡ (before.0, (word, z) ∷ rest before.1) → after ≡ working w word z e
  exchanged w y z before after was is = is ∙ ap (λ m. (m.0, (word, z) ∷ rest m.1)) was

  pub pushed_after : (q : Piece) (before after : Knowing)
      → before ≡ working (Filling peer) word (Some q) e
      → filled (step slots word 1 0 maybe.none) before 1 after
      → after ≡ knowing (with_lane (one_pushed q) peer (unlooked e))
  pushed_after q before after was told = told peer q [] (ap (λ m. (mine m).work) was)
      (ap (λ m. m.1) was) ∙ ap (λ m. knowing (with_lane (one_pushed q) peer
      (with_work Idle (mine m)))) was
      ∙ ap (λ x. knowing (with_lane (one_pushed q) peer x)) (idle_again e (Filling peer) rests.1)

  pub pulled_after : (q : Piece) (before after : Knowing)
      → before ≡ working (Emptying peer q) word None e
      → emptied (step slots word 0 0 maybe.none) before 0 after
      → after ≡ knowing (with_lane (one_pulled q) peer (unlooked e))
  pulled_after q before after was told = told peer q [] (ap (λ m. (mine m).work) was)
      (ap (λ m. m.1) was) ∙ ap (λ m. knowing (with_lane (one_pulled q) peer
      (with_work Idle (mine m)))) was
      ∙ ap (λ x. knowing (with_lane (one_pulled q) peer x)) (idle_again e (Emptying peer q) rests.1)

-- the counts of what a rank has of another one
pub tally_at : (e : Entry) (ts : List Tally) (j : ℕ) (t : Tally) → Counts e ts → j < length ts
    → t ≡ get_or ts j t → t ≡ tally (lane e j)
tally_at e ts j t counts low is = is ∙ ap (λ xs. get_or xs j t) counts
    ∙ get_or-map tally e.lanes j new_lane t
    (subst (λ k. j < k) (ap length counts ∙ length-map e.lanes tally) low)

pub counts_lane : (e : Entry) (ts : List Tally) (j : ℕ) (f : Lane → Lane) (t : Tally) → Counts e ts
    → t ≡ tally (f (lane e j)) → Counts (with_lane f j e) (set ts j t)
counts_lane e ts j f t counts is =
    (λ i. set (counts i) j (is i)) ∙ sym (map-set tally e.lanes j (f (lane e j)))

-- a count stands still at its last value
pub counted_more : (k n m : ℕ) → n ≡ capped k → m ≡ min (n + 1) 18446744073709551615
    → m ≡ capped (suc k)
counted_more k n m is more = grind (arith, nat_tests, is, more)

-- what a port knows once a call changed what it has of one rank
module _ (f : Lane → Lane) (j : ℕ) (e : Entry) (after : Knowing)
    (is : after ≡ knowing (with_lane f j e)) where
  pub lane_rests : e.work ≡ Idle → Rests after
  lane_rests idle = subst Rests (sym is) (refl, idle)

  pub lane_wide : length e.lanes ≡ e.ranks → length (mine after).lanes ≡ (mine after).ranks
  lane_wide wide = subst (λ (m : Knowing). length (mine m).lanes ≡ (mine m).ranks) (sym is)
      (length-set e.lanes j (f (lane e j)) ∙ wide)

  pub lane_owned : (n : ℕ) → IsOne n e → IsOne n (mine after)
  lane_owned n one = subst (λ (m : Knowing). IsOne n (mine m)) (sym is)
      (one.0, one.1, length-set e.lanes j (f (lane e j)) ∙ one.2)

  pub lane_counts : (ts : List Tally) → Counts (with_lane f j e) ts → Counts (mine after) ts
  lane_counts ts counts = subst (λ (m : Knowing). Counts (mine m) ts) (sym is) counts

-- what a port knows once it has looked at one place
module _ (l : Look) (e : Entry) (after : Knowing) (is : after ≡ knowing (with_look l e)) where
  pub look_rests : e.work ≡ Idle → Rests after
  look_rests idle = subst Rests (sym is) (refl, idle)

  pub look_wide : length e.lanes ≡ e.ranks → length (mine after).lanes ≡ (mine after).ranks
  look_wide wide = subst (λ (m : Knowing). length (mine m).lanes ≡ (mine m).ranks) (sym is) wide

  pub look_owned : (n : ℕ) → IsOne n e → IsOne n (mine after)
  look_owned n one = subst (λ (m : Knowing). IsOne n (mine m)) (sym is) one

  pub look_counts : (ts : List Tally) → Counts e ts → Counts (mine after) ts
  look_counts ts counts = subst (λ (m : Knowing). Counts (mine m) ts) (sym is) counts
