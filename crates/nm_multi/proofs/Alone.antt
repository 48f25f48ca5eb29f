-- A rank that has only itself to send to, as it takes its own packets.
use Rattle.std.proofs.Common.{◌≡◌, ℕ, suc, ◌+◌, ◌<◌, ◌≤◌, ◌⊎◌, None, Some, List, [], ◌∷◌, ◌++◌, length, inl}
use Rattle.std.proofs.Common.{inr}
use Rattle.std.proofs.Common.{sym, ◌∙◌, ap, subst, arith, length-append}
use Rattle.nm_history.specs.Rules.{AreRight}
use Rattle.std.specs.Prelude.{MatchOption, slice_get, slice_index_or, slice_set}
use Rattle.std.proofs.lemmas.List.{get_or-set_same, length-set}
use Rattle.nm_types.specs.declared.packets.Packet.{Packet}
use Rattle.nm_types.specs.Sizes.{Sizes}
use Rattle.nm_sending.specs.Letters.{Letter}
use Rattle.nm_sending.specs.Outboxes.{OutboxView, popped_to}
use Rattle.nm_rank.specs.Calls.{TakesPacket}
use Rattle.nm_rank.specs.Pops.{PopsPacket}
use Rattle.nm_rank.specs.Ranks.{IsFresh, RankView, count_of}
use Rattle.nm_multi.specs.Moves.{IsAlone, IsMoving, MovesFirst, MovesMany}
use Rattle.nm_sending.proofs.LetterLemmas.{first_letter}

-- the one count after it was set
set_to : (xs ys : List ℕ) (k x : ℕ) → length xs ≡ 1 → k ≡ 0 → ys ≡ slice_set xs k x →
    (slice_index_or ys 0 0 ≡ x) × (length ys ≡ 1)
set_to xs ys k x one here set =
    let at : ys ≡ slice_set xs 0 x = set ∙ ap (λ (i : ℕ). slice_set xs i x) here in (
      ap (λ (l : List ℕ). slice_index_or l 0 0) at ∙ get_or-set_same xs 0 x 0 (omega (arith, one)),
      ap (λ (l : List ℕ). length l) at ∙ length-set xs 0 x ∙ one,
    )

-- one packet more was taken, and none left
pub record Took (old new : RankView) : Type 0 where
  pub me : new.me ≡ 0
  pub one : new.sizes.ranks ≡ 1
  pub took : length new.took ≡ 1
  pub counted : count_of new.took 0 ≡ count_of old.took 0 + 1
  pub popped : new.sending.outbox.popped ≡ old.sending.outbox.popped
  pub some : (k : ℕ) → k < length old.sending.outbox.letters → k < length new.sending.outbox.letters

pub took_one : (p : Packet) (old new : RankView) → IsAlone old → p.from ≡ 0 → TakesPacket p old new →
    Took old new
took_one p old new alone own t =
    let put = (t.happened (λ s. [])).packets in
    let is = set_to old.took new.took p.from _ alone.took own t.took in
    record {
      me = t.me ∙ alone.me;
      one = ap (λ (s : Sizes). s.ranks) t.sizes ∙ alone.one;
      took = is.1;
      counted = is.0 ∙ ap (λ (k : ℕ). count_of old.took k + 1) own;
      popped = put.popped;
      some = λ k below.
          let long = ap (λ (l : List Letter). length l) put.letters
          ∙ length-append old.sending.outbox.letters put.added in
          omega (arith, long, below);
    }

-- the first letter stays the first one as others come
first_stays : (xs ys : List Letter) (l : Letter) → slice_get xs 0 ≡ Some l → slice_get (xs ++ ys) 0 ≡ Some l
first_stays [] ys l is = absurd (clash is) where
  clash : None ≡ Some l → ⊥
  clash e = cc
first_stays (x ∷ xs) ys l is = is

pub still_first : (p : Packet) (l : Letter) (old new : RankView) → slice_get old.sending.outbox.letters 0 ≡ Some l →
    TakesPacket p old new → slice_get new.sending.outbox.letters 0 ≡ Some l
still_first p l old new first taken =
    let put = (taken.happened (λ s. [])).packets in
    ap (λ (ls : List Letter). slice_get ls 0) put.letters ∙ first_stays old.sending.outbox.letters put.added l first

-- what a pop makes of the first letter and the outbox
pub record PopsLetter (letter : Letter) (old new : RankView) : Type 0 where
  pub letters : old.sending.outbox.letters ≡ letter ∷ new.sending.outbox.letters
  pub popped :
      new.sending.outbox
      ≡ record old.sending.outbox {
        letters = new.sending.outbox.letters;
        popped = slice_set old.sending.outbox.popped letter.to
            (popped_to old.sending.outbox letter.to + 1);
      }

letter_popped : (letter : Letter) (old new : RankView) → slice_get old.sending.outbox.letters 0 ≡ Some letter →
    PopsPacket old new → PopsLetter letter old new
letter_popped letter old new first pops =
    let p = rw first at pops.popped in record { letters = p.0; popped = p.1 }

-- the packet leaves too
left_one : (letter : Letter) (old between new : RankView) → IsAlone old → IsFresh old →
    letter.to ≡ 0 → Took old between → slice_get between.sending.outbox.letters 0 ≡ Some letter →
    PopsPacket between new → IsAlone new
left_one letter old between new alone fresh own took still l =
    let pops = ap (λ (o : OutboxView). o.popped) (letter_popped letter between new still l).popped in
    let many = ap (λ (ns : List ℕ). length ns) took.popped ∙ alone.popped in
    let is = set_to between.sending.outbox.popped new.sending.outbox.popped letter.to _ many own pops in
    record {
      me = l.takes.me ∙ took.me;
      one = ap (λ (s : Sizes). s.ranks) l.takes.sizes ∙ took.one;
      took = ap (λ (ns : List ℕ). length ns) l.takes.took ∙ took.took;
      popped = is.1;
      even = λ _.
          ap (λ (ns : List ℕ). count_of ns 0) l.takes.took ∙ took.counted
          ∙ ap (λ (k : ℕ). k + 1) (alone.even fresh)
          ∙ ap (λ (ns : List ℕ). slice_index_or ns 0 0 + 1) (sym took.popped)
          ∙ ap (λ (k : ℕ). popped_to between.sending.outbox k + 1) (sym own) ∙ sym is.0;
    }

-- the packet stays, since the rank can go on no more
stayed_one : (old between : RankView) → IsAlone old → Took old between → ¬ (IsFresh between) →
    IsAlone between
stayed_one old between alone took worn =
    record {
      me = took.me;
      one = took.one;
      took = took.took;
      popped = ap (λ (ns : List ℕ). length ns) took.popped ∙ alone.popped;
      even = λ fresh. absurd (worn fresh);
    }

-- a rank stays alone as it moves a packet
pub moved_one : (old new : RankView) → IsAlone old → MovesFirst old new → IsAlone new
moved_one old new alone m = by m.leaves where
  took : Took old m.between
  took = took_one m.letter.packet old m.between alone m.own.1 m.taken

  still : slice_get m.between.sending.outbox.letters 0 ≡ Some m.letter
  still = still_first m.letter.packet m.letter old m.between m.first m.taken

  by : (IsFresh m.between × PopsPacket m.between new) ⊎ (¬ (IsFresh m.between) × (new ≡ m.between)) → IsAlone new
  by (inl goes) = left_one m.letter old m.between new alone m.fresh m.own.0 took still goes.1
  by (inr stays) = subst IsAlone (sym stays.1) (stayed_one old m.between alone took stays.0)

-- a rank that is alone takes a copy of its first packet
pub record Begins (old between : RankView) : Type 0 where
  pub fresh : IsFresh old
  pub right : AreRight old.sizes.ranks [] old.events
  pub letter : Letter
  pub first : slice_get old.sending.outbox.letters 0 ≡ Some letter
  pub own : (letter.to ≡ 0) × (letter.packet.from ≡ 0)
  pub taken : TakesPacket letter.packet old between

pub begins : (old between : RankView) (N : Type 0) (to : ℕ) (p first : Packet) → IsAlone old → IsFresh old →
    AreRight old.sizes.ranks [] old.events → (N → ⊥) →
    MatchOption (slice_get old.sending.outbox.letters 0) N (λ letter. (to ≡ letter.to) × (first ≡ letter.packet)) →
    to < old.sizes.ranks → first.from ≡ old.me → p ≡ first → TakesPacket p old between →
    Begins old between
begins old between N to p first alone fresh right not is within own copied taken =
    let l = first_letter (slice_get old.sending.outbox.letters 0) N to first not is in
    let same : p ≡ l.0.packet = copied ∙ l.3 in
    record {
      fresh = fresh;
      right = right;
      letter = l.0;
      first = l.1;
      own = (
        let one = alone.one in let at = l.2 in omega (arith, within, one, at),
        ap (λ (x : Packet). x.from) (sym l.3) ∙ own ∙ alone.me,
      );
      taken = subst (λ (x : Packet). TakesPacket x old between) same taken;
    }

pub moves_of : (old between new : RankView) → (b : Begins old between) →
    (IsFresh between × PopsPacket between new) ⊎ (¬ (IsFresh between) × (new ≡ between)) → MovesFirst old new
moves_of old between new b is =
    record {
      fresh = b.fresh;
      right = b.right;
      letter = b.letter;
      first = b.first;
      own = b.own;
      between = between;
      taken = b.taken;
      leaves = is;
    }

-- no fewer packets are here than were, but the one that left
left_here : (old between new : RankView) (p : Packet) (letter : Letter) → TakesPacket p old between →
    slice_get old.sending.outbox.letters 0 ≡ Some letter → PopsPacket between new →
    length old.sending.outbox.letters ≤ length new.sending.outbox.letters + 1
left_here old between new p letter taken first pops =
    let leaves = letter_popped letter between new (still_first p letter old between first taken) pops in
    let put = (taken.happened (λ s. [])).packets in
    let long = ap (λ (l : List Letter). length l) put.letters
    ∙ length-append old.sending.outbox.letters put.added in
    let one : length between.sending.outbox.letters ≡ suc (length new.sending.outbox.letters) =
    ap (λ (l : List Letter). length l) leaves.letters in
    omega (arith, long, one)

moved_here : (old new : RankView) → MovesFirst old new → IsFresh new →
    length old.sending.outbox.letters ≤ length new.sending.outbox.letters + 1
moved_here old new m fresh = by m.leaves where
  by : (IsFresh m.between × PopsPacket m.between new) ⊎ (¬ (IsFresh m.between) × (new ≡ m.between)) →
      length old.sending.outbox.letters ≤ length new.sending.outbox.letters + 1
  by (inl goes) = left_here old m.between new m.letter.packet m.letter m.taken m.first goes.1
  by (inr stays) = absurd (stays.0 (subst IsFresh stays.1 fresh))

-- one packet more is moved
pub moving_on : (k : ℕ) (old last new : RankView) → IsMoving k old last → MovesFirst last new →
    IsMoving (k + 1) old new
moving_on k old last new is m =
    let one : suc k ≡ k + 1 = omega arith in
    record {
      alone = moved_one last new is.alone m;
      moves = subst (λ (n : ℕ). MovesMany n old new) one (last, is.moves, m);
      here = λ fresh.
          let before = is.here m.fresh in let now = moved_here last new m fresh in
          omega (arith, before, now);
    }
