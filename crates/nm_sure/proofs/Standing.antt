-- Where the commands of a rank stand in the script, and the start that a name stands for.
use Rattle.std.proofs.Common.{◌≡◌, ℕ, ◌+◌, ◌≤◌, ◌==◌, zero, suc, Bool, true, false, cond, Option, Some, None, List}
use Rattle.std.proofs.Common.{[], ◌∷◌}
use Rattle.std.proofs.Common.{◌++◌, length, refl, sym, ◌∙◌, ap, arith, ◌⊎◌, inl, inr, append-nil, append_assoc}
use Rattle.std.specs.Prelude.{is_none, is_some, option_and_then, take}
use Rattle.std.specs.List.{slice_get}
use Rattle.std.proofs.lemmas.Bool.{false≢true}
use Rattle.std.proofs.lemmas.List.{take-append-le}
use Rattle.std.proofs.lemmas.List.Sums.{fold_push}
use Rattle.nm_types.specs.declared.scripts.Command.{Command}
use Rattle.nm_types.specs.declared.scripts.Command.TheVariants as command
use Rattle.nm_types.specs.declared.scripts.Line.{Line}
use Rattle.nm_types.specs.Commands.{Numbered, commands_from, commands_of}
use Rattle.nm_sure.specs.Held.{before, held_at, name_of}
use Rattle.nm_sure.specs.Names.{holder, holder_by, is_taken, started_name}
use Rattle.nm_sure.specs.Planned.{IsStart}
use Rattle.nm_sure.proofs.Before.{held_here, numbered}
use Rattle.nm_sure.proofs.Fronts.{held_after}
use Rattle.nm_types.proofs.NumberLemmas.{same_number}
use Rattle.nm_types.proofs.ListLemmas.{get_before, place_below}
use Rattle.nm_types.proofs.OptionLemmas.{no_some, same_some}

-- the command at a place of a rank stands at a line of the script, and those before it at lines before
pub record OwnFrom (lines : List Line) (rank number n : ℕ) (c : Numbered) : Type 0 where
  pub place : ℕ
  pub line : Line
  pub is : c.line ≡ number + place
  pub here : slice_get lines place ≡ Some line
  pub own : line.rank ≡ rank
  pub same : line.command ≡ c.command
  pub front : take n (commands_from rank number lines) ≡ commands_from rank number (take place lines)
  pub low : n ≤ place

-- one line before it
own_later : (rank number n m : ℕ) (l : Line) (lines : List Line) (c : Numbered)
    (o : OwnFrom lines rank (number + 1) n c) → m ≤ suc n →
    take m (commands_from rank number (l ∷ lines)) ≡ commands_from rank number (l ∷ take o.place lines) →
    OwnFrom (l ∷ lines) rank number m c
own_later rank number n m l lines c o low front = record {
  place = suc o.place;
  line = o.line;
  is = let is = o.is in omega (arith, is);
  here = o.here;
  own = o.own;
  same = o.same;
  front = front;
  low = let under = o.low in omega (arith, low, under);
}

own_from : (rank number : ℕ) (lines : List Line) (n : ℕ) (c : Numbered) →
    slice_get (commands_from rank number lines) n ≡ Some c →
    OwnFrom lines rank number n c
own_from rank number [] n c here = absurd (no_some c here)
own_from rank number (l ∷ lines) n c here =
    by_rank (l.rank == rank) refl n here (λ m there. own_from rank (number + 1) lines m c there)
  where
    first : (l.rank == rank) ≡ true → numbered number l ≡ c → OwnFrom (l ∷ lines) rank number zero c
    first is same = record {
      place = zero;
      line = l;
      is = (let line = ap (λ (d : Numbered). d.line) same in omega (arith, line));
      here = refl;
      own = same_number l.rank rank is;
      same = ap (λ (d : Numbered). d.command) same;
      front = refl;
      low = omega arith;
    }

    by_rank : (b : Bool) → (l.rank == rank) ≡ b → (n : ℕ) →
        slice_get (cond b (numbered number l ∷ commands_from rank (number + 1) lines)
        (commands_from rank (number + 1) lines)) n ≡ Some c →
        ((m : ℕ) → slice_get (commands_from rank (number + 1) lines) m ≡ Some c → OwnFrom lines rank (number + 1) m c) →
        OwnFrom (l ∷ lines) rank number n c
    by_rank true is zero here later = first is (same_some (numbered number l) c here)
    by_rank true is (suc n) here later =
        own_later rank number n (suc n) l lines c (later n here) (omega arith)
        (rw is (ap (λ (cs : List Numbered). numbered number l ∷ cs) (later n here).front))
    by_rank false is n here later =
        own_later rank number n n l lines c (later n here) (omega arith) (rw is (later n here).front)

pub own_at : (lines : List Line) (rank n : ℕ) (c : Numbered) → slice_get (commands_of rank lines) n ≡ Some c →
    OwnFrom lines rank 2 n c
own_at lines rank n c here = own_from rank 2 lines n c here

-- the commands of a rank begin with those of the first lines
commands_split : (rank number k : ℕ) (lines : List Line) →
    (more : List Numbered) × (commands_from rank number lines ≡ commands_from rank number (take k lines) ++ more)
commands_split rank number zero lines = (commands_from rank number lines, refl)
commands_split rank number (suc k) [] = ([], refl)
commands_split rank number (suc k) (l ∷ lines) =
    let later = commands_split rank (number + 1) k lines in (
      later.0,
      by_rank (l.rank == rank) (commands_from rank (number + 1) lines)
          (commands_from rank (number + 1) (take k lines)) later.0 later.1,
    )
  where
    by_rank : (b : Bool) (all front more : List Numbered) → all ≡ front ++ more →
        cond b (numbered number l ∷ all) all ≡ cond b (numbered number l ∷ front) front ++ more
    by_rank true all front more same = ap (λ (cs : List Numbered). numbered number l ∷ cs) same
    by_rank false all front more same = same

pub before_split : (lines : List Line) (k rank : ℕ) →
    (more : List Numbered) × (commands_of rank lines ≡ before lines k rank ++ more)
before_split lines k rank = commands_split rank 2 k lines

-- a start that is taken behind those before it
record TakenAmong (before cs : List Numbered) (s : ℕ) : Type 0 where
  place : ℕ
  start : Numbered
  here : slice_get cs place ≡ Some start
  line : start.line ≡ s
  taken : is_taken (before ++ take place cs) start.command ≡ true

-- what a name stands for is such a start
held_among : (q s : ℕ) (before cs : List Numbered) → holder (before ++ cs) q ≡ Some s →
    (holder before q ≡ Some s) ⊎ TakenAmong before cs s
held_among q s before [] held = inl (ap (λ (b : List Numbered). holder b q) (sym (append-nil before)) ∙ held)
held_among q s before (c ∷ cs) held =
    by_later (held_among q s (before ++ c ∷ []) cs
    (ap (λ (b : List Numbered). holder b q) (append_assoc before (c ∷ []) cs) ∙ held))
  where
    first : is_taken before c.command ≡ true → c.line ≡ s → TakenAmong before (c ∷ cs) s
    first taken line = record {
      place = zero;
      start = c;
      here = refl;
      line = line;
      taken = ap (λ (b : List Numbered). is_taken b c.command) (append-nil before) ∙ taken;
    }

    by_later : (holder (before ++ c ∷ []) q ≡ Some s) ⊎ TakenAmong (before ++ c ∷ []) cs s →
        (holder before q ≡ Some s) ⊎ TakenAmong before (c ∷ cs) s
    by_later (inl now) =
        elim (held_after q c.line s before c.command
        (sym (fold_push (λ (held : Option ℕ) (d : Numbered). holder_by q held d.line d.command) None before c) ∙ now)) [
          | inl taken ↦ inr (first taken.1 taken.0)
          | inr old ↦ inl old
        ]
    by_later (inr later) = inr (record {
      place = suc later.place;
      start = later.start;
      here = later.here;
      line = later.line;
      taken = ap (λ (b : List Numbered). is_taken b later.start.command)
          (sym (append_assoc before (c ∷ []) (take later.place cs))) ∙ later.taken;
    })

-- a start that is taken has a name that stood for none
none_is : (o : Option ℕ) → is_none o ≡ true → o ≡ None
none_is None none = refl
none_is (Some x) none = absurd (false≢true none)

taken_free : (before : List Numbered) (c : Command) → is_taken before c ≡ true →
    (option_and_then (holder before) (name_of c) ≡ None) × (is_some (started_name c) ≡ true)
taken_free before (command.Send to q tag ctx sync body) taken = (none_is (holder before q) taken, refl)
taken_free before (command.Recv q from tag ctx cap) taken = (none_is (holder before q) taken, refl)
taken_free before c taken = absurd (false≢true taken)

-- what the name of a line stands for is a start of its rank that is taken
pub held_start : (lines : List Line) (k : ℕ) (line : Line) (s : ℕ) → slice_get lines k ≡ Some line →
    held_at lines k ≡ Some s →
    IsStart lines line.rank s
held_start lines k line s here held = by_name (name_of line.command) (sym (held_here lines k line here) ∙ held)
  where
    among : TakenAmong [] (before lines k line.rank) s → IsStart lines line.rank s
    among t =
        let split = before_split lines k line.rank in
        let low : t.place ≤ length (before lines k line.rank) =
        (let below = place_below (before lines k line.rank) t.place t.start t.here in omega (arith, below)) in
        let o = own_at lines line.rank t.place t.start
        (ap (λ (cs : List Numbered). slice_get cs t.place) split.1
        ∙ get_before (before lines k line.rank) split.0 t.place t.start t.here) in
        let front : take t.place (before lines k line.rank) ≡ before lines o.place line.rank =
        sym (ap (λ (cs : List Numbered). take t.place cs) split.1 ∙ take-append-le t.place (before lines k line.rank)
        split.0 low) ∙ o.front in
        let free = taken_free (before lines o.place line.rank) o.line.command
        (ap (λ (cs : List Numbered). is_taken cs o.line.command) (sym front)
        ∙ ap (λ (c : Command). is_taken (take t.place (before lines k line.rank)) c) o.same ∙ t.taken) in
        record {
          place = o.place;
          line = o.line;
          is = let is = o.is in let line = t.line in omega (arith, is, line);
          here = o.here;
          own = o.own;
          starts = free.1;
          free = held_here lines o.place o.line o.here
              ∙ ap (λ (r : ℕ). option_and_then (holder (before lines o.place r)) (name_of o.line.command)) o.own
              ∙ free.0;
        }

    by_name : (o : Option ℕ) → option_and_then (holder (before lines k line.rank)) o ≡ Some s →
        IsStart lines line.rank s
    by_name None held = absurd (no_some s held)
    by_name (Some q) held = elim (held_among q s [] (before lines k line.rank) held) [
      | inl never ↦ absurd (no_some s never)
      | inr t ↦ among t
    ]
