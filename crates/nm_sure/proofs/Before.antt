-- The commands before a line, one line after another.
use Rattle.std.proofs.Common.{◌≡◌, ℕ, ◌+◌, ◌==◌, Bool, true, false, cond, zero, suc, Option, Some, None}
use Rattle.std.specs.declared.vec.Vec.{Vec}
use Rattle.nm_history.proofs.OnceLemmas.{eqb_self}
use Rattle.std.proofs.Common.{List, [], ◌∷◌, ◌++◌, length, map, refl, sym, ◌∙◌, ap, arith, append-nil}
use Rattle.std.specs.Prelude.{option_and_then, take}
use Rattle.std.specs.List.{range_with_len, slice_get}
use Rattle.std.specs.HashMap.{HashMap, get}
use Rattle.std.proofs.lemmas.List.FromFn.{length-map-range_with_len, map-range_with_len_more}
use Rattle.std.proofs.lemmas.List.{length-map, map-append}
use Rattle.std.proofs.lemmas.List.Sums.{fold_push}
use Rattle.nm_types.specs.declared.scripts.Line.{Line}
use Rattle.nm_types.specs.Commands.{Numbered, commands_from, commands_of}
use Rattle.nm_sure.specs.declared.names.Name as key
use Rattle.nm_sure.specs.Held.{before, held_at, held_for, held_in, name_by, name_of, own_lines, same_name}
use Rattle.nm_sure.specs.Names.{holder, holder_by}
use Rattle.nm_types.proofs.NumberLemmas.{same_number}
use Rattle.nm_types.proofs.OptionLemmas.{no_some}
use Rattle.nm_types.proofs.ListLemmas.{take_more}

-- so many stand before a place that is taken
pub taken_before : {X : Type 0} (xs : List X) (k : ℕ) (x : X) → slice_get xs k ≡ Some x → length (take k xs) ≡ k
taken_before [] k x here = absurd (no_some x here)
taken_before (y ∷ ys) zero x here = refl
taken_before (y ∷ ys) (suc k) x here = let later = taken_before ys k x here in omega (arith, later)

abbrev pub numbered : ℕ → Line → Numbered
numbered n line = record { line = n; command = line.command }

-- the command of one line, if it is the rank's
abbrev pub own_of : ℕ → ℕ → Line → List Numbered
own_of rank n line = cond (line.rank == rank) (numbered n line ∷ []) []

commands_push : (rank n : ℕ) (xs : List Line) (line : Line) →
    commands_from rank n (xs ++ line ∷ []) ≡ commands_from rank n xs ++ own_of rank (n + length xs) line
commands_push rank n [] line = by_rank (line.rank == rank)
  where
    same : n + 0 ≡ n
    same = omega arith

    by_rank : (b : Bool) → cond b (numbered n line ∷ []) [] ≡ cond b (numbered (n + 0) line ∷ []) []
    by_rank true = ap (λ (m : ℕ). numbered m line ∷ []) (sym same)
    by_rank false = refl
commands_push rank n (x ∷ xs) line =
    by_rank (x.rank == rank) (commands_push rank (n + 1) xs line
    ∙ ap (λ (m : ℕ). commands_from rank (n + 1) xs ++ own_of rank m line) shift)
  where
    shift : n + 1 + length xs ≡ n + suc (length xs)
    shift = omega arith

    by_rank : (b : Bool) → commands_from rank (n + 1) (xs ++ line ∷ []) ≡ commands_from rank (n + 1) xs ++ own_of rank
        (n + suc (length xs)) line →
        cond b (numbered n x ∷ commands_from rank (n + 1) (xs ++ line ∷ []))
        (commands_from rank (n + 1) (xs ++ line ∷ []))
        ≡ cond b (numbered n x ∷ commands_from rank (n + 1) xs) (commands_from rank (n + 1) xs) ++ own_of rank
        (n + suc (length xs)) line
    by_rank true later = ap (λ (cs : List Numbered). numbered n x ∷ cs) later
    by_rank false later = later

-- the commands before the next line
pub before_more : (lines : List Line) (k rank : ℕ) (line : Line) → slice_get lines k ≡ Some line →
    before lines (k + 1) rank ≡ before lines k rank ++ own_of rank (k + 2) line
before_more lines k rank line here =
    ap (λ (n : ℕ). before lines n rank) one
    ∙ ap (λ (ls : List Line). commands_of rank ls) (take_more lines k line here)
    ∙ commands_push rank 2 (take k lines) line
    ∙ ap (λ (m : ℕ). before lines k rank ++ own_of rank m line) (let count = taken_before lines k line here in
    two count)
  where
    one : k + 1 ≡ suc k
    one = omega arith

    two : length (take k lines) ≡ k → 2 + length (take k lines) ≡ k + 2
    two count = omega (arith, count)

-- what a name stands for before the next line
pub names_more : (lines : List Line) (k : ℕ) (line : Line) (n : key.Name) → slice_get lines k ≡ Some line →
    name_by n (holder (before lines k n.rank) n.q) (k + 2) line ≡ holder (before lines (k + 1) n.rank) n.q
names_more lines k line n here =
    by_rank (line.rank == n.rank)
    ∙ ap (λ (cs : List Numbered). holder cs n.q) (sym (before_more lines k n.rank line here))
  where
    by_rank : (b : Bool) → cond b (holder_by n.q (holder (before lines k n.rank) n.q) (k + 2) line.command)
        (holder (before lines k n.rank) n.q)
        ≡ holder (before lines k n.rank ++ cond b (numbered (k + 2) line ∷ []) []) n.q
    by_rank true = sym (fold_push (λ (held : Option ℕ) (c : Numbered). holder_by n.q held c.line c.command) None
        (before lines k n.rank) (numbered (k + 2) line))
    by_rank false = ap (λ (cs : List Numbered). holder cs n.q) (sym (append-nil (before lines k n.rank)))

-- what the name of a line stands for
pub held_here : (lines : List Line) (k : ℕ) (line : Line) → slice_get lines k ≡ Some line →
    held_at lines k ≡ held_for lines k line
held_here lines k line here = ap (λ (o : Option Line). option_and_then (held_for lines k) o) here

-- what a line's name stands for in a map that has what each name stands for before it
pub held_now : {S : Type 0} (lines : List Line) (k : ℕ) (line : Line) (names : HashMap key.Name ℕ S) →
    ((n : key.Name) → get same_name names n ≡ holder (before lines k n.rank) n.q) →
    option_and_then (held_in names line.rank) (name_of line.command) ≡ held_for lines k line
held_now lines k line names each = by_name (name_of line.command)
  where
    by_name : (o : Option ℕ) → option_and_then (held_in names line.rank) o ≡ option_and_then
        (holder (before lines k line.rank)) o
    by_name None = refl
    by_name (Some q) = each (record { rank = line.rank; q = q })

-- one line more
pub one_held : (lines : List Line) (k : ℕ) (line : Line) (x : Option ℕ) (old new : List (Option ℕ)) →
    slice_get lines k ≡ Some line → x ≡ held_for lines k line → old ≡ map (held_at lines) (range_with_len 0 k) →
    new ≡ old ++ x ∷ [] →
    new ≡ map (held_at lines) (range_with_len 0 (k + 1))
one_held lines k line x old new here is so_far put =
    put ∙ ap (λ (y : Option ℕ). old ++ y ∷ []) (is ∙ sym (held_here lines k line here))
    ∙ ap (λ (ys : List (Option ℕ)). ys ++ held_at lines k ∷ []) so_far
    ∙ sym (map-range_with_len_more (held_at lines) 0 k k (omega arith))

-- the lines of a rank's commands up to the next line
pub own_more : (lines : List Line) (k rank : ℕ) (line : Line) (t : Bool) → slice_get lines k ≡ Some line →
    (line.rank == rank) ≡ t →
    own_lines (take (k + 1) lines) rank ≡ own_lines (take k lines) rank ++ cond t ((k + 2) ∷ []) []
own_more lines k rank line t here is =
    ap (λ (cs : List Numbered). map (λ (c : Numbered). c.line) cs) (before_more lines k rank line here)
    ∙ map-append (λ (c : Numbered). c.line) (before lines k rank) (own_of rank (k + 2) line)
    ∙ ap (λ (ls : List ℕ). own_lines (take k lines) rank ++ ls) (by_rank (line.rank == rank) t is)
  where
    by_rank : (s t : Bool) → s ≡ t → map (λ (c : Numbered). c.line) (cond s (numbered (k + 2) line ∷ []) []) ≡ cond t
        ((k + 2) ∷ []) []
    by_rank s t same = rw same (alike t)
      where
        alike : (t : Bool) → map (λ (c : Numbered). c.line) (cond t (numbered (k + 2) line ∷ []) []) ≡ cond t
            ((k + 2) ∷ []) []
        alike true = refl
        alike false = refl

-- one line more is the rank's, or not
pub own_in : (lines : List Line) (k rank : ℕ) (line : Line) → slice_get lines k ≡ Some line → line.rank ≡ rank →
    own_lines (take k lines) rank ++ (k + 2) ∷ [] ≡ own_lines (take (k + 1) lines) rank
own_in lines k rank line here same = sym (own_more lines k rank line true here (rw same (eqb_self rank)))

pub own_out : (lines : List Line) (k rank : ℕ) (line : Line) → slice_get lines k ≡ Some line → (line.rank ≡ rank → ⊥) →
    own_lines (take k lines) rank ≡ own_lines (take (k + 1) lines) rank
own_out lines k rank line here other = by_rank (line.rank == rank) refl
  where
    by_rank : (t : Bool) → (line.rank == rank) ≡ t → own_lines (take k lines) rank ≡ own_lines (take (k + 1) lines) rank
    by_rank true is = absurd (other (same_number line.rank rank is))
    by_rank false is = sym (own_more lines k rank line false here is ∙ append-nil (own_lines (take k lines) rank))

-- one rank more
pub ranks_more : {A : Type 0} (f : ℕ → List ℕ) (old new : List (Vec ℕ A)) (v : Vec ℕ A) (r : ℕ) → v.items ≡ f r →
    map (λ own. own.items) old ≡ map f (range_with_len 0 r) → new ≡ old ++ v ∷ [] →
    map (λ own. own.items) new ≡ map f (range_with_len 0 (r + 1))
ranks_more {A} f old new v r is so_far put =
    ap (λ (vs : List (Vec ℕ A)). map (λ own. own.items) vs) put
    ∙ map-append (λ (own : Vec ℕ A). own.items) old (v ∷ [])
    ∙ ap (λ (y : List ℕ). map (λ (own : Vec ℕ A). own.items) old ++ y ∷ []) is
    ∙ ap (λ (ys : List (List ℕ)). ys ++ f r ∷ []) so_far
    ∙ sym (map-range_with_len_more f 0 r r (omega arith))

-- how many ranks have their lines
pub ranks_count : {A : Type 0} (f : ℕ → List ℕ) (ranks : List (Vec ℕ A)) (n : ℕ) →
    map (λ own. own.items) ranks ≡ map f (range_with_len 0 n) → length ranks ≡ n
ranks_count {A} f ranks n same =
    sym (length-map ranks (λ (own : Vec ℕ A). own.items)) ∙ ap (λ (ls : List (List ℕ)). length ls) same
    ∙ length-map-range_with_len f 0 n
