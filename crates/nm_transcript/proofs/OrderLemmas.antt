-- The commands of all ranks, one after another.
use Rattle.std.proofs.Common.{◌≡◌, ℕ, zero, suc, ◌+◌, ◌<◌, ◌≤◌, ◌==◌, ◌⊎◌, inl, inr, Bool, true, false, cond, Option, Some}
use Rattle.std.proofs.Common.{List, [], ◌∷◌, ◌++◌, length, map, get_or, refl, sym, ◌∙◌, ap, subst, arith}
use Rattle.std.proofs.Common.{append_assoc, append-nil}
use Rattle.std.specs.Prelude.{IsTrue, set, unwrap_or}
use Rattle.std.specs.List.{slice_get}
use Rattle.std.proofs.lemmas.Bool.{cases_eq, cases_lt, false≢true}
use Rattle.std.proofs.lemmas.List.{length-set, length_push}
use Rattle.std.proofs.lemmas.Option.{slice_get_read}
use Rattle.nm_types.specs.declared.limits.TheConstants.{MAX_LINES}
use Rattle.nm_types.specs.declared.scripts.Command.{Command}
use Rattle.nm_types.specs.declared.scripts.Line.{Line}
use Rattle.nm_types.specs.Commands.{Numbered, commands_from, rank_line}
use Rattle.nm_types.specs.Limits.{IsScript}
use Rattle.nm_types.proofs.NumberLemmas.{eq_true, unequal}
use Rattle.nm_transcript.specs.Orders.{AreAll, AreFirst, HasNext, IsGiven, IsTooLong, calls_in, calls_of}

-- a rank whose list is not empty
next_of : (rest : List (List Command)) (rank : ℕ) (xs : List Command) → slice_get rest rank ≡ Some xs →
    (xs ≡ [] → ⊥) → HasNext rest rank
next_of rest rank [] is some = absurd (some refl)
next_of rest rank (call ∷ others) is some = record { call = call; others = others; is = is }

pub next_there : (rest : List (List Command)) (rank : ℕ) (xs : List Command) → rank < length rest →
    xs ≡ get_or rest rank xs → (xs ≡ [] → ⊥) → HasNext rest rank
next_there rest rank xs low read some = next_of rest rank xs (slice_get_read rest (length rest) rank xs refl low read) some

pub none_there : (rest : List (List Command)) (rank : ℕ) (xs : List Command) → rank < length rest →
    xs ≡ get_or rest rank xs → xs ≡ [] → calls_of rest rank ≡ []
none_there rest rank xs low read none =
    ap (λ (o : Option (List Command)). unwrap_or o []) (slice_get_read rest (length rest) rank xs refl low read) ∙ none

-- there is no rank behind the last
past : (rest : List (List Command)) (rank : ℕ) → length rest ≤ rank → calls_of rest rank ≡ []
past [] rank low = refl
past (x ∷ rest) zero low = absurd (omega (arith, low))
past (x ∷ rest) (suc rank) low = past rest rank (omega (arith, low))

pub none_anywhere : (rest : List (List Command)) (n : ℕ) → n ≡ length rest →
    ((rank : ℕ) → rank < n → calls_of rest rank ≡ []) → (rank : ℕ) → calls_of rest rank ≡ []
none_anywhere rest n all none rank = by (cases_lt rank n) where
  by : (rank < n) ⊎ (n ≤ rank) → calls_of rest rank ≡ []
  by (inl low) = none rank low
  by (inr high) = past rest rank (omega (arith, all, high))

pub one_less : (rest : List (List Command)) (n : ℕ) → ((rank : ℕ) → rank < n → calls_of rest rank ≡ []) →
    calls_of rest n ≡ [] → (rank : ℕ) → rank < n + 1 → calls_of rest rank ≡ []
one_less rest n none here rank low = by (cases_eq rank n) where
  by : (rank ≡ n) ⊎ (rank ≡ n → ⊥) → calls_of rest rank ≡ []
  by (inl same) = subst (λ (k : ℕ). calls_of rest k ≡ []) (sym same) here
  by (inr other) = none rank (omega (arith, low, other))

-- the rank of a call is a rank
pub next_low : (rest : List (List Command)) (rank : ℕ) (xs : List Command) → slice_get rest rank ≡ Some xs →
    rank < length rest
next_low [] rank xs is = cc
next_low (x ∷ rest) zero xs is = omega arith
next_low (x ∷ rest) (suc rank) xs is = let low = next_low rest rank xs is in omega (arith, low)

pub next_is : (rest : List (List Command)) (rank : ℕ) (xs ys : List Command) → slice_get rest rank ≡ Some xs →
    ys ≡ get_or rest rank ys → ys ≡ xs
next_is [] rank xs ys is read = cc
next_is (x ∷ rest) zero xs ys is read =
    read ∙ ap (λ (o : Option (List Command)). unwrap_or o []) is
next_is (x ∷ rest) (suc rank) xs ys is read = next_is rest rank xs ys is read

own_rest : (rest : List (List Command)) (rank : ℕ) (xs ys : List Command) → slice_get rest rank ≡ Some xs →
    calls_of (set rest rank ys) rank ≡ ys
own_rest [] rank xs ys is = cc
own_rest (x ∷ rest) zero xs ys is = refl
own_rest (x ∷ rest) (suc rank) xs ys is = own_rest rest rank xs ys is

other_rest : (rest : List (List Command)) (rank k : ℕ) (ys : List Command) → (rank ≡ k → ⊥) →
    calls_of (set rest rank ys) k ≡ calls_of rest k
other_rest [] rank k ys other = refl
other_rest (x ∷ rest) zero zero ys other = absurd (other refl)
other_rest (x ∷ rest) zero (suc k) ys other = refl
other_rest (x ∷ rest) (suc rank) zero ys other = refl
other_rest (x ∷ rest) (suc rank) (suc k) ys other = other_rest rest rank k ys (λ same. other (ap suc same))

-- a line more
calls_push : (rank n : ℕ) (lines : List Line) (l : Line) →
    map (λ (c : Numbered). c.command) (commands_from rank n (lines ++ l ∷ []))
    ≡ map (λ (c : Numbered). c.command) (commands_from rank n lines) ++ cond (l.rank == rank) (l.command ∷ []) []
calls_push rank n [] l = by (l.rank == rank) where
  by : (b : Bool) → map (λ (c : Numbered). c.command) (cond b (record { line = n; command = l.command } ∷ []) [])
      ≡ cond b (l.command ∷ []) []
  by true = refl
  by false = refl
calls_push rank n (x ∷ lines) l = by (x.rank == rank) (calls_push rank (n + 1) lines l) where
  by : (b : Bool) →
      map (λ (c : Numbered). c.command) (commands_from rank (n + 1) (lines ++ l ∷ []))
      ≡ map (λ (c : Numbered). c.command) (commands_from rank (n + 1) lines)
      ++ cond (l.rank == rank) (l.command ∷ []) [] →
      map (λ (c : Numbered). c.command)
      (cond b (record { line = n; command = x.command } ∷ commands_from rank (n + 1) (lines ++ l ∷ []))
      (commands_from rank (n + 1) (lines ++ l ∷ [])))
      ≡ map (λ (c : Numbered). c.command)
      (cond b (record { line = n; command = x.command } ∷ commands_from rank (n + 1) lines)
      (commands_from rank (n + 1) lines)) ++ cond (l.rank == rank) (l.command ∷ []) []
  by true rest = ap (λ (xs : List Command). x.command ∷ xs) rest
  by false rest = rest

given_to : (lines : List Line) (rest given : List (List Command)) (rank : ℕ) (call : Command) (others : List Command) →
    slice_get rest rank ≡ Some (call ∷ others) → AreFirst lines rest given →
    AreFirst (lines ++ rank_line rank call ∷ []) (set rest rank others) given
given_to lines rest given rank call others was first k = by (cases_eq rank k) where
  by : (rank ≡ k) ⊎ (rank ≡ k → ⊥) →
      calls_in (lines ++ rank_line rank call ∷ []) k ++ calls_of (set rest rank others) k ≡ calls_of given k
  by (inl same) =
      ap (λ (xs : List Command). xs ++ calls_of (set rest rank others) k)
      (calls_push k 2 lines (rank_line rank call)
      ∙ ap (λ (b : Bool). calls_in lines k ++ cond b (call ∷ []) []) (eq_true rank k same))
      ∙ append_assoc (calls_in lines k) (call ∷ []) (calls_of (set rest rank others) k)
      ∙ ap (λ (xs : List Command). calls_in lines k ++ call ∷ xs)
      (subst (λ (j : ℕ). calls_of (set rest rank others) j ≡ others) same
      (own_rest rest rank (call ∷ others) others was))
      ∙ ap (λ (xs : List Command). calls_in lines k ++ xs)
      (subst (λ (j : ℕ). call ∷ others ≡ calls_of rest j) same
      (sym (ap (λ (o : Option (List Command)). unwrap_or o []) was)))
      ∙ first k
  by (inr other) =
      ap (λ (xs : List Command). xs ++ calls_of (set rest rank others) k)
      (calls_push k 2 lines (rank_line rank call)
      ∙ ap (λ (b : Bool). calls_in lines k ++ cond b (call ∷ []) []) (unequal rank k other)
      ∙ append-nil (calls_in lines k))
      ∙ ap (λ (xs : List Command). calls_in lines k ++ xs) (other_rest rest rank k others other)
      ∙ first k

pub given_one : (rank : ℕ) (rest given later : List (List Command)) (lines more : List Line) →
    IsGiven rank rest lines later more → AreFirst lines rest given → AreFirst more later given
given_one rank rest given later lines more one first =
    subst (λ (ls : List Line). AreFirst ls later given) (sym one.line)
    (subst (λ (r : List (List Command)). AreFirst (lines ++ rank_line rank one.call ∷ []) r given) (sym one.is)
    (given_to lines rest given rank one.call one.others one.was first))

pub all_given : (lines : List Line) (rest given : List (List Command)) → AreFirst lines rest given →
    ((rank : ℕ) → calls_of rest rank ≡ []) → AreAll lines given
all_given lines rest given first none rank =
    sym (append-nil (calls_in lines rank)) ∙ ap (λ (xs : List Command). calls_in lines rank ++ xs) (sym (none rank))
    ∙ first rank

pub counts_after : (rank : ℕ) (rest given later : List (List Command)) (lines more : List Line) (n : ℕ) →
    IsGiven rank rest lines later more → length rest ≡ length given → length lines ≡ n →
    (length later ≡ length given) × (length more ≡ n + 1)
counts_after rank rest given later lines more n one ranks many = (
  ap (λ (r : List (List Command)). length r) one.is ∙ length-set rest rank one.others ∙ ranks,
  ap (λ (ls : List Line). length ls) one.line ∙ length_push lines (rank_line rank one.call)
      ∙ ap (λ (k : ℕ). k + 1) many,
)

-- none is given at first
pub none_given : (lines : List Line) (given : List (List Command)) → lines ≡ [] → AreFirst lines given given
none_given lines given none = subst (λ (ls : List Line). AreFirst ls given given) (sym none) (λ rank. refl)

-- it is not both
pub not_both : (b : Bool) → IsTrue b → b ≡ false → ⊥
not_both b holds fails = false≢true (sym fails ∙ holds)

-- lines that are no script
pub too_many : (ranks : ℕ) (lines : List Line) (rest given : List (List Command)) → AreFirst lines rest given →
    MAX_LINES ≤ length lines → IsTooLong ranks given
too_many ranks lines rest given first many = record {
  lines = lines;
  rest = rest;
  first = first;
  breaks = λ is. let few = is.few_lines in omega (arith, few, many);
}

pub too_long : (ranks : ℕ) (lines : List Line) (given : List (List Command)) → AreAll lines given →
    ¬ (IsScript ranks lines) → IsTooLong ranks given
too_long ranks lines given all none = record {
  lines = lines;
  rest = [];
  first = λ rank. append-nil (calls_in lines rank) ∙ all rank;
  breaks = none;
}
