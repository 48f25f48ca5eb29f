-- The next line of a rank, by the commands that took effect.
use Rattle.std.proofs.Common.{◌≡◌, ℕ, zero, suc, ◌+◌, ◌-◌, ◌≤◌, ◌==◌, Bool, true, false, cond, Option, Some, None}
use Rattle.std.proofs.Common.{List, [], ◌∷◌, drop, take, fold, length, refl, sym, ◌∙◌, ap, subst, arith}
use Rattle.std.specs.Prelude.{option_map}
use Rattle.std.specs.List.{position_from, slice_get}
use Rattle.std.proofs.lemmas.Iterator.Adapters.{position_from-zero}
use Rattle.std.proofs.lemmas.List.Sums.{fold_push}
use Rattle.nm_types.specs.declared.scripts.Line.{Line}
use Rattle.nm_types.specs.Commands.{Numbered, commands_from, commands_of, numbered, rank_line}
use Rattle.nm_types.proofs.ListLemmas.{place_below, get_some, take_more}
use Rattle.nm_types.proofs.NumberLemmas.{same_number}
use Rattle.nm_types.proofs.OptionLemmas.{no_some, same_some}
use Rattle.nm_lawful.specs.Moves.{next_of_lem}
use Rattle.nm_runs_lawful.specs.Stands.{behind}

-- the first command stands at the first line of its rank
first_at : (rank number k : ℕ) (lines : List Line) (c : Numbered) →
    slice_get (commands_from rank number lines) 0 ≡ Some c →
    (number ≤ c.line) × (position_from (λ (l : Line). l.rank == rank) k lines ≡ Some (k + (c.line - number)))
first_at rank number k [] c here = absurd (no_some c here)
first_at rank number k (l ∷ lines) c here =
    by_rank (l.rank == rank) here (first_at rank (number + 1) (k + 1) lines c)
  where
    by_rank : (b : Bool) →
        slice_get (cond b (numbered number l ∷ commands_from rank (number + 1) lines)
        (commands_from rank (number + 1) lines)) 0 ≡ Some c →
        (slice_get (commands_from rank (number + 1) lines) 0 ≡ Some c →
        (number + 1 ≤ c.line)
        × (position_from (λ (l : Line). l.rank == rank) (k + 1) lines ≡ Some (k + 1 + (c.line - (number + 1))))) →
        (number ≤ c.line)
        × (cond b (Some k) (position_from (λ (l : Line). l.rank == rank) (k + 1) lines)
        ≡ Some (k + (c.line - number)))
    by_rank true here later =
        let same : number ≡ c.line = ap (λ (c : Numbered). c.line) (same_some (numbered number l) c here) in
        (omega (arith, same), ap (λ (n : ℕ). Some n) (omega (arith, same)))
    by_rank false here later =
        let more = later here in
        (omega (arith, more.0), more.1 ∙ ap (λ (n : ℕ). Some n) (let low = more.0 in omega (arith, low)))

-- .. and there is none where there is no command
none_at : (rank number k : ℕ) (lines : List Line) → slice_get (commands_from rank number lines) 0 ≡ None →
    position_from (λ (l : Line). l.rank == rank) k lines ≡ None
none_at rank number k [] none = refl
none_at rank number k (l ∷ lines) none = by_rank (l.rank == rank) none (none_at rank (number + 1) (k + 1) lines)
  where
    by_rank : (b : Bool) →
        slice_get (cond b (numbered number l ∷ commands_from rank (number + 1) lines)
        (commands_from rank (number + 1) lines)) 0 ≡ None →
        (slice_get (commands_from rank (number + 1) lines) 0 ≡ None →
        position_from (λ (l : Line). l.rank == rank) (k + 1) lines ≡ None) →
        cond b (Some k) (position_from (λ (l : Line). l.rank == rank) (k + 1) lines) ≡ None
    by_rank true none later = absurd (no_some (numbered number l) (sym none))
    by_rank false none later = later none

-- the lines behind a command's line have the commands behind it, and the line is there
abbrev IsRest : ℕ → ℕ → List Line → Numbered → List Numbered → Type 0
IsRest rank number lines c rest =
    (number ≤ c.line)
    × (commands_from rank (c.line + 1) (drop (c.line + 1 - number) lines) ≡ rest)
    × (slice_get lines (c.line - number) ≡ Some (rank_line rank c.command))

abbrev HasRest : ℕ → ℕ → List Line → Numbered → ℕ → Type 0
HasRest rank number lines c k =
    slice_get (commands_from rank number lines) k ≡ Some c →
    IsRest rank number lines c (drop (suc k) (commands_from rank number lines))

farther : (rank number k : ℕ) (l : Line) (lines : List Line) (c : Numbered) → HasRest rank (number + 1) lines c k →
    slice_get (commands_from rank (number + 1) lines) k ≡ Some c →
    IsRest rank number (l ∷ lines) c (drop (suc k) (commands_from rank (number + 1) lines))
farther rank number k l lines c later here =
    let more = later here in
    let low = more.0 in
    let one : c.line + 1 - number ≡ suc (c.line + 1 - (number + 1)) = omega (arith, low) in
    let two : c.line - number ≡ suc (c.line - (number + 1)) = omega (arith, low) in (
      omega (arith, low),
      ap (λ (n : ℕ). commands_from rank (c.line + 1) (drop n (l ∷ lines))) one ∙ more.1,
      ap (λ (n : ℕ). slice_get (l ∷ lines) n) two ∙ more.2,
    )

first_rest : (rank number : ℕ) (l : Line) (lines : List Line) → (l.rank == rank) ≡ true →
    IsRest rank number (l ∷ lines) (numbered number l) (commands_from rank (number + 1) lines)
first_rest rank number l lines own = (
  same number,
  ap (λ (n : ℕ). commands_from rank (number + 1) (drop n (l ∷ lines))) (one number),
  ap (λ (n : ℕ). slice_get (l ∷ lines) n) (none number)
      ∙ ap (λ (r : ℕ). Some (rank_line r l.command)) (same_number l.rank rank own),
)
  where
    same : (n : ℕ) → n ≤ n
    same n = omega arith

    one : (n : ℕ) → n + 1 - n ≡ 1
    one n = omega arith

    none : (n : ℕ) → n - n ≡ 0
    none n = omega arith

rest_at : (rank number k : ℕ) (lines : List Line) (c : Numbered) → HasRest rank number lines c k
rest_at rank number k [] c here = absurd (no_some c here)
rest_at rank number k (l ∷ lines) c here =
    by_rank (l.rank == rank) refl k here (λ k. rest_at rank (number + 1) k lines c)
  where
    by_rank : (b : Bool) → (l.rank == rank) ≡ b → (k : ℕ) →
        slice_get (cond b (numbered number l ∷ commands_from rank (number + 1) lines)
        (commands_from rank (number + 1) lines)) k ≡ Some c →
        ((k : ℕ) → HasRest rank (number + 1) lines c k) →
        IsRest rank number (l ∷ lines) c (drop (suc k) (cond b
        (numbered number l ∷ commands_from rank (number + 1) lines) (commands_from rank (number + 1) lines)))
    by_rank true own zero here later =
        subst (λ (c : Numbered). IsRest rank number (l ∷ lines) c (commands_from rank (number + 1) lines))
        (same_some (numbered number l) c here) (first_rest rank number l lines own)
    by_rank true own (suc k) here later = farther rank number k l lines c (later k) here
    by_rank false own k here later = farther rank number k l lines c (later k) here

-- the first element behind some
get_dropped : {X : Type 0} (xs : List X) (k : ℕ) → slice_get (drop k xs) 0 ≡ slice_get xs k
get_dropped [] zero = refl
get_dropped [] (suc k) = refl
get_dropped (x ∷ xs) zero = refl
get_dropped (x ∷ xs) (suc k) = get_dropped xs k

pub behind_next : (commands : List Numbered) (k : ℕ) (c : Numbered) → slice_get commands k ≡ Some c →
    behind commands (suc k) ≡ c.line - 1
behind_next commands k c here =
    ap (λ (cs : List Numbered). fold (λ (place : ℕ) (c : Numbered). c.line - 1) 0 cs) (take_more commands k c here)
    ∙ fold_push (λ (place : ℕ) (c : Numbered). c.line - 1) 0 (take k commands) c

-- the line of a command is there
pub line_there : (rank : ℕ) (lines : List Line) (k : ℕ) (c : Numbered) →
    slice_get (commands_of rank lines) k ≡ Some c →
    (2 ≤ c.line) × (slice_get lines (c.line - 2) ≡ Some (rank_line rank c.command))
line_there rank lines k c here = let rest = rest_at rank 2 k lines c here in (rest.0, rest.2)

module _ (rank : ℕ) (lines : List Line) where
  abbrev Finds : ℕ → Option ℕ → Type 0
  Finds k o = next_of_lem lines rank (behind (commands_of rank lines) k) ≡ o

  by_position : (at : ℕ) (o : Option ℕ) → position_from (λ (l : Line). l.rank == rank) 0 (drop at lines) ≡ o →
      next_of_lem lines rank at ≡ option_map (λ k. at + k) o
  by_position at o is =
      ap (λ (o : Option ℕ). option_map (λ k. at + k) o)
      (position_from-zero (λ (l : Line). l.rank == rank) (drop at lines) ∙ is)

  -- the next line of a rank, of which so many commands took effect, is that of its next command
  pub next_is : (k : ℕ) (c : Numbered) → slice_get (commands_of rank lines) k ≡ Some c → Finds k (Some (c.line - 2))
  next_is zero c here =
      let first = first_at rank 2 0 lines c here in
      by_position 0 (Some (0 + (c.line - 2)))
      first.1
      ∙ ap (λ (n : ℕ). Some n) (sums (c.line - 2))
    where
      sums : (n : ℕ) → 0 + (0 + n) ≡ n
      sums n = omega arith
  next_is (suc k) c here =
      let low = place_below (commands_of rank lines) (suc k) c here in
      let last = get_some (commands_of rank lines) k (omega (arith, low)) in
      let at = behind_next (commands_of rank lines) k last.0 last.1 in
      let rest = rest_at rank 2 k lines last.0 last.1 in
      let two = rest.0 in
      let same : last.0.line + 1 - 2 ≡ last.0.line - 1 = omega arith in
      let first = first_at rank (last.0.line + 1) 0 (drop (last.0.line + 1 - 2) lines) c
      (ap (λ (cs : List Numbered). slice_get cs 0) rest.1 ∙ get_dropped (commands_of rank lines) (suc k) ∙ here) in
      let past = first.0 in
      subst (λ (n : ℕ). next_of_lem lines rank n ≡ Some (c.line - 2)) (same ∙ sym at)
      (by_position (last.0.line + 1 - 2) (Some (0 + (c.line - (last.0.line + 1)))) first.1
      ∙ ap (λ (n : ℕ). Some n) (omega (arith, past, two)))

  -- .. and there is none behind its last one
  pub none_is : (k : ℕ) → slice_get (commands_of rank lines) k ≡ None → k ≤ length (commands_of rank lines) →
      Finds k None
  none_is zero none few =
      by_position 0 None
      (none_at rank 2 0 lines none)
  none_is (suc k) none few =
      let last = get_some (commands_of rank lines) k (omega (arith, few)) in
      let at = behind_next (commands_of rank lines) k last.0 last.1 in
      let rest = rest_at rank 2 k lines last.0 last.1 in
      let same : last.0.line + 1 - 2 ≡ last.0.line - 1 = omega arith in
      subst (λ (n : ℕ). next_of_lem lines rank n ≡ None) (same ∙ sym at)
      (by_position (last.0.line + 1 - 2) None
      (none_at rank (last.0.line + 1) 0 (drop (last.0.line + 1 - 2) lines)
      (ap (λ (cs : List Numbered). slice_get cs 0) rest.1 ∙ get_dropped (commands_of rank lines) (suc k) ∙ none)))
