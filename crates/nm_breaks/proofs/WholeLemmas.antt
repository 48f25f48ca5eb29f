-- The lines of a trace stand behind those of its script and the line between.
use Rattle.std.proofs.Common.{◌≡◌, inl, inr, ℕ, suc, ◌+◌, ◌-◌, ◌≤◌, List, [], ◌∷◌, ◌++◌, length}
use Rattle.std.proofs.Common.{sym, ◌∙◌, ap, subst, arith}
use Rattle.std.specs.Prelude.{codes, slice_get}
use Rattle.nm_script.specs.Lines.{ended_lines, lines_of}
use Rattle.nm_shell.specs.Inputs.{IsCut, IsDivider}
use Rattle.nm_breaks.specs.Stops.{lines_in}
use Rattle.nm_breaks.proofs.FedLemmas.{Feeds, feeds_each, feeds_last}

-- a place behind a list and one item more
behind_one : {X : Type 0} (xs ys : List X) (y : X) (k : ℕ) →
    slice_get (xs ++ y ∷ ys) (length xs + suc k) ≡ slice_get ys k
behind_one [] ys y k = let same : 0 + suc k ≡ suc k = omega arith in ap (λ (n : ℕ). slice_get (y ∷ ys) n) same
behind_one (x ∷ xs) ys y k =
    let place : length (x ∷ xs) + suc k ≡ suc (length xs + suc k) = omega arith in
    ap (λ (n : ℕ). slice_get (x ∷ (xs ++ y ∷ ys)) n) place ∙ behind_one xs ys y k

-- the line between, and those of the trace
lines_behind : (behind rest : List ℕ) → IsDivider behind rest → lines_of behind ≡ codes "---" ∷ lines_of rest
lines_behind behind rest (inl is) = ap lines_of is
lines_behind behind rest (inr is) = ap lines_of is.0 ∙ ap (λ (xs : List ℕ). codes "---" ∷ lines_of xs) (sym is.1)

front_feeds : (lines : List (List ℕ)) → Feeds (ended_lines lines)
front_feeds lines = feeds_each (λ (line : List ℕ). line ++ 10 ∷ []) (λ line. feeds_last line) lines

pub line_behind : (bytes front rest : List ℕ) (line : ℕ) → IsCut bytes front rest → 1 ≤ line →
    slice_get (lines_of bytes) (lines_in front + line) ≡ slice_get (lines_of rest) (line - 1)
line_behind bytes front rest line cut some =
    let fed : Feeds front = subst Feeds (sym cut.front_is) (front_feeds cut.lines) in
    let place : lines_in front + line ≡ length (lines_of front) + suc (line - 1) = omega (arith, fed.many, some) in
    ap (λ (n : ℕ). slice_get (lines_of bytes) n) place
    ∙ ap (λ (ls : List (List ℕ)). slice_get ls (length (lines_of front) + suc (line - 1)))
    (ap lines_of cut.split ∙ fed.split cut.behind
    ∙ ap (λ (ls : List (List ℕ)). lines_of front ++ ls) (lines_behind cut.behind rest cut.follows))
    ∙ behind_one (lines_of front) (lines_of rest) (codes "---") (line - 1)
