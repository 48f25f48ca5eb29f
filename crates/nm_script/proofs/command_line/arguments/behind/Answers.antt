-- What stands behind a front.
use Rattle.std.proofs.Common.{◌≡◌, ℕ, ◌+◌, List, ◌++◌, length, take, drop, sym, ap, ◌∙◌, true, false, Some, None}
use Rattle.std.specs.Option.{MatchOption}
use Rattle.std.specs.Str.{bytes_eq}
use Rattle.std.proofs.lemmas.Slice.Eq.{bytes_eq-Decides}
use Rattle.std.proofs.lemmas.List.{take-append-drop}
use Rattle.std.proofs.Math.Seq.{take-append_seam}
use Rattle.nm_script.proofs.command_line.arguments.behind.Goals as goal

apart : (word front rest : List ℕ) → bytes_eq (take (length front) word) front ≡ false →
    word ≡ front ++ rest → ⊥
apart word front rest differs is =
    let same : take (length front) word ≡ front = ap (take (length front)) is ∙ take-append_seam front rest in
    let equal = (bytes_eq-Decides (take (length front) word) front).1 same in
    cc

whole : (word front rest : List ℕ) → bytes_eq (take (length front) word) front ≡ true →
    rest ≡ drop (length front) word → word ≡ front ++ rest
whole word front rest equal is =
    let same = (bytes_eq-Decides (take (length front) word) front).0 equal in
    sym (take-append-drop (length front) word) ∙ (ap (λ xs. xs ++ drop (length front) word) same
    ∙ ap (λ xs. front ++ xs) (sym is))

pub returns : goal.returns
returns c =
    let front = c.args.front.now in
    let word = c.args.word.now in
    elim c.strip_prefix.result as (λ r. MatchOption r (bytes_eq (take (length front) word) front ≡ false)
    (λ x. (bytes_eq (take (length front) word) front ≡ true) × (x.now ≡ drop (length front) word)
    × (length x.now + length front ≡ length word)) →
    MatchOption r ((rest : List ℕ) → word ≡ front ++ rest → ⊥) (λ rest. word ≡ front ++ rest.now)) [
      | None ↦ λ h rest is. apart word front rest h is
      | Some x ↦ λ h. whole word front x.now h.0 h.1
    ] c.strip_prefix.ensures.cases
