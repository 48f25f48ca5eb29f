-- Texts that are written one after another.
use Rattle.std.proofs.Common.{◌≡◌, ℕ, List, ◌++◌, ◌∙◌, ap, append_assoc}

-- three
pub three_written : (old first second new a b c : List ℕ) → first ≡ old ++ a → second ≡ first ++ b → new ≡ second ++ c →
    new ≡ old ++ (a ++ (b ++ c))
three_written old first second new a b c one two three =
    three
    ∙ ap (λ (z : List ℕ). z ++ c) (two ∙ ap (λ (z : List ℕ). z ++ b) one)
    ∙ append_assoc (old ++ a) b c
    ∙ append_assoc old a (b ++ c)

-- one behind a line of five
pub behind_five : (old first new a b c d e n : List ℕ) → first ≡ old ++ (a ++ (b ++ (c ++ (d ++ e)))) →
    new ≡ first ++ n → new ≡ old ++ (a ++ (b ++ (c ++ (d ++ (e ++ n)))))
behind_five old first new a b c d e n one two =
    let all : (old ++ (a ++ (b ++ (c ++ (d ++ e))))) ++ n ≡ old ++ (a ++ (b ++ (c ++ (d ++ (e ++ n))))) =
    simp append_assoc in
    two ∙ ap (λ (z : List ℕ). z ++ n) one ∙ all
