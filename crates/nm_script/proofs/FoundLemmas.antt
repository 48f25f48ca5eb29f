-- What the arguments give in the end.
use Rattle.std.proofs.Common.{◌≡◌, ℕ, ◌⊎◌, inl, inr, List, [], ◌∷◌, Some, refl, sym, ◌∙◌, length, map, String}
use Rattle.std.proofs.Common.{string_bytes, true, false, ◌==◌, arith}
use Rattle.std.proofs.lemmas.Bool.Decides.{Decides-eqb}
use Rattle.nm_script.specs.ArgumentWords.{IsArgument}
use Rattle.nm_script.specs.CommandWords.{ReadsArguments, with_argument}
use Rattle.nm_script.specs.CommandWords.ReadsArguments.{ends, more}
use Rattle.nm_script.specs.declared.command_line.arguments.Argument.{Argument}
use Rattle.nm_script.specs.declared.command_line.found.Found.{Found}

-- an argument, and what follows it
pub record Goes (f : Found) (words : List (List ℕ)) (h : Found) : Type 0 where
  pub argument : Argument
  pub others : List (List ℕ)
  pub next : Found
  pub is : IsArgument argument words others
  pub added : with_argument f argument ≡ Some next
  pub follows : ReadsArguments next others h

-- there are no words and nothing more is found, or there is an argument
pub cases : (f h : Found) (words : List (List ℕ)) → ReadsArguments f words h →
    ((words ≡ []) × (f ≡ h)) ⊎ Goes f words h
cases f _ _ (ends _) = inl (refl, refl)
cases f h words (more a _ others _ g _ is added follows) =
    inr (record { argument = a; others = others; next = g; is = is; added = added; follows = follows })

-- what is_empty says
pub no_words : {A : Type 0} (words : List A) → (length words == 0) ≡ true → words ≡ []
no_words [] h = refl
no_words (w ∷ ws) h = let e = (Decides-eqb (length (w ∷ ws)) 0).0 h in absurd (omega (arith, e))

pub some_word : {Z : Type 0} (words : List (String Z)) → (length words == 0) ≡ false → map string_bytes words ≡ [] → ⊥
some_word [] h none = let e = (Decides-eqb 0 0).1 refl in let f : true ≡ false = sym e ∙ h in cc
some_word (w ∷ ws) h none = cc

-- where there are words there is an argument
pub goes_on : (f h : Found) (words : List (List ℕ)) → (words ≡ [] → ⊥) → ReadsArguments f words h → Goes f words h
goes_on f h words some follows =
    elim (cases f h words follows) [ inl e ↦ absurd (some e.0) | inr goes ↦ goes ]
