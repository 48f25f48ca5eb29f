-- What words give, word by word.
use Rattle.std.proofs.Common.{◌≡◌, ℕ, ◌+◌, ◌<◌, suc, Bool, true, List, [], ◌∷◌, Option, Some, None}
use Rattle.std.proofs.Common.{add-one, ap, arith, drop, drop-cons, get_or, length, map, refl, set, sym, ◌∙◌}
use Rattle.std.specs.Option.{option_and_then}
use Rattle.nm_script.specs.Decimal.{number_of}
use Rattle.nm_chart.specs.PartWords.{all_options, asked_of, choose, nothing, part_of, with_option}
use Rattle.nm_chart.specs.declared.words.options.Options.{Options}

module _ {X : Type 0} (bytes : X → List ℕ) where
  -- none are left
  pub ended : (words : List X) (o : Options) → length words ≡ 0 → Some o ≡ all_options (map bytes words) o
  ended [] o none = refl
  ended (word ∷ words) o none = absurd (omega (arith, none))

  -- a name without its value
  pub lonely : (words behind : List X) (name : X) (o : Options) → words ≡ name ∷ behind → length behind ≡ 0 →
      None ≡ all_options (map bytes words) o
  lonely words [] name o is none = sym (ap (λ ws. all_options (map bytes ws) o) is)
  lonely words (word ∷ behind) name o is none = absurd (omega (arith, none))

  -- an option with its value
  pub given : (words behind others : List X) (name value : X) (said what : List ℕ) (o : Options)
      (next : Option Options) → words ≡ name ∷ behind → behind ≡ value ∷ others → said ≡ bytes name →
      what ≡ bytes value → next ≡ with_option said what o →
      option_and_then (λ n. all_options (map bytes others) n) next ≡ all_options (map bytes words) o
  given words behind others name value said what o next is rest named valued found =
      ap (λ x. option_and_then (λ n. all_options (map bytes others) n) x)
      (found ∙ ap (λ s. with_option s what o) named ∙ ap (λ w. with_option (bytes name) w o) valued)
      ∙ sym (ap (λ ws. all_options (map bytes ws) o) (is ∙ ap (λ ws. name ∷ ws) rest))

  -- a word that names a rank
  pub choose_next : (words : List X) (i : ℕ) (none : X) (rank : ℕ) (chosen : List Bool) → i < length words →
      Some rank ≡ number_of 64 (bytes (get_or words i none)) →
      choose (map bytes (drop i words)) chosen ≡ choose (map bytes (drop (i + 1) words)) (set chosen rank true)
  choose_next words i none rank chosen below found =
      ap (λ ws. choose (map bytes ws) chosen) (drop-cons words i none below)
      ∙ ap (λ r. option_and_then (λ n. choose (map bytes (drop (suc i) words)) (set chosen n true)) r) (sym found)
      ∙ ap (λ k. choose (map bytes (drop k words)) (set chosen rank true)) (sym (add-one i))

  -- a word that names none
  pub choose_none : (words : List X) (i : ℕ) (none : X) (chosen : List Bool) → i < length words →
      None ≡ number_of 64 (bytes (get_or words i none)) → choose (map bytes (drop i words)) chosen ≡ None
  choose_none words i none chosen below found =
      ap (λ ws. choose (map bytes ws) chosen) (drop-cons words i none below)
      ∙ ap (λ r. option_and_then (λ n. choose (map bytes (drop (suc i) words)) (set chosen n true)) r) (sym found)

-- what all options ask for
pub asked : (words : List (List ℕ)) (o : Options) (found : Option Options) → o ≡ nothing →
    found ≡ all_options words o → option_and_then part_of found ≡ asked_of words
asked words o found start is = ap (option_and_then part_of) (is ∙ ap (all_options words) start)
