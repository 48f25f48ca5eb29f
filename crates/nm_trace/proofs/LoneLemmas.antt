-- The answer of a word is found among those of one word.
use Rattle.std.proofs.Common.{◌≡◌, ℕ, Bool, true, false, cond, List, [], ◌∷◌, Option, Some, None, map, refl}
use Rattle.std.specs.Option.{option_map}
use Rattle.std.specs.Prelude.{find}
use Rattle.std.specs.Str.{bytes_eq}
use Rattle.nm_types.proofs.ListLemmas.{find-map}
use Rattle.nm_trace.specs.Lones.{answer_of, lones}
use Rattle.nm_trace.specs.Sorts.{lone_answer, lone_text}

pub lone_found : (word : List ℕ) →
    lone_answer word ≡ option_map answer_of (find (λ a. bytes_eq word (lone_text (answer_of a))) lones)
unfolding lone_answer
lone_found word = find-map answer_of (λ a. bytes_eq word (lone_text a)) lones
