-- The words of the command line.
use Rattle.std.specs.Prelude.{◌≡◌, ℕ, ◌==◌, ◌&&◌, Option, Some, None, List, [], ◌∷◌, codes, if◌then◌else◌}
use Rattle.std.specs.Str.{bytes_eq}
use Rattle.nm_script.specs.Decimal.{number_of}
use Rattle.nm_trace.specs.Steps.{◌>>=◌}
use Rattle.nm_lawful_top.specs.declared.words.Asked.{Asked}
use Rattle.nm_lawful_top.specs.declared.words.Cuts.{Cuts}
use Rattle.nm_lawful_top.specs.declared.words.Cuts.TheVariants.{Any, Compared}

-- what a number of states asks for, 1 to 16,777,216
unfoldable pub with_states : Cuts → List ℕ → Option Asked
with_states cuts word =
    number_of 16777217 word >>= λ n. if n == 0 then None else Some (record { cuts = cuts; states = n })

-- what the words ask for: a number of states, and before it `--cut any` or nothing
unfoldable pub asked_of : List (List ℕ) → Option Asked
asked_of (states ∷ []) = with_states Compared states
asked_of (cut ∷ any ∷ states ∷ []) =
    if bytes_eq cut (codes "--cut") && bytes_eq any (codes "any") then with_states Any states else None
asked_of words = None

-- the words ask for this, and for nothing else
abbrev pub IsTaken : List (List ℕ) → Asked → Type 0
IsTaken words asked = asked_of words ≡ Some asked

-- words that are not taken
abbrev pub NotTaken : List (List ℕ) → Type 0
NotTaken words = asked_of words ≡ None
