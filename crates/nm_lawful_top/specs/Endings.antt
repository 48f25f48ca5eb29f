-- What a status says of the input.
use Rattle.std.specs.Prelude.{◌≡◌, ℕ, List, Ok}
use Rattle.nm_types.specs.declared.scripts.Line.{Line}
use Rattle.nm_script.specs.Spelled.{IsTextOf}
use Rattle.nm_shell.specs.Inputs.{IsInput, read_of}
use Rattle.nm_lawful.specs.Lawful.{IsLawful}
use Rattle.nm_lawful.specs.Moves.{Report}
use Rattle.nm_lawful_top.specs.declared.words.Asked.{Asked}
use Rattle.nm_lawful_top.specs.Readings.{reading_of}

-- the bytes spell this script, and so many lines behind it tell this
pub record IsGiven (asked : Asked) (bytes : List ℕ) : Type 0 where
  pub script : List ℕ
  pub text : List ℕ
  pub input : IsInput (read_of bytes) script text
  pub ranks : ℕ
  pub lines : List Line
  pub spelled : IsTextOf script ranks lines
  pub told : Report
  pub count : ℕ
  pub read : reading_of asked.cuts ranks lines text ≡ Ok (told, count)

-- .. and MPI's text alone allows that
abbrev pub AreLawful : Asked → List ℕ → Type 0
AreLawful asked bytes = (given : IsGiven asked bytes) × IsLawful given.lines given.told given.ranks

-- .. or it doesn't
abbrev pub AreUnlawful : Asked → List ℕ → Type 0
AreUnlawful asked bytes = (given : IsGiven asked bytes) × (IsLawful given.lines given.told given.ranks → ⊥)
