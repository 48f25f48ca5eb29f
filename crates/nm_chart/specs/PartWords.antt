-- What the words of the command line ask for.
use Rattle.std.specs.Prelude.{ℕ, ◌≤◌, ◌+◌, ◌==◌, ◌&&◌, Bool, true, false, nat_le, if◌then◌else◌, List, [], ◌∷◌}
use Rattle.std.specs.Prelude.{Option, Some, None, codes, option_and_then, replicate, slice_set, unwrap_or}
use Rattle.std.specs.List.{slice_split}
use Rattle.std.specs.Str.{bytes_eq}
use Rattle.nm_script.specs.Decimal.{number_of}
use Rattle.nm_diagram.specs.declared.frames.Part.{Part}
use Rattle.nm_chart.specs.declared.words.options.Options.{Options}

-- no option was read yet
abbrev pub nothing : Options
nothing = record { from = None; to = None; chosen = None; of = None }

-- the value of an option that was not given before
abbrev pub once : {X : Type 0} → Option X → Option X → (X → Options) → Option Options
once None (Some value) next = Some (next value)
once _ _ next = None

-- with the first stamp
abbrev pub with_from : List ℕ → Options → Option Options
with_from value o = once o.from (number_of 4294967296 value) (λ n. record o { from = Some n })

-- .. the last one
abbrev pub with_to : List ℕ → Options → Option Options
with_to value o = once o.to (number_of 4294967296 value) (λ n. record o { to = Some n })

-- .. the number of ranks
abbrev pub with_of : List ℕ → Options → Option Options
with_of value o = once o.of (number_of 4294967296 value) (λ n. record o { of = Some n })

-- what stands between commas
abbrev pub parts_of : List ℕ → List (List ℕ)
parts_of word = slice_split (λ b. b == 44) word

-- with the ranks that words name, of 64, beside those that were chosen before
abbrev pub choose : List (List ℕ) → List Bool → Option (List Bool)
choose [] chosen = Some chosen
choose (word ∷ words) chosen = option_and_then (λ rank. choose words (slice_set chosen rank true)) (number_of 64 word)

-- the ranks that a word names, with commas between, and no other
abbrev pub chosen_by : List ℕ → Option (List Bool)
chosen_by word = choose (parts_of word) (replicate 256 false)

-- with the chosen ranks
abbrev pub with_chosen : Option (List Bool) → Options → Option Options
with_chosen chosen o = once o.chosen chosen (λ c. record o { chosen = Some c })

-- with the option of this name and its value
abbrev pub with_option : List ℕ → List ℕ → Options → Option Options
with_option name value o =
    if bytes_eq name (codes "--from") then with_from value o
    else (if bytes_eq name (codes "--to") then with_to value o
    else (if bytes_eq name (codes "--of") then with_of value o
    else (if bytes_eq name (codes "--ranks") then with_chosen (chosen_by value) o else None)))

-- with all options of these words, each with its value behind it
abbrev pub all_options : List (List ℕ) → Options → Option Options
all_options [] o = Some o
all_options (name ∷ []) o = None
all_options (name ∷ value ∷ words) o = option_and_then (λ next. all_options words next) (with_option name value o)

-- the part from the first stamp to the last one, with so many lanes
abbrev pub part_from : ℕ → ℕ → ℕ → List Bool → Option Part
part_from first last lanes chosen =
    if nat_le first last && nat_le last 1000000 && nat_le lanes 64
    then Some (record { span = record { first = first; end = last + 1 }; lanes = lanes; chosen = chosen })
    else None

-- the part that options ask for: from stamp 0 to 1,000,000, with no lane more, and all ranks, where none says
abbrev pub part_of : Options → Option Part
part_of o =
    part_from (unwrap_or o.from 0) (unwrap_or o.to 1000000) (unwrap_or o.of 0)
    (unwrap_or o.chosen (replicate 256 true))

-- the part that words ask for
abbrev pub asked_of : List (List ℕ) → Option Part
asked_of words = option_and_then part_of (all_options words nothing)

-- a part is in range
pub record InRange (part : Part) : Type 0 where
  pub first : part.span.first ≤ 1000000
  pub end : part.span.end ≤ 1000001
  pub lanes : part.lanes ≤ 64
