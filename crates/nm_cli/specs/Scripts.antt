-- The script that the words ask for, and its run.
use Rattle.std.specs.Prelude.{◌≡◌, ℕ, List, take, Option, IfSome, IsSomeAnd}
use Rattle.nm_types.specs.declared.scripts.Line.{Line}
use Rattle.nm_types.specs.Sizes.{Sizes}
use Rattle.nm_script.specs.declared.command_line.CommandLine.{CommandLine}
use Rattle.nm_script.specs.declared.command_line.Mode.{Mode}
use Rattle.nm_script.specs.declared.command_line.Mode.TheVariants.{Run, Trace, Plain, Check, Parts, Flood}
use Rattle.nm_script.specs.declared.command_line.Mode.TheVariants.{Multi}
use Rattle.nm_script.specs.FloodScripts.{flood_lines}
use Rattle.nm_script.specs.Spelled.{IsTextOf}
use Rattle.nm_report.specs.Lawful.{IsRunIn}
use Rattle.nm_report.specs.declared.records.RunRecord.{RunRecord}
use Rattle.nm_world.specs.Runs.{IsWhole}
use Rattle.nm_world.specs.declared.whole.Ways.{Ways}

-- what is read of a source: all of it, or one byte more than a script's text may have
abbrev pub read_of : List ℕ → List ℕ
read_of bytes = take 8388609 bytes

-- how many bytes are read at most: one more than a script's text may have, and with check, one more than
-- a script and its trace may
abbrev pub limit_of : Mode → ℕ
limit_of Check = 67108865
limit_of _ = 8388609

-- these words have a script read from the source
abbrev pub Reads : Mode → Type 0
Reads Run = Unit {0}
Reads Trace = Unit {0}
Reads Plain = Unit {0}
Reads Check = ⊥
Reads Parts = ⊥
Reads (Flood key ranks messages) = ⊥
Reads (Multi threads rounds) = ⊥

-- these words have it made of three numbers
abbrev pub Makes : Mode → Type 0
Makes (Flood key ranks messages) = Unit {0}
Makes _ = ⊥

-- these words have a script run
abbrev pub Runs : Mode → Type 0
Runs Plain = ⊥
Runs Check = ⊥
Runs Parts = ⊥
Runs (Multi threads rounds) = ⊥
Runs _ = Unit {0}

-- these words hand out the record of a run
abbrev pub HandsOut : Mode → Type 0
HandsOut Plain = ⊥
HandsOut Check = ⊥
HandsOut (Multi threads rounds) = ⊥
HandsOut _ = Unit {0}

-- these words read the source
abbrev pub ReadsSource : Mode → Type 0
ReadsSource (Flood key ranks messages) = ⊥
ReadsSource (Multi threads rounds) = ⊥
ReadsSource _ = Unit {0}

-- the script that is asked for: a flood, or the one that the bytes read spell, where the source tells them
abbrev pub IsAsked : Mode → Option (List ℕ) → ℕ → List Line → Type 0
IsAsked (Flood key many messages) input ranks lines =
    (ranks ≡ many) × (lines ≡ flood_lines key many messages)
IsAsked Check input ranks lines = ⊥
IsAsked Parts input ranks lines = ⊥
IsAsked (Multi threads rounds) input ranks lines = ⊥
IsAsked _ input ranks lines = IfSome input (λ bytes. IsTextOf (read_of bytes) ranks lines)

-- and the source tells them, where it is read
abbrev pub IsKnown : Mode → Option (List ℕ) → ℕ → List Line → Type 0
IsKnown (Flood key many messages) input ranks lines =
    (ranks ≡ many) × (lines ≡ flood_lines key many messages)
IsKnown Check input ranks lines = ⊥
IsKnown Parts input ranks lines = ⊥
IsKnown (Multi threads rounds) input ranks lines = ⊥
IsKnown _ input ranks lines = IsSomeAnd input (λ bytes. IsTextOf (read_of bytes) ranks lines)

-- the sizes of a run: so many ranks, and what the words say of cells and of the eager limit
abbrev pub sizes_for : CommandLine → ℕ → Sizes
sizes_for line ranks = record { ranks = ranks; cells = line.cells; eager = line.eager }

-- The record is of one run of a script: each rank ran its own commands, each took from each sender
-- exactly the messages that it sent, and nothing is under way; all cells are home, and the run is done
-- exactly where every rank is at its end. The closed ports carried what the record tells.
pub record IsRunOfScript (line : CommandLine) (ranks : ℕ) (lines : List Line) (run : RunRecord)
    (ways : Ways) : Type 0 where
  pub lawful : IsRunIn (sizes_for line ranks) lines run
  pub carried : IsWhole (sizes_for line ranks) lines run ways.cells ways.rings

-- the record is of a run of the script that is asked for
pub record IsRunOfWords (line : CommandLine) (input : Option (List ℕ)) (run : RunRecord) (ways : Ways)
    : Type 0 where
  pub ranks : ℕ
  pub lines : List Line
  pub asked : IsAsked line.mode input ranks lines
  pub of_script : IsRunOfScript line ranks lines run ways
