-- Variants of a script: each of its standard sends may be buffered, or may wait for its receive (MPI 3.1, 3.4).
use Rattle.std.specs.Prelude.{◌≡◌, ℕ, ◌*◌, ◌/◌, ◌%◌, ◌==◌, ◌&&◌, ◌⊎◌, Bool, true, false, not, if◌then◌else◌, List}
use Rattle.std.specs.Prelude.{[], ◌∷◌, nat_le, unwrap_or}
use Rattle.nm_types.specs.Bodies.{body_len}
use Rattle.nm_types.specs.Commands.{rank_line}
use Rattle.nm_types.specs.declared.scripts.Command.{Command}
use Rattle.nm_types.specs.declared.scripts.Command.TheVariants.{Send}
use Rattle.nm_types.specs.declared.scripts.Line.{Line}
use Rattle.nm_why.specs.Changes.{edited}
use Rattle.nm_why.specs.declared.changes.Edit.TheVariants.{Synchronous}

-- a standard send of at most so many bytes: it may be buffered, or wait (3.4)
abbrev pub may_wait : ℕ → Command → Bool
may_wait eager (Send to q tag ctx sync body) = not sync && nat_le (body_len body) eager
may_wait eager _ = false

-- the line where a standard send waits until a receive takes its message, as a synchronous one does (3.4)
abbrev pub waiting : Line → Line
waiting line = rank_line line.rank (unwrap_or (edited line.command Synchronous) line.command)

-- the line as it is, or where its send waits
abbrev pub IsEither : ℕ → Line → Line → Type 0
IsEither eager line other = (other ≡ line) ⊎ ((may_wait eager line.command ≡ true) × (other ≡ waiting line))

-- A variant of a script: some of its standard sends of at most so many bytes wait, and all else is as it is.
abbrev pub IsVariant : ℕ → List Line → List Line → Type 0
IsVariant eager [] variant = variant ≡ []
IsVariant eager (line ∷ lines) [] = ⊥
IsVariant eager (line ∷ lines) (other ∷ others) = IsEither eager line other × IsVariant eager lines others

-- how many variants a script has
abbrev pub variants : ℕ → List Line → ℕ
variants eager [] = 1
variants eager (line ∷ lines) =
    if may_wait eager line.command then 2 * variants eager lines else variants eager lines

-- a number says by its lowest digit, 0 or 1, whether a send waits, and by the others what the next ones do
abbrev pub line_by : ℕ → ℕ → Line → Line
line_by eager number line = if may_wait eager line.command && (number % 2 == 1) then waiting line else line

abbrev pub number_behind : ℕ → ℕ → Line → ℕ
number_behind eager number line = if may_wait eager line.command then number / 2 else number

-- the variant with this number, from 0
abbrev pub variant_of : ℕ → ℕ → List Line → List Line
variant_of eager number [] = []
variant_of eager number (line ∷ lines) =
    line_by eager number line ∷ variant_of eager (number_behind eager number line) lines

-- what is left of the number behind these lines
abbrev pub number_after : ℕ → ℕ → List Line → ℕ
number_after eager number [] = number
number_after eager number (line ∷ lines) = number_after eager (number_behind eager number line) lines
