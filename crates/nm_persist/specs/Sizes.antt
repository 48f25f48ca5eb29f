-- The size of a script: its lines, the bytes of its bodies, and those of its text.
use Rattle.std.specs.Prelude.{◌≡◌, ℕ, ◌+◌, Bool, not, ◌&&◌, nat_lt, nat_le}
use Rattle.std.specs.Prelude.{List, length, sum_by}
use Rattle.nm_types.specs.declared.limits.TheConstants.{MAX_BODIES, MAX_LINES, MAX_TEXT}
use Rattle.nm_types.specs.declared.scripts.Line.{Line}
use Rattle.nm_types.specs.Limits.{sent_len}
use Rattle.nm_types.specs.Text.{command_line, script_text}
use Rattle.nm_persist.specs.declared.sizes.Size.{Size}

-- the size of a script of these lines
pub record IsSizeOf (size : Size) (ranks : ℕ) (lines : List Line) : Type 0 where
  pub lines_are : size.lines ≡ length lines
  pub bodies_are : size.bodies ≡ sum_by (λ line. sent_len line.command) lines
  pub text_is : size.text ≡ length (script_text ranks lines)

-- the size with one line more
pub record IsGrown (old : Size) (line : Line) (new : Size) : Type 0 where
  pub lines_are : new.lines ≡ old.lines + 1
  pub bodies_are : new.bodies ≡ old.bodies + sent_len line.command
  pub text_is : new.text ≡ old.text + length (command_line line)

-- so many lines, and bytes of bodies and of text, are within the limits of scripts
abbrev pub are_within : ℕ → ℕ → ℕ → Bool
are_within lines bodies text =
    nat_lt lines MAX_LINES && nat_le bodies MAX_BODIES && nat_le text MAX_TEXT

-- one line more is past a limit
abbrev pub is_past_with : Size → Line → Bool
is_past_with size line =
    not (are_within (size.lines + 1) (size.bodies + sent_len line.command)
    (size.text + length (command_line line)))
