-- Parts of a script.
use Rattle.std.specs.Prelude.{◌≡◌, ℕ, ◌≤◌, ◌<◌, ◌^◌, List, Some, filter_map, length, sum_by}
use Rattle.std.specs.List.{slice_get}
use Rattle.nm_types.specs.declared.limits.TheConstants.{MAX_BODIES, MAX_TEXT}
use Rattle.nm_types.specs.declared.scripts.Line.{Line}
use Rattle.nm_types.specs.Limits.{sent_len}
use Rattle.nm_types.specs.Text.{script_text}

-- the lines at these places, from 0
abbrev pub lines_at : List Line → List ℕ → List Line
lines_at lines places = filter_map (λ place. slice_get lines place) places

-- no line sends too many bytes to be counted
abbrev pub AreShort : List Line → Type 0
AreShort lines = (k : ℕ) (line : Line) → slice_get lines k ≡ Some line → sent_len line.command < 2 ^ 32

-- the lines together keep the limits of a script's bodies and of its text
abbrev pub DoFit : ℕ → List Line → Type 0
DoFit ranks lines =
    (sum_by (λ line. sent_len line.command) lines ≤ MAX_BODIES) × (length (script_text ranks lines) ≤ MAX_TEXT)
