-- The faults that a line may have behind the lines before it.
use Rattle.std.specs.Prelude.{ℕ, ◌==◌, Bool, true, false, not, ◌&&◌, ◌||◌, Option, Some, None}
use Rattle.std.specs.Prelude.{if◌then◌else◌, is_some, is_none, nat_lt, nat_le, List, [], ◌∷◌, ◌++◌, length}
use Rattle.std.specs.Prelude.{sum_by}
use Rattle.std.specs.Option.{option_map_or}
use Rattle.nm_types.specs.declared.limits.TheConstants.{MAX_BODIES, MAX_LINES, MAX_TEXT}
use Rattle.nm_types.specs.declared.scripts.Line.{Line}
use Rattle.nm_types.specs.Limits.{sent_len}
use Rattle.nm_types.specs.Text.{script_text}
use Rattle.nm_plans.specs.declared.faults.PlanKind.{PlanKind}
use Rattle.nm_plans.specs.declared.faults.PlanKind.TheVariants as kind
use Rattle.nm_plans.specs.declared.lines.PlanLine.{PlanLine}
use Rattle.nm_plans.specs.Ends.{end_in, other_end, parts_at, parts_in}
use Rattle.nm_plans.specs.Expansion.{expand}
use Rattle.nm_plans.specs.PlanRequests.{owner_of, request_at}
use Rattle.nm_plans.specs.States.{allows}

-- an init names a request that its rank has made, or its rank has made one with the same end
abbrev pub is_taken : List PlanLine → PlanLine → Bool
is_taken before line =
    option_map_or (λ e. is_some (request_at before (owner_of line)) || is_some (parts_at before e))
    (end_in line.rank line.command) false

-- the other end, on an earlier line, has another number of parts
abbrev pub has_other_parts : List PlanLine → PlanLine → Bool
has_other_parts before line =
    option_map_or
    (λ e. option_map_or (λ parts. not (parts == parts_in line.command)) (parts_at before (other_end e))
    false)
    (end_in line.rank line.command) false

-- a command is not in order: there is no such request, or it isn't in a state for the command
abbrev pub is_out_of_order : List PlanLine → PlanLine → Bool
is_out_of_order before line =
    is_none (end_in line.rank line.command)
    && not (option_map_or (allows line.command) (request_at before (owner_of line)) false)

-- a script of these lines keeps the limits of lines, bodies and bytes
abbrev pub fits : ℕ → List Line → Bool
fits ranks lines =
    nat_lt (length lines) MAX_LINES && nat_le (sum_by (λ line. sent_len line.command) lines) MAX_BODIES
    && nat_le (length (script_text ranks lines)) MAX_TEXT

-- the script up to this line is past a limit
abbrev pub is_past : ℕ → List PlanLine → PlanLine → Bool
is_past ranks before line = not (fits ranks (expand (before ++ line ∷ [])))

-- the first fault of a line behind those before it
abbrev pub fault_in : ℕ → List PlanLine → PlanLine → Option PlanKind
fault_in ranks before line =
    if is_taken before line then Some kind.Taken
    else if has_other_parts before line then Some kind.Parts
    else if is_out_of_order before line then Some kind.Order
    else if is_past ranks before line then Some kind.Size
    else None

-- none of these lines has a fault, behind those before them
abbrev pub are_sound : ℕ → List PlanLine → List PlanLine → Bool
are_sound ranks before [] = true
are_sound ranks before (line ∷ lines) =
    is_none (fault_in ranks before line) && are_sound ranks (before ++ line ∷ []) lines
