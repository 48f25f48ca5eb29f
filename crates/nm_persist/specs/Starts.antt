-- The starts of a persistent request, and the bodies that it sends. MPI 4.0, section 3.9 (a start makes
-- the request active, a wait inactive) and section 4.2 (the parts of a partitioned one).
use Rattle.std.specs.Prelude.{◌≡◌, ℕ, Bool, true, false, ◌&&◌, if◌then◌else◌, is_some}
use Rattle.std.specs.Prelude.{List, [], ◌∷◌, ◌++◌, Option, Some, None, map, option_to_list}
use Rattle.nm_types.specs.Bodies.{bytes_of}
use Rattle.nm_plans.specs.declared.lines.PlanCommand.{PlanCommand}
use Rattle.nm_plans.specs.declared.lines.PlanCommand.TheVariants.{Start}
use Rattle.nm_plans.specs.declared.lines.PlanLine.{PlanLine}
use Rattle.nm_plans.specs.declared.requests.ends.End.{End}
use Rattle.nm_plans.specs.declared.requests.requests.Owner.{Owner}
use Rattle.nm_plans.specs.declared.requests.requests.Request.{Request}
use Rattle.nm_plans.specs.declared.requests.requests.Side.{Side}
use Rattle.nm_plans.specs.declared.requests.requests.Side.TheVariants.{Sends, Receives}
use Rattle.nm_plans.specs.Ends.{end, other_end}
use Rattle.nm_plans.specs.Expansion.{part_of}
use Rattle.nm_plans.specs.PlanRequests.{is_about, is_sending, request_at}

-- a command starts its request
abbrev pub is_start : PlanCommand → Bool
is_start (Start p) = true
is_start _ = false

-- a line starts this request
abbrev pub starts_it : Owner → PlanLine → Bool
starts_it owner line = is_about owner line && is_start line.command

-- a request as it stands at each of its starts, in these lines behind those before them
abbrev pub starts_behind : Owner → List PlanLine → List PlanLine → List Request
starts_behind owner before [] = []
starts_behind owner before (line ∷ lines) =
    (if starts_it owner line then option_to_list (request_at before owner) else [])
    ++ starts_behind owner (before ++ line ∷ []) lines

-- a request as it stands at each of its starts
abbrev pub starts_of : List PlanLine → Owner → List Request
starts_of lines owner = starts_behind owner [] lines

-- the bytes that a request sends when it is started
abbrev pub body_held : Side → List ℕ
body_held (Sends body) = bytes_of body
body_held (Receives cap) = []

-- the bodies that a request held at its starts
abbrev pub bodies_of : List PlanLine → Owner → List (List ℕ)
bodies_of lines owner = map (λ r. body_held r.side) (starts_of lines owner)

-- the bytes of part k of a body, all of them where there are no parts
abbrev pub part_bytes : Option ℕ → ℕ → List ℕ → List ℕ
part_bytes None k body = body
part_bytes (Some parts) k body = part_of parts k body

-- the end of a rank's request
abbrev pub end_of : ℕ → Request → End
end_of rank r = end rank r.peer r.tag r.ctx (is_sending r.side) (is_some r.parts)

-- a rank's request is at the other end of this one: between the same ranks, with the same sort, tag and
-- context
pub record IsOther (lines : List PlanLine) (e : End) (owner : Owner) : Type 0 where
  pub request : Request
  pub made : request_at lines owner ≡ Some request
  pub other : end_of owner.rank request ≡ other_end e
