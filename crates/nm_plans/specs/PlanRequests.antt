-- The requests that lines of a plan make, and the state that they are in.
use Rattle.std.specs.Prelude.{◌≡◌, ℕ, ◌≤◌, ◌==◌, Bool, true, false, ◌&&◌, Option, Some, None}
use Rattle.std.specs.Prelude.{if◌then◌else◌, unwrap_or, List, option_map, fold}
use Rattle.std.specs.Prelude.{slice_set, replicate}
use Rattle.std.specs.Option.{option_map_or}
use Rattle.indexmap.specs.IndexMap.{IndexMap, get}
use Rattle.nm_types.specs.declared.limits.TheConstants.{MAX_BODY}
use Rattle.nm_types.specs.Bodies.{body_len}
use Rattle.nm_plans.specs.declared.lines.PlanCommand.{PlanCommand}
use Rattle.nm_plans.specs.declared.lines.PlanCommand.TheVariants.{SendInit, RecvInit, PsendInit}
use Rattle.nm_plans.specs.declared.lines.PlanCommand.TheVariants.{PrecvInit, Fill, Start, Ready}
use Rattle.nm_plans.specs.declared.lines.PlanCommand.TheVariants.{Wait}
use Rattle.nm_plans.specs.declared.lines.PlanLine.{PlanLine}
use Rattle.nm_plans.specs.Grammar.{request_in}
use Rattle.nm_plans.specs.declared.requests.requests.Owner.{Owner}
use Rattle.nm_plans.specs.declared.requests.requests.Request.{Request}
use Rattle.nm_plans.specs.declared.requests.requests.Side.{Side}
use Rattle.nm_plans.specs.declared.requests.requests.Side.TheVariants.{Sends, Receives}

-- no part is ready
abbrev pub none_ready : List Bool
none_ready = replicate 16 false

-- a request that isn't active
abbrev pub inactive : ℕ → ℕ → ℕ → Option ℕ → Side → Request
inactive peer tag ctx parts side = record {
  peer = peer;
  tag = tag;
  ctx = ctx;
  parts = parts;
  side = side;
  active = false;
  ready = none_ready;
}

-- the request that a command makes
abbrev pub made_by : PlanCommand → Option Request
made_by (SendInit p to tag ctx body) = Some (inactive to tag ctx None (Sends body))
made_by (RecvInit p from tag ctx cap) = Some (inactive from tag ctx None (Receives cap))
made_by (PsendInit p to tag ctx parts body) = Some (inactive to tag ctx (Some parts) (Sends body))
made_by (PrecvInit p from tag ctx parts cap) = Some (inactive from tag ctx (Some parts) (Receives cap))
made_by _ = None

-- what a command makes of a request: a start makes it active with no part ready, and a wait inactive
abbrev pub changed_by : PlanCommand → Request → Request
changed_by (Fill p body) r = record r { side = Sends body }
changed_by (Start p) r = record r { active = true; ready = none_ready }
changed_by (Ready p k) r = record r { ready = slice_set r.ready k true }
changed_by (Wait p) r = record r { active = false }
changed_by _ r = r

-- the request under a name after a command about it
abbrev pub request_after : PlanCommand → Option Request → Option Request
request_after c r = option_map_or (λ new. Some new) (made_by c) (option_map (changed_by c) r)

-- a line is about this request of this rank
abbrev pub is_about : Owner → PlanLine → Bool
is_about owner line = line.rank == owner.rank && request_in line.command == owner.p

-- the request of a rank under a name, behind a line
abbrev pub request_behind : Owner → Option Request → PlanLine → Option Request
request_behind owner r line = if is_about owner line then request_after line.command r else r

-- the request of a rank under a name, behind these lines
unfoldable pub request_at : List PlanLine → Owner → Option Request
request_at lines owner = fold (request_behind owner) None lines

-- the same rank and the same name
abbrev pub same_owner : Owner → Owner → Bool
same_owner a b = a.rank == b.rank && a.p == b.p

-- the owner of a line's request
abbrev pub owner_of : PlanLine → Owner
owner_of line = record { rank = line.rank; p = request_in line.command }

-- how many parts a request has, one that isn't partitioned 1
abbrev pub part_count : Request → ℕ
part_count r = unwrap_or r.parts 1

-- how long the body is that a side sends
abbrev pub side_len : Side → ℕ
side_len (Sends body) = body_len body
side_len (Receives cap) = 0

-- a request is in the ranges of its arguments
pub record IsSmall (r : Request) : Type 0 where
  pub tag : r.tag ≤ 2047
  pub ctx : r.ctx ≤ 127
  pub parts : part_count r ≤ 16
  pub body : side_len r.side ≤ MAX_BODY

-- a map has the requests that these lines make
pub record AreRequests {S : Type 0} (lines : List PlanLine) (map : IndexMap Owner Request S) : Type 0 where
  pub each : (owner : Owner) → get same_owner map owner ≡ request_at lines owner

-- a side sends
abbrev pub is_sending : Side → Bool
is_sending (Sends body) = true
is_sending (Receives cap) = false
