-- The script of a plan: the commands that each line stands for.
use Rattle.std.specs.Prelude.{ℕ, ◌+◌, ◌-◌, ◌*◌, ◌/◌, Bool, false, is_some, Option, Some, None}
use Rattle.std.specs.Prelude.{if◌then◌else◌, List, [], ◌∷◌, ◌++◌, length, map, take, drop}
use Rattle.std.specs.List.{range_with_len}
use Rattle.nm_types.specs.declared.messages.Peer.TheVariants.{One}
use Rattle.nm_types.specs.declared.messages.TagPick.TheVariants as pick
use Rattle.nm_types.specs.declared.scripts.Body.{Body}
use Rattle.nm_types.specs.declared.scripts.Body.TheVariants.{Hex}
use Rattle.nm_types.specs.declared.scripts.Command.{Command}
use Rattle.nm_types.specs.declared.scripts.Command.TheVariants as command
use Rattle.nm_types.specs.declared.scripts.Line.{Line}
use Rattle.nm_types.specs.Bodies.{bytes_of}
use Rattle.nm_plans.specs.declared.lines.PlanCommand.{PlanCommand}
use Rattle.nm_plans.specs.declared.lines.PlanCommand.TheVariants.{Start, Ready, Arrived, Wait}
use Rattle.nm_plans.specs.declared.lines.PlanLine.{PlanLine}
use Rattle.nm_plans.specs.declared.requests.requests.Request.{Request}
use Rattle.nm_plans.specs.declared.requests.requests.Side.{Side}
use Rattle.nm_plans.specs.declared.requests.requests.Side.TheVariants.{Sends, Receives}
use Rattle.nm_plans.specs.PlanRequests.{is_sending, owner_of, part_count, request_at}

-- where part k of so many begins, in a body of this length
abbrev pub part_start : ℕ → ℕ → ℕ → ℕ
part_start parts k len = k * len / parts

-- the bytes of part k of so many
abbrev pub part_of : ℕ → ℕ → List ℕ → List ℕ
part_of parts k bytes =
    take (part_start parts (k + 1) (length bytes) - part_start parts k (length bytes))
    (drop (part_start parts k (length bytes)) bytes)

-- what is sent as part k of a body: the body itself where there are no parts
abbrev pub part_body : Option ℕ → ℕ → Body → Body
part_body None k body = body
part_body (Some parts) k body = Hex (part_of parts k (bytes_of body))

-- the name of part k of a request
abbrev pub name_of : ℕ → ℕ → ℕ
name_of p k = 16 * p + k

-- the tag of part k of a request
abbrev pub tag_of : Request → ℕ → ℕ
tag_of r k = 16 * r.tag + k

-- the context of a request: odd where it is in parts
abbrev pub context_of : Request → ℕ
context_of r = 2 * r.ctx + (if is_some r.parts then 1 else 0)

-- the command that starts part k of a request
abbrev pub start_of : ℕ → Request → ℕ → Side → Command
start_of p r k (Sends body) =
    command.Send r.peer (name_of p k) (tag_of r k) (context_of r) false (part_body r.parts k body)
start_of p r k (Receives cap) =
    command.Recv (name_of p k) (One r.peer) (pick.One (tag_of r k)) (context_of r) cap

-- the command that waits for part k
abbrev pub wait_of : ℕ → ℕ → Command
wait_of p k = command.Wait (name_of p k)

-- a command of each part, in order
abbrev pub each_part : Request → (ℕ → Command) → List Command
each_part r of_part = map of_part (range_with_len 0 (part_count r))

-- a request that sends in parts
abbrev pub is_split_send : Request → Bool
is_split_send r = if is_some r.parts then is_sending r.side else false

-- The commands that a command of a plan stands for, by the request that it is about: a start starts
-- each part, but the parts of a partitioned send start as they are ready.
abbrev pub commands_for : PlanCommand → Request → List Command
commands_for (Start p) r = if is_split_send r then [] else each_part r (λ k. start_of p r k r.side)
commands_for (Ready p k) r = start_of p r k r.side ∷ []
commands_for (Arrived p k) r = command.Test (name_of p k) ∷ []
commands_for (Wait p) r = each_part r (λ k. wait_of p k)
commands_for _ r = []

-- the same, and none where there is no request
abbrev pub commands_of : PlanCommand → Option Request → List Command
commands_of c (Some r) = commands_for c r
commands_of c None = []

-- the line of a command of a rank
abbrev pub line_at : ℕ → Command → Line
line_at rank c = record { rank = rank; command = c }

-- the lines that a line stands for, by the request that it is about
abbrev pub lines_for : PlanLine → Option Request → List Line
lines_for line r = map (line_at line.rank) (commands_of line.command r)

-- the lines that these lines stand for, behind those before them
abbrev pub expand_behind : List PlanLine → List PlanLine → List Line
expand_behind before [] = []
expand_behind before (line ∷ lines) =
    lines_for line (request_at before (owner_of line)) ++ expand_behind (before ++ line ∷ []) lines

-- the script of these lines
unfoldable pub expand : List PlanLine → List Line
expand lines = expand_behind [] lines
