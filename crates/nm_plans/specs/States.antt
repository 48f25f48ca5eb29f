-- In which state a request is for a command about it.
use Rattle.std.specs.Prelude.{ℕ, Bool, true, false, not, ◌&&◌, ◌||◌, if◌then◌else◌, is_some, nat_lt}
use Rattle.std.specs.Prelude.{slice_get, take, unwrap_or}
use Rattle.std.specs.List.{list_all}
use Rattle.nm_plans.specs.declared.lines.PlanCommand.{PlanCommand}
use Rattle.nm_plans.specs.declared.lines.PlanCommand.TheVariants.{Fill, Start, Ready, Arrived, Wait}
use Rattle.nm_plans.specs.declared.requests.requests.Request.{Request}
use Rattle.nm_plans.specs.Expansion.{is_split_send}
use Rattle.nm_plans.specs.PlanRequests.{is_sending, part_count}

-- part k is ready since the start
abbrev pub is_ready : Request → ℕ → Bool
is_ready r k = unwrap_or (slice_get r.ready k) false

-- a request that receives in parts
abbrev pub is_split_receive : Request → Bool
is_split_receive r = if is_some r.parts then not (is_sending r.side) else false

-- every part is ready since the start
abbrev pub all_ready : Request → Bool
all_ready r = list_all (λ ready. ready) (take (part_count r) r.ready)

-- a request is in a state for a command about it
abbrev pub allows : PlanCommand → Request → Bool
allows (Fill p body) r = not r.active && is_sending r.side
allows (Start p) r = not r.active
allows (Ready p k) r = is_split_send r && r.active && nat_lt k (part_count r) && not (is_ready r k)
allows (Arrived p k) r = is_split_receive r && nat_lt k (part_count r)
allows (Wait p) r = r.active && (not (is_split_send r) || all_ready r)
allows _ r = true
