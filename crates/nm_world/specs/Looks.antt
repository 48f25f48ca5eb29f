-- How often an actor polled before it ran a command that looks at what came.
use Rattle.std.specs.Prelude.{◌≡◌, ◌⊎◌, ℕ, ◌+◌, ◌<◌, ◌≤◌, Bool, false, List, ◌++◌, count_by}
use Rattle.std.specs.Prelude.{if◌then◌else◌}
use Rattle.std.specs.Option.{option_map_or}
use Rattle.nm_types.specs.declared.scripts.Command.{Command}
use Rattle.nm_types.specs.Commands.{Numbered, command_at}
use Rattle.nm_history.specs.declared.events.Event.{Event}
use Rattle.nm_history.specs.RankRun.{ran_lines}
use Rattle.nm_cells.specs.declared.port.Port.{Port}
use Rattle.nm_cells.specs.Ports.{knows, taken_by}
use Rattle.nm_rank.specs.Ranks.{IsFresh}
use Rattle.nm_process.specs.Processes.{ProcessView}
use Rattle.nm_process.specs.Steps.{HasRun, is_look, looks_on}
use Rattle.nm_process.specs.Work.{IsNext}
use Rattle.nm_chain.specs.Total.{total}
use Rattle.nm_world.specs.declared.actors.Actor.{Actor}
use Rattle.nm_types.specs.declared.packets.Packet.{Packet}

-- the command of a line looks at what came
abbrev pub is_look_at : List Numbered → ℕ → Bool
is_look_at commands line = option_map_or is_look (command_at commands line) false

-- how many of the commands that ran here are
abbrev pub looks_in : List Numbered → List Event → ℕ
looks_in commands h = count_by (is_look_at commands) (ran_lines h)

-- how often a port passed a packet of n ranks on, or had a miss of its receive queue: each poll is one
-- of these
abbrev pub polls_of : ℕ → Port Packet → ℕ
polls_of n p =
    total n (λ i. taken_by p i) + (knows p).receive_missed.head_empty
    + (knows p).receive_missed.link_missing

-- one of the counts of these misses stands at the last number of 64 bits
abbrev pub IsAtLast : Port Packet → Type 0
IsAtLast p =
    (18446744073709551615 ≤ (knows p).receive_missed.head_empty)
    ⊎ (18446744073709551615 ≤ (knows p).receive_missed.link_missing)

-- the port polled at least so often
abbrev pub Polled : ℕ → ℕ → Port Packet → Port Packet → Type 0
Polled n times p q = (polls_of n p + times ≤ polls_of n q) ⊎ IsAtLast q

-- so it did, or its rank was worn and nothing happened
abbrev pub PolledUnlessWorn : {H : Type 0} → ℕ → ℕ → Actor H → Actor H → Type 0
PolledUnlessWorn n times a b =
    Polled n times a.port b.port ⊎ ((¬ IsFresh a.process.rank) × (b ≡ a))

-- 1 where the next of these commands looks at what came, else 0
abbrev pub looks_next : List Numbered → ProcessView → ℕ
looks_next commands v = if looks_on commands v then 1 else 0

-- it ran the next of these commands
pub record RanNext (commands : List Numbered) (a b : ProcessView) : Type 0 where
  pub bound : ℕ
  pub line : ℕ
  pub command : Command
  pub next : IsNext commands a.at bound line command
  pub ran : HasRun command line a b

-- the actor polled at least once for each of these commands that ran and looks at what came
abbrev pub PolledBefore : {H : Type 0} → List Numbered → Actor H → Actor H → Type 0
PolledBefore commands a b =
    (looks : ℕ) →
    looks_in commands b.process.rank.events ≡ looks_in commands a.process.rank.events + looks →
    Polled a.process.rank.sizes.ranks looks a.port b.port

-- Of a turn in which commands ran that look at what came: the actor polled before each of them, and
-- once before all.
abbrev pub LookedAround : {H : Type 0} → List Numbered → Actor H → Actor H → Type 0
LookedAround commands a b =
    (more : List Event) → b.process.rank.events ≡ a.process.rank.events ++ more →
    let looks = looks_in commands more in
    0 < looks → Polled a.process.rank.sizes.ranks (looks + 1) a.port b.port
