use Rattle.std.proofs.Common.{◌≡◌, ◌-◌, length}
use Rattle.nm_sure.specs.Plain.{plain_after, plain_end}
use Rattle.nm_sure.specs.Planned.{AreRan}
use Rattle.nm_sure.proofs.runs.Plan.reached.Given as goal

-- as many steps as are left lead to the end
abbrev pub invariant-loop : goal.invariant-loop
invariant-loop l =
    AreRan l.self.lines.now l.reached.at.items l.reached.ran.items
    × (length l.reached.at.items ≡ length l.self.ranks.items)
    × (plain_after l.self.eager l.self.lines.now (length l.self.lines.now - l.counter) l.reached.at.items
    ≡ plain_end l.self.eager (length l.self.ranks.items) l.self.lines.now)
