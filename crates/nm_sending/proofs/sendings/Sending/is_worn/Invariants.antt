use Rattle.std.proofs.Common.{ℕ, ◌<◌, ◌-◌, length}
use Rattle.nm_types.specs.declared.limits.TheConstants.{MAX_PACKETS}
use Rattle.nm_sending.specs.Outboxes.{put_to}
use Rattle.nm_sending.specs.declared.TheConstants.{MAX_MESSAGES}
use Rattle.nm_sending.specs.Departures.{departures_to}
use Rattle.nm_sending.proofs.sendings.Sending.is_worn.Given as goal

abbrev pub invariant-loop-to : goal.invariant-loop-to
invariant-loop-to l = (k : ℕ) → k < l.to
    → (length (departures_to l.self k) < MAX_MESSAGES) × (put_to l.self.outbox k < MAX_PACKETS - 32)
