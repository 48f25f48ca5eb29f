-- By the numbers that the constants are.
use Rattle.nm_rank.proofs.laws.limits.Goals as goal

pub returns : goal.returns
returns c v = (
  λ fresh. (fresh.clock, fresh.requests, fresh.messages),
  λ within. record { clock = within.0; requests = within.1; messages = within.2 },
)
