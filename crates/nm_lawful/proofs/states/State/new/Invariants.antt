-- So many ranks are there.
use Rattle.std.proofs.Common.{◌≡◌, replicate}
use Rattle.nm_lawful.specs.Ranks.{first_rank}
use Rattle.nm_lawful.proofs.states.State.new.Given as goal

abbrev pub invariant-loop : goal.invariant-loop
invariant-loop l = l.all.items ≡ replicate l.counter first_rank
