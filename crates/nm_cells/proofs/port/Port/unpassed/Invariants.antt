use Rattle.std.proofs.Common.{◌≡◌, take, sum_by}
use Rattle.nm_cells.specs.declared.tallies.Tally.{Tally}
use Rattle.nm_chain.specs.Plays.{capped}
use Rattle.nm_cells.proofs.port.Port.unpassed.Given as goal

abbrev pub invariant-loop-i : goal.invariant-loop-i
invariant-loop-i g l = l.total ≡ capped
    (sum_by (λ (p : Tally). p.unpassed) (take l.i l.fn.self.peers.items))
