use Rattle.std.proofs.Common.{arith}
use Rattle.nm_script.proofs.WayLemmas.{before, before_first}
use Rattle.nm_script.proofs.flood.ways.rank_before.Goals as goal

pub returns-then-rank-gt0 : goal.returns-then-rank-gt0
returns-then-rank-gt0 c n is = before c.args.ranks c.args.rank n c.requires is (omega arith)

pub returns-else-rank-gt0 : goal.returns-else-rank-gt0
returns-else-rank-gt0 c n is = before_first c.args.ranks c.args.rank n c.requires is (omega arith)
