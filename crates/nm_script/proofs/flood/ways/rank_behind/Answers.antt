use Rattle.std.proofs.Common.{arith}
use Rattle.nm_script.proofs.WayLemmas.{behind, behind_last}
use Rattle.nm_script.proofs.flood.ways.rank_behind.Goals as goal

pub returns-then-rank-ranks : goal.returns-then-rank-ranks
returns-then-rank-ranks c n is = behind c.args.ranks c.args.rank n is (omega arith)

pub returns-else-rank-ranks : goal.returns-else-rank-ranks
returns-else-rank-ranks c n is = behind_last c.args.ranks c.args.rank n c.requires is (omega arith)
