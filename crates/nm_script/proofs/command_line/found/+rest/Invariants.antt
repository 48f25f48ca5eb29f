use Rattle.std.proofs.Common.{length}
use Rattle.nm_script.proofs.command_line.found.+rest.Given as goal

abbrev pub decreases-rest : goal.decreases-rest
decreases-rest l = length l.words.now
