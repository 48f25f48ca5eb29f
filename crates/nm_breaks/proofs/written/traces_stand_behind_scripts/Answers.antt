use Rattle.nm_breaks.proofs.WholeLemmas.{line_behind}
use Rattle.nm_breaks.proofs.written.traces_stand_behind_scripts.Goals as goal

pub returns : goal.returns
returns c = λ bytes front rest line input some. line_behind bytes front rest line input.cut.cut some
