-- By what was found of the script.
use Rattle.nm_why_top.proofs.searching.HuntSearch.fate.Goals as goal

pub returns : goal.returns
returns c = c.fate_by.ensures c.args.shape c.args.script.now.lines c.args.self.now.states c.in_ok-found.ensures
