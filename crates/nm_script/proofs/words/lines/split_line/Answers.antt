use Rattle.std.proofs.Common.{sym}
use Rattle.std.proofs.Math.Seq.{drop-length}
use Rattle.nm_script.proofs.LineLemmas.{lines_at, lines_whole, rest_is}
use Rattle.nm_script.proofs.words.lines.split_line.Goals as goal

pub returns-in-Some-clause-lines : goal.returns-in-Some-clause-lines
returns-in-Some-clause-lines c = rw rest_is (lines_at c.args.bytes.now c.in-Some.at (sym c.in-Some.ensures))

pub returns-in-None-clause-lines : goal.returns-in-None-clause-lines
returns-in-None-clause-lines c = rw (rest_is, drop-length)
    (lines_whole c.args.bytes.now c.requires (sym c.in-None.ensures))
