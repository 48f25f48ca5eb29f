use Rattle.std.proofs.lemmas.Bool.{and_from, lt-ltb}
use Rattle.nm_plans.proofs.MakeLemmas.{line_taken}
use Rattle.nm_persist.proofs.reading.line_in.Goals as goal

pub add-requires-clause-in_range : goal.add-requires-clause-in_range
add-requires-clause-in_range c =
    let t = line_taken c.args.draft.now.ranks c.requires.ranks _ c.in_ok-line.line c.in_ok-line.ensures in
    and_from _ _ (lt-ltb c.in_ok-line.line.rank c.args.draft.now.ranks t.own) t.range
