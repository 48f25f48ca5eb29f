use Rattle.std.proofs.Common.{[], refl}
use Rattle.std.specs.Prelude.{slice_get}
use Rattle.std.proofs.lemmas.List.Elements.{All-head}
use Rattle.nm_check_rank.specs.OwnBreaks.{KeepsSoFar}
use Rattle.nm_check_rank.specs.Runs.{commands_in}
use Rattle.nm_check_rank.proofs.DecideLemmas.{decides_by}
use Rattle.nm_check_rank.proofs.OwnLemmas.{end_of, one_stands, whole_of}
use Rattle.nm_check_rank.proofs.paired.judging.keeps.Goals as goal

pub returns-in-Ends : goal.returns-in-Ends
returns-in-Ends c =
    let run = c.args.run.now in
    let commands = commands_in run in
    let h = run.events.now in
    let clause = c.args.clause in
    let so_far = All-head (λ d. KeepsSoFar run.shape commands d h) clause [] c.in-Ends.ensures.0 in
    decides_by c.is_over.result (whole_of run.shape commands c.args.at h clause so_far)
    (end_of run.shape commands c.args.at h clause) (c.is_over.ensures h c.in-Ends.ensures.1)

pub returns-in-Breaks : goal.returns-in-Breaks
returns-in-Breaks c = λ whole.
    let run = c.args.run.now in
    let h = run.events.now in
    let s = c.in-Breaks.standing in
    one_stands run.shape (commands_in run) c.args.at h c.args.clause s.clause s.due c.in-Breaks.at
    (slice_get h c.in-Breaks.at) refl c.in-Breaks.ensures.1 whole
