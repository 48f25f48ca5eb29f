use Rattle.std.proofs.Common.{List, [], ◌∷◌, refl}
use Rattle.nm_history.specs.declared.events.Happened.TheVariants as what
use Rattle.nm_check_rank.specs.Arguments.{others_of}
use Rattle.nm_check_rank.specs.declared.paired.arguments.Argument.{Argument}
use Rattle.nm_check_rank.specs.declared.paired.arguments.Argument.TheVariants as arg
use Rattle.nm_check_rank.specs.declared.paired.arguments.Sort.TheVariants as sort
use Rattle.nm_check_rank.proofs.MismatchLemmas.{mismatch_behind, no_match}
use Rattle.nm_check_rank.proofs.paired.arguments.match_mismatch.Goals as goal

pub returns-in-Match : goal.returns-in-Match
returns-in-Match c =
    let line : List Argument = arg.Line c.args.line ∷ [] in
    let line' : List Argument = arg.Line c.in-Match.at ∷ [] in
    let cap : List Argument = arg.Capacity c.args.cap ∷ line in
    let cap' : List Argument = arg.Capacity c.in-Match.room ∷ line' in
    let message : List Argument = arg.Message c.args.message ∷ cap in
    let message' : List Argument = arg.Message (record { rank = c.in-Match.from; n = c.in-Match.n }) ∷ cap' in
    rw c.in-Match.is
    (mismatch_behind (arg.Sort sort.Matched) (arg.Sort sort.Matched) message message' c.before_others.result refl
    (c.before_others.ensures cap cap' (c.before_others-caps.ensures line line'
    (c.before_others-lines.ensures [] [] refl))))

pub returns-in_default : goal.returns-in_default
returns-in_default c =
    c.other_sort.ensures
    (others_of (what.Match 0 c.args.message.rank c.args.message.n c.args.cap c.args.line))
    (no_match c.args.what.now c.in_default.not-Match)
