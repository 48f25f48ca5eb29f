-- Each receive that may be asked for its message is there, or was not started.
use Rattle.std.proofs.Common.{subst}
use Rattle.nm_hangs.proofs.FitLemmas.{HasLive, HasStarted, asked_there}
use Rattle.nm_hangs.proofs.alike.asked_numbers.Goals as goal

pub returns : goal.returns
returns c =
    asked_there c.args.lines.now c.args.i c.args.rank.now.deeds c.push_live.new.numbers.items
    c.push_unanswered.new.numbers.items c.in_ok-push_unanswered.ensures.kept
    (subst (HasLive c.args.lines.now c.args.i c.push_live.new.numbers.items) c.deeds.ensures
    c.in_ok-push_live.ensures.added)
    (subst (HasStarted c.args.lines.now c.args.i c.push_unanswered.new.numbers.items) c.deeds-2.ensures
    c.in_ok-push_unanswered.ensures.added)
