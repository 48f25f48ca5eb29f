-- One deed more.
use Rattle.std.proofs.Common.{◌≡◌, ◌+◌, take, sym}
use Rattle.std.specs.List.{filter_map}
use Rattle.nm_history.specs.declared.events.Event.{Event}
use Rattle.nm_report.specs.Told.{told_by}
use Rattle.nm_outcomes.specs.Deeds.{happening}
use Rattle.nm_explored.proofs.ToldLemmas.{taken_told}
use Rattle.nm_explored.proofs.ends.history.Goals as goal

pub loop-deed-preserved : goal.loop-deed-preserved
loop-deed-preserved c =
    let more : filter_map (λ (e : Event). told_by e.what) c.push_answer.new.events.items
    ≡ filter_map (λ d. told_by (happening c.args.lines.now d)) (take (c.loop-deed.deed-index + 1) c.args.deeds.now) =
    rw (c.in_ok-push_answer.ensures, c.loop-deed.invariant)
    (sym (taken_told c.args.lines.now c.args.deeds.now c.loop-deed.deed-index _ c.loop-deed-test.true)) in more
