-- By the law of a step.
use Rattle.std.proofs.Common.{◌∙◌}
use Rattle.nm_rank.specs.Steps.Step.{pop_front}
use Rattle.nm_global.specs.Steps.{setting_of}
use Rattle.nm_global.proofs.standing.laws.passing.a_packet_leaves.Goals as goal

pub returns : goal.returns
returns c shape commands i v v' past letter first pops is =
    let placed = c.a_step_keeps_its_place.ensures (setting_of shape commands) v v' past
    (pop_front letter first pops) tt
    (record { logged = is.logged; left = is.left }) in
    record { me = pops.takes.me ∙ is.me; logged = placed.logged; left = placed.left }
