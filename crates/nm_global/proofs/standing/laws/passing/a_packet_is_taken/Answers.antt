-- By the law of a step.
use Rattle.std.proofs.Common.{◌∙◌}
use Rattle.nm_rank.specs.Steps.Step.{take_packet}
use Rattle.nm_global.specs.Steps.{setting_of}
use Rattle.nm_global.proofs.standing.laws.passing.a_packet_is_taken.Goals as goal

pub returns : goal.returns
returns c shape commands i v v' past p right within takes is =
    let placed = c.a_step_keeps_its_place.ensures (setting_of shape commands) v v' past
    (take_packet p takes) (right, within)
    (record { logged = is.logged; left = is.left }) in
    record { me = takes.me ∙ is.me; logged = placed.logged; left = placed.left }
