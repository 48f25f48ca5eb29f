-- From the ends of each two.
use Rattle.nm_global.proofs.Rest.{HaveAllLeft, rest_is_run}
use Rattle.nm_global.proofs.laws.rest.ranks_at_rest_make_a_run.Goals as goal

pub returns : goal.returns
returns c =
    let all : HaveAllLeft =
    record { packets = c.all_left.ensures.packets; pieces = c.all_left.ensures.pieces } in
    rest_is_run all
