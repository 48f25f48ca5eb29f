-- From the ends of each two.
use Rattle.nm_global.proofs.Rest.{HaveAllLeft, no_strays}
use Rattle.nm_global.proofs.laws.rest.none_was_a_stray.Goals as goal

pub returns : goal.returns
returns c =
    let all : HaveAllLeft =
    record { packets = c.all_left.ensures.packets; pieces = c.all_left.ensures.pieces } in
    no_strays all
