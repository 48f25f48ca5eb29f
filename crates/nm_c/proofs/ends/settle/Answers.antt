-- The ranks that rest, in order, are as many as the first one's world has.
use Rattle.std.proofs.Common.{◌≡◌, List, length, length-set, set, ap, subst, ◌∙◌, arith}
use Rattle.std.specs.List.{AllZip}
use Rattle.std.proofs.lemmas.List.{set-get_or}
use Rattle.std.proofs.lemmas.List.Elements.{length_all_zip}
use Rattle.nm_handle.specs.declared.handles.Handle.{Handle}
use Rattle.nm_handle.specs.Standing.{HasTurned}
use Rattle.nm_c.specs.Ranks.{handles_in}
use Rattle.nm_c.specs.declared.Rank.{Rank}
use Rattle.nm_c.proofs.Behind.{get_behind, many_behind}
use Rattle.nm_c.proofs.Turned.{whole}
use Rattle.nm_c.proofs.ends.settle.Goals as goal

pub returns-clause-world : goal.returns-clause-world
returns-clause-world c world =
    let ranks = c.args.ranks.now in
    let first = c.index-ranks-0.result in
    let last = c.rest_all.new.ranks in
    let turned : AllZip HasTurned (handles_in ranks) (handles_in last) =
    subst (λ (rs : List Rank). AllZip HasTurned (handles_in rs) (handles_in last))
    (ap (λ (r : Rank). set ranks 0 r) c.home_of.ensures.same ∙ set-get_or ranks 0 first)
    c.in_ok-rest_all.ensures.turned in
    let as_many = c.if-ranks.false in
    let value = c.ranks.ensures.value in
    let zip = length_all_zip HasTurned (handles_in ranks) (handles_in last) turned in
    let behind = many_behind ranks in
    let sets = length-set ranks 0 c.home_of.new.rank in
    let many : length (handles_in last) ≡ c.in_ok-shape.shape.ranks =
    omega (arith, as_many, value, zip, behind, sets) in
    whole c.all_in_order_are_a_world.ensures (handles_in ranks) (handles_in last) c.in_ok-shape.shape first.value
    c.ranks.ensures.in_range.some_rank
    (c.in_ok-shape.ensures.shape ∙ ap (λ (h : Handle). h.shape) (get_behind ranks 0 first)) turned
    c.in_ok-rest_all.ensures.order many world
