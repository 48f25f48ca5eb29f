-- The scripts of two ranks begin.
use Rattle.std.proofs.Common.{◌≡◌, ℕ, rules, subst, sym}
use Rattle.std.specs.List.{All}
use Rattle.nm_process.specs.Places.{gives_lines, shown}
use Rattle.nm_world.specs.Players.{BeginsAt}
use Rattle.nm_world.proofs.ByRank.{scripts_begin}
use Rattle.nm_rows.proofs.world.tests.turns_of.Goals as goal

pub turns_in-requires-clause-scripts : goal.turns_in-requires-clause-scripts
turns_in-requires-clause-scripts c =
    let two : c.unwrap-shape.result.ranks ≡ 2 = search rules in
    subst (λ (ranks : ℕ). All (BeginsAt shown gives_lines ranks) c.in_ok-scripts.scripts.items) (sym two)
    (scripts_begin 2 c.args.lines.now 0 c.in_ok-scripts.scripts.items c.in_ok-scripts.ensures.scripts)
