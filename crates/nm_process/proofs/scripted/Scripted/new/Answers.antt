-- The first command stands at its place.
use Rattle.std.proofs.Common.{◌≡◌}
use Rattle.nm_process.specs.Places.{place_at}
use Rattle.nm_process.proofs.PlaceLemmas.{placed_first}
use Rattle.nm_process.proofs.scripted.Scripted.new.Goals as goal

pub invariant_of-result : goal.invariant_of-result
invariant_of-result c =
    let stands : c.place_at-next.result ≡ place_at c.args.own.items c.args.lines.now 0 = cc in
    placed_first c.args.lines.now c.args.me c.args.ranks c.place_at-next.result c.args.own.items c.requires.lines
    c.requires.places stands
