-- One place more.
use Rattle.std.proofs.Common.{◌≡◌, ◌+◌, sym, take}
use Rattle.std.specs.List.{slice_get}
use Rattle.nm_why.specs.Parts.{lines_at}
use Rattle.nm_why.proofs.PartLemmas.{taken}
use Rattle.nm_why.proofs.parts.lines_at.Goals as goal

pub loop-place-preserved : goal.loop-place-preserved
loop-place-preserved c =
    let more : c.push_copy.new.lines.items
    ≡ lines_at c.args.lines.now (take (c.loop-place.place-index + 1) c.args.places.now) =
    rw (c.in_ok-push_copy.ensures, c.at.ensures, c.loop-place.invariant)
    (sym (taken (λ place. slice_get c.args.lines.now place) c.args.places.now c.loop-place.place-index _
    c.loop-place-test.true)) in more
