-- One rank more.
use Rattle.std.proofs.Common.{map, refl}
use Rattle.std.specs.Vec.Iter.{into_iter_items}
use Rattle.nm_noted.specs.Noted.{bare, noted_calls}
use Rattle.nm_transcript.proofs.MappedLemmas.{one_mapped}
use Rattle.nm_noted.proofs.runs.part.Goals as goal

pub loop-finished-preserved : goal.loop-finished-preserved
loop-finished-preserved g c =
    let rest = into_iter_items c.loop-finished.finished-iterator in
    let later = into_iter_items c.next.new.self in
    let left = c.in-Some.finished in
    record {
      ranks = one_mapped bare c.loop-finished.parted.ranks.items c.put.new.parted.ranks.items rest later left (bare left)
          (map bare c.args.noted.items) c.in-Some.ensures.steps.0 c.in_ok-put.ensures.ranks refl
          c.loop-finished.invariant.ranks;
      calls = one_mapped (λ f. f.program.calls) c.loop-finished.parted.calls.items c.put.new.parted.calls.items rest later
          left left.program.calls (noted_calls c.args.noted.items) c.in-Some.ensures.steps.0 c.in_ok-put.ensures.calls refl
          c.loop-finished.invariant.calls;
    }
