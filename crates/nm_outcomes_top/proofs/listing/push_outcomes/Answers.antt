-- One report more was written.
use Rattle.std.proofs.Common.{List, ℕ, ◌+◌, ◌++◌, ap, ◌∙◌}
use Rattle.nm_listed.specs.Texts.{bytes_of}
use Rattle.nm_outcomes_top.specs.Texts.{outcome_text}
use Rattle.nm_outcomes_top.proofs.ListingLemmas.{next_written}
use Rattle.nm_outcomes_top.proofs.listing.push_outcomes.Goals as goal

pub loop-place-preserved : goal.loop-place-preserved
loop-place-preserved c =
    next_written bytes_of c.args.texts.now c.loop-place.place c.index-texts-place.result c.args.out.now.items
    c.loop-place.out.items c.push_outcome.new.out.items c.loop-place-test.true c.index-texts-place.is
    c.loop-place.invariant
    (c.in_ok-push_outcome.ensures.ok
    ∙ ap (λ (text : List ℕ). c.loop-place.out.items ++ outcome_text (c.loop-place.place + 1) text)
    c.as_slice.ensures.value)
