-- Equal lists of plain deeds.
use Rattle.std.proofs.Common.{List, map, sym, ◌∙◌, ap}
use Rattle.nm_outcomes.specs.declared.spots.deeds.Deed.{Deed}
use Rattle.nm_hangs.specs.Alike.{plain}
use Rattle.nm_hangs.proofs.FitLemmas.{same_deeds}
use Rattle.nm_hangs.proofs.alike.did_same.Goals as goal

pub returns : goal.returns
returns c so =
    ap (λ (ds : List Deed). map plain ds) (sym c.deeds.ensures) ∙ sym c.in_ok-one.ensures ∙ sym c.as_slice.ensures.value
    ∙ same_deeds c.as_slice.result.now c.as_slice-2.result.now (sym c.eq.ensures ∙ so)
    ∙ c.as_slice-2.ensures.value ∙ c.in_ok-other.ensures ∙ ap (λ (ds : List Deed). map plain ds) c.deeds-2.ensures
