-- One deed more.
use Rattle.std.proofs.Common.{◌+◌, [], ◌∷◌, ◌++◌, List, map, take, ◌∙◌, ap, sym}
use Rattle.nm_outcomes.specs.declared.spots.deeds.Deed.{Deed}
use Rattle.nm_hangs.specs.Alike.{plain}
use Rattle.nm_hangs.proofs.FitLemmas.{taken_plain}
use Rattle.nm_hangs.proofs.alike.plain_deeds.Goals as goal

pub loop-deed-preserved : goal.loop-deed-preserved
loop-deed-preserved c =
    c.in_ok-push.ensures.items
    ∙ ap (λ (xs : List Deed). xs ++ c.plain.result ∷ []) c.loop-deed.invariant
    ∙ ap (λ (d : Deed). map plain (take c.loop-deed.deed-index c.args.deeds.now) ++ d ∷ []) c.plain.ensures
    ∙ sym (taken_plain c.args.deeds.now c.loop-deed.deed-index _ c.loop-deed-test.true)
