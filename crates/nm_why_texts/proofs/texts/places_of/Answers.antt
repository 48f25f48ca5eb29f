-- One place more.
use Rattle.std.proofs.Common.{◌≡◌, ◌+◌, ◌∙◌, ℕ, List, [], ◌∷◌, ap, get_or, sym, take}
use Rattle.std.specs.Prelude.{filter_map}
use Rattle.std.specs.List.{slice_get}
use Rattle.std.proofs.lemmas.List.{take_more}
use Rattle.std.proofs.lemmas.List.Elements.{filter_map-append}
use Rattle.nm_why_texts.proofs.texts.places_of.Goals as goal

pub loop-k-preserved : goal.loop-k-preserved
loop-k-preserved c =
    let next =
    ap (λ (ks : List ℕ). filter_map (λ k. slice_get c.args.places.now k) ks)
    (take_more c.args.undecided.now c.loop-k.k-index 0 c.loop-k-test.true)
    ∙ filter_map-append (λ k. slice_get c.args.places.now k) (take c.loop-k.k-index c.args.undecided.now)
    (get_or c.args.undecided.now c.loop-k.k-index 0 ∷ []) in
    let more : c.push_place.new.places.items
    ≡ filter_map (λ k. slice_get c.args.places.now k) (take (c.loop-k.k-index + 1) c.args.undecided.now) =
    rw (c.in_ok-push_place.ensures, c.at.ensures, c.loop-k.invariant) (sym next) in more
