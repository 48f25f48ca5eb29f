use Rattle.std.proofs.Common.{sym, subst}
use Rattle.std.specs.Prelude.{map}
use Rattle.std.specs.Cmp.Lexicographic.{on_texts, texts_ties}
use Rattle.std.proofs.lemmas.List.Filters.{dedup_is}
use Rattle.std.proofs.lemmas.List.Kept.{IsStrictlySortedBy-dedup}
use Rattle.nm_outcomes.specs.Outcomes.{AreRising}
use Rattle.nm_listed.specs.Texts.{SameTexts, bytes_of}
use Rattle.nm_listed.proofs.OrderLemmas.{rising, same_kept}
use Rattle.nm_listed.proofs.texts.Texts.put_in_order.Goals as goal

pub returns-clause-rising : goal.returns-clause-rising
returns-clause-rising c =
    subst (λ xs. AreRising (map bytes_of xs)) (sym (dedup_is _ _ _ c.dedup.ensures.filtered))
    (rising bytes_of _
    (IsStrictlySortedBy-dedup (on_texts bytes_of) (λ x y. texts_ties x.items y.items) _
    c.in_ok-sort.ensures.sorted))

pub returns-clause-same : goal.returns-clause-same
returns-clause-same c =
    let same = same_kept bytes_of _ _ _ c.in_ok-sort.ensures.permutation
    (dedup_is _ _ _ c.dedup.ensures.filtered) in
    subst (λ old. SameTexts old (map bytes_of c.dedup.new.self.items)) c.self.view_is same
