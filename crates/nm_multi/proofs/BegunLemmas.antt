-- A desk with a new rank.
use Rattle.std.proofs.Common.{◌≡◌, ℕ, List, [], length, refl, sym, ◌∙◌, ap, subst, slice_index_or}
use Rattle.std.proofs.lemmas.List.{length-replicate}
use Rattle.nm_types.specs.Sizes.{Sizes}
use Rattle.nm_rank.specs.New.{IsNew}
use Rattle.nm_rank.specs.Ranks.{RankView}
use Rattle.nm_multi.specs.declared.calls.Entry.{Entry}
use Rattle.nm_multi.specs.Acts.{AreReplayed}
use Rattle.nm_multi.specs.Standing.{DeskInvariant}

-- no call was made, and the only rank took all packets that left it: none
pub begun : (shape : Sizes) (v : RankView) (log : List Entry) → shape.ranks ≡ 1 → IsNew shape 0 v → DeskInvariant [] v →
    log ≡ [] → AreReplayed v log
begun shape v log one new stands none =
    subst (λ (es : List Entry). AreReplayed v es) (sym none) (record {
      alone = record {
        me = new.me;
        one = ap (λ (s : Sizes). s.ranks) new.sizes ∙ one;
        took = ap (λ (xs : List ℕ). length xs) new.took ∙ length-replicate shape.ranks 0 ∙ one;
        popped = ap (λ (xs : List ℕ). length xs) new.popped ∙ length-replicate shape.ranks 0 ∙ one;
        even = λ fresh. ap (λ (xs : List ℕ). slice_index_or xs 0 0) (new.took ∙ sym new.popped);
      };
      stands = stands;
      replay = record {
        start = v;
        new = subst (λ (s : Sizes). IsNew s 0 v) (sym new.sizes) new;
        leads = refl;
      };
    })
