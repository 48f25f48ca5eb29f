-- One line more, which is the rank's or not.
use Rattle.std.proofs.Common.{◌≡◌, ℕ, ◌+◌, ◌∙◌, List, [], ◌∷◌, ◌++◌, ap, refl, length, arith, Some}
use Rattle.std.specs.List.{slice_get}
use Rattle.std.proofs.lemmas.Option.{slice_get_read}
use Rattle.nm_sure.proofs.Before.{own_in, own_out}
use Rattle.nm_sure.proofs.ranks.lines_of.Goals as goal
use Rattle.nm_sure.proofs.ranks.lines_of.Goals.{then-line-rank+in_ok-push, else-line-rank}

pub loop-k-preserved : goal.loop-k-preserved
loop-k-preserved c =
    let here : slice_get c.args.lines.now c.loop-k.k ≡ Some c.index-lines-k.result =
    slice_get_read c.args.lines.now (length c.args.lines.now) c.loop-k.k c.index-lines-k.result refl
    (omega arith) c.index-lines-k.is in
    elim c.if-line-rank.branch [
      | then-line-rank+in_ok-push w ↦
          ap (λ v. v.items) w.own-is ∙ w.in_ok-push.ensures.items
          ∙ ap (λ (ls : List ℕ). ls ++ (c.loop-k.k + 2) ∷ []) c.loop-k.invariant
          ∙ own_in c.args.lines.now c.loop-k.k c.args.rank c.index-lines-k.result here w.if-line-rank.true
      | else-line-rank w ↦
          ap (λ v. v.items) w.own-is ∙ c.loop-k.invariant
          ∙ own_out c.args.lines.now c.loop-k.k c.args.rank c.index-lines-k.result here w.if-line-rank.false
    ]
