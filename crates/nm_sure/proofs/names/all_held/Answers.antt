-- One line more.
use Rattle.std.proofs.Common.{◌≡◌, ℕ, ◌+◌, ◌∙◌, ap, refl, length, arith, Option, Some}
use Rattle.std.specs.List.{slice_get}
use Rattle.std.proofs.lemmas.Option.{slice_get_read}
use Rattle.nm_sure.specs.Held.{name_by}
use Rattle.nm_sure.proofs.Before.{held_now, names_more, one_held}
use Rattle.nm_sure.proofs.names.all_held.Goals as goal

pub loop-k-init : goal.loop-k-init
loop-k-init c = (λ n. rw c.new-names.ensures.empty refl, c.new-held.ensures.items)

pub loop-k-preserved : goal.loop-k-preserved
loop-k-preserved c =
    let here : slice_get c.args.lines.now c.loop-k.k ≡ Some c.index-lines-k.result =
    slice_get_read c.args.lines.now (length c.args.lines.now) c.loop-k.k c.index-lines-k.result refl
    (omega arith) c.index-lines-k.is in (
      λ n. c.in_ok-note.ensures n
          ∙ ap (λ (o : Option ℕ). name_by n o (c.loop-k.k + 2) c.index-lines-k.result) (c.loop-k.invariant.0 n)
          ∙ names_more c.args.lines.now c.loop-k.k c.index-lines-k.result n here,
      one_held c.args.lines.now c.loop-k.k c.index-lines-k.result c.held_by.result _ _ here
          (c.held_by.ensures ∙ held_now c.args.lines.now c.loop-k.k c.index-lines-k.result c.loop-k.names
          c.loop-k.invariant.0)
          c.loop-k.invariant.1 c.in_ok-push.ensures.items,
    )
