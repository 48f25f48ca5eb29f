-- One text more.
use Rattle.std.proofs.Common.{ℕ, ◌+◌, ◌≤◌, arith, inl, inr, length, map, refl, sym, subst, take}
use Rattle.nm_listed.specs.Places.{IsFirstNew}
use Rattle.nm_listed.specs.Texts.{bytes_of}
use Rattle.nm_listed.proofs.PlaceLemmas.{next_text}
use Rattle.nm_listed.proofs.places.most_shared.Goals as goal
use Rattle.nm_listed.proofs.places.most_shared.Goals.{then-lines-most, else-lines-most}

pub loop-other-preserved : goal.loop-other-preserved
loop-other-preserved c =
    elim c.if-lines-most.branch [
      | then-lines-most w ↦
          subst (λ (n : ℕ). IsFirstNew (map bytes_of (take (c.loop-other.other-index + 1) c.args.texts.now))
          c.args.text.now (n + 1) × (n ≤ length c.args.text.now)) (sym w.most-is) (
            next_text bytes_of c.args.texts.now c.loop-other.other-index c.other-item.result c.args.text.now
                c.as_slice.result.now c.loop-other.most c.shared_lines-lines.result c.shared_lines-lines.result
                c.loop-other-test.true c.other-item.is c.as_slice.ensures.value c.loop-other.invariant.0
                c.shared_lines-lines.ensures.share c.shared_lines-lines.ensures.most
                (omega (arith, w.if-lines-most.true))
                (omega arith) (inr refl),
            c.shared_lines-lines.ensures.bound,
          )
      | else-lines-most w ↦
          subst (λ (n : ℕ). IsFirstNew (map bytes_of (take (c.loop-other.other-index + 1) c.args.texts.now))
          c.args.text.now (n + 1) × (n ≤ length c.args.text.now)) (sym w.most-is) (
            next_text bytes_of c.args.texts.now c.loop-other.other-index c.other-item.result c.args.text.now
                c.as_slice.result.now c.loop-other.most c.shared_lines-lines.result c.loop-other.most
                c.loop-other-test.true c.other-item.is c.as_slice.ensures.value c.loop-other.invariant.0
                c.shared_lines-lines.ensures.share c.shared_lines-lines.ensures.most (omega arith)
                (omega (arith, w.if-lines-most.false)) (inl refl),
            c.loop-other.invariant.1,
          )
    ]
