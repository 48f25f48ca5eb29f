use Rattle.std.proofs.Common.{◌≡◌, ℕ, get_or, length, take, sym, ◌∙◌, refl, subst, arith}
use Rattle.std.proofs.lemmas.Option.{slice_get-get_or, slice_get_past}
use Rattle.nm_history.specs.Sends.{sent_bytes}
use Rattle.nm_check_rank.proofs.DifferLemmas.{differ_past, same_end, same_next}
use Rattle.nm_check.proofs.bodies.first_other_byte.Goals as goal

pub loop-k-init : goal.loop-k-init
loop-k-init c = refl

pub loop-k-preserved : goal.loop-k-preserved
loop-k-preserved c =
    same_next c.args.bytes.now (sent_bytes c.args.command.now) c.loop-k.k c.loop-k.invariant
    (get_or c.args.bytes.now c.loop-k.k 0)
    (slice_get-get_or c.args.bytes.now c.loop-k.k 0 c.loop-k-test.true)
    (sym c.byte_sent-called.ensures ∙ rw c.if-not-is_byte.false at c.is_byte.ensures)

pub returns-then-not-is_byte : goal.returns-then-not-is_byte
returns-then-not-is_byte c =
    let here = slice_get-get_or c.args.bytes.now c.loop-k.k 0 c.loop-k-test.true in (
      record {
        same = c.loop-k.invariant;
        other = λ same. (rw c.if-not-is_byte.true at c.is_byte.ensures)
            (c.byte_sent-called.ensures ∙ sym same ∙ here);
      },
      c.byte_sent-called.ensures,
      sym here,
    )

pub returns-in-Some : goal.returns-in-Some
returns-in-Some c =
    let bytes = c.args.bytes.now in
    let end : c.loop-k.k ≡ length bytes = omega (arith, c.loop-k-test.false, c.loop-k.auto.k-end) in (
      differ_past bytes (sent_bytes c.args.command.now) (length bytes)
          (subst (λ (n : ℕ). take n bytes ≡ take n (sent_bytes c.args.command.now)) end c.loop-k.invariant)
          c.in-Some.byte (omega arith) (sym c.in-Some.ensures),
      c.in-Some.ensures,
      sym (slice_get_past bytes (length bytes) (omega arith)),
    )

pub returns-in-None : goal.returns-in-None
returns-in-None c =
    let bytes = c.args.bytes.now in
    let end : c.loop-k.k ≡ length bytes = omega (arith, c.loop-k-test.false, c.loop-k.auto.k-end) in
    same_end bytes (sent_bytes c.args.command.now) (length bytes)
    (subst (λ (n : ℕ). take n bytes ≡ take n (sent_bytes c.args.command.now)) end c.loop-k.invariant) (omega arith)
    (sym c.in-None.ensures)
