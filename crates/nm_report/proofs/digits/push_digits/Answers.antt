use Rattle.std.proofs.Common.{List, ℕ, ◌++◌, string_bytes, sym, ap, ◌∙◌, rules, append_assoc, append-nil}
use Rattle.std.proofs.lemmas.List.{nil_from_length}
use Rattle.std.specs.Slice.Iter.{chunks_rest}
use Rattle.hex.specs.Hex.{encode_lower}
use Rattle.nm_report.proofs.DigitLemmas.{digits_append, no_digits}
use Rattle.nm_report.proofs.digits.push_digits.Goals as goal

pub loop-part-preserved : goal.loop-part-preserved
loop-part-preserved c =
    let out = string_bytes c.loop-part.out in
    let part = c.in-Some.part.now in
    let rest = chunks_rest c.next.new.self in
    let steps = c.in-Some.ensures.steps in
    let inv = c.loop-part.invariant in (
      search rules,
      tt,
      steps.0 ∙ inv.2,
      ap (λ (t : List ℕ). t ++ encode_lower rest) c.in_ok-push_spelled.ensures.ok
          ∙ append_assoc out (encode_lower part) (encode_lower rest)
          ∙ ap (λ (t : List ℕ). out ++ t) (sym (digits_append part rest) ∙ ap encode_lower (sym steps.1.0))
          ∙ inv.3,
    )

pub returns : goal.returns
returns c =
    let none = nil_from_length (chunks_rest c.loop-part.part-iterator) c.in-None.ensures.steps.1.0 in
    record { ok = rw (none, no_digits, append-nil) at c.loop-part.invariant.3 }
