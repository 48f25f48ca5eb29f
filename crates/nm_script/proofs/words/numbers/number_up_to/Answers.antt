use Rattle.std.proofs.Common.{◌<◌, ◌+◌, ◌*◌, arith, sym, length}
use Rattle.std.proofs.lemmas.Bool.Decides.{nat_tests}
use Rattle.nm_script.proofs.NumberLemmas.{no_digit, too_large, one_more, one_more_digit, number_whole}
use Rattle.nm_script.proofs.words.numbers.number_up_to.Goals as goal
use Rattle.nm_script.proofs.words.numbers.number_up_to.Goals.{then-value-most-via-then-value-most}
use Rattle.nm_script.proofs.words.numbers.number_up_to.Goals.{then-value-most-via-else-value-most+then-digit-most}

pub returns-then-not-is_ascii_digit-clause-exact : goal.returns-then-not-is_ascii_digit-clause-exact
returns-then-not-is_ascii_digit-clause-exact c =
    let other = c.if-not-is_ascii_digit.ensures.cases in
    sym (no_digit (c.args.most + 1) c.loop-byte.byte-index c.args.bytes.now (omega arith)
    (λ r. grind (arith, other, r)))

pub returns-then-value-most-clause-exact : goal.returns-then-value-most-clause-exact
returns-then-value-most-clause-exact c =
    let more = one_more c.args.bytes.now c.loop-byte.byte-index c.loop-byte.value
    c.from-digit.result (omega arith) c.if-not-is_ascii_digit.ensures.cases
    c.loop-byte.invariant.value c.from-digit.ensures in
    let large : c.args.most < c.loop-byte.value * 10 + c.from-digit.result = elim c.then-value-most.branch [
      | then-value-most-via-then-value-most w ↦ let t = w.if-value-most.true in omega (arith, t)
      | then-value-most-via-else-value-most+then-digit-most w ↦ let t = w.if-digit-most.true in
          omega (arith, t)
    ] in
    sym (too_large (c.args.most + 1) (c.loop-byte.byte-index + 1) c.args.bytes.now
    (omega (arith, more, large)))

pub loop-byte-preserved : goal.loop-byte-preserved
loop-byte-preserved c =
    let more = one_more c.args.bytes.now c.loop-byte.byte-index c.loop-byte.value
    c.from-digit.result (omega arith) c.if-not-is_ascii_digit.ensures.cases
    c.loop-byte.invariant.value c.from-digit.ensures in
    let tenth = c.if-value-most.false in
    let rest = c.if-digit-most.false in
    record {
      value = more;
      within = omega (arith, tenth, rest);
      digits = one_more_digit c.args.bytes.now c.loop-byte.byte-index (omega arith)
          c.if-not-is_ascii_digit.ensures.cases c.loop-byte.invariant.digits;
    }

pub returns-clause-exact : goal.returns-clause-exact
returns-clause-exact c =
    let either = c.if-bytes-gt1.either in
    let some : 0 < length c.args.bytes.now = grind
    (arith, nat_tests, c.is_empty.ensures, c.if-is_empty.false) in
    number_whole (c.args.most + 1) c.loop-byte.byte-index c.loop-byte.value c.args.bytes.now
    (omega arith) some (λ e. grind (arith, either)) c.loop-byte.invariant.digits
    c.loop-byte.invariant.value (omega (arith, c.loop-byte.invariant.within))
