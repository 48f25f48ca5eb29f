-- A number has one digit more than its tenth part.
use Rattle.std.proofs.Common.{arith}
use Rattle.std.proofs.lemmas.Fmt.{decimal_nonempty}
use Rattle.nm_script.proofs.NumberLemmas.{few_digits, one_digit, one_digit_less}
use Rattle.nm_script.proofs.words.numbers.decimal_len.Goals as goal

pub overflow_add-len : goal.overflow_add-len
overflow_add-len c =
    let few = few_digits c.args.n (omega arith) in
    let some = decimal_nonempty c.loop-rest.rest c.loop-rest.invariant.small in
    omega (arith, c.loop-rest.invariant.digits, few, some)

pub loop-rest-preserved : goal.loop-rest-preserved
loop-rest-preserved c =
    let less = one_digit_less c.loop-rest.rest (omega arith) c.loop-rest.invariant.small in
    record {
      digits = omega (arith, c.loop-rest.invariant.digits, less);
      small = omega (arith, c.loop-rest.invariant.small);
      some = omega arith;
    }

pub returns-clause-exact : goal.returns-clause-exact
returns-clause-exact c =
    let one = one_digit c.loop-rest.rest (omega arith) in
    omega (arith, c.loop-rest.invariant.digits, one)

pub returns-clause-few : goal.returns-clause-few
returns-clause-few c =
    let one = one_digit c.loop-rest.rest (omega arith) in
    let few = few_digits c.args.n (omega arith) in
    omega (arith, c.loop-rest.invariant.digits, one, few)
