-- An option and its value, as two words or as one.
use Rattle.std.proofs.Common.{map, string_bytes, ap, ◌∙◌, sym}
use Rattle.nm_script.proofs.OptionLemmas.{read, refused, same, is_name, is_other}
use Rattle.nm_script.proofs.OptionLemmas.{value_apart, value_joined, option_apart, option_joined}
use Rattle.nm_script.proofs.command_line.arguments.option.Goals as goal

pub returns-in_err-number-clause-finds : goal.returns-in_err-number-clause-finds
returns-in_err-number-clause-finds c value others within is =
    let words = ap (map string_bytes) (c.in_ok-word.ensures.cases.0) in
    let rest = ap (map string_bytes) (c.in_ok-value.ensures.cases.0) in
    let named = is_name c.as_bytes.ensures.value (sym c.eq.ensures ∙ c.if-eq.true) in
    let p = value_apart c.args.name.now _ _ _ _ _ others value words named rest is in
    absurd (refused c.args.most value _ c.ranges.most.fits within c.in_err-number.ensures
    (c.as_bytes-then-eq.ensures.value ∙ p.0))

pub returns-then-eq-clause-found : goal.returns-then-eq-clause-found
returns-then-eq-clause-found c =
    let words = ap (map string_bytes) (c.in_ok-word.ensures.cases.0) in
    let rest = ap (map string_bytes) (c.in_ok-value.ensures.cases.0) in
    let named = is_name c.as_bytes.ensures.value (sym c.eq.ensures ∙ c.if-eq.true) in
    let p = read c.args.most c.in_ok-number.field-0 _ c.ranges.most.fits c.in_ok-number.ensures in (
      p.0,
      option_apart c.args.name.now _ _ _ _ _ _ words named rest
          (sym c.as_bytes-then-eq.ensures.value ∙ p.1),
    )

pub returns-then-eq-clause-finds : goal.returns-then-eq-clause-finds
returns-then-eq-clause-finds c value others within is =
    let words = ap (map string_bytes) (c.in_ok-word.ensures.cases.0) in
    let rest = ap (map string_bytes) (c.in_ok-value.ensures.cases.0) in
    let named = is_name c.as_bytes.ensures.value (sym c.eq.ensures ∙ c.if-eq.true) in
    let p = value_apart c.args.name.now _ _ _ _ _ others value words named rest is in (
      same c.args.most _ value _ c.ranges.most.fits within c.in_ok-number.ensures
          (c.as_bytes-then-eq.ensures.value ∙ p.0),
      p.1,
    )

pub returns-in_err-number-2-clause-finds : goal.returns-in_err-number-2-clause-finds
returns-in_err-number-2-clause-finds c value others within is =
    let words = ap (map string_bytes) (c.in_ok-word.ensures.cases.0) in
    let other = is_other c.as_bytes.ensures.value (sym c.eq.ensures ∙ c.if-eq.false) in
    let behind = sym c.as_bytes-2.ensures.value ∙ c.in_ok-value-2.ensures in
    let p = value_joined c.args.name.now c.args.joined.now _ _ _ _ others value c.requires words other behind is in
    absurd (refused c.args.most value _ c.ranges.most.fits within c.in_err-number-2.ensures p.0)

pub returns-clause-found : goal.returns-clause-found
returns-clause-found c =
    let words = ap (map string_bytes) (c.in_ok-word.ensures.cases.0) in
    let behind = sym c.as_bytes-2.ensures.value ∙ c.in_ok-value-2.ensures in
    let p = read c.args.most c.in_ok-number-2.field-0 _ c.ranges.most.fits c.in_ok-number-2.ensures in
    (p.0, option_joined c.args.name.now c.args.joined.now _ _ _ _ _ c.requires words behind p.1)

pub returns-clause-finds : goal.returns-clause-finds
returns-clause-finds c value others within is =
    let words = ap (map string_bytes) (c.in_ok-word.ensures.cases.0) in
    let other = is_other c.as_bytes.ensures.value (sym c.eq.ensures ∙ c.if-eq.false) in
    let behind = sym c.as_bytes-2.ensures.value ∙ c.in_ok-value-2.ensures in
    let p = value_joined c.args.name.now c.args.joined.now _ _ _ _ others value c.requires words other behind is in
    (same c.args.most _ value _ c.ranges.most.fits within c.in_ok-number-2.ensures p.0, p.1)
