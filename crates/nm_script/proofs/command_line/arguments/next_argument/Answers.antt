-- The argument that the words begin with.
use Rattle.std.proofs.Common.{◌≡◌, ◌∷◌, map, string_bytes, ap, ◌∙◌, sym, decimal, arith, lit<}
use Rattle.nm_script.specs.declared.command_line.arguments.Argument.TheVariants.{Cells, Eager, Number}
use Rattle.nm_script.proofs.OptionLemmas.{read, refused, same}
use Rattle.nm_script.proofs.ArgumentLemmas.{no_number, one_option}
use Rattle.nm_script.proofs.command_line.arguments.next_argument.Goals as goal

pub returns-then-cells-eq0-clause-finds : goal.returns-then-cells-eq0-clause-finds
returns-then-cells-eq0-clause-finds c (Cells cells) others (some, few, is) =
    let p = c.in-Some.ensures.finds cells others (omega (arith, few, c.from.ensures)) is in
    omega (arith, p.0, some, c.if-cells-eq0.true)
returns-then-cells-eq0-clause-finds c (Eager eager) others (few, is) =
    one_option _ _ _ _ _ (c.in-Some.ensures.found.1) is
returns-then-cells-eq0-clause-finds c (Number n) others (few, is) =
    no_number _ _ _ _ _ n few (c.in-Some.ensures.found.1) is

pub returns-in-Some-clause-finds : goal.returns-in-Some-clause-finds
returns-in-Some-clause-finds c (Cells cells) others (some, few, is) =
    let p = c.in-Some.ensures.finds cells others (omega (arith, few, c.from.ensures)) is in
    (ap Cells p.0, p.1)
returns-in-Some-clause-finds c (Eager eager) others (few, is) =
    absurd (one_option _ _ _ _ _ (c.in-Some.ensures.found.1) is)
returns-in-Some-clause-finds c (Number n) others (few, is) =
    absurd (no_number _ _ _ _ _ n few (c.in-Some.ensures.found.1) is)

pub returns-in-Some-option-clause-finds : goal.returns-in-Some-option-clause-finds
returns-in-Some-option-clause-finds c (Cells cells) others (some, few, is) =
    absurd (one_option _ _ _ _ _ is (c.in-Some-option.ensures.found.1))
returns-in-Some-option-clause-finds c (Eager eager) others (few, is) =
    let p = c.in-Some-option.ensures.finds eager others few is in
    (ap Eager p.0, p.1)
returns-in-Some-option-clause-finds c (Number n) others (few, is) =
    absurd (no_number _ _ _ _ _ n few (c.in-Some-option.ensures.found.1) is)

pub returns-in_err-number-clause-finds : goal.returns-in_err-number-clause-finds
returns-in_err-number-clause-finds c (Cells cells) others (some, few, is) =
    absurd (c.in_default.ensures.finds cells others (omega (arith, few, c.from.ensures)) is)
returns-in_err-number-clause-finds c (Eager eager) others (few, is) =
    absurd (c.in_default-option.ensures.finds eager others few is)
returns-in_err-number-clause-finds c (Number n) others (few, is) =
    let words = ap (map string_bytes) (c.in_ok-word.ensures.cases.0) in
    let both = sym words ∙ is in
    let spelled : c.as_bytes.result.now ≡ decimal n = c.as_bytes.ensures.value ∙ cc in
    absurd (refused 65535 n _ (lit< tt) few c.in_err-number.ensures spelled)

pub returns-clause-found : goal.returns-clause-found
returns-clause-found c =
    let words = ap (map string_bytes) (c.in_ok-word.ensures.cases.0) in
    let p = read 65535 c.in_ok-number.field-0 _ (lit< tt) c.in_ok-number.ensures in
    let spelled = sym c.as_bytes.ensures.value ∙ p.1 in
    (p.0, words ∙ ap (λ w. w ∷ map string_bytes c.in_ok-word.others.now) spelled)

pub returns-clause-finds : goal.returns-clause-finds
returns-clause-finds c (Cells cells) others (some, few, is) =
    absurd (c.in_default.ensures.finds cells others (omega (arith, few, c.from.ensures)) is)
returns-clause-finds c (Eager eager) others (few, is) =
    absurd (c.in_default-option.ensures.finds eager others few is)
returns-clause-finds c (Number n) others (few, is) =
    let words = ap (map string_bytes) (c.in_ok-word.ensures.cases.0) in
    let both = sym words ∙ is in
    let spelled : c.as_bytes.result.now ≡ decimal n = c.as_bytes.ensures.value ∙ cc in
    (ap Number (same 65535 _ n _ (lit< tt) few c.in_ok-number.ensures spelled), cc)
