-- What the words give in the end.
use Rattle.std.proofs.Common.{◌≡◌, map, string_bytes, ap, ◌∙◌, sym, subst, None, Some}
use Rattle.std.specs.Option.{IfSome}
use Rattle.nm_script.specs.CommandWords.{ReadsArguments, with_argument}
use Rattle.nm_script.specs.CommandWords.ReadsArguments.{ends, more}
use Rattle.nm_script.proofs.FoundLemmas.{no_words, some_word, goes_on}
use Rattle.nm_script.proofs.command_line.found.+rest.Goals as goal

pub returns-then-is_empty-clause-follows : goal.returns-then-is_empty-clause-follows
returns-then-is_empty-clause-follows n c =
    let empty = no_words c.args.words.now (sym c.is_empty.ensures ∙ c.if-is_empty.true) in
    let none = ap (map string_bytes) empty in
    subst (λ words. ReadsArguments c.args.found words c.args.found) (sym none) (ends c.args.found)

pub returns-clause-follows : goal.returns-clause-follows
returns-clause-follows n c =
    let words = map string_bytes c.args.words.now in
    let others = map string_bytes c.in_ok-argument.others.now in
    let next = c.in_ok-with.field-0 in
    elim c.rest.result as (λ r. IfSome r (ReadsArguments next others) → IfSome r (ReadsArguments c.args.found words)) [
      | None ↦ λ h. tt
      | Some end ↦ λ h. more c.in_ok-argument.argument words others c.args.found next end
          c.in_ok-argument.ensures.found (sym c.in_ok-with.ensures) h
    ] c.rest.ensures.follows

pub returns-clause-whole : goal.returns-clause-whole
returns-clause-whole n c end follows =
    let words = map string_bytes c.args.words.now in
    let others = map string_bytes c.in_ok-argument.others.now in
    let some = some_word c.args.words.now (sym c.is_empty.ensures ∙ c.if-is_empty.false) in
    let goes = goes_on c.args.found end words some follows in
    let same = c.in_ok-argument.ensures.finds goes.argument goes.others goes.is in
    let added = c.in_ok-with.ensures ∙ (ap (with_argument c.args.found) same.0 ∙ goes.added) in
    let next : c.in_ok-with.field-0 ≡ goes.next = cc in
    c.rest.ensures.whole end (subst (λ f. ReadsArguments f others end) (sym next)
    (subst (λ words. ReadsArguments goes.next words end) (sym same.1) goes.follows))
