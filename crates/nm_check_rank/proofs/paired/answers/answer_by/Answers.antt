use Rattle.std.proofs.Common.{Option, Some, ◌∙◌, ap, take}
use Rattle.std.specs.Prelude.{unwrap_or}
use Rattle.std.specs.Option.{option_map_or}
use Rattle.nm_types.specs.declared.answers.Answer.TheVariants as answer
use Rattle.nm_history.specs.Answers.{cancel_answer}
use Rattle.nm_history.specs.Completion.{Request, result_of}
use Rattle.nm_lookups.specs.AskedFor.{name_of}
use Rattle.nm_check_rank.proofs.paired.answers.answer_by.Goals as goal

pub returns-in-Wait : goal.returns-in-Wait
returns-in-Wait c = λ rank lines h commands line told named held claimed found.
    let asked = named c.in-Wait.q (ap name_of c.in-Wait.is) in
    rw c.in-Wait.is
    (c.wait_answer.ensures rank lines h told
    ∙ ap (λ (o : Option Request). option_map_or (result_of (take c.args.k h)) o (Some answer.Null)) asked)

pub returns-in-Test : goal.returns-in-Test
returns-in-Test c = λ rank lines h commands line told named held claimed found.
    let asked = named c.in-Test.q (ap name_of c.in-Test.is) in
    rw c.in-Test.is
    (ap (λ t. Some t) (c.test_answer.ensures rank lines h told
    ∙ ap (λ (o : Option Request). option_map_or (λ request. unwrap_or
    (result_of (take c.args.k h) request) answer.No) o answer.Null) asked))

pub returns-in-Cancel : goal.returns-in-Cancel
returns-in-Cancel c = λ rank lines h commands line told named held claimed found.
    let asked = named c.in-Cancel.q (ap name_of c.in-Cancel.is) in
    rw c.in-Cancel.is
    (ap (λ t. Some t) (c.cancel_answer.ensures rank lines h told
    ∙ ap (λ (o : Option Request). option_map_or (cancel_answer (take c.args.k h)) o answer.Null) asked))
