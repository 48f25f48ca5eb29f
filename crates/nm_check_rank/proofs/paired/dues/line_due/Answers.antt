use Rattle.std.proofs.Common.{sym, ◌∙◌}
use Rattle.nm_types.specs.Commands.{command_at}
use Rattle.nm_history.specs.Answers.{without_bytes}
use Rattle.nm_check_rank.proofs.AnswerLemmas.{answer_of_told, told_of_answer}
use Rattle.nm_check_rank.proofs.paired.dues.line_due.Goals as goal

pub returns-then-not-is_next : goal.returns-then-not-is_next
returns-then-not-is_next c = λ commands before next called.
    let not = rw c.if-not-is_next.true at c.is_next.ensures in
    (λ keeps. not (next ∙ keeps.0), (next, not))

pub returns-then-is_answer_told : goal.returns-then-is_answer_told
returns-then-is_answer_told c = λ commands before next called.
    let is = rw c.if-not-is_next.false at c.is_next.ensures in
    let told = rw c.if-is_answer_told.true at c.is_answer_told.ensures in (
      sym next ∙ is,
      answer_of_told commands before c.args.line (without_bytes c.args.answer.now)
          (command_at commands c.args.line) (sym called ∙ told),
    )

pub returns : goal.returns
returns c = λ commands before next called.
    let is = rw c.if-not-is_next.false at c.is_next.ensures in
    let not = rw c.if-is_answer_told.false at c.is_answer_told.ensures in (
      λ keeps. not (called ∙ told_of_answer commands before c.args.line (without_bytes c.args.answer.now)
          (command_at commands c.args.line) keeps.1),
      (sym next ∙ is, called, c.told_of-found.ensures),
    )
