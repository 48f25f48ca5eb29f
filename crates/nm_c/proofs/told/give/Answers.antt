-- The last answer is the handle's.
use Rattle.std.proofs.Common.{Option, ap, ◌∙◌}
use Rattle.nm_types.specs.declared.answers.Answer.{Answer}
use Rattle.nm_c.specs.Told.{body_said}
use Rattle.nm_c.proofs.told.give.Goals as goal

pub returns : goal.returns
returns c =
    c.write_bytes.ensures ∙ ap (λ (o : Option Answer). body_said o c.args.body.now) c.answer.ensures
