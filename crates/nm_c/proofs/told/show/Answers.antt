-- The last answer is the handle's.
use Rattle.std.proofs.Common.{Option, ap, ◌∙◌}
use Rattle.nm_types.specs.declared.answers.Answer.{Answer}
use Rattle.nm_c.specs.Told.{status_said}
use Rattle.nm_c.proofs.told.show.Goals as goal

pub returns : goal.returns
returns c =
    c.write_envelope.ensures ∙ ap (λ (o : Option Answer). status_said o c.args.status.now) c.answer.ensures
