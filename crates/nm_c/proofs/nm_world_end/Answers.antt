-- What the end answers is what its number tells.
use Rattle.std.proofs.Common.{ap, ◌∙◌}
use Rattle.nm_c.specs.Codes.{number_of}
use Rattle.nm_c.proofs.nm_world_end.Goals as goal

pub returns-clause-answered : goal.returns-clause-answered
returns-clause-answered c = record {
  called = c.end_all-ended.result;
  number = c.number.ensures ∙ ap number_of c.code_of.ensures;
  ended = c.end_all-ended.ensures.ended;
  why = c.end_all-ended.ensures.why;
}
