-- What the call answers is what its number tells.
use Rattle.nm_c.proofs.nm_world_new.Goals as goal

pub returns : goal.returns
returns c = record {
  answered = record {
    called = c.make.result;
    number = c.number.ensures;
    made = c.make.ensures.made;
    cause = c.make.ensures.cause;
    same = c.make.ensures.same;
  };
}
