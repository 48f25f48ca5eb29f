-- Reading gives a script or a fault, and it gives one.
use Rattle.std.proofs.Common.{refl}
use Rattle.nm_script.specs.Reading.{read_of}
use Rattle.nm_script.proofs.ReadLemmas.{either_is, not_both, one_fault}
use Rattle.nm_script.proofs.laws.a_text_is_a_script_or_has_a_fault.Goals as goal

pub returns-clause-either : goal.returns-clause-either
returns-clause-either c bytes = either_is bytes (read_of bytes) refl

pub returns-clause-not_both : goal.returns-clause-not_both
returns-clause-not_both c = not_both

pub returns-clause-one_fault : goal.returns-clause-one_fault
returns-clause-one_fault c = one_fault
