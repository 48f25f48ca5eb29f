-- The law is a lemma.
use Rattle.nm_transcript.proofs.RunLemmas.{run_same}
use Rattle.nm_transcript.proofs.laws.a_run_is_one_by_other_numbers.Goals as goal

pub returns : goal.returns
returns c = λ shape commands ranks packets f apart run. run_same f apart commands shape ranks packets run
