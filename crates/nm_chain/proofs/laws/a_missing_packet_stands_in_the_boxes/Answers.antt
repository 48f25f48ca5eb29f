use Rattle.nm_chain.proofs.SequenceLemmas.{missing_in_box, first_missing}
use Rattle.nm_chain.proofs.laws.a_missing_packet_stands_in_the_boxes.Goals as goal

pub returns-clause-missing : goal.returns-clause-missing
returns-clause-missing c =
    λ s j k gb bx gc ch t less got gap. missing_in_box s gb bx gc ch t j k less got gap

pub returns-clause-first : goal.returns-clause-first
returns-clause-first c = λ s j k b gb bx gc ch t all less got gap.
    first_missing s j k b gb bx gc ch t all less got gap
