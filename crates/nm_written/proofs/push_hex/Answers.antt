-- Bytes are below 256.
use Rattle.std.proofs.Common.{arith}
use Rattle.nm_script.proofs.DigitLemmas.{bytes_within}
use Rattle.nm_written.proofs.push_hex.Goals as goal

pub returns-clause-of_bytes : goal.returns-clause-of_bytes
returns-clause-of_bytes c = bytes_within c.args.bytes.now
    (λ i within. omega (arith, c.type_inv.bytes i))
