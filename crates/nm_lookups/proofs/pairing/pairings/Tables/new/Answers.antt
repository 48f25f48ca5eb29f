use Rattle.nm_lookups.proofs.PairingLemmas.{tables_none}
use Rattle.nm_lookups.proofs.pairing.pairings.Tables.new.Goals as goal

pub returns : goal.returns
returns c =
    tables_none (record { pairs = c.new.result; taken = c.new-2.result; receives = c.new-3.result })
    c.new.ensures.items c.new-2.ensures.empty c.new-3.ensures.empty
