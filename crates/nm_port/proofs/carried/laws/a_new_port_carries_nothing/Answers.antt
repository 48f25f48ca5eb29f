-- Its lists are empty, and it counts nothing.
use Rattle.std.proofs.Common.{sym, ap}
use Rattle.nm_chain.specs.declared.table.table.Entry.{Entry}
use Rattle.nm_chain.specs.Rule.{sent_to}
use Rattle.nm_port.proofs.carried.laws.a_new_port_carries_nothing.Goals as goal

pub returns-clause-sent : goal.returns-clause-sent
returns-clause-sent g c seen f p k j new = record {
  listed = record { each = λ n. tt };
  many = sym (ap (λ (e : Entry _). sent_to j e.put_box e.put) new.2);
}

pub returns-clause-passed : goal.returns-clause-passed
returns-clause-passed g c seen f p k i new = record { listed = record { each = λ n. tt }; many = sym (new.5 i) }
