use Rattle.std.proofs.Common.{ap, is_some}
use Rattle.nm_kept.proofs.EntryLemmas.{in_memory, live_set}
use Rattle.nm_rndv.specs.Grants.{has_bytes}
use Rattle.nm_rndv.proofs.senders.set.Goals as goal

pub replace-before-requires-clause-known : goal.replace-before-requires-clause-known
replace-before-requires-clause-known c =
    ap is_some (in_memory has_bytes c.args.grants.now c.requires.live c.args.n c.requires.there).1

pub replace-before-requires-clause-live : goal.replace-before-requires-clause-live
replace-before-requires-clause-live c =
    ap is_some (in_memory has_bytes c.args.grants.now c.requires.live c.args.n c.requires.there).2

pub returns-clause-live : goal.returns-clause-live
returns-clause-live c =
    let m = in_memory has_bytes c.args.grants.now c.requires.live c.args.n c.requires.there in
    live_set has_bytes c.args.grants.now c.requires.live c.args.n c.replace-before.new.self c.args.grant m.0 m.2
    c.replace-before.ensures.entries c.requires.bytes c.replace-before.ensures.live
