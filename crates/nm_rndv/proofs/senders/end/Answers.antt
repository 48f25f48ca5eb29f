use Rattle.std.proofs.Common.{ap, is_some}
use Rattle.nm_kept.proofs.EntryLemmas.{in_memory, live_end}
use Rattle.nm_rndv.specs.Grants.{has_bytes}
use Rattle.nm_rndv.proofs.senders.end.Goals as goal

pub end-requires : goal.end-requires
end-requires c =
    ap is_some (in_memory has_bytes c.args.grants.now c.requires.live c.args.n c.requires.there).1

pub returns-clause-live : goal.returns-clause-live
returns-clause-live c =
    let m = in_memory has_bytes c.args.grants.now c.requires.live c.args.n c.requires.there in
    live_end has_bytes c.args.grants.now c.requires.live c.args.n c.end.new.self c.args.grant m.0 m.2
    c.end.ensures.entries c.requires.bytes c.end.ensures.live c.end.ensures.many
