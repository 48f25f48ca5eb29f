use Rattle.std.proofs.Common.{ap, ◌∙◌, is_some, sym}
use Rattle.std.specs.Map.{set_value}
use Rattle.std.proofs.Common.{nat_eq}
use Rattle.nm_kept.proofs.EntryLemmas.{in_memory, live_set, passes_set, set_value-twice}
use Rattle.nm_rndv.specs.Grants.{has_bytes}
use Rattle.nm_rndv.proofs.senders.lift.Goals as goal

pub replace-requires-clause-known : goal.replace-requires-clause-known
replace-requires-clause-known c =
    ap is_some (in_memory has_bytes c.args.grants.now c.requires.live c.args.n c.requires.there).1

pub replace-requires-clause-live : goal.replace-requires-clause-live
replace-requires-clause-live c =
    ap is_some (in_memory has_bytes c.args.grants.now c.requires.live c.args.n c.requires.there).2

pub returns-clause-live : goal.returns-clause-live
returns-clause-live c =
    let m = in_memory has_bytes c.args.grants.now c.requires.live c.args.n c.requires.there in
    live_set has_bytes c.args.grants.now c.requires.live c.args.n c.replace.new.self c.new.result m.0 m.2
    c.replace.ensures.entries (ap has_bytes c.new.ensures) c.replace.ensures.live

pub returns-clause-there : goal.returns-clause-there
returns-clause-there c =
    let m = in_memory has_bytes c.args.grants.now c.requires.live c.args.n c.requires.there in
    passes_set has_bytes c.args.grants.now c.requires.live c.args.n c.replace.new.self c.new.result
    (ap is_some m.1) c.replace.ensures.entries (ap has_bytes c.new.ensures)

pub returns-clause-value : goal.returns-clause-value
returns-clause-value c =
    let m = in_memory has_bytes c.args.grants.now c.requires.live c.args.n c.requires.there in
    m.1 ∙ sym m.2 ∙ c.replace.ensures.before

pub returns-clause-others : goal.returns-clause-others
returns-clause-others c =
    λ g. ap (λ es. set_value (nat_eq c.args.n) es g) c.replace.ensures.entries
    ∙ set_value-twice c.args.n c.new.result g c.args.grants.now.entries
