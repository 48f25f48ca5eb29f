use Rattle.std.proofs.Common.{ap, ◌∙◌, is_some, sym}
use Rattle.nm_kept.proofs.EntryLemmas.{in_memory, live_end, live_set}
use Rattle.nm_rndv.specs.Offers.{has_body}
use Rattle.nm_rndv.proofs.destinations.set.Goals as goal

pub replace-before-requires-clause-known : goal.replace-before-requires-clause-known
replace-before-requires-clause-known c =
    ap is_some (in_memory has_body c.args.asked.now c.requires.live c.args.n c.requires.there).1

pub replace-before-requires-clause-live : goal.replace-before-requires-clause-live
replace-before-requires-clause-live c =
    ap is_some (in_memory has_body c.args.asked.now c.requires.live c.args.n c.requires.there).2

pub end-requires : goal.end-requires
end-requires c =
    ap is_some (in_memory has_body c.args.asked.now c.requires.live c.args.n c.requires.there).1

pub returns-then-has_body-clause-live : goal.returns-then-has_body-clause-live
returns-then-has_body-clause-live c =
    let m = in_memory has_body c.args.asked.now c.requires.live c.args.n c.requires.there in
    live_set has_body c.args.asked.now c.requires.live c.args.n c.replace-before.new.self c.args.state m.0 m.2
    c.replace-before.ensures.entries (sym c.has_body.ensures ∙ c.if-has_body.true) c.replace-before.ensures.live

pub returns-clause-live : goal.returns-clause-live
returns-clause-live c =
    let m = in_memory has_body c.args.asked.now c.requires.live c.args.n c.requires.there in
    live_end has_body c.args.asked.now c.requires.live c.args.n c.end.new.self c.args.state m.0 m.2
    c.end.ensures.entries (sym c.has_body.ensures ∙ c.if-has_body.false) c.end.ensures.live c.end.ensures.many
