-- The log grows by the call's entry, and leads to the rank; a result shows the body of its send.
use Rattle.std.proofs.Common.{◌∙◌, ◌++◌, ◌∷◌, [], List, ap}
use Rattle.nm_multi.specs.declared.calls.Entry.{Entry}
use Rattle.nm_multi.proofs.Going.{replayed}
use Rattle.nm_multi.proofs.desks.Desk.make.Goals as goal

pub invariant_of-self-2 : goal.invariant_of-self-2
invariant_of-self-2 c =
    let e : Entry = record { who = c.args.who; call = c.args.call; reply = c.in_ok-reply.reply } in
    let i = c.self.invariant in
    let right = c.history.ensures.right in
    let acts = c.in_ok-reply.ensures.acts in
    replayed c.self.inside.rank c.reply_to.new.rank c.self.inside.log.entries c.add.new.self.entries e i acts
    (c.calls_go_on.ensures.shows _ c.self.inside.rank c.reply_to.new.rank e.call e.reply right i.alone acts
    i.stands)
    (c.calls_go_on.ensures.kept _ c.self.inside.rank c.reply_to.new.rank e.call e.reply c.requires.in_range right
    i.alone acts i.stands)
    (c.add.ensures ∙ ap (λ (es : List Entry). es ++ e ∷ []) c.reserve.ensures.entries)
