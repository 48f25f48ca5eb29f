-- The list of the channel is taken out, grows, and is put back.
use Rattle.std.proofs.Common.{rules}
use Rattle.nm_sure.proofs.Wayside.{put_behind}
use Rattle.nm_sure.proofs.partners.put.Goals as goal

pub returns-clause-ok : goal.returns-clause-ok
returns-clause-ok c w =
    put_behind c.args.way w c.args.starts.now c.remove.new.self c.insert.new.self c.unwrap_or-lines.result
    c.push.new.self
    c.args.number (search rules) c.in_ok-push.ensures.items (c.remove.ensures.updates.0 w)
    (c.in_ok-insert.ensures.updates.0 w)
