-- One more of both.
use Rattle.nm_transcript.proofs.PlaceLemmas.{both_longer}
use Rattle.nm_transcript.proofs.named.add.Goals as goal

pub returns : goal.returns
returns c =
    both_longer c.args.chosen.now.calls c.push.new.self c.args.chosen.now.lines.items c.push-2.new.self.items
    c.args.command c.args.line c.in_ok-push.ensures c.in_ok-push-2.ensures.items c.requires
