use Rattle.nm_lookups.proofs.ReplayLemmas.{replays_start}
use Rattle.nm_lookups.proofs.pairing.replays.Replay.new.Goals as goal

pub returns : goal.returns
returns c =
    replays_start (record {
      matcher = c.new.result;
      posts = c.new-2.result;
      messages = c.new-3.result;
      closed = c.new-4.result;
      gone = c.new-5.result;
    }) c.new.ensures c.new-2.ensures.empty c.new-3.ensures.empty c.new-4.ensures.empty c.new-5.ensures.empty
