use Rattle.nm_match.specs.Deeds.{is_known_message}
use Rattle.nm_lookups.specs.Queues.{free_messages, is_posted, open_receives}
use Rattle.nm_lookups.proofs.EventLemmas.{post_none_takes, post_some_takes}
use Rattle.nm_lookups.proofs.ReplayLemmas.{receive_unknown}
use Rattle.std.proofs.Common.{refl}
use Rattle.nm_lookups.proofs.pairing.replays.Replay.post.Goals as goal

pub post-requires : goal.post-requires
post-requires c =
    record { is_new = receive_unknown c.requires.is_new.1 c.args.p.now.number c.requires.is_new.2 }

pub returns-in_ok-pair-in-Some : goal.returns-in_ok-pair-in-Some
returns-in_ok-pair-in-Some c = λ h stamp line replays is_new.
    let told = c.in_ok-taken.ensures (open_receives h) (free_messages h) (is_posted h) (is_known_message h)
    replays.queues in
    let paired = c.in_ok-pair-in-Some.ensures in
    post_some_takes replays stamp line c.args.p.now c.contains-cancelled.result c.in_ok-taken.taken c.in-Some.a
    (record c.args.self.now { matcher = c.post.new.matcher; posts = c.insert.new.self }) c.pair.new.self
    c.in_ok-pair-in-Some.field-0 is_new c.contains-cancelled.ensures told c.in-Some.is
    c.in_ok-insert.ensures.updates refl paired.others paired.closed paired.gone paired.pair

pub returns-in-None : goal.returns-in-None
returns-in-None c = λ h stamp line replays is_new.
    let told = c.in_ok-taken.ensures (open_receives h) (free_messages h) (is_posted h) (is_known_message h)
    replays.queues in
    post_none_takes replays stamp line c.args.p.now c.contains-cancelled.result c.in_ok-taken.taken
    (record c.args.self.now { matcher = c.post.new.matcher; posts = c.insert.new.self }) is_new
    c.contains-cancelled.ensures told c.in-None.is c.in_ok-insert.ensures.updates refl refl refl
