use Rattle.std.proofs.Common.{refl, sym, ◌∙◌}
use Rattle.nm_match.specs.Deeds.{is_known_message}
use Rattle.nm_lookups.specs.Queues.{free_messages, is_posted, open_receives}
use Rattle.nm_lookups.proofs.EventLemmas.{arrival_none_takes, arrival_some_takes, number_found}
use Rattle.nm_lookups.proofs.pairing.replays.Replay.arrive.Goals as goal

pub returns-in_default : goal.returns-in_default
returns-in_default c = λ h stamp replays is_new.
    let told = c.in_ok-taken.ensures (open_receives h) (free_messages h) (is_posted h) (is_known_message h)
    replays.queues in
    arrival_none_takes replays stamp c.args.a.now c.contains-gone.result c.in_ok-taken.taken
    (record c.args.self.now { matcher = c.arrive.new.matcher; messages = c.insert.new.self }) is_new
    c.contains-gone.ensures told c.in_default.is c.in_ok-insert.ensures.updates refl refl refl

pub returns-in_default-copied : goal.returns-in_default-copied
returns-in_default-copied c = λ h stamp replays is_new.
    let told = c.in_ok-taken.ensures (open_receives h) (free_messages h) (is_posted h) (is_known_message h)
    replays.queues in
    absurd (number_found replays c.args.a.now c.contains-gone.result c.in_ok-taken.taken c.in-Some.number
    c.arrive.new.matcher told c.in-Some.is (sym c.get.ensures.value ∙ sym c.in_default-copied.ensures))

pub returns : goal.returns
returns c = λ h stamp replays is_new.
    let told = c.in_ok-taken.ensures (open_receives h) (free_messages h) (is_posted h) (is_known_message h)
    replays.queues in
    let paired = c.in_ok-pair.ensures in
    arrival_some_takes replays stamp c.args.a.now c.contains-gone.result c.in_ok-taken.taken c.in-Some.number
    c.in-Some-copied.p (record c.args.self.now { matcher = c.arrive.new.matcher; messages = c.insert.new.self })
    c.pair.new.self c.in_ok-pair.field-0 is_new c.contains-gone.ensures told c.in-Some.is
    (sym c.get.ensures.value ∙ sym c.in-Some-copied.ensures) c.in_ok-insert.ensures.updates refl paired.others
    paired.closed paired.gone paired.pair
