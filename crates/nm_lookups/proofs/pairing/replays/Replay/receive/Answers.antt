use Rattle.std.proofs.Common.{◌≡◌, None, Some, sym, ◌∙◌}
use Rattle.nm_history.specs.Sends.{message_of}
use Rattle.nm_lookups.proofs.EventLemmas.{match_takes}
use Rattle.nm_lookups.proofs.IdleLemmas.{match_none_takes}
use Rattle.nm_lookups.proofs.pairing.replays.Replay.receive.Goals as goal

pub returns-in_default : goal.returns-in_default
returns-in_default c = λ h stamp line replays is_new.
    let none : message_of h c.args.from c.args.n ≡ None =
    sym (replays.messages (record { rank = c.args.from; n = c.args.n })) ∙ sym c.get.ensures.value
    ∙ sym c.in_default.ensures in
    match_none_takes replays stamp c.args.number c.args.from c.args.n c.args.cap line none

pub returns : goal.returns
returns c = λ h stamp line replays is_new.
    let found : message_of h c.args.from c.args.n ≡ Some c.in-Some.a =
    sym (replays.messages (record { rank = c.args.from; n = c.args.n })) ∙ sym c.get.ensures.value
    ∙ sym c.in-Some.ensures in
    let same = c.in_ok-let_go.ensures.others in
    match_takes replays (record c.let_go.new.self { closed = c.insert.new.self }) stamp c.args.number c.args.from
    c.args.n c.args.cap line c.in-Some.a is_new found same.posts same.messages
    (rw same.closed at c.in_ok-insert.ensures.updates) c.in_ok-let_go.ensures.gone
    (c.in_ok-let_go.ensures.queues h replays)
