use Rattle.std.proofs.Common.{not, ◌∙◌, ap}
use Rattle.nm_history.specs.declared.events.Happened.{Happened}
use Rattle.nm_lookups.proofs.EventLemmas.{is_idle}
use Rattle.nm_lookups.proofs.IdleLemmas.{other_is_idle, other_takes}
use Rattle.nm_lookups.proofs.pairing.replays.Replay.take.Goals as goal

pub returns-else-done : goal.returns-else-done
returns-else-done c = λ h stamp replays is_new.
    other_takes replays stamp c.args.what.now
    (ap (λ (what : Happened). is_idle what) c.in-Cancel.is ∙ ap not c.if-done.false)

pub returns-else-done-2 : goal.returns-else-done-2
returns-else-done-2 c = λ h stamp replays is_new.
    other_takes replays stamp c.args.what.now
    (ap (λ (what : Happened). is_idle what) c.in-Withdraw.is ∙ ap not c.if-done-2.false)

pub returns-in_default : goal.returns-in_default
returns-in_default c = λ h stamp replays is_new.
    let other = c.in_default in
    other_takes replays stamp c.args.what.now
    (other_is_idle c.args.what.now other.not-Post other.not-Arrive other.not-Cancel other.not-Withdraw other.not-Claim
    other.not-Match)
