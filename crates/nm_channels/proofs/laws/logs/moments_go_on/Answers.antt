-- Each is a lemma on one moment more.
use Rattle.std.proofs.Common.{◌∷◌, []}
use Rattle.std.proofs.lemmas.List.Elements.{filter_map-append}
use Rattle.nm_channels.specs.Moments.{LogEntry, clock_after, pulled_of}
use Rattle.nm_channels.proofs.Logs.{sound-push}
use Rattle.nm_channels.proofs.Arriving.{known-push}
use Rattle.nm_channels.proofs.Delivering.{history-push}
use Rattle.nm_channels.proofs.laws.logs.moments_go_on.Goals as goal
use Rattle.nm_history.proofs.Growing.{fold-append}

pub returns-clause-sound : goal.returns-clause-sound
returns-clause-sound c = sound-push

pub returns-clause-history : goal.returns-clause-history
returns-clause-history c = history-push

pub returns-clause-clock : goal.returns-clause-clock
returns-clause-clock c log m = fold-append clock_after 0 log (m ∷ [])

pub returns-clause-known : goal.returns-clause-known
returns-clause-known c = known-push

pub returns-clause-pulled : goal.returns-clause-pulled
returns-clause-pulled c log m i = filter_map-append (λ (m : LogEntry). pulled_of i m.cause) log (m ∷ [])
