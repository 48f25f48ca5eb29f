-- Threads that share a rank.
use Rattle.nm_cli.proofs.DoneLemmas.{or_short}
use Rattle.nm_cli.proofs.ThreadEnds.{logged_is}
use Rattle.nm_cli.proofs.laws.threads_are_logged.Goals as goal

pub returns : goal.returns
returns c = record {
  logged = λ e done line taken threads rounds is.
      or_short e done (λ a ends. logged_is e a ends line taken threads rounds is);
}
