-- The record of a run as the lists that quiescence speaks of.
use Rattle.std.specs.Prelude.{Bool, is_none, List, map}
use Rattle.std.specs.List.{list_all}
use Rattle.nm_history.specs.Quiescence.{Ended, Packets}
use Rattle.nm_report.specs.declared.accounts.RankAccount.{RankAccount}
use Rattle.nm_report.specs.declared.pairs.PairCount.{PairCount}

-- what an account says of its rank
abbrev pub end_of_account : RankAccount → Ended
end_of_account rank = record { at = rank.at; waits = rank.waits; events = rank.history.events }

-- the account of a rank that ended so
abbrev pub account_of : Ended → RankAccount
account_of end = record { history = record { events = end.events; spare = 0 }; at = end.at; waits = end.waits }

-- the ends of the ranks
abbrev pub ends_of : List RankAccount → List Ended
ends_of ranks =
    map (λ rank. record { at = rank.at; waits = rank.waits; events = rank.history.events }) ranks

-- the counts of the packets
abbrev pub packets_of : List PairCount → List Packets
packets_of pairs =
    map (λ pair. record { from = pair.from; to = pair.to; count = pair.packets }) pairs

-- every rank is at its end
abbrev pub are_done : List Ended → Bool
are_done ranks = list_all (λ rank. is_none rank.waits) ranks
