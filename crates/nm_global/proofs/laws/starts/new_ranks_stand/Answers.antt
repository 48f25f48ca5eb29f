-- By the laws of the start.
use Rattle.std.proofs.Common.{List, refl, sym, subst}
use Rattle.nm_history.specs.declared.events.Event.{Event}
use Rattle.nm_history.specs.RankRun.{IsRankRun}
use Rattle.nm_history.specs.Sends.{sent_body}
use Rattle.nm_global.proofs.laws.starts.new_ranks_stand.Goals as goal

pub returns-clause-stands : goal.returns-clause-stands
returns-clause-stands c shape commands i v new =
    record {
      me = new.me;
      sizes = new.sizes;
      run = subst (λ (h : List Event). IsRankRun shape commands 0 h) (sym new.events)
          (c.rank_run_begins.ensures shape commands);
      logged = c.a_log_begins.ensures (sent_body commands) commands shape i v new;
      left = λ to within. c.nothing_left.ensures (sent_body commands) shape i to v within new;
    }

pub returns-clause-passed : goal.returns-clause-passed
returns-clause-passed c i j v w = record { packets = refl; pieces = refl }
