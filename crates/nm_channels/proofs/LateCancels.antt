-- A paired receive and a message that was taken are not cancelled.
use Rattle.std.specs.Prelude.{refl}
use Rattle.std.proofs.Common.{rules}
use Rattle.nm_history.specs.Matching.{matched_pairs, is_free_message}
use Rattle.nm_history.specs.AtEach.{AtEach, in_turn}
use Rattle.nm_channels.proofs.Ranks.{one_rank}
use Rattle.nm_channels.specs.LateCancels.{IsLawful}

pub runs : IsLawful
unfolding matched_pairs is_free_message AtEach in_turn
runs = record {
  one_each = refl;
  rank_runs = one_rank _ _
      (record {
        answers = record { few = search rules; in_order = refl; right = search rules };
        starts = record { made = search rules; no_others = refl };
        numbers = search rules;
        cancels = record { made = search rules; no_others = refl };
        wholes = search rules;
        ends = search rules;
        stamps = search rules;
        claims = record { made = search rules; no_others = refl };
      });
  delivered = one_rank _ _ (one_rank _ _
      (record {
        messages = search rules;
        bodies = search rules;
        outs = search rules;
        withdrawals = record { asked = search rules; answered = search rules };
      }));
  quiescent = record {
    arrived = one_rank _ _ (one_rank _ _ refl);
    eager = one_rank _ _ (one_rank _ _ (search rules));
    asked = one_rank _ _ (one_rank _ _ (search rules));
    recalls = one_rank _ _ (search rules);
    waits = one_rank _ _ (search rules);
    counts = refl;
  };
}
