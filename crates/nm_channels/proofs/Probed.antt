-- Probes of a message that is there, and of none.
use Rattle.std.specs.Prelude.{refl}
use Rattle.std.proofs.Common.{rules}
use Rattle.nm_history.specs.Matching.{matched_pairs, is_free_message}
use Rattle.nm_history.specs.AtEach.{AtEach, in_turn}
use Rattle.nm_channels.specs.Probed.{IsLawful}
use Rattle.nm_history.proofs.EachLemmas.{two_ranks}

pub runs : IsLawful
unfolding matched_pairs is_free_message AtEach in_turn
runs = record {
  one_each = refl;
  rank_runs = two_ranks _ _ _
      (record {
        answers = record { few = search rules; in_order = refl; right = search rules };
        starts = record { made = search rules; no_others = refl };
        numbers = search rules;
        cancels = record { made = search rules; no_others = refl };
        wholes = search rules;
        ends = search rules;
        stamps = search rules;
        claims = record { made = search rules; no_others = refl };
      })
      (record {
        answers = record { few = search rules; in_order = refl; right = search rules };
        starts = record { made = search rules; no_others = refl };
        numbers = search rules;
        cancels = record { made = search rules; no_others = refl };
        wholes = search rules;
        ends = search rules;
        stamps = search rules;
        claims = record { made = search rules; no_others = refl };
      });
  delivered = two_ranks _ _ _
      (two_ranks _ _ _
      (record {
        messages = search rules;
        bodies = search rules;
        outs = search rules;
        withdrawals = record { asked = search rules; answered = search rules };
      })
      (record {
        messages = search rules;
        bodies = search rules;
        outs = search rules;
        withdrawals = record { asked = search rules; answered = search rules };
      }))
      (two_ranks _ _ _
      (record {
        messages = search rules;
        bodies = search rules;
        outs = search rules;
        withdrawals = record { asked = search rules; answered = search rules };
      })
      (record {
        messages = search rules;
        bodies = search rules;
        outs = search rules;
        withdrawals = record { asked = search rules; answered = search rules };
      }));
  quiescent = record {
    arrived = two_ranks _ _ _
        (two_ranks _ _ _ refl refl)
        (two_ranks _ _ _ refl refl);
    eager = two_ranks _ _ _
        (two_ranks _ _ _ (search rules) (search rules))
        (two_ranks _ _ _ (search rules) (search rules));
    asked = two_ranks _ _ _
        (two_ranks _ _ _ (search rules) (search rules))
        (two_ranks _ _ _ (search rules) (search rules));
    recalls = two_ranks _ _ _ (search rules) (search rules);
    waits = two_ranks _ _ _ (search rules) (search rules);
    counts = refl;
  };
}
