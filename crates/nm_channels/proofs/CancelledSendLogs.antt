-- A send that is cancelled before a receive took it.
use Rattle.std.specs.Prelude.{refl}
use Rattle.std.proofs.Common.{rules}
use Rattle.nm_history.specs.Matching.{matched_pairs, is_free_message}
use Rattle.nm_history.specs.AtEach.{AtEach, in_turn}
use Rattle.nm_channels.proofs.Two.{two_ends}
use Rattle.nm_channels.specs.SmallLogs.{run_on}
use Rattle.nm_channels.specs.CancelledSendLogs.{AreEnded, script, sender, receiver}

pub ends : AreEnded
unfolding matched_pairs is_free_message AtEach in_turn
ends =
    two_ends (run_on 2) script sender receiver
    (record {
      run = record {
        answers = record { few = search rules; in_order = refl; right = search rules };
        starts = record { made = search rules; no_others = refl };
        numbers = search rules;
        cancels = record { made = search rules; no_others = refl };
        wholes = search rules;
        ends = search rules;
        stamps = search rules;
        claims = record { made = search rules; no_others = refl };
      };
      sound = search rules;
      eager = search rules;
      empty = search rules;
    })
    (record {
      run = record {
        answers = record { few = search rules; in_order = refl; right = search rules };
        starts = record { made = search rules; no_others = refl };
        numbers = search rules;
        cancels = record { made = search rules; no_others = refl };
        wholes = search rules;
        ends = search rules;
        stamps = search rules;
        claims = record { made = search rules; no_others = refl };
      };
      sound = search rules;
      eager = search rules;
      empty = search rules;
    })
    (record { packets = search rules; pieces = search rules; cleared = refl; in_time = search rules })
    (record { packets = search rules; pieces = search rules; cleared = refl; in_time = search rules })
    (record { packets = search rules; pieces = search rules; cleared = refl; in_time = search rules })
    (record { packets = search rules; pieces = search rules; cleared = refl; in_time = search rules })
