-- A message that is longer than the eager limit, and logs that are wrong about it.
use Rattle.std.specs.Prelude.{refl, [], ◌∷◌}
use Rattle.std.proofs.Common.{rules, lit<, lit≤}
use Rattle.std.specs.Fmt.{digits}
use Rattle.nm_history.specs.Matching.{matched_pairs, is_free_message}
use Rattle.nm_history.specs.AtEach.{AtEach, in_turn}
use Rattle.nm_channels.proofs.Run.{all_settle}
use Rattle.nm_channels.proofs.Two.{two_ends}
use Rattle.nm_channels.specs.SmallLogs.{run_on}
use Rattle.nm_channels.specs.LongMessage.{AreEnded, IsRun, packets, body, done, hasty, patient, receives, script}
use Rattle.nm_history.proofs.EachLemmas.{two_ranks}

pub ends : AreEnded patient (receives 2 0 body)
unfolding matched_pairs is_free_message AtEach in_turn
ends =
    two_ends (run_on 2) script (done patient) (done (receives 2 0 body))
    (record {
      run = record {
        answers = record { few = search rules; in_order = refl; right = search rules };
        starts = record { made = search rules; no_others = refl };
        numbers = search rules;
        cancels = record { made = search rules; no_others = refl };
        wholes = search rules;
        ends = search rules;
        stamps = search rules;
        claims = record { made = search rules; no_others = refl };
      };
      sound = search rules;
      eager = search rules;
      empty = search rules;
    })
    (record {
      run = record {
        answers = record { few = search rules; in_order = refl; right = search rules };
        starts = record { made = search rules; no_others = refl };
        numbers = search rules;
        cancels = record { made = search rules; no_others = refl };
        wholes = search rules;
        ends = search rules;
        stamps = search rules;
        claims = record { made = search rules; no_others = refl };
      };
      sound = search rules;
      eager = search rules;
      empty = search rules;
    })
    (record { packets = search rules; pieces = search rules; cleared = refl; in_time = search rules })
    (record { packets = search rules; pieces = search rules; cleared = refl; in_time = search rules })
    (record { packets = search rules; pieces = search rules; cleared = refl; in_time = search rules })
    (record { packets = search rules; pieces = search rules; cleared = refl; in_time = search rules })

-- a message that leaves before it was cleared
pub not_hasty : AreEnded hasty (receives 2 0 body) → ⊥
unfolding matched_pairs is_free_message AtEach in_turn
not_hasty ends = let h = (ends 0 1).sender.sound.1.1.0.made.0 in cc

-- an arrival whose stamp the packet's did not raise
pub not_early : AreEnded patient (receives 1 0 body) → ⊥
unfolding matched_pairs is_free_message AtEach in_turn
not_early ends = let h = (ends 0 1).receiver.sound.0.stamped.0 in cc

-- a piece that continues out of its place
pub not_displaced : AreEnded patient (receives 2 1 body) → ⊥
unfolding matched_pairs is_free_message AtEach in_turn
not_displaced ends = let h = (ends 0 1).receiver.sound.1.1.1.0.made.1 in cc

-- a result that shows other bytes than came
pub not_other_bytes : AreEnded patient (receives 2 0 (9 ∷ [])) → ⊥
unfolding matched_pairs is_free_message AtEach in_turn
not_other_bytes ends = let h = (ends 0 1).receiver.sound.1.1.1.1.0.made.0 in cc

-- by the law
pub is_run : IsRun
unfolding matched_pairs is_free_message AtEach in_turn digits
is_run =
    all_settle (run_on 2) script (done patient ∷ done (receives 2 0 body) ∷ []) packets
    (record {
      some_rank = lit≤ tt;
      few_ranks = lit≤ tt;
      few_lines = lit< tt;
      lines_in_range = refl;
      bodies_fit =
          lit≤ tt;
      text_fits = lit≤ tt;
    })
    refl ends (two_ranks _ _ _ (search rules) (search rules)) refl
