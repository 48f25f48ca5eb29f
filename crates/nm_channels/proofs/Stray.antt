-- A stray sets the clock forward, and makes nothing happen.
use Rattle.std.specs.Prelude.{[], ◌∷◌}
use Rattle.std.proofs.Common.{rules}
use Rattle.nm_history.specs.declared.events.Happened.TheVariants.{Whole}
use Rattle.nm_history.specs.Matching.{matched_pairs, is_free_message}
use Rattle.nm_history.specs.Happens.{at}
use Rattle.nm_channels.specs.Stray.{IsSound}

pub sound : IsSound []
unfolding matched_pairs is_free_message
sound = search rules

pub makes_nothing : IsSound (at 13 (Whole 3 1) ∷ []) → ⊥
unfolding matched_pairs is_free_message
makes_nothing sound = let h = sound.1.0.made.1 in cc
