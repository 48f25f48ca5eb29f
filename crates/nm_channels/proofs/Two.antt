-- Two ranks, each with itself and with the other.
use Rattle.std.specs.Prelude.{ℕ, zero, suc, List, [], ◌∷◌}
use Rattle.nm_types.specs.declared.scripts.Line.{Line}
use Rattle.nm_types.specs.Commands.{commands_of}
use Rattle.nm_types.specs.Sizes.{Sizes}
use Rattle.nm_channels.specs.Ends.{IsEnd, IsChannel}
use Rattle.nm_channels.specs.Finished.{Finished, AreAllEnds}

-- the channel from a rank to another
abbrev pub Channel : List Line → ℕ → ℕ → Finished → Finished → Type 0
Channel lines i j a b = IsChannel i j (commands_of i lines) a.log b.log

pub two_ends : (shape : Sizes) (lines : List Line) (a b : Finished) → IsEnd shape (commands_of 0 lines) a.at a.log →
    IsEnd shape (commands_of 1 lines) b.at b.log →
    Channel lines 0 0 a a → Channel lines 0 1 a b → Channel lines 1 0 b a → Channel lines 1 1 b b →
    AreAllEnds shape lines (a ∷ b ∷ [])
two_ends shape lines a b p q aa ab ba bb zero zero = record { sender = p; receiver = p; there = aa; back = aa }
two_ends shape lines a b p q aa ab ba bb zero (suc zero) = record { sender = p; receiver = q; there = ab; back = ba }
two_ends shape lines a b p q aa ab ba bb zero (suc (suc j)) = tt
two_ends shape lines a b p q aa ab ba bb (suc zero) zero = record { sender = q; receiver = p; there = ba; back = ab }
two_ends shape lines a b p q aa ab ba bb (suc zero) (suc zero) =
    record { sender = q; receiver = q; there = bb; back = bb }
two_ends shape lines a b p q aa ab ba bb (suc zero) (suc (suc j)) = tt
two_ends shape lines a b p q aa ab ba bb (suc (suc i)) j = tt

pub one_end : (shape : Sizes) (lines : List Line) (a : Finished) → IsEnd shape (commands_of 0 lines) a.at a.log →
    Channel lines 0 0 a a → AreAllEnds shape lines (a ∷ [])
one_end shape lines a p aa zero zero = record { sender = p; receiver = p; there = aa; back = aa }
one_end shape lines a p aa zero (suc j) = tt
one_end shape lines a p aa (suc i) j = tt
