-- The commands of a rank in a script, by blocks of lines.
use Rattle.std.proofs.Common.{◌≡◌, ℕ, ◌+◌, ◌==◌, Bool, true, false, cond, List, [], ◌∷◌, ◌++◌, map}
use Rattle.std.proofs.Common.{refl, ap}
use Rattle.nm_types.specs.declared.scripts.Command.{Command}
use Rattle.nm_types.specs.declared.scripts.Line.{Line}
use Rattle.nm_types.specs.Commands.{Numbered, commands_from}

-- the commands of a rank
abbrev pub own_commands : ℕ → List Line → List Command
own_commands rank [] = []
own_commands rank (l ∷ lines) = cond (l.rank == rank) (l.command ∷ own_commands rank lines) (own_commands rank lines)

pub commands_are : (rank number : ℕ) (lines : List Line) →
    map (λ (c : Numbered). c.command) (commands_from rank number lines) ≡ own_commands rank lines
commands_are rank number [] = refl
commands_are rank number (l ∷ lines) = by_rank (l.rank == rank) (commands_are rank (number + 1) lines)
  where
    by_rank : (b : Bool) → map (λ (c : Numbered). c.command) (commands_from rank (number + 1) lines)
        ≡ own_commands rank lines → map (λ (c : Numbered). c.command)
        (cond b (record { line = number; command = l.command } ∷ commands_from rank (number + 1) lines)
        (commands_from rank (number + 1) lines)) ≡ cond b (l.command ∷ own_commands rank lines)
        (own_commands rank lines)
    by_rank true later = ap (λ (cs : List Command). l.command ∷ cs) later
    by_rank false later = later

pub own-append : (rank : ℕ) (xs ys : List Line) → own_commands rank (xs ++ ys) ≡ own_commands rank xs ++ own_commands
    rank ys
own-append rank [] ys = refl
own-append rank (l ∷ xs) ys = by_rank (l.rank == rank) (own-append rank xs ys)
  where
    by_rank : (b : Bool) → own_commands rank (xs ++ ys) ≡ own_commands rank xs ++ own_commands rank ys →
        cond b (l.command ∷ own_commands rank (xs ++ ys)) (own_commands rank (xs ++ ys))
        ≡ cond b (l.command ∷ own_commands rank xs) (own_commands rank xs) ++ own_commands rank ys
    by_rank true later = ap (λ (cs : List Command). l.command ∷ cs) later
    by_rank false later = later

-- a block of lines of one rank
pub own_block : (rank own : ℕ) (cs : List Command) →
    own_commands rank (map (λ (c : Command). record { rank = own; command = c }) cs) ≡ cond (own == rank) cs []
own_block rank own [] = by_rank (own == rank)
  where
    by_rank : (b : Bool) → ◌≡◌ {A = List Command} [] (cond b [] [])
    by_rank true = refl
    by_rank false = refl
own_block rank own (c ∷ cs) = by_rank (own == rank) (own_block rank own cs)
  where
    by_rank : (b : Bool) → own_commands rank (map (λ (c : Command). record { rank = own; command = c }) cs)
        ≡ cond b cs [] →
        cond b (c ∷ own_commands rank (map (λ (c : Command). record { rank = own; command = c }) cs))
        (own_commands rank (map (λ (c : Command). record { rank = own; command = c }) cs)) ≡ cond b (c ∷ cs) []
    by_rank true later = ap (λ (xs : List Command). c ∷ xs) later
    by_rank false later = later
