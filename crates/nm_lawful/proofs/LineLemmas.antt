-- The next line of a rank.
use Rattle.std.proofs.Common.{◌≡◌, ℕ, ◌+◌, ◌==◌, ◌<◌, ◌≤◌, None, List, length, ap, arith}
use Rattle.std.specs.Prelude.{option_map}
use Rattle.std.specs.List.{position}
use Rattle.std.proofs.Math.ListN.{drop_of_length-le}
use Rattle.nm_types.specs.declared.scripts.Line.{Line}
use Rattle.nm_lawful.specs.Moves.{next_of_lem}

pub none_next : (lines : List Line) (rank at : ℕ) → length lines < at → next_of_lem lines rank at ≡ None
none_next lines rank at past =
    let short : length lines ≤ at = omega (arith, past) in
    ap (λ (ls : List Line). option_map (λ k. at + k) (position (λ l. l.rank == rank) ls))
    (drop_of_length-le lines short)
