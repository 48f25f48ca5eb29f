-- A test that tells exactly whether something holds.
use Rattle.std.specs.Prelude.{Bool, MatchBool}

-- the answer is yes where P holds, and no where it does not
abbrev pub Decides : Bool → Type 0 → Type 0
Decides answer P = MatchBool answer P (¬ P)
