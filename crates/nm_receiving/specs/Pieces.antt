-- The pieces that are due of the messages that a rank granted to another.
use Rattle.std.specs.Prelude.{◌≡◌, ℕ, ◌≤◌, List, [], ◌∷◌, ◌++◌, drop, length, if◌then◌else◌}
use Rattle.nm_history.specs.declared.events.Event.{Event}
use Rattle.nm_history.specs.Pieces.{Due, due_from, due_pieces}
use Rattle.nm_rndv.specs.Grants.{Granted, came, due_of, is_open}

-- the pieces that are still due of the granted message n: those behind the bytes that came
abbrev pub due_of_grant : ℕ × Granted → List Due
due_of_grant e = if is_open e.1 then due_from (due_of e.1) e.0 (came e.1) e.1.len else []

-- the pieces that are still due of these grants, in their order
abbrev pub due_of_grants : List (ℕ × Granted) → List Due
due_of_grants [] = []
due_of_grants (e ∷ es) = due_of_grant e ++ due_of_grants es

-- What was granted to a rank is what is due of it at a rank with this history, where so many of its
-- pieces continued.
pub record AreDue (grants : List (ℕ × Granted)) (h : List Event) (from place : ℕ) : Type 0 where
  pub came : place ≤ length (due_pieces h from)
  pub rest : due_of_grants grants ≡ drop place (due_pieces h from)
