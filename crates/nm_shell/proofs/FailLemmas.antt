-- What holds unless something failed.
use Rattle.std.proofs.Common.{ℕ, inl, inr}
use Rattle.nm_shell.specs.Done.{OrFails, OrUnwritten}

-- what holds unless a write failed holds unless a read or a write failed
pub to_fails : {P : Type 0} (status : ℕ) → OrUnwritten P status → OrFails P status
to_fails status (inl h) = inl h
to_fails status (inr h) = inr (inr h)
