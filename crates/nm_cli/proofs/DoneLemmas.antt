-- What holds of each answer holds of what was done, unless memory ran out.
use Rattle.std.proofs.Common.{◌≡◌, ℕ, inl, inr, sym, ◌∙◌}
use Rattle.nm_cli.specs.Done.{Ending, Ends, IsDone, RanShort}
use Rattle.nm_shell.specs.Done.{OrFails, OrUnwritten}
use Rattle.nm_cli.specs.declared.answers.Response.{Response}

pub of_done : {P : Type 0} (e : Ending) → IsDone e → (RanShort e → P) → ((a : Response) → Ends e a → P) → P
of_done e (inl short) at_short make = at_short short
of_done e (inr said) at_short make = make said.0 said.1

-- at another status
pub at_status : {P : Type 0} (e : Ending) (k : ℕ) → IsDone e → e.status ≡ k → (6 ≡ k → ⊥) →
    ((a : Response) → Ends e a → P) → P
at_status e k done is other make = of_done e done (λ short. absurd (other (sym short.memory ∙ is))) make

pub or_short : {P : Type 0} (e : Ending) → IsDone e → ((a : Response) → Ends e a → OrUnwritten P e.status) →
    OrUnwritten P e.status
or_short e done make = of_done e done (λ short. inr (inr short.memory)) make

pub or_failed : {P : Type 0} (e : Ending) → IsDone e → ((a : Response) → Ends e a → OrFails P e.status) →
    OrFails P e.status
or_failed e done make = of_done e done (λ short. inr (inr (inr short.memory))) make
