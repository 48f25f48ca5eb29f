-- What a function answers, against what reading gives.
use Rattle.std.specs.Prelude.{◌≡◌, ℕ, Result, Ok, Err}
use Rattle.nm_script.specs.declared.faults.LineFault.{LineFault}
use Rattle.nm_script.specs.declared.faults.LineFault.TheVariants as line
use Rattle.nm_script.specs.declared.faults.TextFault.{TextFault}
use Rattle.nm_script.specs.declared.faults.TextFault.TheVariants as text

-- the second step, if the first gave a value
infixl 10 ◌>>=◌
abbrev pub ◌>>=◌ : {E A B : Type 0} → Result A E → (A → Result B E) → Result B E
(Ok x) >>= f = f x
(Err e) >>= f = Err e

-- the fault with the number of its line
abbrev pub fault_at : {K : Type 0} → ℕ → LineFault K → TextFault K
fault_at k (line.Bad e) = text.Bad k e
fault_at k line.Memory = text.Memory

-- what a line gives, with the number of the line at a fault
abbrev pub at_line : {A K : Type 0} → ℕ → Result A K → Result A (ℕ × K)
at_line k (Ok x) = Ok x
at_line k (Err e) = Err (k, e)

-- what a function answered is what reading a line gives, unless memory ran out
abbrev pub Gives : {A K : Type 0} → Result A (LineFault K) → Result A K → Type 0
Gives (Ok x) read = read ≡ Ok x
Gives (Err (line.Bad e)) read = read ≡ Err e
Gives (Err line.Memory) read = Unit {0}

-- the same of lines with their numbers, at a fault
abbrev pub Fails : {A K : Type 0} → TextFault K → Result A (ℕ × K) → Type 0
Fails (text.Bad k e) read = read ≡ Err (k, e)
Fails text.Memory read = Unit {0}

-- and of an answer that is seen by a view
abbrev pub GivesAt : {X A K : Type 0} → (X → A) → Result X (TextFault K) → Result A (ℕ × K) → Type 0
GivesAt view (Ok x) read = read ≡ Ok (view x)
GivesAt view (Err e) read = Fails e read
