-- Reading a text line by line: what it gives, or the first fault.
use Rattle.std.specs.Prelude.{◌≡◌, ℕ, ◌+◌, List, [], ◌∷◌, ◌++◌, length, Result, Ok, Err, nat_lt, if◌then◌else◌}
use Rattle.nm_types.specs.declared.limits.TheConstants.{MAX_TEXT}
use Rattle.nm_script.specs.declared.faults.TextFault.{TextFault}
use Rattle.nm_script.specs.declared.faults.TextFault.TheVariants as fault
use Rattle.nm_script.specs.Faults.{◌>>=◌, at_line}
use Rattle.nm_script.specs.Lines.{lines_of, text_len}

-- how a text is read: the number of ranks that its first line says; what another line gives, behind those
-- that were read; the faults of a text that is too long, and of one without a first line
pub record Reader (X K : Type 0) : Type 0 where
  pub first_at : List ℕ → Result ℕ K
  pub line_at : ℕ → List X → List ℕ → Result X K
  pub too_long : K
  pub no_first : K

-- the lines that were read, and those of these texts
abbrev pub lines_from : {X K : Type 0} → Reader X K → ℕ → List X → List (List ℕ) → Result (List X) (ℕ × K)
lines_from r ranks before [] = Ok before
lines_from r ranks before (text ∷ texts) =
    at_line (length before + 2) (r.line_at ranks before text) >>= λ line.
    lines_from r ranks (before ++ line ∷ []) texts

-- a text without bytes has one empty line
abbrev pub text_at : {X K : Type 0} → Reader X K → List (List ℕ) → Result (ℕ × List X) (ℕ × K)
text_at r [] = Err (1, r.no_first)
text_at r (first ∷ others) =
    at_line 1 (r.first_at first) >>= λ ranks.
    lines_from r ranks [] others >>= λ lines. Ok (ranks, lines)

-- the whole text
abbrev pub read_in : {X K : Type 0} → Reader X K → List ℕ → Result (ℕ × List X) (ℕ × K)
read_in r bytes =
    if nat_lt MAX_TEXT (text_len bytes) then Err (0, r.too_long) else text_at r (lines_of bytes)

-- the answer, seen as so many ranks and these lines, is that, unless memory ran out
abbrev pub AnswersText : {V X K : Type 0} → (V → ℕ × List X) → Result V (TextFault K) → ℕ → List X → Type 0
AnswersText view (Ok v) ranks lines = ((view v).0 ≡ ranks) × ((view v).1 ≡ lines)
AnswersText view (Err fault.Memory) ranks lines = Unit {0}
AnswersText view (Err (fault.Bad line e)) ranks lines = ⊥

-- the answer is this fault, unless memory ran out
abbrev pub IsRefused : {V K : Type 0} → Result V (TextFault K) → ℕ → K → Type 0
IsRefused (Ok v) number k = ⊥
IsRefused (Err (fault.Bad n e)) number k = (n ≡ number) × (e ≡ k)
IsRefused (Err fault.Memory) number k = Unit {0}
