-- How a call of a program ends that answers words and a source with a text: one relation of what is seen of it,
-- whatever its answers are.
use Rattle.std.specs.Prelude.{◌≡◌, ℕ, ◌⊎◌, List, Option, codes}
use Rattle.nm_outside.specs.Told.{Appends, AppendsPart}

-- What is seen of a call: its words, what the source told and has left, with its counts of faults, what the sink
-- took before and after, with its counts, and the status.
pub record Ending : Type 0 where
  pub words : List (List ℕ)
  pub input : Option (List ℕ)
  pub left : Option (List ℕ)
  pub read_old : ℕ
  pub read_new : ℕ
  pub before : Option (List ℕ)
  pub after : Option (List ℕ)
  pub write_old : ℕ
  pub write_new : ℕ
  pub status : ℕ

-- a text was written, whole and with its status, or the sink failed, which took a front of it
abbrev pub IsSaid : List ℕ → ℕ → ℕ → Option (List ℕ) → Option (List ℕ) → Type 0 → Type 0
IsSaid text its_status status old new fails =
    ((status ≡ its_status) × Appends old new text) ⊎ ((status ≡ 5) × fails × AppendsPart old new text)

-- memory ran out before the first write
pub record RanShort (e : Ending) : Type 0 where
  pub memory : e.status ≡ 6
  pub unsaid : e.after ≡ e.before

-- it ended with one of these answers, or memory ran out
abbrev pub IsDone : {A : Type 0} → (Ending → A → Type 0) → Ending → Type 0
IsDone {A} Ends e = RanShort e ⊎ ((answer : A) × Ends e answer)

-- what is said of a source that failed
abbrev pub unread : List ℕ
unread = codes "fault read\n"

-- it is so, or a write failed, or memory ran out
abbrev pub OrUnwritten : Type 0 → ℕ → Type 0
OrUnwritten holds status = holds ⊎ ((status ≡ 5) ⊎ (status ≡ 6))

-- it is so, or a read or a write failed, or memory ran out
abbrev pub OrFails : Type 0 → ℕ → Type 0
OrFails holds status = holds ⊎ ((status ≡ 4) ⊎ ((status ≡ 5) ⊎ (status ≡ 6)))
