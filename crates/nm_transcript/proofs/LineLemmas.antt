-- The numbers that a script gives to the lines of a rank's commands.
use Rattle.std.proofs.Common.{◌≡◌, ℕ, zero, suc, ◌+◌, ◌-◌, ◌<◌, ◌≤◌, ◌==◌, ◌⊎◌, inl, inr, Bool, true, false, cond}
use Rattle.std.proofs.Common.{Option, Some, None, List, [], ◌∷◌, length, map, get_or, refl, sym, ◌∙◌, ap, subst}
use Rattle.std.proofs.Common.{arith}
use Rattle.std.specs.Prelude.{IfSome, option_map}
use Rattle.std.specs.List.{slice_get}
use Rattle.std.proofs.lemmas.Bool.{cases_order}
use Rattle.std.proofs.lemmas.Bool.Decides.{nat_tests}
use Rattle.nm_types.specs.declared.scripts.Command.{Command}
use Rattle.nm_types.specs.declared.scripts.Line.{Line}
use Rattle.nm_types.specs.Commands.{Numbered, commands_from, commands_of}
use Rattle.nm_history.specs.declared.events.Event.{Event}
use Rattle.nm_history.specs.declared.events.Happened.{Happened}
use Rattle.nm_history.specs.declared.events.Happened.TheVariants.{Send, Post, Claim, Match, Ran}
use Rattle.nm_history.specs.Happens.{at}
use Rattle.nm_history.specs.Quiescence.{Ended}
use Rattle.nm_process.specs.Playing.{all_numbered, numbered_at}
use Rattle.nm_transcript.specs.Renumbered.{AreOf, IsOneOf, KeepsApart, line_of, number_in, renumbered, renumbered_all}
use Rattle.nm_transcript.specs.Renumbered.{renumbered_command, renumbered_end, renumbered_ends, renumbered_event}
use Rattle.nm_transcript.specs.Transcripts.{IsEndOf, numbers_of}

-- the number of the k-th command, and numbers beyond all of them where there are fewer commands
abbrev pub placed : List ℕ → ℕ → ℕ → ℕ
placed [] beyond k = beyond + k
placed (n ∷ ns) beyond zero = n
placed (n ∷ ns) beyond (suc k) = placed ns beyond k

-- the number of a line, where the k-th command has line k + 2
abbrev pub moved : List ℕ → ℕ → ℕ → ℕ
moved ns beyond zero = 0
moved ns beyond (suc zero) = 1
moved ns beyond (suc (suc k)) = placed ns beyond k

-- these numbers rise from one on, up to another
abbrev pub AreRising : ℕ → List ℕ → ℕ → Type 0
AreRising low [] high = low ≤ high
AreRising low (n ∷ ns) high = (low ≤ n) × AreRising (n + 1) ns high

placed_least : (low : ℕ) (ns : List ℕ) (high k : ℕ) → AreRising low ns high → low ≤ placed ns high k
placed_least low [] high k rising = omega (arith, rising)
placed_least low (n ∷ ns) high zero rising = rising.0
placed_least low (n ∷ ns) high (suc k) rising =
    let here = rising.0 in
    let later = placed_least (n + 1) ns high k rising.1 in omega (arith, here, later)

placed_rises : (low : ℕ) (ns : List ℕ) (high a b : ℕ) → AreRising low ns high → a < b →
    placed ns high a < placed ns high b
placed_rises low [] high a b rising less = omega (arith, less)
placed_rises low (n ∷ ns) high zero zero rising less = absurd (omega (arith, less))
placed_rises low (n ∷ ns) high (suc a) zero rising less = absurd (omega (arith, less))
placed_rises low (n ∷ ns) high zero (suc b) rising less =
    let later = placed_least (n + 1) ns high b rising.1 in omega (arith, later)
placed_rises low (n ∷ ns) high (suc a) (suc b) rising less =
    placed_rises (n + 1) ns high a b rising.1 (omega (arith, less))

moved_rises : (ns : List ℕ) (high a b : ℕ) → AreRising 2 ns high → a < b → moved ns high a < moved ns high b
moved_rises ns high zero zero rising less = absurd (omega (arith, less))
moved_rises ns high zero (suc zero) rising less = omega arith
moved_rises ns high zero (suc (suc b)) rising less =
    let later = placed_least 2 ns high b rising in omega (arith, later)
moved_rises ns high (suc zero) zero rising less = absurd (omega (arith, less))
moved_rises ns high (suc zero) (suc zero) rising less = absurd (omega (arith, less))
moved_rises ns high (suc zero) (suc (suc b)) rising less =
    let later = placed_least 2 ns high b rising in omega (arith, later)
moved_rises ns high (suc (suc a)) zero rising less = absurd (omega (arith, less))
moved_rises ns high (suc (suc a)) (suc zero) rising less = absurd (omega (arith, less))
moved_rises ns high (suc (suc a)) (suc (suc b)) rising less =
    placed_rises 2 ns high a b rising (omega (arith, less))

below : (x y : ℕ) → x < y → (x == y) ≡ false
below x y less = grind (arith, nat_tests)

above : (x y : ℕ) → y < x → (x == y) ≡ false
above x y more = grind (arith, nat_tests)

equal : (x : ℕ) → (x == x) ≡ true
equal x = grind (arith, nat_tests)

pub keeps_apart : (ns : List ℕ) (high : ℕ) → AreRising 2 ns high → KeepsApart (moved ns high)
keeps_apart ns high rising a b = by (cases_order a b) where
  by : (a ≡ b) ⊎ ((a < b) ⊎ (b < a)) → (moved ns high a == moved ns high b) ≡ (a == b)
  by (inl same) =
      subst (λ (c : ℕ). (moved ns high a == moved ns high c) ≡ (a == c)) same (equal (moved ns high a) ∙ sym (equal a))
  by (inr (inl less)) =
      below (moved ns high a) (moved ns high b) (moved_rises ns high a b rising less) ∙ sym (below a b less)
  by (inr (inr more)) =
      above (moved ns high a) (moved ns high b) (moved_rises ns high b a rising more) ∙ sym (above a b more)

-- the numbers of a rank's commands rise
rising_from : (low lower : ℕ) (ns : List ℕ) (high : ℕ) → lower ≤ low → AreRising low ns high → AreRising lower ns high
rising_from low lower [] high less rising = omega (arith, less, rising)
rising_from low lower (n ∷ ns) high less rising =
    let here = rising.0 in (omega (arith, less, here), rising.1)

numbers_rise : (rank number : ℕ) (lines : List Line) →
    AreRising number (map (λ (c : Numbered). c.line) (commands_from rank number lines)) (number + length lines)
numbers_rise rank number [] = omega arith
numbers_rise rank number (l ∷ lines) =
    let sum : (number + 1) + length lines ≡ number + length (l ∷ lines) = omega arith in
    by (l.rank == rank) (subst (λ (high : ℕ). AreRising (number + 1)
    (map (λ (c : Numbered). c.line) (commands_from rank (number + 1) lines)) high) sum
    (numbers_rise rank (number + 1) lines)) where
      by : (b : Bool) →
          AreRising (number + 1) (map (λ (c : Numbered). c.line) (commands_from rank (number + 1) lines))
          (number + length (l ∷ lines)) →
          AreRising number (map (λ (c : Numbered). c.line)
          (cond b (record { line = number; command = l.command } ∷ commands_from rank (number + 1) lines)
          (commands_from rank (number + 1) lines))) (number + length (l ∷ lines))
      by true rest = (omega arith, rest)
      by false rest =
          rising_from (number + 1) number
          (map (λ (c : Numbered). c.line) (commands_from rank (number + 1) lines)) (number + length (l ∷ lines))
          (omega arith) rest

pub all_apart : (lines : List Line) (rank : ℕ) → KeepsApart (moved (numbers_of lines rank) (2 + length lines))
all_apart lines rank = keeps_apart (numbers_of lines rank) (2 + length lines) (numbers_rise rank 2 lines)

-- commands that are numbered by their order get the numbers of their lines
named : (g : ℕ → ℕ) (high n : ℕ) (cs : List Numbered) →
    ((k : ℕ) → g (n + k) ≡ placed (map (λ (c : Numbered). c.line) cs) high k) →
    map (renumbered_command g) (all_numbered n (map (λ (c : Numbered). c.command) cs)) ≡ cs
named g high n [] places = refl
named g high n (c ∷ cs) places =
    let here : n ≡ n + 0 = omega arith in
    let first : g n ≡ c.line = ap (λ (k : ℕ). g k) here ∙ places 0 in
    ap (λ (line : ℕ). numbered_at line c.command
    ∷ map (renumbered_command g) (all_numbered (n + 1) (map (λ (d : Numbered). d.command) cs))) first
    ∙ ap (λ (ds : List Numbered). c ∷ ds) (named g high (n + 1) cs later) where
      later : (k : ℕ) → g ((n + 1) + k) ≡ placed (map (λ (d : Numbered). d.line) cs) high k
      later k =
          let sum : (n + 1) + k ≡ n + suc k = omega arith in
          ap (λ (m : ℕ). g m) sum ∙ places (suc k)

pub commands_named : (lines : List Line) (rank : ℕ) (given : List Command) →
    map (λ (c : Numbered). c.command) (commands_of rank lines) ≡ given →
    map (renumbered_command (moved (numbers_of lines rank) (2 + length lines))) (all_numbered 2 given)
    ≡ commands_of rank lines
commands_named lines rank given is =
    ap (λ (xs : List Command). map (renumbered_command (moved (numbers_of lines rank) (2 + length lines)))
    (all_numbered 2 xs)) (sym is)
    ∙ named (moved (numbers_of lines rank) (2 + length lines)) (2 + length lines) 2 (commands_of rank lines) moved_to where
      moved_to : (k : ℕ) → moved (numbers_of lines rank) (2 + length lines) (2 + k)
          ≡ placed (numbers_of lines rank) (2 + length lines) k
      moved_to k =
          let sum : 2 + k ≡ suc (suc k) = omega arith in
          ap (λ (m : ℕ). moved (numbers_of lines rank) (2 + length lines) m) sum

-- the number that is looked up is that number
placed_is : (ns : List ℕ) (high k : ℕ) → k < length ns → get_or ns k 0 ≡ placed ns high k
placed_is [] high k low = absurd (omega (arith, low))
placed_is (n ∷ ns) high zero low = refl
placed_is (n ∷ ns) high (suc k) low = placed_is ns high k (omega (arith, low))

number_is : (ns : List ℕ) (high line : ℕ) → IsOneOf (length ns) line → number_in ns line ≡ moved ns high line
number_is ns high zero one = let low = one.0 in absurd (omega (arith, low))
number_is ns high (suc zero) one = let low = one.0 in absurd (omega (arith, low))
number_is ns high (suc (suc k)) one =
    let less = one.1 in
    let place : suc (suc k) - 2 ≡ k = omega arith in
    ap (λ (m : ℕ). get_or ns m 0) place ∙ placed_is ns high k (omega (arith, less))

-- a rank at its end
abbrev pub ended_as : ℕ → Option ℕ → List Event → Ended
ended_as ran waits events = record { at = ran; waits = waits; events = events }

module _ (f g : ℕ → ℕ) (n : ℕ) (same : (line : ℕ) → IsOneOf n line → f line ≡ g line) where
  what_by : (w : Happened) → IfSome (line_of w) (IsOneOf n) → renumbered f w ≡ renumbered g w
  what_by (Send to m tag ctx len how line) one = ap (λ (l : ℕ). Send to m tag ctx len how l) (same line one)
  what_by (Post p line) one = ap (λ (l : ℕ). Post p l) (same line one)
  what_by (Claim from m line) one = ap (λ (l : ℕ). Claim from m l) (same line one)
  what_by (Match number from m cap line) one = ap (λ (l : ℕ). Match number from m cap l) (same line one)
  what_by (Ran line answer) one = ap (λ (l : ℕ). Ran l answer) (same line one)
  what_by w one = refl

  all_by : (h : List Event) → AreOf n h → renumbered_all f h ≡ renumbered_all g h
  all_by [] each = refl
  all_by (e ∷ h) each =
      ap (λ (w : Happened). at e.stamp w ∷ renumbered_all f h) (what_by e.what each.0)
      ∙ ap (λ (xs : List Event). renumbered_event g e ∷ xs) (all_by h each.1)

  waits_by : (o : Option ℕ) → IfSome o (IsOneOf n) → option_map f o ≡ option_map g o
  waits_by None one = refl
  waits_by (Some line) one = ap (λ (l : ℕ). Some l) (same line one)

  end_by : (rank : Ended) → IsEndOf n rank → renumbered_end f rank ≡ renumbered_end g rank
  end_by rank is =
      ap (λ (o : Option ℕ). ended_as rank.at o (renumbered_all f rank.events))
      (waits_by rank.waits is.waits)
      ∙ ap (λ (h : List Event). ended_as rank.at (option_map g rank.waits) h)
      (all_by rank.events is.events)

pub ends_by : (f g : ℕ → ℕ → ℕ) (n : ℕ → ℕ) (k : ℕ) (ranks : List Ended) →
    ((i line : ℕ) → IsOneOf (n i) line → f i line ≡ g i line) →
    ((i : ℕ) → IfSome (slice_get ranks i) (IsEndOf (n (k + i)))) → renumbered_ends f k ranks ≡ renumbered_ends g k ranks
ends_by f g n k [] same each = refl
ends_by f g n k (rank ∷ ranks) same each =
    let here : k + 0 ≡ k = omega arith in
    ap (λ (e : Ended). e ∷ renumbered_ends f (k + 1) ranks)
    (end_by (f k) (g k) (n k) (same k) rank (subst (λ (i : ℕ). IsEndOf (n i) rank) here (each 0)))
    ∙ ap (λ (es : List Ended). renumbered_end (g k) rank ∷ es) (ends_by f g n (k + 1) ranks same later) where
      later : (i : ℕ) → IfSome (slice_get ranks i) (IsEndOf (n ((k + 1) + i)))
      later i =
          let sum : k + suc i ≡ (k + 1) + i = omega arith in
          subst (λ (m : ℕ). IfSome (slice_get ranks i) (IsEndOf (n m))) sum (each (suc i))

-- the numbers of a record's lines are those of the script, as they are looked up
pub looked_up : (lines : List Line) (ranks : List Ended) →
    ((i : ℕ) → IfSome (slice_get ranks i) (IsEndOf (length (numbers_of lines i)))) →
    renumbered_ends (λ i. number_in (numbers_of lines i)) 0 ranks
    ≡ renumbered_ends (λ i. moved (numbers_of lines i) (2 + length lines)) 0 ranks
looked_up lines ranks each =
    ends_by (λ i. number_in (numbers_of lines i)) (λ i. moved (numbers_of lines i) (2 + length lines))
    (λ i. length (numbers_of lines i)) 0 ranks
    (λ i line one. number_is (numbers_of lines i) (2 + length lines) line one) own where
      own : (i : ℕ) → IfSome (slice_get ranks i) (IsEndOf (length (numbers_of lines (0 + i))))
      own i =
          let sum : i ≡ 0 + i = omega arith in
          subst (λ (m : ℕ). IfSome (slice_get ranks i) (IsEndOf (length (numbers_of lines m)))) sum (each i)
