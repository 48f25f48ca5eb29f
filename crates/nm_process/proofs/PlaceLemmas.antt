-- The commands of a rank, and their places in a script.
use Rattle.std.proofs.Common.{◌≡◌, ◌⊎◌, inl, inr, ℕ, ◌+◌, ◌<◌, ◌≤◌, ◌==◌, zero, suc, Bool, true}
use Rattle.std.proofs.Common.{false, cond, Option, Some, None, List, [], ◌∷◌, length, take, refl, sym}
use Rattle.std.proofs.Common.{◌∙◌, ap, subst, arith, add-one, get_or}
use Rattle.std.specs.Prelude.{IfSome, IsSome, map, option_map, unwrap_or}
use Rattle.std.specs.List.{find, list_all, slice_get}
use Rattle.std.specs.Option.{option_map_or}
use Rattle.std.proofs.lemmas.Bool.Decides.{nat_tests}
use Rattle.std.proofs.lemmas.List.{take_all}
use Rattle.std.proofs.lemmas.Option.{slice_get_cases, slice_get_past}
use Rattle.nm_types.specs.declared.scripts.Command.{Command}
use Rattle.nm_types.specs.declared.scripts.Line.{Line}
use Rattle.nm_types.specs.Commands.{Numbered, commands_from, commands_of, command_at, numbered}
use Rattle.nm_process.specs.Lines.{AreLines}
use Rattle.nm_process.specs.Places.{ArePlaces, IsOwnLine, IsPlaced, ScriptedView, gives_lines, place_at}
use Rattle.nm_process.specs.Sources.{PassedOn}
use Rattle.nm_process.specs.Steps.{is_look}
use Rattle.nm_process.specs.Work.{IsNext}
use Rattle.nm_types.proofs.TruthLemmas.{and_left, and_right}

-- the command of a rank at a place is the next one after those before the place
pub command_here : (me number place : ℕ) (lines : List Line) (l : Line) → slice_get lines place ≡ Some l →
    (l.rank == me) ≡ true →
    slice_get (commands_from me number lines) (length (commands_from me number (take place lines))) ≡ Some
    (record { line = number + place; command = l.command })
command_here me number place [] l here mine = cc
command_here me number zero (x ∷ lines) l here mine = let same : x ≡ l = cc in rw (same, mine)
    (ap (λ (k : ℕ). Some (numbered k l)) (omega arith))
command_here me number (suc place) (x ∷ lines) l here mine = by_rank (x.rank == me)
    (command_here me (number + 1) place lines l here mine ∙ ap (λ (k : ℕ). Some (numbered k l))
    (omega arith)) where
      by_rank : (b : Bool) → slice_get (commands_from me (number + 1) lines)
          (length (commands_from me (number + 1) (take place lines)))
          ≡ Some (numbered (number + suc place) l) →
          slice_get (cond b (numbered number x ∷ commands_from me (number + 1) lines)
          (commands_from me (number + 1) lines))
          (length (cond b (numbered number x ∷ commands_from me (number + 1) (take place lines))
          (commands_from me (number + 1) (take place lines)))) ≡ Some (numbered (number + suc place) l)
      by_rank true later = later
      by_rank false later = later

-- and then one command more stands before
pub one_more : (me number place : ℕ) (lines : List Line) (l : Line) → slice_get lines place ≡ Some l →
    (l.rank == me) ≡ true →
    length (commands_from me number (take (suc place) lines)) ≡ suc
    (length (commands_from me number (take place lines)))
one_more me number place [] l here mine = cc
one_more me number zero (x ∷ lines) l here mine = let same : x ≡ l = cc in rw (same, mine) refl
one_more me number (suc place) (x ∷ lines) l here mine = by_rank (x.rank == me)
    (one_more me (number + 1) place lines l here mine) where
      by_rank : (b : Bool) → length (commands_from me (number + 1) (take (suc place) lines)) ≡ suc
          (length (commands_from me (number + 1) (take place lines))) →
          length (cond b (numbered number x ∷ commands_from me (number + 1) (take (suc place) lines))
          (commands_from me (number + 1) (take (suc place) lines)))
          ≡ suc (length (cond b (numbered number x ∷ commands_from me (number + 1) (take place lines))
          (commands_from me (number + 1) (take place lines))))
      by_rank true later = ap suc later
      by_rank false later = later

-- the line of a command is its own
pub found_here : (me number place : ℕ) (lines : List Line) (l : Line) → slice_get lines place ≡ Some l →
    (l.rank == me) ≡ true →
    find (λ (c : Numbered). c.line == number + place) (commands_from me number lines) ≡ Some
    (record { line = number + place; command = l.command })
found_here me number place [] l here mine = cc
found_here me number zero (x ∷ lines) l here mine = let same : x ≡ l = cc in rw (same, mine)
    (by_self self) where
      self : (number == number + 0) ≡ true
      self = grind (arith, nat_tests)

      by_self : (number == number + 0) ≡ true → cond (number == number + 0) (Some (numbered number l))
          (find (λ (c : Numbered). c.line == number + 0) (commands_from me (number + 1) lines)) ≡ Some
          (numbered (number + 0) l)
      by_self equal = rw equal (ap (λ (k : ℕ). Some (numbered k l)) (omega arith))
found_here me number (suc place) (x ∷ lines) l here mine =
    let sum : (number + 1) + place ≡ number + suc place = omega arith in
    by_rank (x.rank == me) (subst (λ (k : ℕ). find (λ (c : Numbered). c.line == k)
    (commands_from me (number + 1) lines) ≡ Some (numbered k l)) sum
    (found_here me (number + 1) place lines l here mine)) where
      other : (number == number + suc place) ≡ false
      other = grind (arith, nat_tests)

      by_rank : (b : Bool) → find (λ (c : Numbered). c.line == number + suc place)
          (commands_from me (number + 1) lines) ≡ Some (numbered (number + suc place) l) →
          find (λ (c : Numbered). c.line == number + suc place)
          (cond b (numbered number x ∷ commands_from me (number + 1) lines)
          (commands_from me (number + 1) lines)) ≡ Some (numbered (number + suc place) l)
      by_rank true later = rw other later
      by_rank false later = later

-- the command of a rank at a place, after so many of its commands
next_command : (lines : List Line) (me next at : ℕ) (l : Line) → slice_get lines next ≡ Some l →
    (l.rank == me) ≡ true → length (commands_of me (take next lines)) ≡ at →
    slice_get (commands_of me lines) at ≡ Some (record { line = next + 2; command = l.command })
next_command lines me next at l here mine counted =
    ap (λ (k : ℕ). slice_get (commands_from me 2 lines) k) (sym counted)
    ∙ command_here me 2 next lines l here mine
    ∙ ap (λ (k : ℕ). Some (numbered k l)) (omega arith)

next_found : (lines : List Line) (me next : ℕ) (l : Line) → slice_get lines next ≡ Some l →
    (l.rank == me) ≡ true → command_at (commands_of me lines) (next + 2) ≡ Some l.command
next_found lines me next l here mine =
    let sum : 2 + next ≡ next + 2 = omega arith in
    ap (λ (o : Option Numbered). option_map (λ c. c.command) o)
    (subst (λ (k : ℕ). find (λ (c : Numbered). c.line == k) (commands_from me 2 lines) ≡ Some
    (numbered k l)) sum (found_here me 2 next lines l here mine))

-- is the next one
next_is : (lines : List Line) (me next at : ℕ) (l : Line) → slice_get lines next ≡ Some l →
    (l.rank == me) ≡ true → length (commands_of me (take next lines)) ≡ at →
    IsNext (commands_of me lines) at (next + 2) (next + 2) l.command
next_is lines me next at l here mine counted = record {
  next = next_command lines me next at l here mine counted;
  found = next_found lines me next l here mine;
  past = omega arith;
}

-- and then one command more stands before
next_counted : (lines : List Line) (me next at : ℕ) (l : Line) → slice_get lines next ≡ Some l →
    (l.rank == me) ≡ true → length (commands_of me (take next lines)) ≡ at →
    length (commands_of me (take (next + 1) lines)) ≡ at + 1
next_counted lines me next at l here mine counted =
    ap (λ (k : ℕ). length (commands_from me 2 (take k lines))) (add-one next)
    ∙ one_more me 2 next lines l here mine
    ∙ sym (add-one (length (commands_from me 2 (take next lines))))
    ∙ ap (λ (k : ℕ). k + 1) counted

-- past all lines no command is left
none_is_next : (lines : List Line) (me next at : ℕ) → length lines ≤ next →
    length (commands_of me (take next lines)) ≡ at → slice_get (commands_of me lines) at ≡ None
none_is_next lines me next at past counted =
    let all : length (commands_of me lines) ≡ at = ap (λ (ls : List Line). length (commands_from me 2 ls))
    (sym (take_all next lines past)) ∙ counted in
    slice_get_past (commands_of me lines) at (omega (arith, all))

-- the line at the place of the next command is the rank's
own_line : (lines : List Line) (me place : ℕ) (x : Line) → slice_get lines place ≡ Some x →
    IsOwnLine lines me place → (x.rank == me) ≡ true
own_line lines me place x here own = subst (λ (o : Option Line). IfSome o (λ l. (l.rank == me) ≡ true)) here own

-- what all lines pass, that line passes
pub all_at : (test : Line → Bool) (lines : List Line) (place : ℕ) (x : Line) →
    list_all test lines ≡ true → slice_get lines place ≡ Some x → test x ≡ true
all_at test [] place x all here = cc
all_at test (l ∷ lines) zero x all here = let same : l ≡ x = cc in ap test (sym same)
    ∙ and_left (test l) (list_all test lines) all
all_at test (l ∷ lines) (suc place) x all here = all_at test lines place x
    (and_right (test l) (list_all test lines) all) here

-- whether the next command looks at what came
pub looks_by : (x : Option Command) (o : Option Numbered) → x ≡ option_map (λ c. c.command) o →
    option_map_or is_look x false ≡ option_map_or (λ c. is_look c.command) o false
looks_by x None is = ap (λ (y : Option Command). option_map_or is_look y false) is
looks_by x (Some c) is = ap (λ (y : Option Command). option_map_or is_look y false) is

-- no more commands stand before a place than lines
count_before : (me number place : ℕ) (lines : List Line) → length (commands_from me number (take place lines)) ≤ place
count_before me number zero lines = omega arith
count_before me number (suc place) [] = omega arith
count_before me number (suc place) (l ∷ lines) = by_rank (l.rank == me)
    (count_before me (number + 1) place lines) where
      by_rank : (b : Bool) → length (commands_from me (number + 1) (take place lines)) ≤ place →
          length (cond b (numbered number l ∷ commands_from me (number + 1) (take place lines))
          (commands_from me (number + 1) (take place lines))) ≤ suc place
      by_rank true later = omega (arith, later)
      by_rank false later = omega (arith, later)

at_before : (lines : List Line) (me next at : ℕ) → length (commands_of me (take next lines)) ≡ at →
    at < next + 2
at_before lines me next at counted = let few = count_before me 2 next lines in omega (arith, few, counted)

-- and no more than there are
taken_few : (me number place : ℕ) (lines : List Line) →
    length (commands_from me number (take place lines)) ≤ length (commands_from me number lines)
taken_few me number zero lines = omega arith
taken_few me number (suc place) [] = omega arith
taken_few me number (suc place) (l ∷ lines) = by_rank (l.rank == me)
    (taken_few me (number + 1) place lines) where
      by_rank : (b : Bool) → length (commands_from me (number + 1) (take place lines)) ≤ length
          (commands_from me (number + 1) lines) →
          length (cond b (numbered number l ∷ commands_from me (number + 1) (take place lines))
          (commands_from me (number + 1) (take place lines))) ≤ length
          (cond b (numbered number l ∷ commands_from me (number + 1) lines) (commands_from me (number + 1) lines))
      by_rank true later = omega (arith, later)
      by_rank false later = later

-- the command after so many stands at this place, or there is none and the place is past all lines
record StandsAt (me number k place : ℕ) (lines : List Line) : Type 0 where
  counted : length (commands_from me number (take place lines)) ≡ k
  own : IsOwnLine lines me place
  past :
      (from : ℕ) → from ≤ length lines → length (commands_from me number (take from lines)) ≡ k →
      from ≤ place

-- the place that the list of places has for it
abbrev IsFound : (me number k last : ℕ) → List ℕ → List Line → Type 0
IsFound me number k last own lines =
    (place : ℕ) × (unwrap_or (slice_get own k) last + 2 ≡ number + place)
    × StandsAt me number k place lines

place_stands : (me number k last : ℕ) (own : List ℕ) (lines : List Line) →
    map (λ (p : ℕ). p + 2) own ≡ map (λ (c : Numbered). c.line) (commands_from me number lines) →
    last + 2 ≡ number + length lines → k ≤ length (commands_from me number lines) →
    IsFound me number k last own lines
place_stands me number k last [] [] are ends few = (
  0,
  ends,
  record { counted = omega (arith, few); own = tt; past = λ from within counted. within },
)
place_stands me number k last (p ∷ own) [] are ends few = cc
place_stands me number k last own (l ∷ lines) are ends few =
    by_rank (λ k own are few. place_stands me (number + 1) k last own lines are (omega (arith, ends)) few)
    (l.rank == me) refl own k are few where
      -- before the place of the first command there is none
      first : (l.rank == me) ≡ true → (from : ℕ) →
          length (commands_from me number (take from (l ∷ lines))) ≡ 0 → from ≤ 0
      first mine zero none = omega arith
      first mine (suc from) none = let never = rw mine at none in cc

      next : (k place : ℕ) → (l.rank == me) ≡ true → StandsAt me (number + 1) k place lines →
          StandsAt me number (suc k) (suc place) (l ∷ lines)
      next k place mine stands = record {
        counted = rw mine (ap suc stands.counted);
        own = stands.own;
        past = past;
      } where
        past : (from : ℕ) → from ≤ length (l ∷ lines) →
            length (commands_from me number (take from (l ∷ lines))) ≡ suc k → from ≤ suc place
        past zero within counted = omega arith
        past (suc from) within counted =
            let fewer = rw mine at counted in
            let below : from ≤ place = stands.past from (omega (arith, within)) cc in
            omega (arith, below)

      same : (k place : ℕ) → (l.rank == me) ≡ false → StandsAt me (number + 1) k place lines →
          StandsAt me number k (suc place) (l ∷ lines)
      same k place other stands = record {
        counted = rw other stands.counted;
        own = stands.own;
        past = past;
      } where
        past : (from : ℕ) → from ≤ length (l ∷ lines) →
            length (commands_from me number (take from (l ∷ lines))) ≡ k → from ≤ suc place
        past zero within counted = omega arith
        past (suc from) within counted =
            let below : from ≤ place = stands.past from (omega (arith, within)) (rw other at counted) in
            omega (arith, below)

      by_rank : ((k : ℕ) (own : List ℕ) →
          map (λ (p : ℕ). p + 2) own ≡ map (λ (c : Numbered). c.line) (commands_from me (number + 1) lines) →
          k ≤ length (commands_from me (number + 1) lines) → IsFound me (number + 1) k last own lines) →
          (b : Bool) → (l.rank == me) ≡ b → (own : List ℕ) (k : ℕ) →
          map (λ (p : ℕ). p + 2) own ≡ map (λ (c : Numbered). c.line)
          (cond b (numbered number l ∷ commands_from me (number + 1) lines) (commands_from me (number + 1) lines)) →
          k ≤ length (cond b (numbered number l ∷ commands_from me (number + 1) lines)
          (commands_from me (number + 1) lines)) →
          IsFound me number k last own (l ∷ lines)
      by_rank later true mine [] k are few = cc
      by_rank later true mine (p ∷ own) zero are few =
          let here : p + 2 ≡ number = cc in (
            0,
            omega (arith, here),
            record { counted = refl; own = mine; past = λ from within none. first mine from none },
          )
      by_rank later true mine (p ∷ own) (suc k) are few =
          let found = later k own (cc) (omega (arith, few)) in
          (suc found.0, omega (arith, found.1), next k found.0 mine found.2)
      by_rank later false other own k are few =
          let found = later k own are few in
          (suc found.0, omega (arith, found.1), same k found.0 other found.2)

-- From this place on the command after so many of the rank's stands at that one. Where there is none, that
-- place is past all lines.
record IsPlaceFrom (lines : List Line) (me from k place : ℕ) : Type 0 where
  past : from ≤ place
  counted : length (commands_of me (take place lines)) ≡ k
  own : IsOwnLine lines me place

place_from : (lines : List Line) (me from k : ℕ) (own : List ℕ) → ArePlaces lines me own →
    from ≤ length lines → length (commands_of me (take from lines)) ≡ k →
    IsPlaceFrom lines me from k (place_at own lines k)
place_from lines me from k own are within counted =
    let few : k ≤ length (commands_of me lines) = omega (arith, counted, taken_few me 2 from lines) in
    let found = place_stands me 2 k (length lines) own lines are (omega arith) few in
    let is : place_at own lines k ≡ found.0 = omega (arith, found.1) in
    subst (λ (place : ℕ). IsPlaceFrom lines me from k place) (sym is) (record {
      past = found.2.past from within counted;
      counted = found.2.counted;
      own = found.2.own;
    })

-- the first command stands at its place
pub placed_first : (lines : List Line) (me ranks next : ℕ) (own : List ℕ) → AreLines ranks lines →
    ArePlaces lines me own → next ≡ place_at own lines 0 →
    IsPlaced (record { lines = lines; me = me; ranks = ranks; own = own; at = 0; next = next })
placed_first lines me ranks next own in_range are is =
    let first = place_from lines me 0 0 own are (omega arith) refl in
    subst (λ (k : ℕ). IsPlaced (record { lines = lines; me = me; ranks = ranks; own = own; at = 0; next = k })) (sym is)
    (record { lines = in_range; places = are; counted = first.counted; own = first.own })

-- the command at the place of the next one, where there is one
line_there : (s : ScriptedView) → IsPlaced s → IsSome (slice_get (commands_of s.me s.lines) s.at) →
    (l : Line) × (slice_get s.lines s.next ≡ Some l) × (s.next < length s.lines)
line_there s placed some = by_place (slice_get_cases s.lines s.next).1 where
  by_place : ((l : Line) × (s.next < length s.lines) × (slice_get s.lines s.next ≡ Some l)
      × (get_or s.lines s.next l ≡ l)) ⊎ ((length s.lines ≤ s.next) × (slice_get s.lines s.next ≡ None)) →
      (l : Line) × (slice_get s.lines s.next ≡ Some l) × (s.next < length s.lines)
  by_place (inl there) = (there.0, there.2, there.1)
  by_place (inr past) =
      let never : IsSome {T = Numbered} None = subst (λ (o : Option Numbered). IsSome o)
      (none_is_next s.lines s.me s.next s.at past.0 placed.counted) some in cc

-- the line at the place of the next command is that of the command after those that ran
pub gives_next : (s : ScriptedView) (l : Line) → IsPlaced s → slice_get s.lines s.next ≡ Some l →
    (s.at < s.next + 2) × IsNext (commands_of s.me s.lines) s.at (s.next + 2) (s.next + 2) l.command
gives_next s l placed there =
    let mine = own_line s.lines s.me s.next l there placed.own in (
      at_before s.lines s.me s.next s.at placed.counted,
      next_is s.lines s.me s.next s.at l there mine placed.counted,
    )

-- how many ran is below the number of lines, where one is next
pub at_few : (s : ScriptedView) → IsPlaced s → IsSome (slice_get (commands_of s.me s.lines) s.at) →
    s.at < length s.lines
at_few s placed some =
    let there = line_there s placed some in
    let inside = there.2 in
    let few = count_before s.me 2 s.next s.lines in
    let counted = placed.counted in
    omega (arith, inside, few, counted)

-- the command after the next one stands at its place
pub placed_on : (s : ScriptedView) (next : ℕ) → IsPlaced s →
    IsSome (slice_get (commands_of s.me s.lines) s.at) → next ≡ place_at s.own s.lines (s.at + 1) →
    IsPlaced (record s { at = s.at + 1; next = next }) × (s.next + 1 ≤ next)
placed_on s next placed some stands =
    let there = line_there s placed some in
    let inside = there.2 in
    let mine = own_line s.lines s.me s.next there.0 there.1 placed.own in
    let on = place_from s.lines s.me (s.next + 1) (s.at + 1) s.own placed.places (omega (arith, inside))
    (next_counted s.lines s.me s.next s.at there.0 there.1 mine placed.counted) in
    subst (λ (n : ℕ). IsPlaced (record s { at = s.at + 1; next = n }) × (s.next + 1 ≤ n)) (sym stands) (
      record { lines = placed.lines; places = placed.places; counted = on.counted; own = on.own },
      on.past,
    )

-- it gave the same commands before, and the line of the one that ran is not past the last
pub passed_lines : (s : ScriptedView) (t : ScriptedView) → IsPlaced s →
    IsSome (slice_get (commands_of s.me s.lines) s.at) → t.lines ≡ s.lines → t.me ≡ s.me → s.next + 1 ≤ t.next →
    (commands : List Numbered) (last : ℕ) → gives_lines t commands last →
    PassedOn (gives_lines s) commands s.at last
passed_lines s t placed some lines me on commands last gives =
    let there = line_there s placed some in
    let mine = own_line s.lines s.me s.next there.0 there.1 placed.own in
    let same : commands ≡ commands_of s.me s.lines = gives.0 ∙ ap (λ (k : ℕ). commands_of k t.lines) me
    ∙ ap (λ (ls : List Line). commands_of s.me ls) lines in
    let high = gives.1 in
    record {
      before = s.next + 1;
      gives = (same, refl);
      rises = λ line x is.
          let line_is : line ≡ s.next + 2 = ap (λ (o : Option Numbered). option_map_or (λ c. c.line) o 0)
          (sym is.next ∙ ap (λ (cs : List Numbered). slice_get cs s.at) same
          ∙ next_command s.lines s.me s.next s.at there.0 there.1 mine placed.counted) in
          omega (arith, line_is, on, high);
    }
