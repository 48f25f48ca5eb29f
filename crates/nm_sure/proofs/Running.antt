-- What the code of the plain run looks at: the next command of a rank, and whether it can go on.
use Rattle.std.proofs.Common.{◌≡◌, ℕ, ◌+◌, ◌<◌, ◌≤◌, ◌&&◌, Bool, true, false, Option, Some, None, List}
use Rattle.std.proofs.Common.{Bor, leb, ltb}
use Rattle.std.proofs.lemmas.Bool.Decides.{nat_tests}
use Rattle.std.proofs.Common.{length, map, get_or, refl, sym, ◌∙◌, ap, subst, arith}
use Rattle.std.specs.Prelude.{IfSome, is_some, nat_lt, option_copied, option_and_then, option_map, take}
use Rattle.std.specs.List.{list_all, range_with_len, slice_get}
use Rattle.std.specs.Option.{option_map_or}
use Rattle.std.specs.declared.vec.Vec.{Vec}
use Rattle.std.proofs.lemmas.Bool.{leb-true}
use Rattle.std.proofs.lemmas.Option.{get_or_from_slice_get, slice_get-map, slice_get_past, slice_get_read}
use Rattle.std.proofs.lemmas.Option.{unwrap_or-slice_get}
use Rattle.nm_types.specs.declared.scripts.Command.{Command}
use Rattle.nm_types.specs.declared.scripts.Command.TheVariants as command
use Rattle.nm_types.specs.declared.scripts.Line.{Line}
use Rattle.nm_types.specs.Bodies.{body_len}
use Rattle.nm_types.specs.Commands.{Numbered, commands_of}
use Rattle.nm_types.specs.declared.limits.TheConstants.{MAX_CONTEXT, MAX_NAME, MAX_TAG}
use Rattle.nm_types.specs.Limits.{IsScript, is_in_range, sent_len}
use Rattle.nm_sure.specs.Held.{before, held_at, name_of, own_lines}
use Rattle.nm_sure.specs.Names.{holder}
use Rattle.nm_sure.specs.Plain.{at_of, goes_on, is_ready_at, next_of, ran_of}
use Rattle.nm_sure.specs.PlainText.{waits_at}
use Rattle.nm_sure.specs.Planned.{IsLine, IsPlan, IsStart}
use Rattle.nm_sure.specs.declared.partners.Way.{Way}
use Rattle.nm_sure.specs.Ways.{channel_of, partner_at, partner_for, place_at, receive_lines, receive_way, send_lines}
use Rattle.nm_sure.specs.Ways.{send_way}
use Rattle.nm_sure.proofs.Assembled.{from_line}
use Rattle.nm_sure.proofs.Before.{held_here}
use Rattle.nm_sure.proofs.Lists.{passes_at}
use Rattle.nm_sure.proofs.Partnered.{given_at, given_read}
use Rattle.nm_sure.proofs.Readiness.{lines_in, partner_stands, passing, sends, takes}
use Rattle.nm_sure.proofs.Standing.{OwnFrom, held_start, own_at}
use Rattle.nm_types.proofs.ListLemmas.{get_map, get_from_map, place_below}
use Rattle.nm_types.proofs.OptionLemmas.{no_some, same_some}
use Rattle.nm_types.proofs.TruthLemmas.{and_right}

-- what `get` of a slice gives
pub got_at : {X : Type 0} (xs : List X) (n : ℕ) (o : Option (Bor X)) → is_some o ≡ ltb n (length xs) →
    IfSome o (λ x. x.now ≡ get_or xs n x.now) → option_copied o ≡ slice_get xs n
got_at xs n None fits here = sym (slice_get_past xs n (past n (length xs) fits))
  where
    past : (n m : ℕ) → false ≡ ltb n m → m ≤ n
    past n m fits = grind (arith, nat_tests)
got_at xs n (Some x) fits here = sym (slice_get_read xs (length xs) n x.now refl (below n (length xs) fits) here)
  where
    below : (n m : ℕ) → true ≡ ltb n m → n < m
    below n m fits = grind (arith, nat_tests)

-- the number of a line
pub line_number : (lines : List Line) (k : ℕ) (line : Line) → slice_get lines k ≡ Some line → IsLine lines (k + 2)
line_number lines k line here = let below = place_below lines k line here in (omega arith, omega (arith, below))

pub start_number : (lines : List Line) (rank start : ℕ) → IsStart lines rank start → IsLine lines start
start_number lines rank start is =
    subst (λ (n : ℕ). IsLine lines n) (sym is.is) (line_number lines is.place is.line is.here)

module _ {A : Type 0} (lines : List Line) (ranks : List (Vec ℕ A)) (held partners : List (Option ℕ))
    (plan : IsPlan lines ranks held partners) where
  pub own_is : (rank : ℕ) (own : Vec ℕ A) → slice_get ranks rank ≡ Some own → own.items ≡ own_lines lines rank
  own_is rank own here =
      same_some own.items (own_lines lines rank)
      (sym (get_map (λ (own : Vec ℕ A). own.items) ranks rank own here)
      ∙ given_at (own_lines lines) (length ranks) rank (map (λ (own : Vec ℕ A). own.items) ranks) plan.own
      (place_below ranks rank own here))

  pub next_some : (at : List ℕ) (rank : ℕ) (own : Vec ℕ A) → slice_get ranks rank ≡ Some own →
      slice_get own.items (get_or at rank 0) ≡ waits_at lines at rank
  next_some at rank own here =
      ap (λ (ls : List ℕ). slice_get ls (get_or at rank 0)) (own_is rank own here)
      ∙ slice_get-map (λ (c : Numbered). c.line) (commands_of rank lines) (get_or at rank 0)
      ∙ ap (λ (n : ℕ). option_map (λ (c : Numbered). c.line) (slice_get (commands_of rank lines) n))
      (sym (unwrap_or-slice_get at rank 0))

  pub next_none : (at : List ℕ) (rank : ℕ) → length ranks ≤ rank → waits_at lines at rank ≡ None
  next_none at rank high = by_next (next_of lines at rank) refl
    where
      by_next : (o : Option Numbered) → next_of lines at rank ≡ o → option_map (λ (c : Numbered). c.line) o ≡ None
      by_next None next = refl
      by_next (Some c) next =
          let range = from_line (length ranks) rank 2 lines (at_of at rank) c plan.limits.lines_in_range next in
          let low = range.0 in
          absurd (omega (arith, high, low))

  -- the next command of a rank is one of its line
  pub next_number : (at : List ℕ) (rank number : ℕ) → waits_at lines at rank ≡ Some number → IsLine lines number
  next_number at rank number next = by_next (next_of lines at rank) refl next
    where
      by_next : (o : Option Numbered) → next_of lines at rank ≡ o → option_map (λ (c : Numbered). c.line) o
          ≡ Some number → IsLine lines number
      by_next None here next = absurd (no_some number next)
      by_next (Some c) here next =
          let o = own_at lines rank (at_of at rank) c here in
          let same : o.place + 2 ≡ number = (let is = o.is in let line = same_some c.line number next in
          omega (arith, is, line)) in
          subst (λ (n : ℕ). IsLine lines n) same (line_number lines o.place o.line o.here)

-- the number of the start that a line's name stands for
pub held_number : (lines : List Line) (k : ℕ) (line : Line) (s : ℕ) → slice_get lines k ≡ Some line →
    held_at lines k ≡ Some s →
    (rank : ℕ) × IsStart lines rank s
held_number lines k line s here held = (line.rank, held_start lines k line s here held)

-- the names before a command are those before its line
pub holder_here : (lines : List Line) (rank n q : ℕ) (c : Numbered) (o : OwnFrom lines rank 2 n c) →
    name_of o.line.command ≡ Some q → holder (take n (commands_of rank lines)) q ≡ held_at lines o.place
holder_here lines rank n q c o name =
    ap (λ (cs : List Numbered). holder cs q) o.front
    ∙ ap (λ (r : ℕ). holder (before lines o.place r) q) (sym o.own)
    ∙ ap (λ (p : Option ℕ). option_and_then (holder (before lines o.place o.line.rank)) p) (sym name)
    ∙ sym (held_here lines o.place o.line o.here)

-- the line of a start, as it is read
pub line_read : (lines : List Line) (rank start place : ℕ) (item : Line) (s : IsStart lines rank start) →
    place + 2 ≡ start →
    get_or lines place item ≡ s.line
line_read lines rank start place item s same =
    get_or_from_slice_get lines place s.line item
    (ap (λ (k : ℕ). slice_get lines k) (let is = s.is in omega (arith, is, same)) ∙ s.here)

-- a partner is a line of the script
partner_line : (g : Numbered → Bool) (lines : List Line) (own n p : ℕ) →
    slice_get (lines_in (passing g (commands_of own lines))) n ≡ Some p →
    IsLine lines p
partner_line g lines own n p here =
    let found = get_from_map (λ (c : Numbered). c.line) (passing g (commands_of own lines)) n p here in
    let o = (partner_stands g lines own (Some n) found.0 found.1).1 in
    let same : o.place + 2 ≡ p = (let is = o.is in let line = found.2 in omega (arith, is, line)) in
    subst (λ (m : ℕ). IsLine lines m) same (line_number lines o.place o.line o.here)

pub partner_number : (lines : List Line) (k p : ℕ) → partner_at lines k ≡ Some p → IsLine lines p
partner_number lines k p pair = by_line (slice_get lines k) pair
  where
    by_ways : (n : ℕ) (o : Option Way) (r : Option Way) →
        option_map_or (λ w. slice_get (receive_lines lines w) n) o
        (option_and_then (λ w. slice_get (send_lines lines w) n) r) ≡ Some p →
        IsLine lines p
    by_ways n (Some w) r here = partner_line (takes (channel_of w)) lines w.to n p here
    by_ways n None (Some w) here = partner_line (sends (channel_of w)) lines w.from n p here
    by_ways n None None here = absurd (no_some p here)

    by_place : (line : Line) (o : Option ℕ) → option_and_then (partner_for lines line) o ≡ Some p → IsLine lines p
    by_place line None here = absurd (no_some p here)
    by_place line (Some n) here = by_ways n (send_way line) (receive_way line) here

    by_line : (o : Option Line) →
        option_and_then (λ line. option_and_then (partner_for lines line) (place_at lines k)) o ≡ Some p →
        IsLine lines p
    by_line None here = absurd (no_some p here)
    by_line (Some line) here = by_place line (place_at lines k) here

in_range_at : (ranks : ℕ) (lines : List Line) (k : ℕ) (line : Line) →
    list_all (λ (l : Line). nat_lt l.rank ranks && is_in_range ranks l.command) lines ≡ true →
    slice_get lines k ≡ Some line →
    is_in_range ranks line.command ≡ true
in_range_at ranks lines k line fine here =
    and_right (nat_lt line.rank ranks) (is_in_range ranks line.command) (passes_at _ lines k line fine here)

short_command : (ranks : ℕ) (c : Command) → is_in_range ranks c ≡ true → sent_len c < 4294967296
short_command ranks (command.Send to q tag ctx sync body) fine =
    let low = leb-true (body_len body) 1048576
    (and_right (leb q MAX_NAME && ltb to ranks && leb tag MAX_TAG && leb ctx MAX_CONTEXT)
    (leb (body_len body) 1048576) fine) in
    omega (arith, low)
short_command ranks c fine = omega arith

-- a body is not too long to be counted
pub short_body : (ranks : ℕ) (lines : List Line) (k : ℕ) (line : Line) → IsScript ranks lines →
    slice_get lines k ≡ Some line →
    sent_len line.command < 4294967296
short_body ranks lines k line script here =
    short_command ranks line.command (in_range_at ranks lines k line script.lines_in_range here)

-- the partner of the start at a place, as it is read
pub partner_read : (lines : List Line) (partners : List (Option ℕ)) (place : ℕ) (item o : Option ℕ) →
    partners ≡ map (partner_at lines) (range_with_len 0 (length lines)) → place < length lines →
    item ≡ get_or partners place item → item ≡ o → partner_at lines place ≡ o
partner_read lines partners place item o pairs low here is =
    sym (given_read (partner_at lines) (length lines) place partners item pairs low here) ∙ is

pub partner_of : (lines : List Line) (partners : List (Option ℕ)) (rank start place : ℕ) (item o : Option ℕ)
    (s : IsStart lines rank start) →
    place + 2 ≡ start → partners ≡ map (partner_at lines) (range_with_len 0 (length lines)) →
    item ≡ get_or partners place item → item ≡ o → partner_at lines s.place ≡ o
partner_of lines partners rank start place item o s same pairs here is =
    let low = place_below lines s.place s.line s.here in
    let spot : s.place ≡ place = (let number = s.is in omega (arith, number, same)) in
    ap (λ (k : ℕ). partner_at lines k) spot
    ∙ partner_read lines partners place item o pairs (omega (arith, low, spot)) here is

pub held_read : (lines : List Line) (held : List (Option ℕ)) (place : ℕ) (item o : Option ℕ) →
    held ≡ map (held_at lines) (range_with_len 0 (length lines)) → place < length lines →
    item ≡ get_or held place item → item ≡ o → held_at lines place ≡ o
held_read lines held place item o names low here is =
    sym (given_read (held_at lines) (length lines) place held item names low here) ∙ is

-- the command at a place of a rank, by its line
module _ (lines : List Line) (rank n : ℕ) (c : Numbered) (place : ℕ) (line : Line)
    (own : slice_get (commands_of rank lines) n ≡ Some c)
    (number : c.line ≡ place + 2) (here : slice_get lines place ≡ Some line) where
  stands : OwnFrom lines rank 2 n c
  stands = own_at lines rank n c own

  same_place : stands.place ≡ place
  same_place = let is = stands.is in omega (arith, is, number)

  same_line : stands.line ≡ line
  same_line = same_some stands.line line (sym stands.here ∙ ap (λ (k : ℕ). slice_get lines k) same_place ∙ here)

  pub same_command : line.command ≡ c.command
  same_command = ap (λ (l : Line). l.command) (sym same_line) ∙ stands.same

  -- the names before it are those before its line
  pub names_of : (q : ℕ) → name_of line.command ≡ Some q → holder (take n (commands_of rank lines)) q
      ≡ held_at lines place
  names_of q name =
      holder_here lines rank n q c stands (ap (λ (l : Line). name_of l.command) same_line ∙ name)
      ∙ ap (λ (k : ℕ). held_at lines k) same_place

  pub held_own : (s : ℕ) → held_at lines place ≡ Some s → IsStart lines rank s
  held_own s held =
      subst (λ (r : ℕ). IsStart lines r s) (ap (λ (l : Line). l.rank) (sym same_line) ∙ stands.own)
      (held_start lines place line s here held)

-- whether the next command of a rank can go on, by its line
module _ (eager : ℕ) (lines : List Line) (at : List ℕ) (rank : ℕ) (c : Numbered) (place : ℕ) (line : Line)
    (next : next_of lines at rank ≡ Some c) (number : c.line ≡ place + 2) (here : slice_get lines place ≡ Some line)
  where
    held_by : (q : ℕ) → line.command ≡ command.Wait q → holder (ran_of lines at rank) q ≡ held_at lines place
    held_by q wait = names_of lines rank (at_of at rank) c place line next number here q (ap name_of wait)

    it : line.command ≡ c.command
    it = same_command lines rank (at_of at rank) c place line next number here

    -- a wait hangs on the start that its name stands for
    pub goes_wait : (q s : ℕ) → line.command ≡ command.Wait q → held_at lines place ≡ Some s →
        goes_on eager lines at rank c.command ≡ is_ready_at eager lines at rank s
    goes_wait q s wait held =
        ap (λ (d : Command). goes_on eager lines at rank d) (sym it ∙ wait)
        ∙ ap (λ (o : Option ℕ). option_map_or (is_ready_at eager lines at rank) o true) (held_by q wait ∙ held)

    pub goes_start : (s : ℕ) → held_at lines place ≡ Some s → IsStart lines rank s
    goes_start s held = held_own lines rank (at_of at rank) c place line next number here s held

    -- any other command can go on
    pub goes_other : ((q : ℕ) → line.command ≡ command.Wait q → held_at lines place ≡ None) →
        goes_on eager lines at rank c.command ≡ true
    goes_other none = by_command c.command it
      where
        by_command : (d : Command) → line.command ≡ d → goes_on eager lines at rank d ≡ true
        by_command (command.Wait q) same =
            ap (λ (o : Option ℕ). option_map_or (is_ready_at eager lines at rank) o true) (held_by q same ∙ none q same)
        by_command d same = refl
