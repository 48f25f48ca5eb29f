-- A line is that of one command, and a request is of one line.
use Rattle.std.proofs.Common.{◌≡◌, ℕ, zero, suc, ◌+◌, ◌≤◌, ◌==◌, Bool, true, false, cond}
use Rattle.std.proofs.Common.{Option, Some, None}
use Rattle.std.proofs.Common.{List, [], ◌∷◌, ◌++◌, length, refl, sym, ◌∙◌, ap, subst, arith}
use Rattle.std.specs.Prelude.{filter_map, option_map}
use Rattle.std.specs.List.{cons_option, slice_get}
use Rattle.std.proofs.lemmas.List.Elements.{filter_map-append}
use Rattle.nm_types.specs.declared.scripts.Line.{Line}
use Rattle.nm_types.specs.Commands.{Numbered, commands_from, commands_of}
use Rattle.nm_types.proofs.ListLemmas.{get_before, get_last}
use Rattle.nm_types.proofs.NumberLemmas.{same_number}
use Rattle.nm_types.proofs.OptionLemmas.{mapped_some, no_some, same_some}
use Rattle.nm_history.specs.declared.events.Event.{Event}
use Rattle.nm_history.specs.declared.events.Happened.{Happened}
use Rattle.nm_history.specs.declared.events.Happened.TheVariants as event
use Rattle.nm_history.specs.AtEach.{AtEach}
use Rattle.nm_history.specs.Answers.{request_at, request_of}
use Rattle.nm_history.specs.Completion.{Request}
use Rattle.nm_history.specs.Completion.Request.{Receiving, Sending}
use Rattle.nm_history.specs.RankRun.{NumberAt}
use Rattle.nm_history.specs.Sends.{Sent, receives, sends}
use Rattle.nm_history.proofs.DeliveryLemmas.{sends-push}
use Rattle.nm_history.proofs.OnceLemmas.{eqb_self}
use Rattle.nm_outcomes.specs.Places.{or_else}
use Rattle.nm_outcomes.proofs.HappenedLemmas.{history_induction}

-- lines rise with the places of their commands
lines_high : (rank number : ℕ) (lines : List Line) (k : ℕ) (c : Numbered) →
    slice_get (commands_from rank number lines) k ≡ Some c → number ≤ c.line
lines_high rank number [] k c here = absurd (no_some c here)
lines_high rank number (l ∷ lines) k c here = by_rank (l.rank == rank) k here (lines_high rank (number + 1) lines)
  where
    by_rank : (b : Bool) (k : ℕ) →
        slice_get (cond b (record { line = number; command = l.command } ∷ commands_from rank (number + 1) lines)
        (commands_from rank (number + 1) lines)) k ≡ Some c →
        ((k : ℕ) (c : Numbered) → slice_get (commands_from rank (number + 1) lines) k ≡ Some c → number + 1 ≤ c.line) →
        number ≤ c.line
    by_rank true zero here later =
        let same : number ≡ c.line = ap (λ (x : Numbered). x.line) (same_some _ c here) in omega (arith, same)
    by_rank true (suc k) here later = let x = later k c here in omega (arith, x)
    by_rank false k here later = let x = later k c here in omega (arith, x)

from_apart : (rank number : ℕ) (lines : List Line) (j k : ℕ) (c d : Numbered) →
    slice_get (commands_from rank number lines) j ≡ Some c → slice_get (commands_from rank number lines) k ≡ Some d →
    c.line ≡ d.line → j ≡ k
from_apart rank number [] j k c d first second same = absurd (no_some c first)
from_apart rank number (l ∷ lines) j k c d first second same =
    by_rank (l.rank == rank) j k first second
    (λ j k first second. from_apart rank (number + 1) lines j k c d first second same)
  where
    rest : List Numbered
    rest = commands_from rank (number + 1) lines

    by_rank : (b : Bool) (j k : ℕ) →
        slice_get (cond b (record { line = number; command = l.command } ∷ rest) rest) j ≡ Some c →
        slice_get (cond b (record { line = number; command = l.command } ∷ rest) rest) k ≡ Some d →
        ((j k : ℕ) → slice_get rest j ≡ Some c → slice_get rest k ≡ Some d → j ≡ k) → j ≡ k
    by_rank false j k first second later = later j k first second
    by_rank true zero zero first second later = refl
    by_rank true zero (suc k) first second later =
        let one : number ≡ c.line = ap (λ (x : Numbered). x.line) (same_some _ c first) in
        let high = lines_high rank (number + 1) lines k d second in
        absurd (omega (arith, one, high, same))
    by_rank true (suc j) zero first second later =
        let one : number ≡ d.line = ap (λ (x : Numbered). x.line) (same_some _ d second) in
        let high = lines_high rank (number + 1) lines j c first in
        absurd (omega (arith, one, high, same))
    by_rank true (suc j) (suc k) first second later = ap suc (later j k first second)

-- two commands of a rank that stand at one line stand at one place
pub lines_apart : (rank : ℕ) (lines : List Line) (j k : ℕ) (c d : Numbered) →
    slice_get (commands_of rank lines) j ≡ Some c → slice_get (commands_of rank lines) k ≡ Some d →
    c.line ≡ d.line → j ≡ k
lines_apart rank lines = from_apart rank 2 lines

-- the request of a line, after an event more
pub first_of_two : {X : Type 0} (xs : List X) (o : Option X) →
    slice_get (xs ++ cons_option o []) 0 ≡ or_else (slice_get xs 0) o
first_of_two [] None = refl
first_of_two [] (Some y) = refl
first_of_two (x ∷ xs) o = refl

pub request_push : (h : List Event) (e : Event) (line : ℕ) →
    request_at (h ++ e ∷ []) line ≡ or_else (request_at h line) (request_of line e.what)
request_push h e line =
    ap (λ (rs : List Request). slice_get rs 0) (filter_map-append (λ (e : Event). request_of line e.what) h (e ∷ []))
    ∙ first_of_two (filter_map (λ (e : Event). request_of line e.what) h) (request_of line e.what)

-- the lines of the receives, by number, and the line that started a request
abbrev line_of_receive : Happened → Option ℕ
line_of_receive (event.Post p line) = Some line
line_of_receive (event.Match number from n cap line) = Some line
line_of_receive _ = None

abbrev receive_lines : List Event → List ℕ
receive_lines h = filter_map (λ e. line_of_receive e.what) h

abbrev started_by : List Event → Request → Option ℕ
started_by h (Sending to n) = option_map (λ s. s.line) (slice_get (sends h to) n)
started_by h (Receiving number) = slice_get (receive_lines h) number

as_many : (h : List Event) → length (receive_lines h) ≡ length (receives h)
as_many [] = refl
as_many (e ∷ h) = by_event e.what (as_many h)
  where
    by_event : (what : Happened) → length (receive_lines h) ≡ length (receives h) →
        length (receive_lines (record { stamp = e.stamp; what = what } ∷ h))
        ≡ length (receives (record { stamp = e.stamp; what = what } ∷ h))
    by_event (event.Post p line) same = ap suc same
    by_event (event.Match number from n cap line) same = ap suc same
    by_event what same = same

abbrev AreStarted : List Event → Type 0
AreStarted h = (line : ℕ) (r : Request) → request_at h line ≡ Some r → started_by h r ≡ Some line

still_started : (h : List Event) (e : Event) (line : ℕ) (r : Request) → started_by h r ≡ Some line →
    started_by (h ++ e ∷ []) r ≡ Some line
still_started h e line (Sending to n) was =
    let s = mapped_some (λ (s : Sent). s.line) (slice_get (sends h to) n) line was in
    ap (λ (ss : List Sent). option_map (λ s. s.line) (slice_get ss n)) (sends-push h e to)
    ∙ ap (λ (o : Option Sent). option_map (λ s. s.line) o) (get_before (sends h to) _ n s.0 s.1) ∙ ap (λ l. Some l) s.2
still_started h e line (Receiving number) was =
    ap (λ (ls : List ℕ). slice_get ls number) (filter_map-append (λ (e : Event). line_of_receive e.what) h (e ∷ []))
    ∙ get_before (receive_lines h) _ number line was

now_started : (ranks : ℕ) (h : List Event) (stamp : ℕ) (what : Happened) (line : ℕ) (r : Request) →
    NumberAt ranks h what → request_of line what ≡ Some r →
    started_by (h ++ record { stamp = stamp; what = what } ∷ []) r ≡ Some line
now_started ranks h stamp (event.Send to n tag ctx len how own) line r number made =
    by_line (own == line) refl made
  where
    s : Sent
    s = record { stamp = stamp; to = to; n = n; tag = tag; ctx = ctx; len = len; how = how; line = own }

    by_line : (b : Bool) → (own == line) ≡ b → cond b (Some (Sending to n)) None ≡ Some r →
        started_by (h ++ record { stamp = stamp; what = event.Send to n tag ctx len how own } ∷ []) r ≡ Some line
    by_line false is made = absurd (no_some r made)
    by_line true is made =
        subst (λ (r : Request). started_by (h ++ record {
          stamp = stamp;
          what = event.Send to n tag ctx len how own;
        } ∷ []) r ≡ Some line) (same_some (Sending to n) r made)
        (ap (λ (ss : List Sent). option_map (λ s. s.line) (slice_get ss n))
        (sends-push h (record { stamp = stamp; what = event.Send to n tag ctx len how own }) to
        ∙ ap (λ (b : Bool). sends h to ++ cond b (s ∷ []) []) (eqb_self to))
        ∙ ap (λ (k : ℕ). option_map (λ s. s.line) (slice_get (sends h to ++ s ∷ []) k)) number
        ∙ ap (λ (o : Option Sent). option_map (λ s. s.line) o) (get_last (sends h to) s)
        ∙ ap (λ (l : ℕ). Some l) (same_number own line is))
now_started ranks h stamp (event.Post p own) line r number made = by_line (own == line) refl made
  where
    by_line : (b : Bool) → (own == line) ≡ b → cond b (Some (Receiving p.number)) None ≡ Some r →
        started_by (h ++ record { stamp = stamp; what = event.Post p own } ∷ []) r ≡ Some line
    by_line false is made = absurd (no_some r made)
    by_line true is made =
        subst (λ (r : Request). started_by (h ++ record { stamp = stamp; what = event.Post p own } ∷ []) r ≡ Some line)
        (same_some (Receiving p.number) r made)
        (ap (λ (ls : List ℕ). slice_get ls p.number) (filter_map-append (λ (e : Event). line_of_receive e.what) h
        (record { stamp = stamp; what = event.Post p own } ∷ []))
        ∙ ap (λ (k : ℕ). slice_get (receive_lines h ++ own ∷ []) k) (number ∙ sym (as_many h))
        ∙ get_last (receive_lines h) own ∙ ap (λ (l : ℕ). Some l) (same_number own line is))
now_started ranks h stamp (event.Match m from n cap own) line r number made = by_line (own == line) refl made
  where
    by_line : (b : Bool) → (own == line) ≡ b → cond b (Some (Receiving m)) None ≡ Some r →
        started_by (h ++ record { stamp = stamp; what = event.Match m from n cap own } ∷ []) r ≡ Some line
    by_line false is made = absurd (no_some r made)
    by_line true is made =
        subst (λ (r : Request). started_by (h ++ record {
          stamp = stamp;
          what = event.Match m from n cap own;
        } ∷ []) r ≡ Some line) (same_some (Receiving m) r made)
        (ap (λ (ls : List ℕ). slice_get ls m) (filter_map-append (λ (e : Event). line_of_receive e.what) h
        (record { stamp = stamp; what = event.Match m from n cap own } ∷ []))
        ∙ ap (λ (k : ℕ). slice_get (receive_lines h ++ own ∷ []) k) (number ∙ sym (as_many h))
        ∙ get_last (receive_lines h) own ∙ ap (λ (l : ℕ). Some l) (same_number own line is))
now_started ranks h stamp what line r number made = absurd (no_some r made)

are_started : (ranks : ℕ) (h : List Event) → AtEach (λ b e. NumberAt ranks b e.what) h → AreStarted h
are_started ranks h numbers =
    history_induction (λ b e. NumberAt ranks b e.what) AreStarted grow (λ line r asked. absurd (no_some r asked)) h
    numbers
  where
    grow : (h : List Event) (e : Event) → AreStarted h → NumberAt ranks h e.what → AreStarted (h ++ e ∷ [])
    grow h e before number line r asked =
        by_first (request_at h line) refl (sym (request_push h e line) ∙ asked)
      where
        by_first : (o : Option Request) → request_at h line ≡ o → or_else o (request_of line e.what) ≡ Some r →
            started_by (h ++ e ∷ []) r ≡ Some line
        by_first None is made = now_started ranks h e.stamp e.what line r number made
        by_first (Some x) is made = still_started h e line r (before line r (is ∙ made))

-- a request is of one line
pub requests_apart : (ranks : ℕ) (h : List Event) → AtEach (λ b e. NumberAt ranks b e.what) h →
    (a b : ℕ) (r : Request) →
    request_at h a ≡ Some r → request_at h b ≡ Some r → a ≡ b
requests_apart ranks h numbers a b r first second =
    same_some a b (sym (are_started ranks h numbers a r first) ∙ are_started ranks h numbers b r second)
