-- The stages of reading: what a text tells stays the same from each to the next.
use Rattle.std.proofs.Common.{◌≡◌, ℕ, suc, ◌+◌, ◌-◌, inl, inr, Bool, true, false, not, List, [], ◌∷◌}
use Rattle.std.proofs.Common.{◌++◌, length, Some, None, Ok, Err, refl, ap, arith, eqb}
use Rattle.std.proofs.lemmas.Bool.{and_right, eq-eqb}
use Rattle.nm_types.specs.declared.answers.Account.{Account}
use Rattle.nm_history.specs.declared.events.Event.{Event}
use Rattle.nm_history.specs.Quiescence.{Ended}
use Rattle.nm_report.specs.declared.accounts.RankAccount.{RankAccount}
use Rattle.nm_report.specs.declared.pairs.PairCount.{PairCount}
use Rattle.nm_report.specs.Ends.{end_of_account, ends_of}
use Rattle.nm_script.specs.Lines.{words_of}
use Rattle.nm_trace.specs.declared.notes.Note.{Note}
use Rattle.nm_trace.specs.Answers.{is_due, given}
use Rattle.nm_trace.specs.Events.{pair_of}
use Rattle.nm_trace.specs.Lines.{first_line}
use Rattle.nm_trace.specs.Machine.{Trace, Noting, Counting, Telling, Closing, Over}
use Rattle.nm_trace.specs.Machine.{cells_of, counting, end_of, ended, feed, is_next, last_rank, next_note}
use Rattle.nm_trace.specs.Machine.{noting, settled, telling, waits_of}
use Rattle.nm_trace.specs.Outcome.{AnswerPlace, line_as, tells, tells_next, told}
use Rattle.nm_trace.proofs.OutcomeLemmas.{first_or_none, told_none, told_passes, told_read, told_refused}
use Rattle.nm_trace.proofs.OutcomeLemmas.{told_same, told_stops}
use Rattle.nm_trace.proofs.SoundLemmas.{more_ranks}

pub last_more : (rank : ℕ) (notes : List Note) (note : Note) → last_rank rank (notes ++ note ∷ []) ≡ note.rank
last_more rank [] note = refl
last_more rank (n ∷ notes) note = last_more n.rank notes note

module _ (ranks : ℕ) (bytes : List ℕ) (number : ℕ) where
  -- one event more
  pub notes_more : (notes : List Note) (last : ℕ) (note : Note) (rest : List ℕ) → last ≡ last_rank 0 notes
      → line_as (λ line. next_note ranks last (words_of line)) bytes ≡ Some (note, rest)
      → told ranks (Noting notes) bytes number ≡ told ranks (Noting (notes ++ note ∷ [])) rest (number + 1)
  unfolding feed noting
  notes_more notes last note rest behind h =
      told_read ranks (λ line. next_note ranks last (words_of line)) (λ n. Noting (notes ++ n ∷ []))
      (Noting notes) bytes number note rest (λ line is. rw (← behind) (rw is refl)) h

  -- no more events
  pub notes_end : (notes : List Note) (last : ℕ) → last ≡ last_rank 0 notes
      → line_as (λ line. next_note ranks last (words_of line)) bytes ≡ None
      → told ranks (Noting notes) bytes number ≡ told ranks (Counting notes []) bytes number
  unfolding feed noting
  notes_end notes last behind h =
      told_passes ranks (λ line. next_note ranks last (words_of line)) (Noting notes)
      (Counting notes []) bytes number refl (λ line none. rw (← behind) (rw none refl)) h

  -- one count of packets more
  pub pairs_more : (notes : List Note) (pairs : List PairCount) (pair : PairCount) (rest : List ℕ)
      → line_as (λ line. pair_of (words_of line)) bytes ≡ Some (pair, rest)
      → told ranks (Counting notes pairs) bytes number
      ≡ told ranks (Counting notes (pairs ++ pair ∷ [])) rest (number + 1)
  unfolding feed counting
  pairs_more notes pairs pair rest h =
      told_read ranks (λ line. pair_of (words_of line)) (λ p. Counting notes (pairs ++ p ∷ []))
      (Counting notes pairs) bytes number pair rest (λ line is. rw is refl) h

  -- no more counts
  pub pairs_end : (notes : List Note) (pairs : List PairCount)
      → line_as (λ line. pair_of (words_of line)) bytes ≡ None
      → told ranks (Counting notes pairs) bytes number
      ≡ told ranks (Telling pairs (record { ends = []; events = []; due = notes })) bytes number
  unfolding feed counting
  pairs_end notes pairs h =
      let all : ranks - 0 ≡ ranks = omega arith in
      told_passes ranks (λ line. pair_of (words_of line)) (Counting notes pairs)
      (Telling pairs (record { ends = []; events = []; due = notes })) bytes number refl
      (λ line none. rw (none, all) refl) h

-- the notes of this rank that have no line behind the events come first, if any
pub settled_none : (rank : ℕ) (events : List Event) (due : List Note) → is_next rank due ≡ false
    → settled rank events due ≡ (events, due)
settled_none rank events [] h = refl
settled_none rank events (note ∷ due) h = rw h refl

-- an event that has a line behind the events waits for it
pub settled_due : (rank : ℕ) (events : List Event) (note : Note) (due : List Note)
    → is_due note.event.what ≡ true → settled rank events (note ∷ due) ≡ (events, note ∷ due)
settled_due rank events note due h =
    let waits : not (is_due note.event.what) ≡ false = rw h refl in
    rw (and_right (eqb note.rank rank) (not (is_due note.event.what)) waits) refl

-- the ranks left at a place, one by one
abbrev pub left : AnswerPlace → ℕ
left p = p.ranks - length p.ends - 1

pub some_left : (p : AnswerPlace) → p.ranks - length p.ends ≡ suc (left p)
some_left p = omega (arith, p.fewer)

module _ (p : AnswerPlace) (events : List Event) (bytes : List ℕ) (number : ℕ) where
  -- an event that has no line behind the events
  pub event_passes : (note : Note) (due : List Note) → note.rank ≡ length p.ends
      → is_due note.event.what ≡ false
      → told p.ranks (tells p events (note ∷ due)) bytes number
      ≡ told p.ranks (tells p (events ++ note.event ∷ []) due) bytes number
  unfolding feed telling
  event_passes note due same plain =
      let here = eq-eqb note.rank (length p.ends) same in
      told_same p.ranks (tells p events (note ∷ due)) (tells p (events ++ note.event ∷ []) due) bytes number
      refl (λ line rest first. rw (some_left p) (rw here (rw plain refl)))

  -- the next answer
  pub event_given : (note : Note) (due : List Note) (event : Event) (rest : List ℕ)
      → note.rank ≡ length p.ends → is_due note.event.what ≡ true
      → line_as (given note) bytes ≡ Some (event, rest)
      → told p.ranks (tells p events (note ∷ due)) bytes number
      ≡ told p.ranks (tells p (events ++ event ∷ []) due) rest (number + 1)
  unfolding feed telling
  event_given note due event rest same waits h =
      let here = eq-eqb note.rank (length p.ends) same in
      told_read p.ranks (given note) (λ e. tells p (events ++ e ∷ []) due) (tells p events (note ∷ due))
      bytes number event rest
      (λ line is. rw (some_left p, settled_due (length p.ends) events note due waits, here, waits) (rw is refl)) h

  -- a line that does not give it
  pub event_refused : (note : Note) (due : List Note) → note.rank ≡ length p.ends
      → is_due note.event.what ≡ true → line_as (given note) bytes ≡ None
      → told p.ranks (tells p events (note ∷ due)) bytes number ≡ Err number
  unfolding feed telling
  event_refused note due same waits h =
      let here = eq-eqb note.rank (length p.ends) same in
      told_stops p.ranks (given note) (tells p events (note ∷ due)) bytes number refl
      (λ line none. rw (some_left p, settled_due (length p.ends) events note due waits, here, waits)
      (rw none refl)) h

  -- the rank waits
  pub rank_waits : (due : List Note) (at : ℕ) (rest : List ℕ) → is_next (length p.ends) due ≡ false
      → line_as (λ line. waits_of (length p.ends) (words_of line)) bytes ≡ Some (at, rest)
      → told p.ranks (tells p events due) bytes number
      ≡ told p.ranks (tells_next p (ended events (Some at)) due) rest (number + 1)
  unfolding feed telling
  rank_waits due at rest other h =
      told_read p.ranks (λ line. waits_of (length p.ends) (words_of line))
      (λ a. tells_next p (ended events (Some a)) due) (tells p events due) bytes number at rest
      (λ line is. rw (some_left p, settled_none (length p.ends) events due other, other) (rw is refl)) h

  -- it does not
  pub rank_ends : (due : List Note) → is_next (length p.ends) due ≡ false
      → line_as (λ line. waits_of (length p.ends) (words_of line)) bytes ≡ None
      → told p.ranks (tells p events due) bytes number
      ≡ told p.ranks (tells_next p (ended events None) due) bytes number
  unfolding feed telling
  rank_ends due other h =
      let fewer : p.ranks - length (p.ends ++ ended events None ∷ []) ≡ left p = omega
      (arith, more_ranks p.ends (ended events None)) in
      told_passes p.ranks (λ line. waits_of (length p.ends) (words_of line)) (tells p events due)
      (tells_next p (ended events None) due) bytes number refl
      (λ line none. rw (some_left p, settled_none (length p.ends) events due other, other, fewer)
      (rw none refl)) h

  -- the same of what an account says
  pub account_waits : (rank : ℕ) (due : List Note) (at : ℕ) (rest : List ℕ) (e : Ended) (next : ℕ)
      → rank ≡ length p.ends → is_next rank due ≡ false
      → line_as (λ line. waits_of rank (words_of line)) bytes ≡ Some (at, rest)
      → e ≡ ended events (Some at) → next ≡ number + 1
      → told p.ranks (tells p events due) bytes number ≡ told p.ranks (tells_next p e due) rest next
  account_waits rank due at rest e next same other h is more =
      rw (is, more) (rank_waits due at rest (rw same at other) (rw same at h))

  pub account_ends : (rank : ℕ) (due : List Note) (e : Ended) → rank ≡ length p.ends
      → is_next rank due ≡ false → line_as (λ line. waits_of rank (words_of line)) bytes ≡ None
      → e ≡ ended events None
      → told p.ranks (tells p events due) bytes number ≡ told p.ranks (tells_next p e due) bytes number
  account_ends rank due e same other h is = rw is (rank_ends due (rw same at other) (rw same at h))

pub ends_more : (accounts : List RankAccount) (account : RankAccount)
    → ends_of (accounts ++ account ∷ []) ≡ ends_of accounts ++ end_of_account account ∷ []
ends_more [] account = refl
ends_more (a ∷ accounts) account = ap (λ es. end_of_account a ∷ es) (ends_more accounts account)

module _ (ranks : ℕ) (pairs : List PairCount) (ends : List Ended) (all : length ends ≡ ranks)
    (bytes : List ℕ) (number : ℕ) where
  none_more : ranks - length ends ≡ 0
  none_more = omega (arith, all)

  -- behind the last rank, no note is left to tell
  pub ranks_end : (events : List Event) (due : List Note)
      → told ranks (Telling pairs (record { ends = ends; events = events; due = due })) bytes number
      ≡ told ranks (Telling pairs (record { ends = ends; events = []; due = [] })) bytes number
  unfolding feed telling
  ranks_end events due =
      told_same ranks (Telling pairs (record { ends = ends; events = events; due = due }))
      (Telling pairs (record { ends = ends; events = []; due = [] })) bytes number refl
      (λ line rest first. rw none_more refl)

  -- the cells
  pub cells_told : (cells : Account) (rest : List ℕ)
      → line_as (λ line. cells_of (words_of line)) bytes ≡ Some (cells, rest)
      → told ranks (Telling pairs (record { ends = ends; events = []; due = [] })) bytes number
      ≡ told ranks (Closing pairs ends cells) rest (number + 1)
  unfolding feed telling
  cells_told cells rest h =
      told_read ranks (λ line. cells_of (words_of line)) (λ c. Closing pairs ends c)
      (Telling pairs (record { ends = ends; events = []; due = [] })) bytes number cells rest
      (λ line is. rw none_more (rw is refl)) h

  pub cells_refused : line_as (λ line. cells_of (words_of line)) bytes ≡ None
      → told ranks (Telling pairs (record { ends = ends; events = []; due = [] })) bytes number ≡ Err number
  unfolding feed telling
  cells_refused h =
      told_stops ranks (λ line. cells_of (words_of line))
      (Telling pairs (record { ends = ends; events = []; due = [] })) bytes number refl
      (λ line none. rw none_more (rw none refl)) h

-- behind the last line nothing stands
pub over_told : (ranks : ℕ) (trace : Trace) (number : ℕ) → told ranks (Over trace) [] number ≡ Ok trace
unfolding told
over_told ranks trace number = refl

pub over_refused : (ranks : ℕ) (trace : Trace) (b : ℕ) (rest : List ℕ) (number : ℕ)
    → told ranks (Over trace) (b ∷ rest) number ≡ Err number
unfolding feed
over_refused ranks trace b rest number =
    elim (first_or_none (first_line (b ∷ rest))) [
      | inl none ↦ told_none ranks (Over trace) (b ∷ rest) number none
      | inr f ↦ told_refused ranks (Over trace) (b ∷ rest) number f.0 f.1 f.2 refl
    ]

module _ (ranks : ℕ) (pairs : List PairCount) (ends : List Ended) (cells : Account) (bytes : List ℕ)
    (number : ℕ) where
  -- the end
  pub end_told : (done : Bool) (rest : List ℕ) → line_as end_of bytes ≡ Some (done, rest)
      → told ranks (Closing pairs ends cells) bytes number
      ≡ told ranks (Over (record { ends = ends; pairs = pairs; cells = cells; done = done })) rest (number + 1)
  unfolding feed
  end_told done rest h =
      told_read ranks end_of (λ d. Over (record { ends = ends; pairs = pairs; cells = cells; done = d }))
      (Closing pairs ends cells) bytes number done rest (λ line is. rw is refl) h

  pub end_refused : line_as end_of bytes ≡ None
      → told ranks (Closing pairs ends cells) bytes number ≡ Err number
  unfolding feed
  end_refused h =
      told_stops ranks end_of (Closing pairs ends cells) bytes number refl (λ line none. rw none refl) h
