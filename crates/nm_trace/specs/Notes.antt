-- Events as the lines of a trace tell them: without the bytes that came, but with their number.
use Rattle.std.specs.Prelude.{◌≡◌, Bool, true, false, ℕ, ◌<◌, ◌^◌, List, [], ◌∷◌, ◌++◌, codes, decimal}
use Rattle.nm_types.specs.declared.answers.Answer.{Answer}
use Rattle.nm_types.specs.declared.answers.Answer.TheVariants as answer
use Rattle.std.specs.List.{join_with_byte}
use Rattle.hex.specs.Hex.{IsBytes}
use Rattle.nm_types.specs.declared.answers.Account.{Account}
use Rattle.nm_types.specs.Text.{text_line}
use Rattle.nm_history.specs.declared.events.Event.{Event}
use Rattle.nm_history.specs.declared.events.Happened.{Happened}
use Rattle.nm_history.specs.declared.events.Happened.TheVariants as what
use Rattle.nm_report.specs.declared.pairs.PairCount.{PairCount}
use Rattle.nm_report.specs.Answers.{answer_words, body_word}
use Rattle.nm_report.specs.Events.{event_words}
use Rattle.nm_report.specs.Summary.{got_len}
use Rattle.nm_trace.specs.declared.notes.Note.{Note}
use Rattle.nm_trace.specs.Traces.{WhatIn}

-- the answer without its bytes
abbrev pub bare : Answer → Answer
bare (answer.Got from tag body) = answer.Got from tag []
bare a = a

-- the words of an answer that has this number of bytes
abbrev pub spoken_words : Answer → ℕ → List (List ℕ)
spoken_words (answer.Got from tag body) len =
    codes "got" ∷ decimal from ∷ decimal tag ∷ decimal len ∷ []
spoken_words a len = answer_words a

-- an answer without its bytes, and their number, within their types
abbrev pub BareIn : Answer → ℕ → Type 0
BareIn (answer.Got from tag body) len =
    (from < 2 ^ 8) × (tag < 2 ^ 16) × (len < 2 ^ 63) × (body ≡ [])
BareIn (answer.Cut from tag n) len = (from < 2 ^ 8) × (tag < 2 ^ 16) × (n < 2 ^ 32) × (len ≡ 0)
BareIn (answer.Seen seen) len =
    (seen.from < 2 ^ 8) × (seen.tag < 2 ^ 16) × (seen.len < 2 ^ 32) × (len ≡ 0)
BareIn _ len = len ≡ 0

-- what happened, without the bytes
abbrev pub bare_what : Happened → Happened
bare_what (what.Ran line answer) = what.Ran line (bare answer)
bare_what w = w

-- how many bytes there are in what happened
abbrev pub bytes_of_what : Happened → ℕ
bytes_of_what (what.Ran line answer) = got_len answer
bytes_of_what _ = 0

-- the words of what happened, where the answer has this number of bytes
abbrev pub told_words : Happened → ℕ → List (List ℕ)
told_words (what.Ran line answer) len = codes "ran" ∷ decimal line ∷ spoken_words answer len
told_words w len = event_words w

-- the note of an event
abbrev pub noted : ℕ → Event → Note
noted rank event =
    record {
      rank = rank;
      event = record { stamp = event.stamp; what = bare_what event.what };
      len = bytes_of_what event.what;
    }

-- the words of a note's line
abbrev pub note_words : Note → List (List ℕ)
note_words note =
    codes "@" ∷ decimal note.rank ∷ decimal note.event.stamp ∷ told_words note.event.what note.len

-- a note's line
abbrev pub note_line : Note → List ℕ
note_line note = text_line (note_words note)

-- what happened, and the number of bytes, within their types
abbrev pub ToldIn : Happened → ℕ → Type 0
ToldIn (what.Ran line answer) len = (line < 2 ^ 64) × BareIn answer len
ToldIn w len = WhatIn w × (len ≡ 0)

-- a note within its types
pub record NoteIn (note : Note) : Type 0 where
  pub rank : note.rank < 2 ^ 8
  pub stamp : note.event.stamp < 2 ^ 64
  pub what : ToldIn note.event.what note.len

-- the words of the line of a pair
abbrev pub pair_words : PairCount → List (List ℕ)
pair_words pair = codes "pair" ∷ decimal pair.from ∷ decimal pair.to ∷ decimal pair.packets ∷ []

-- the words of the line of a rank that waits
abbrev pub waits_words : ℕ → ℕ → List (List ℕ)
waits_words rank line = decimal rank ∷ decimal line ∷ codes "waits" ∷ []

-- the words of the line of the cells
abbrev pub cells_words : Account → List (List ℕ)
cells_words cells =
    codes "cells" ∷ decimal cells.total ∷ codes "home" ∷ decimal cells.home ∷ []

-- the word of the last line
abbrev pub end_word : Bool → List ℕ
end_word true = codes "done"
end_word false = codes "stuck"

-- the line of an answer behind the events, without its line feed
abbrev pub answer_text : ℕ → ℕ → Answer → List ℕ
answer_text rank line answer =
    join_with_byte 32 (decimal rank ∷ decimal line ∷ answer_words answer) ++ body_word answer

-- the same of an event, if it is an answer
abbrev pub event_text : ℕ → Happened → List ℕ
event_text rank (what.Ran line answer) = answer_text rank line answer
event_text rank w = []

-- an answer's bytes are within their type
abbrev pub HasBytes : Answer → Type 0
HasBytes (answer.Got from tag body) = IsBytes body
HasBytes _ = Unit {0}

-- This line gives the bare answer with this number of bytes, and so it is this that happened.
pub record IsGiven (rank line : ℕ) (a : Answer) (len : ℕ) (text : List ℕ) (w : Happened) : Type 0 where
  pub whole : Answer
  pub is : w ≡ what.Ran line whole
  pub text_is : text ≡ answer_text rank line whole
  pub bare_is : bare whole ≡ a
  pub long : got_len whole ≡ len
  pub bytes : HasBytes whole
