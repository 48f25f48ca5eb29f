-- What a line of the answers tells: `RANK LINE ANSWER`, or `RANK LINE waits`.
use Rattle.std.specs.Prelude.{ℕ, ◌^◌, ◌==◌, Bool, false, Option, Some, None, List, [], ◌∷◌, codes, if◌then◌else◌}
use Rattle.std.specs.Option.{option_map_or}
use Rattle.std.specs.Str.{bytes_eq}
use Rattle.nm_types.specs.declared.answers.Answer.{Answer}
use Rattle.nm_types.specs.declared.answers.Answer.TheVariants as answer
use Rattle.nm_types.specs.declared.messages.Seen.{Seen}
use Rattle.nm_script.specs.Decimal.{number_of}
use Rattle.nm_script.specs.Lines.{words_of}
use Rattle.nm_trace.specs.Answers.{bytes_of}
use Rattle.nm_trace.specs.Steps.{◌>>=◌}
use Rattle.nm_lawful_top.specs.declared.items.Item.{Item}
use Rattle.nm_lawful_top.specs.declared.items.Told.{Told}
use Rattle.nm_lawful_top.specs.declared.items.Told.TheVariants.{Answers, Waits}
use Rattle.nm_lawful_top.specs.declared.words.Cuts.{Cuts}
use Rattle.nm_lawful_top.specs.declared.words.Cuts.TheVariants.{Any, Compared}

-- an answer of one word; `Started`, which no line tells, stands for words that are no answer
unfoldable pub lone_of : List ℕ → Answer
lone_of word =
    if bytes_eq word (codes "busy") then answer.Busy
    else if bytes_eq word (codes "null") then answer.Null
    else if bytes_eq word (codes "no") then answer.No
    else if bytes_eq word (codes "none") then answer.Nothing
    else if bytes_eq word (codes "sent") then answer.Sent
    else if bytes_eq word (codes "cancelled") then answer.Cancelled
    else if bytes_eq word (codes "done") then answer.Done
    else if bytes_eq word (codes "late") then answer.Late
    else if bytes_eq word (codes "asked") then answer.Asked
    else answer.Started

-- the numbers of a message
unfoldable pub seen_of : List ℕ → List ℕ → List ℕ → Option Seen
seen_of from_word tag_word len_word = do
  from ← number_of (2 ^ 8) from_word
  tag ← number_of (2 ^ 16) tag_word
  len ← number_of (2 ^ 32) len_word
  Some (record { from = from; tag = tag; len = len })

-- a message that was cut: its length, or 0 where it may be any
unfoldable pub cut_of : Cuts → Seen → Option Answer
cut_of Any seen = Some (answer.Cut seen.from seen.tag 0)
cut_of Compared seen = if seen.len == 0 then None else Some (answer.Cut seen.from seen.tag seen.len)

-- an answer of a name and these numbers
unfoldable pub shown_of : Cuts → List ℕ → Seen → Option Answer
shown_of cuts name seen =
    if bytes_eq name (codes "cut") then cut_of cuts seen
    else if bytes_eq name (codes "seen") then Some (answer.Seen seen) else None

-- .. of four words
unfoldable pub showing_of : Cuts → List ℕ → List ℕ → List ℕ → List ℕ → Option Answer
showing_of cuts name from tag len = seen_of from tag len >>= λ seen. shown_of cuts name seen

-- the digits behind an `x`
unfoldable pub digits_in : List ℕ → Option (List ℕ)
digits_in (x ∷ digits) = if x == 120 then Some digits else None
digits_in [] = None

-- an answer with bytes, of these numbers
unfoldable pub filled_of : Seen → List ℕ → Option Answer
filled_of seen text = do
  digits ← digits_in text
  bytes ← bytes_of digits seen.len
  Some (answer.Got seen.from seen.tag bytes)

-- .. of five words
unfoldable pub got_of : List ℕ → List ℕ → List ℕ → List ℕ → List ℕ → Option Answer
got_of name from tag len text =
    if bytes_eq name (codes "got") then (seen_of from tag len >>= λ seen. filled_of seen text) else None

-- the answer of these words, if it is one
unfoldable pub answer_of : Cuts → List (List ℕ) → Option Answer
answer_of cuts (word ∷ []) = Some (lone_of word)
answer_of cuts (name ∷ from ∷ tag ∷ len ∷ []) = showing_of cuts name from tag len
answer_of cuts (name ∷ from ∷ tag ∷ len ∷ text ∷ []) = got_of name from tag len text
answer_of cuts words = None

-- words say that a rank waits
unfoldable pub is_wait_lem : List (List ℕ) → Bool
is_wait_lem (word ∷ []) = bytes_eq word (codes "waits")
is_wait_lem words = false

-- what these words tell of a command
unfoldable pub told_of : Cuts → List (List ℕ) → Told
told_of cuts words =
    if is_wait_lem words then Waits else option_map_or (λ a. Answers a) (answer_of cuts words) (Answers answer.Started)

-- a rank and a line
unfoldable pub place_of : List ℕ → List ℕ → Option (ℕ × ℕ)
place_of rank_word line_word = do
  rank ← number_of (2 ^ 8) rank_word
  line ← number_of (2 ^ 32) line_word
  Some (rank, line)

-- .. and what is told of the command there
unfoldable pub item_in : Cuts → List (List ℕ) → Option Item
item_in cuts (rank ∷ line ∷ words) =
    place_of rank line >>= λ at. Some (record { rank = at.0; line = at.1; told = told_of cuts words })
item_in cuts words = None

-- what a line tells
abbrev pub item_of : Cuts → List ℕ → Option Item
item_of cuts line = item_in cuts (words_of line)
