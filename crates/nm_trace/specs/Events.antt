-- Events and counts of packets by the words of their lines.
use Rattle.std.specs.Prelude.{ℕ, ◌^◌, Bool, true, false, List, [], ◌∷◌, Option, Some, None}
use Rattle.std.specs.Prelude.{if◌then◌else◌, codes}
use Rattle.std.specs.Str.{bytes_eq}
use Rattle.nm_types.specs.declared.answers.Answer.{Answer}
use Rattle.nm_types.specs.declared.answers.Answer.TheVariants as answer
use Rattle.nm_types.specs.declared.messages.How.{How}
use Rattle.nm_types.specs.declared.messages.How.TheVariants as how
use Rattle.nm_types.specs.declared.messages.Peer.{Peer}
use Rattle.nm_types.specs.declared.messages.Peer.TheVariants as peer
use Rattle.nm_types.specs.declared.messages.TagPick.{TagPick}
use Rattle.nm_types.specs.declared.messages.TagPick.TheVariants as pick
use Rattle.nm_history.specs.declared.events.Happened.{Happened}
use Rattle.nm_history.specs.declared.events.Happened.TheVariants as what
use Rattle.nm_report.specs.declared.pairs.PairCount.{PairCount}
use Rattle.nm_script.specs.Decimal.{number_of}
use Rattle.nm_trace.specs.declared.notes.Note.{Note}
use Rattle.nm_trace.specs.declared.notes.Said.{Said}
use Rattle.nm_trace.specs.declared.sorts.Sort.{Sort}
use Rattle.nm_trace.specs.declared.sorts.Sort.TheVariants as sort
use Rattle.nm_trace.specs.Sorts.{sort_of, lone_answer}
use Rattle.nm_trace.specs.Steps.{◌>>=◌}

-- any source, or a rank
unfoldable pub peer_of : List ℕ → Option Peer
peer_of word =
    if bytes_eq word (codes "any") then Some peer.Any
    else number_of (2 ^ 8) word >>= λ rank. Some (peer.One rank)

-- any tag, or one
unfoldable pub pick_of : List ℕ → Option TagPick
pick_of word =
    if bytes_eq word (codes "any") then Some pick.Any
    else number_of (2 ^ 16) word >>= λ tag. Some (pick.One tag)

-- how a message was sent
unfoldable pub how_of : List ℕ → Option How
how_of word =
    if bytes_eq word (codes "eager") then Some how.Eager
    else if bytes_eq word (codes "ask") then Some how.Ask else None

-- whether something was done, or too late
unfoldable pub done_of : List ℕ → Option Bool
done_of word =
    if bytes_eq word (codes "done") then Some true
    else if bytes_eq word (codes "late") then Some false else None

-- a send, by its seven words
unfoldable pub send_with : List ℕ → List ℕ → List ℕ → List ℕ → List ℕ → List ℕ → List ℕ → Option Happened
send_with to_word n_word tag_word ctx_word len_word how_word line_word = do
  to ← number_of (2 ^ 8) to_word
  n ← number_of (2 ^ 64) n_word
  tag ← number_of (2 ^ 16) tag_word
  ctx ← number_of (2 ^ 8) ctx_word
  len ← number_of (2 ^ 32) len_word
  how ← how_of how_word
  line ← number_of (2 ^ 64) line_word
  Some (what.Send to n tag ctx len how line)

-- a send
unfoldable pub send_of : List (List ℕ) → Option Happened
send_of (to ∷ n ∷ tag ∷ ctx ∷ len ∷ how ∷ line ∷ []) = send_with to n tag ctx len how line
send_of _ = None

-- a posted receive
unfoldable pub post_of : List (List ℕ) → Option Happened
post_of (number_word ∷ from_word ∷ tag_word ∷ ctx_word ∷ cap_word ∷ line_word ∷ []) = do
  number ← number_of (2 ^ 64) number_word
  from ← peer_of from_word
  tag ← pick_of tag_word
  ctx ← number_of (2 ^ 8) ctx_word
  cap ← number_of (2 ^ 32) cap_word
  line ← number_of (2 ^ 64) line_word
  Some (what.Post (record { number = number; from = from; tag = tag; ctx = ctx; cap = cap }) line)
post_of _ = None

-- a message that arrived
unfoldable pub arrive_of : List (List ℕ) → Option Happened
arrive_of (from_word ∷ n_word ∷ tag_word ∷ ctx_word ∷ len_word ∷ how_word ∷ []) = do
  from ← number_of (2 ^ 8) from_word
  n ← number_of (2 ^ 64) n_word
  tag ← number_of (2 ^ 16) tag_word
  ctx ← number_of (2 ^ 8) ctx_word
  len ← number_of (2 ^ 32) len_word
  how ← how_of how_word
  Some (what.Arrive (record { n = n; env = record { from = from; tag = tag; ctx = ctx; len = len; how = how } }))
arrive_of _ = None

-- a message that is whole
unfoldable pub whole_of : List (List ℕ) → Option Happened
whole_of (from_word ∷ n_word ∷ []) = do
  from ← number_of (2 ^ 8) from_word
  n ← number_of (2 ^ 64) n_word
  Some (what.Whole from n)
whole_of _ = None

-- a message that left
unfoldable pub out_of : List (List ℕ) → Option Happened
out_of (to_word ∷ n_word ∷ []) = do
  to ← number_of (2 ^ 8) to_word
  n ← number_of (2 ^ 64) n_word
  Some (what.Out to n)
out_of _ = None

-- a receive that was to be cancelled
unfoldable pub cancel_of : List (List ℕ) → Option Happened
cancel_of (number_word ∷ done_word ∷ []) = do
  number ← number_of (2 ^ 64) number_word
  done ← done_of done_word
  Some (what.Cancel number done)
cancel_of _ = None

-- a message that was called back
unfoldable pub recall_of : List (List ℕ) → Option Happened
recall_of (to_word ∷ n_word ∷ []) = do
  to ← number_of (2 ^ 8) to_word
  n ← number_of (2 ^ 64) n_word
  Some (what.Recall to n)
recall_of _ = None

-- a message that was to be withdrawn
unfoldable pub withdraw_of : List (List ℕ) → Option Happened
withdraw_of (from_word ∷ n_word ∷ done_word ∷ []) = do
  from ← number_of (2 ^ 8) from_word
  n ← number_of (2 ^ 64) n_word
  done ← done_of done_word
  Some (what.Withdraw from n done)
withdraw_of _ = None

-- the answer to a recall
unfoldable pub undone_of : List (List ℕ) → Option Happened
undone_of (to_word ∷ n_word ∷ done_word ∷ []) = do
  to ← number_of (2 ^ 8) to_word
  n ← number_of (2 ^ 64) n_word
  done ← done_of done_word
  Some (what.Undone to n done)
undone_of _ = None

-- a message that was taken out of matching
unfoldable pub claim_of : List (List ℕ) → Option Happened
claim_of (from_word ∷ n_word ∷ line_word ∷ []) = do
  from ← number_of (2 ^ 8) from_word
  n ← number_of (2 ^ 64) n_word
  line ← number_of (2 ^ 64) line_word
  Some (what.Claim from n line)
claim_of _ = None

-- the receive of such a message
unfoldable pub match_of : List (List ℕ) → Option Happened
match_of (number_word ∷ from_word ∷ n_word ∷ cap_word ∷ line_word ∷ []) = do
  number ← number_of (2 ^ 64) number_word
  from ← number_of (2 ^ 8) from_word
  n ← number_of (2 ^ 64) n_word
  cap ← number_of (2 ^ 32) cap_word
  line ← number_of (2 ^ 64) line_word
  Some (what.Match number from n cap line)
match_of _ = None

-- an answer of one word
unfoldable pub lone_of : List ℕ → Option (Answer × ℕ)
lone_of word = lone_answer word >>= λ a. Some (a, 0)

-- an answer that shows a message, by its name
unfoldable pub showing_of : List ℕ → ℕ → ℕ → List ℕ → Option (Answer × ℕ)
showing_of name from tag word =
    if bytes_eq name (codes "got")
    then (number_of (2 ^ 63) word >>= λ len. Some (answer.Got from tag [], len))
    else if bytes_eq name (codes "cut")
    then (number_of (2 ^ 32) word >>= λ len. Some (answer.Cut from tag len, 0))
    else if bytes_eq name (codes "seen")
    then (number_of (2 ^ 32) word >>= λ len.
    Some (answer.Seen (record { from = from; tag = tag; len = len }), 0))
    else None

-- the answer of these words, without its bytes, and how many they are
unfoldable pub answer_of : List (List ℕ) → Option (Answer × ℕ)
answer_of (word ∷ []) = lone_of word
answer_of (name ∷ from_word ∷ tag_word ∷ len ∷ []) = do
  from ← number_of (2 ^ 8) from_word
  tag ← number_of (2 ^ 16) tag_word
  showing_of name from tag len
answer_of _ = None

-- an answer and its line
unfoldable pub ran_of : List (List ℕ) → Option Said
ran_of (line_word ∷ words) = do
  line ← number_of (2 ^ 64) line_word
  a ← answer_of words
  Some (record { what = what.Ran line a.0; len = a.1 })
ran_of [] = None

-- an event that is no answer, by its name
unfoldable pub plain_of : Sort → List (List ℕ) → Option Happened
plain_of sort.Send words = send_of words
plain_of sort.Post words = post_of words
plain_of sort.Arrive words = arrive_of words
plain_of sort.Whole words = whole_of words
plain_of sort.Out words = out_of words
plain_of sort.Cancel words = cancel_of words
plain_of sort.Recall words = recall_of words
plain_of sort.Withdraw words = withdraw_of words
plain_of sort.Undone words = undone_of words
plain_of sort.Claim words = claim_of words
plain_of sort.Match words = match_of words
plain_of sort.Ran words = None

-- an event of this sort is an answer
abbrev pub is_answer : Sort → Bool
is_answer sort.Ran = true
is_answer _ = false

-- an event of this sort
unfoldable pub told_as : Sort → List (List ℕ) → Option Said
told_as s words =
    if is_answer s then ran_of words
    else plain_of s words >>= λ what. Some (record { what = what; len = 0 })

-- what happened, by its name and its other words
unfoldable pub told_of : List ℕ → List (List ℕ) → Option Said
told_of name words = sort_of name >>= λ s. told_as s words

-- the event of a line: its rank, its stamp, and what happened
unfoldable pub note_of : List (List ℕ) → Option Note
note_of (at ∷ rank_word ∷ stamp_word ∷ name ∷ words) =
    if bytes_eq at (codes "@")
    then (do
      rank ← number_of (2 ^ 8) rank_word
      stamp ← number_of (2 ^ 64) stamp_word
      told ← told_of name words
      Some (record {
        rank = rank;
        event = record { stamp = stamp; what = told.what };
        len = told.len;
      }))
    else None
note_of _ = None

-- the count of packets of a line
unfoldable pub pair_of : List (List ℕ) → Option PairCount
pair_of (name ∷ from_word ∷ to_word ∷ packets_word ∷ []) =
    if bytes_eq name (codes "pair")
    then (do
      from ← number_of (2 ^ 8) from_word
      to ← number_of (2 ^ 8) to_word
      packets ← number_of (2 ^ 64) packets_word
      Some (record { from = from; to = to; packets = packets }))
    else None
pair_of _ = None
